use Rattle.std.proofs.Common.{Ok, Err, arith}
use Rattle.format.proofs.Copying.{lowest_is}
use Rattle.pointers_format.proofs.Meant.{initialise_means}
use Rattle.pointers_format.specs.Initialising.{initialised, initialising}
use Rattle.std.proofs.lemmas.Grind.{common_steps}
use Rattle.pointers_format.proofs.format_a.FormatA.initialise.Goals as goal

pub returns-then-not-branch-clause-meaning : goal.returns-then-not-branch-clause-meaning
unfolding initialising initialised
returns-then-not-branch-clause-meaning g c =
    initialise_means (g.M.Medium.sectors c.args.medium.now) c.args.sheet.now _ (Err c.refuses-then-not-branch.result) (grind (arith, common_steps, lowest_is)) (grind (arith, common_steps, lowest_is))

pub returns-clause-meaning : goal.returns-clause-meaning
unfolding initialising initialised
returns-clause-meaning g c =
    initialise_means (g.M.Medium.sectors c.args.medium.now) c.args.sheet.now _ (Ok (record { geometry = c.in_ok-geometry.geometry })) (grind (arith, common_steps, lowest_is)) (grind (arith, common_steps, lowest_is))
