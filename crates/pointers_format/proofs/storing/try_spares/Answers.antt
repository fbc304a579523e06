use Rattle.std.proofs.Common.{◌≡◌, false, ◌++◌, ap, ◌∙◌, arith}
use Rattle.format.specs.Sectors.{free}
use Rattle.medium.specs.Calls.{sectors_after}
use Rattle.pointers.proofs.Spared.{spares_apart}
use Rattle.pointers.proofs.Turns.{turn_within}
use Rattle.pointers.specs.Rules.{last_track}
use Rattle.pointers_format.specs.Mounted.{few_sectors, home_inside, rules}
use Rattle.pointers_format.specs.Stored.{inside}
use Rattle.pointers_format.proofs.Trying.{trying_next, trying_start}
use Rattle.pointers_format.specs.Pointing.{spare_tail}
use Rattle.pointers_format.proofs.storing.try_spares.Goals as goal

pub try_spare-requires : goal.try_spare-requires
try_spare-requires g c =
    let geometry = c.args.geometry.now in
    let all = c.into_iter-spare-iterator.ensures.into_iter_gives ∙ c.candidates-spare-items.ensures.list in
    let listed = turn_within _ _ _ c.loop-spare.yielded_by _ all _ _ c.in-Some.ensures.steps in
    let k = inside geometry (g.M.Medium.sectors c.args.medium.now) c.requires.sized c.args.block c.requires.there c.in-Some.spare listed in
    let m = c.loop-spare.invariant.as_many in
    let z = c.requires.sized in
    let f = few_sectors geometry in
    let q = home_inside geometry c.args.block c.requires.there in
    let w = c.home_of-home.ensures in
    record { inside = (omega arith, omega arith); named = omega arith }

pub loop-spare-init : goal.loop-spare-init
loop-spare-init g c =
    let geometry = c.args.geometry.now in
    trying_start _ _ _ _ _ (c.into_iter-spare-iterator.ensures.into_iter_gives ∙ c.candidates-spare-items.ensures.list) (spares_apart (last_track geometry.sectors) geometry.layout (rules geometry) c.args.block c.requires.there)

pub loop-spare-preserved : goal.loop-spare-preserved
loop-spare-preserved g c =
    let s = g.M.Medium.sectors c.loop-spare.medium in
    let unfit : free s c.in-Some.spare ≡ false = cc (c.in_ok-try_spare.was, c.try_spare.ensures.answer) in
    let after = c.try_spare.ensures.after ∙ ap (λ h. sectors_after s c.in-Some.spare (c.args.bytes.now ++ spare_tail c.in-Some.spare h)) c.home_of-home.ensures in
    trying_next _ _ _ _ _ _ c.loop-spare.invariant _ _ c.in-Some.ensures.steps unfit _ after
