use Rattle.std.proofs.Common.{rules}
use Rattle.pointers.proofs.Spared.{may_means}
use Rattle.pointers.specs.Spares.{may_replace}
use Rattle.pointers.proofs.pointers.Pointers.may_replace.Goals as goal

pub returns-then-is_home-clause-meaning : goal.returns-then-is_home-clause-meaning
unfolding may_replace
returns-then-is_home-clause-meaning c = may_means c.args.self.now c.args.spare c.args.sector _ (search rules)

pub returns-else-is_home-clause-meaning : goal.returns-else-is_home-clause-meaning
unfolding may_replace
returns-else-is_home-clause-meaning c = may_means c.args.self.now c.args.spare c.args.sector _ (search rules)
