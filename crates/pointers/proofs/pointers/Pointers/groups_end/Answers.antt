use Rattle.std.proofs.Common.{arith}
use Rattle.pointers.proofs.Ruled.{rules_held}
use Rattle.pointers.proofs.pointers.Pointers.groups_end.Goals as goal

pub groups_end-requires : goal.groups_end-requires
groups_end-requires c = let r = rules_held c.args.self.now in (r.most_groups, omega (arith, r.most_spares))
