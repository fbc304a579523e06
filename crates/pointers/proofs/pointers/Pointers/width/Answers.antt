use Rattle.std.proofs.Common.{arith}
use Rattle.pointers.proofs.Geometry.{group_below}
use Rattle.pointers.proofs.Ruled.{rules_held}
use Rattle.pointers.proofs.pointers.Pointers.width.Goals as goal

pub overflow_add-result : goal.overflow_add-result
overflow_add-result c =
    let p = c.args.self.now in
    let h = group_below p 0 (rules_held p).some_groups in
    omega arith

pub returns-clause-some : goal.returns-clause-some
returns-clause-some c = let h = (rules_held c.args.self.now).some_homes in omega arith
