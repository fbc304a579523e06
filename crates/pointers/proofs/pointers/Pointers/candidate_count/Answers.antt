use Rattle.std.proofs.Common.{arith}
use Rattle.pointers.proofs.Geometry.{room_of_zone}
use Rattle.pointers.proofs.Ruled.{rules_held}
use Rattle.pointers.proofs.pointers.Pointers.candidate_count.Goals as goal

pub overflow_add-result : goal.overflow_add-result
overflow_add-result c =
    let p = c.args.self.now in
    let h = room_of_zone p in
    omega (arith, (rules_held p).most_spares)
