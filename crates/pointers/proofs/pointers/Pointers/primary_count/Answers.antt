use Rattle.std.proofs.Common.{arith}
use Rattle.pointers.proofs.Ruled.{rules_held}
use Rattle.pointers.proofs.pointers.Pointers.primary_count.Goals as goal

pub overflow_mul-result : goal.overflow_mul-result
overflow_mul-result c = let h = (rules_held c.args.self.now).most_spares in grind arith
