use Rattle.std.proofs.Common.{arith}
use Rattle.pointers.proofs.Ruled.{rules_held}
use Rattle.pointers.proofs.pointers.Pointers.data_start.Goals as goal

pub data_start-requires : goal.data_start-requires
data_start-requires c = let h = (rules_held c.args.self.now).most_spares in omega arith
