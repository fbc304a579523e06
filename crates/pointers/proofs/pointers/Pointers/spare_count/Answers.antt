use Rattle.std.proofs.Common.{arith}
use Rattle.pointers.proofs.Ruled.{rules_held}
use Rattle.pointers.proofs.Spared.{spares_listed}
use Rattle.pointers.specs.Rules.{last_track}
use Rattle.pointers.proofs.pointers.Pointers.spare_count.Goals as goal

pub overflow_add-result : goal.overflow_add-result
overflow_add-result c = let h = (rules_held c.args.self.now).most_spares in omega arith

pub returns-clause-listed : goal.returns-clause-listed
returns-clause-listed c = let p = c.args.self.now in spares_listed (last_track p.sectors) p.layout (rules_held p)
