use Rattle.roll.specs.Slots.{Filled}
use Rattle.roll.proofs.slots.fill_index.Given as goal

abbrev pub invariant-loop-slot : goal.invariant-loop-slot
invariant-loop-slot l = Filled l.memory l.count l.slot l.index l.used
