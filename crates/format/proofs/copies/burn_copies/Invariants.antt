use Rattle.format.proofs.Copying.{Copying}
use Rattle.format.proofs.copies.burn_copies.Given as goal

abbrev pub invariant-loop-sector : goal.invariant-loop-sector
invariant-loop-sector g l = Copying (g.M.Medium.sectors l.initial.medium) (g.M.Medium.sectors l.medium) l.image l.sectors l.sector-index l.any_sound
