use Rattle.std.proofs.Common.{◌≡◌, drop}
use Rattle.format.specs.Sectors.{first_sound}
use Rattle.format.proofs.copies.find_copy.Given as goal

abbrev pub invariant-loop-sector : goal.invariant-loop-sector
invariant-loop-sector g l =
    let s = g.M.Medium.sectors l.medium in
    first_sound s (drop l.sector-index l.sectors) ≡ first_sound s l.sectors
