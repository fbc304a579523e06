use Rattle.std.proofs.Common.{◌≡◌, length}
use Rattle.medium.specs.Blank.{BlankBelow}
use Rattle.medium.proofs.blank.lowest_burnt.Given as goal

-- every sector so far is blank, and the image keeps its length
abbrev pub invariant-loop-sector : goal.invariant-loop-sector
invariant-loop-sector g l = BlankBelow (g.M.Medium.sectors l.medium) l.sector × (length l.image ≡ 524)
