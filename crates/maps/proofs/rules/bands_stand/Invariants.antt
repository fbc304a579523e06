use Rattle.std.proofs.Common.{◌≡◌, length}
use Rattle.maps.specs.Places.{bands_stand}
use Rattle.maps.proofs.rules.bands_stand.Given as goal

-- the bands so far stand, so the rest decides
abbrev pub invariant-loop-band : goal.invariant-loop-band
invariant-loop-band l = bands_stand l.end l.rest ≡ bands_stand l.end l.fn.bands

abbrev pub decreases-loop-band : goal.decreases-loop-band
decreases-loop-band l = length l.rest
