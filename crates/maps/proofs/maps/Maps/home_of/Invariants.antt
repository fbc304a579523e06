use Rattle.maps.proofs.Found.{Finding}
use Rattle.maps.specs.Places.{bands_of}
use Rattle.maps.proofs.maps.Maps.home_of.Given as goal

abbrev pub invariant-loop-band : goal.invariant-loop-band
invariant-loop-band l = Finding (bands_of l.self.layout) l.block l.band-index l.rest
