use Rattle.std.proofs.Common.{◌≡◌, length, ap, arith}
use Rattle.maps.proofs.Found.{finding_fits, finding_in, finding_on, finding_used, homes_placed, laid}
use Rattle.maps.specs.Places.{bands_of, first_home, homes_of, sectors_for}
use Rattle.maps.proofs.maps.Maps.home_of.Goals as goal

pub sector_at-requires : goal.sector_at-requires
sector_at-requires c =
    let m = c.args.self.now in
    let g = laid m.layout m.kept in
    let small = g.small in
    let u = finding_used m.layout c.args.block c.loop-band.band-index c.loop-band.rest c.loop-band.invariant in
    let same = ap homes_of u.1 in
    let start = ap first_home u.1 in
    let fits = finding_fits (sectors_for m.layout.last) (bands_of m.layout) g.stand (omega arith) c.loop-band.band-index c.loop-band.rest u.0 (omega arith) in
    omega arith

pub returns-then-rest-primes-clause-home : goal.returns-then-rest-primes-clause-home
returns-then-rest-primes-clause-home c =
    let m = c.args.self.now in
    let found = finding_in m.layout c.args.block c.loop-band.band-index c.loop-band.rest c.loop-band.invariant (omega arith) in
    omega arith

pub returns-then-rest-primes-clause-homes : goal.returns-then-rest-primes-clause-homes
returns-then-rest-primes-clause-homes c =
    let m = c.args.self.now in
    let eight : length m.layout.bands ≡ 8 = omega arith in
    homes_placed m.layout m.kept eight

pub loop-band-preserved : goal.loop-band-preserved
loop-band-preserved c =
    finding_on c.args.self.now.layout c.args.block c.loop-band.band-index c.loop-band.rest _ c.loop-band.invariant (omega arith)
