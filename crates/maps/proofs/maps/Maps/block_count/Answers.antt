use Rattle.std.proofs.Common.{◌≡◌, ◌≤◌, length, ap, arith}
use Rattle.maps.proofs.Found.{blocks_few, homes_placed}
use Rattle.maps.specs.Places.{bands_of, block_count}
use Rattle.maps.proofs.maps.Maps.block_count.Goals as goal

pub overflow_cast-result : goal.overflow_cast-result
overflow_cast-result c =
    let m = c.args.self.now in
    let same = c.bands.ensures.bands in
    let few : length (bands_of m.layout) ≤ 8 = omega (arith, ap length same) in
    let small = blocks_few m.layout m.kept few in
    omega (arith, ap block_count same)

pub returns-clause-homes : goal.returns-clause-homes
returns-clause-homes c =
    let m = c.args.self.now in
    let eight : length m.layout.bands ≡ 8 = omega arith in
    homes_placed m.layout m.kept eight
