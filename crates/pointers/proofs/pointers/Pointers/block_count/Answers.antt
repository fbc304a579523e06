use Rattle.std.proofs.Common.{arith}
use Rattle.pointers.proofs.Geometry.{few_blocks, places_sound}
use Rattle.pointers.proofs.Ruled.{rules_held, size_held}
use Rattle.pointers.specs.Rules.{last_track}
use Rattle.pointers.proofs.pointers.Pointers.block_count.Goals as goal

pub overflow_mul-result : goal.overflow_mul-result
overflow_mul-result c =
    let p = c.args.self.now in
    let h = few_blocks (last_track p.sectors) p.layout (rules_held p) in
    let m = (size_held p).most in
    grind arith

pub returns-clause-places : goal.returns-clause-places
returns-clause-places c = let p = c.args.self.now in places_sound (last_track p.sectors) p.layout (rules_held p)
