use Rattle.std.proofs.Common.{◌+◌, ◌*◌, drop, arith}
use Rattle.medium.proofs.Parts.{front_of_front}
use Rattle.plate.proofs.cells.image_of.Goals as goal

pub returns : goal.returns
returns c =
    let f = rw c.unwrap.ensures at c.first_chunk.ensures.cases in
    front_of_front 524 _ (drop (525 * c.args.sector + 1) c.args.memory.now) _ f.same (omega arith)
