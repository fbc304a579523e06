use Rattle.std.proofs.Common.{◌+◌, take, drop, ◌∙◌, ap₂, arith}
use Rattle.medium.proofs.Parts.{front_of_front}
use Rattle.roll.proofs.rolls.Roll.slot_image.Goals as goal

pub returns : goal.returns
returns c =
    let f = rw c.unwrap.ensures at c.first_chunk.ensures.cases in
    let at = c.slot_at-at.ensures in
    front_of_front 524 _ (drop (c.slot_at-at.result + 4) c.deref.result.now) _ f.same (omega arith) ∙ ap₂ (λ a xs. take 524 (drop (a + 4) xs)) at c.deref.ensures.value
