use Rattle.std.proofs.Common.{Some, None, true, false, refl, ◌∙◌}
use Rattle.roll.proofs.Accessed.{read_as, slot_within}
use Rattle.roll.proofs.rolls.access.RollMedium.read.Goals as goal

pub returns-in_default : goal.returns-in_default
returns-in_default c =
    let r = read_as c.args.self.now c.args.sector c.args.image.now c.in_ok-reach.ensures _ c.index.ensures _ refl None c.in_default.is in
    record { answer = r.0; image = r.1 }

pub returns-then-is_weak : goal.returns-then-is_weak
returns-then-is_weak c =
    let r = read_as c.args.self.now c.args.sector c.args.image.now c.in_ok-reach.ensures _ c.index.ensures true c.if-is_weak.ensures (Some c.in-Some.slot) c.in-Some.is in
    record { answer = r.0; image = r.1 }

pub slot_image-requires : goal.slot_image-requires
slot_image-requires c = slot_within c.args.self.now c.args.sector c.args.image.now c.in_ok-reach.ensures _ c.index.ensures c.in-Some.slot c.in-Some.is

pub returns : goal.returns
returns c =
    let r = read_as c.args.self.now c.args.sector c.args.image.now c.in_ok-reach.ensures _ c.index.ensures false c.if-is_weak.ensures (Some c.in-Some.slot) c.in-Some.is in
    record { answer = r.0; image = c.copy_from_slice.ensures.after ∙ c.slot_image.ensures ∙ r.1 }
