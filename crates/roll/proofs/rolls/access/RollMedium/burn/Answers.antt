use Rattle.std.proofs.Common.{true, false, Ok, Err, refl, ap, ◌∙◌}
use Rattle.roll.proofs.Accessed.{after_as, burn_as, burnt_as, kept}
use Rattle.roll.specs.Wound.{length_roll}
use Rattle.roll.proofs.rolls.access.RollMedium.burn.Goals as goal

pub returns-then-is_some-clause-answer : goal.returns-then-is_some-clause-answer
returns-then-is_some-clause-answer c =
    ap Err c.refuses.ensures ∙ burn_as c.args.self.now c.args.sector c.args.image.now c.in_ok-reach.ensures _ c.index.ensures _ refl true c.if-is_some.ensures

pub returns-then-is_some-clause-after : goal.returns-then-is_some-clause-after
returns-then-is_some-clause-after c = after_as c.args.self.now c.args.sector c.args.image.now c.in_ok-reach.ensures _ c.index.ensures _ refl true c.if-is_some.ensures

pub invariant_of-self : goal.invariant_of-self
invariant_of-self c =
    let m = c.args.self.now in
    let k = kept m c.args.sector c.args.image.now c.in_ok-reach.ensures _ c.index.ensures c.if-is_some.ensures c.write_slot.new.memory c.as_mut_slice.result.now c.slot_at-at.result c.as_mut_slice.ensures.value c.slot_at-at.ensures c.write_slot.ensures in
    record {
      some = m.some;
      few = m.few;
      sized = k.0;
      judged = k.1;
      filled = k.2;
      row = length_roll _ m.count;
    }

pub returns-clause-answer : goal.returns-clause-answer
returns-clause-answer c =
    ap Ok c.of-verdict.ensures ∙ burn_as c.args.self.now c.args.sector c.args.image.now c.in_ok-reach.ensures _ c.index.ensures _ c.is_weak.ensures false c.if-is_some.ensures

pub returns-clause-after : goal.returns-clause-after
returns-clause-after c =
    let m = c.args.self.now in
    burnt_as m c.args.sector c.args.image.now c.in_ok-reach.ensures _ c.index.ensures c.if-is_some.ensures c.write_slot.new.memory c.as_mut_slice.result.now c.slot_at-at.result c.as_mut_slice.ensures.value c.slot_at-at.ensures c.write_slot.ensures
    ∙ after_as m c.args.sector c.args.image.now c.in_ok-reach.ensures _ c.index.ensures _ refl false c.if-is_some.ensures
