use Rattle.std.proofs.Common.{◌≡◌, sym, ap, ◌∙◌, subst, arith}
use Rattle.roll.specs.Slotted.{broken_number, broken_order, broken_index, filled_none, filled_unused, filled_used}
use Rattle.medium.specs.Bytes.{four_at}
use Rattle.roll.specs.Slots.{Filled, slot_number}
use Rattle.roll.proofs.slots.fill_index.Goals as goal
use Rattle.roll.proofs.slots.fill_index.Goals.{then-number-count-via-then-number-count, then-number-count-via-else-number-count+then-used-slot, then-number-count-via-else-number-count+else-used-slot+then-is_some}

pub loop-slot-init : goal.loop-slot-init
loop-slot-init c =
    subst (λ ys. Filled c.args.memory.now c.args.count 0 ys 0) (sym c.requires.2) (filled_none c.args.memory.now c.args.count)

pub loop-slot-preserved-then-number : goal.loop-slot-preserved-then-number
loop-slot-preserved-then-number c =
    let e = ap (four_at c.args.memory.now) c.slot_at.ensures in
    filled_unused c.args.memory.now c.args.count c.loop-slot.slot c.loop-slot.used c.loop-slot.index c.requires.1 (sym (c.four_at-number.ensures ∙ e) ∙ c.if-number.true) c.loop-slot.invariant

pub returns-then-number-count : goal.returns-then-number-count
returns-then-number-count c = λ f.
    let xs = c.args.memory.now in
    let p = c.args.count in
    let n = c.loop-slot.slot in
    let e = c.four_at-number.ensures ∙ ap (four_at xs) c.slot_at.ensures in
    let used : slot_number xs p n ≡ 4294967295 → ⊥ = λ z. c.if-number.false (e ∙ z) in
    elim c.then-number-count.branch [
      | then-number-count-via-then-number-count w ↦ broken_number xs p n f.1.0 c.loop-slot-test.true used f.1.1 (omega (arith, w.if-number-count.true))
      | then-number-count-via-else-number-count+then-used-slot w ↦ broken_order xs p n f.1.0 c.loop-slot-test.true used f.1.1 c.loop-slot.used c.requires.1 c.loop-slot.invariant.slots w.if-used-slot.true
      | then-number-count-via-else-number-count+else-used-slot+then-is_some w ↦
          broken_index xs p n f.1.0 c.loop-slot-test.true used f.1.1 c.four_at-number.result c.loop-slot.index c.loop-slot.invariant.indexed e w.if-number-count.false w.if-is_some.ensures
    ]

pub loop-slot-preserved : goal.loop-slot-preserved
loop-slot-preserved c =
    let e = c.four_at-number.ensures ∙ ap (four_at c.args.memory.now) c.slot_at.ensures in
    filled_used c.args.memory.now c.args.count c.loop-slot.slot c.loop-slot.used c.four_at-number.result c.loop-slot.index c.if-used-slot.false c.loop-slot.invariant e c.if-number-count.false c.if-is_some.ensures
