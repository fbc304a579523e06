use Rattle.std.proofs.Common.{◌≡◌, ◌+◌, ◌-◌, length, ap, ◌∙◌, arith}
use Rattle.std.proofs.lemmas.List.{append_assoc, drop-drop}
use Rattle.std.proofs.lemmas.Slice.{take-put_mid, drop-put_mid}
use Rattle.roll.proofs.slots.write_slot.Goals as goal

pub returns : goal.returns
returns c =
    let xs = c.args.memory.now in
    let at = c.args.at in
    let ys = c.copy_from_slice.new.self in
    let e = c.copy_from_slice.ensures.after ∙ c.to_be_bytes.ensures in
    let four : length ys ≡ 4 = ap length e in
    let rest : at + 4 + (at + 528 - (at + 4)) ≡ at + 528 = omega arith in
    rw (
      take-put_mid at (at + 4 - at) xs ys (at + 4) (omega arith) (omega arith),
      drop-put_mid at (at + 4 - at) xs ys (at + 4) (omega arith) (omega arith) (omega arith),
      append_assoc,
      drop-drop,
      rest,
      e,
      c.copy_from_slice-2.ensures.after,
    )
