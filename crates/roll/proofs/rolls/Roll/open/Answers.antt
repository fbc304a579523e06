use Rattle.std.proofs.Common.{refl, vec_items}
use Rattle.roll.specs.Wound.{length_roll, roll_means}
use Rattle.roll.proofs.rolls.Roll.open.Goals as goal

pub invariant_of-result : goal.invariant_of-result
invariant_of-result c =
    let h = c.in-Ok.ensures in
    let found = rw c.as_slice.ensures.value at h in
    record {
      some = found.0.0;
      few = found.0.1;
      sized = found.0.2;
      judged = found.1;
      filled = found.2;
      row = length_roll (vec_items c.args.memory) c.args.count;
    }

pub returns-in-Ok : goal.returns-in-Ok
returns-in-Ok c =
    let h = c.in-Ok.ensures in
    let found = rw c.as_slice.ensures.value at h in
    record {
      openable = (found.0, (found.1, (c.in-Ok.used, found.2.slots)));
      holds_memory = refl;
      holds_count = refl;
      means = roll_means (vec_items c.args.memory) c.args.count c.in-Ok.used found.0.1 found.2.slots;
    }
