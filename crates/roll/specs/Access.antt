-- What an open roll means, and which of its bytes a burn changes.
use Rattle.std.specs.Prelude.{◌≡◌, ℕ, List, vec_items}
use Rattle.medium.specs.Sectors.{Sector}
use Rattle.roll.specs.Rolls.{roll_sectors}
use Rattle.roll.specs.Slots.{UsedSlots, bytes_after}
use Rattle.roll.specs.declared.rolls.Roll.{Roll}

abbrev pub sectors_of : Roll → List Sector
sectors_of r = roll_sectors (vec_items r.memory) r.count

-- a burn took roll r to q: it wrote the first slot that was not used, if it was accepted, and no other byte
pub record BurntInSlot (r : Roll) (i : ℕ) (image : List ℕ) (q : Roll) : Type 0 where
  pub first_unused : UsedSlots (vec_items r.memory) r.count r.count r.used
  pub bytes : vec_items q.memory ≡ bytes_after (vec_items r.memory) r.count r.used i image
  pub same_count : q.count ≡ r.count
