-- The sectors of a roll once a slot is written.
use Rattle.std.specs.Prelude.{◌≡◌, ℕ, ◌+◌, ◌*◌, ◌^◌, ◌<◌, ◌≤◌, Bool, List, length, take, drop, Some, None, Decides, Option, ◌==◌, ◌≢◌, slice_index, slice_index_or, slice_set, false, is_some, refl}
use Rattle.std.proofs.Common.{sym, ap, subst, ◌∙◌, ⊎_elim, arith}
use Rattle.std.proofs.lemmas.Grind.{common_steps}
use Rattle.std.proofs.lemmas.Nat.{from_be_bytes-to_be_bytes_4}
use Rattle.std.proofs.lemmas.List.{same_lists, length-take, length-drop, length-append, length-take-le, get_or-take, get_or-drop, get_or_append_left, get_or-append_right, length-set}
use Rattle.std.proofs.lemmas.Bool.{cases_lt, eq-eqb, eqb-true}
use Rattle.medium.specs.Sectors.{Sector, burnt, sector_at, Whole, Lawful}
use Rattle.medium.specs.Calls.{with_burnt}
use Rattle.roll.specs.Rolls.{RollMeans, roll_sector, roll_sectors}
use Rattle.medium.specs.Bytes.{four_bytes, four_at}
use Rattle.roll.specs.Slots.{Filled, Indexed, UsedSlots, Verdicts, held, slot_image, slot_number, slot_of, verdict_at, with_slot, free}
use Rattle.medium.proofs.Parts.{part_same}
use Rattle.medium.proofs.Rows.{length_row, row_at, row_lawful, row_burnt}
use Rattle.roll.specs.Slotted.{Told, free_set, none_held, slot_is, told}

module _ (xs : List ℕ) (at n : ℕ) (image : List ℕ) (fits : at + 528 ≤ length xs) (whole : length image ≡ 524) where
  front : length (take at xs) ≡ at
  front = length-take-le at xs (omega arith)

  pub length_with_slot : length (with_slot xs at n image) ≡ length xs
  length_with_slot = grind (arith, common_steps)

  pub before_slot : (j d : ℕ) → j < at → slice_index_or (with_slot xs at n image) j d ≡ slice_index_or xs j d
  before_slot j d h = grind (arith, common_steps)

  number_byte : (k j d : ℕ) → at + k ≡ j → k < 4 → slice_index_or (with_slot xs at n image) j d ≡ slice_index_or (four_bytes n) k d
  number_byte k j d e h = grind (arith, common_steps)

  pub number_with_slot : n < 2 ^ 32 → four_at (with_slot xs at n image) at ≡ n
  number_with_slot h =
      omega (
        arith,
        number_byte 0 at 0 (omega arith) (omega arith),
        number_byte 1 (at + 1) 0 refl (omega arith),
        number_byte 2 (at + 2) 0 refl (omega arith),
        number_byte 3 (at + 3) 0 refl (omega arith),
        from_be_bytes-to_be_bytes_4 n h,
      )

  image_byte : (k d : ℕ) → k < 524 → slice_index_or (with_slot xs at n image) (at + 4 + k) d ≡ slice_index_or image k d
  image_byte k d h = grind (arith, get_or-append_right, get_or_append_left, front)

  pub past_slot : (j d : ℕ) → at + 528 ≤ j → slice_index_or (with_slot xs at n image) j d ≡ slice_index_or xs j d
  past_slot j d h = grind (arith, get_or-append_right, get_or-drop, length-append, front)

  pub image_with_slot : take 524 (drop (at + 4) (with_slot xs at n image)) ≡ image
  image_with_slot =
      same_lists
      (take 524 (drop (at + 4) (with_slot xs at n image)))
      image
      (omega (arith, length-take 524 (drop (at + 4) (with_slot xs at n image)), length-drop (at + 4) (with_slot xs at n image), length_with_slot))
      (λ k d l.
      let m : k < 524 = omega (arith, length-take 524 (drop (at + 4) (with_slot xs at n image))) in
      get_or-take 524 (drop (at + 4) (with_slot xs at n image)) k d m
      ∙ get_or-drop (at + 4) (with_slot xs at n image) k d
      ∙ image_byte k d m)

-- one slot at most holds a sector
pub one_slot : (xs : List ℕ) (p u i : ℕ) → p ≤ 640064 → i < p → UsedSlots xs p p u → (j k : ℕ) → j < p → k < p → slot_number xs p j ≡ i → slot_number xs p k ≡ i → j ≡ k
one_slot xs p u i few l s j k a b d e = grind arith

-- sector i, which had no slot, is burnt into slot u, the first that is not used
module _ (xs : List ℕ) (p u i : ℕ) (image : List ℕ) (few : p ≤ 640064) (sized : length xs ≡ 529 * p) (slots : UsedSlots xs p p u) (room : u < p) (within : i < p) (none : slot_of xs p p i ≡ None) (whole : length image ≡ 524) where
  abbrev ys : List ℕ
  ys = with_slot xs (p + 528 * u) i image

  fits : p + 528 * u + 528 ≤ length xs
  fits = omega arith

  pub verdict_kept : (k : ℕ) → k < p → slice_index ys k ≡ slice_index xs k
  verdict_kept k h = before_slot xs (p + 528 * u) i image fits whole k 0 (omega arith)

  other_byte : (k j d : ℕ) → (k ≢ u) → p + 528 * k ≤ j → j < p + 528 * k + 528 → slice_index_or ys j d ≡ slice_index_or xs j d
  other_byte k j d ne low high =
      ⊎_elim
      (λ l. before_slot xs (p + 528 * u) i image fits whole j d (omega arith))
      (λ l. past_slot xs (p + 528 * u) i image fits whole j d (omega arith))
      (cases_lt k u)

  other_number : (k : ℕ) → (k ≢ u) → slot_number ys p k ≡ slot_number xs p k
  other_number k ne =
      omega (
        arith,
        other_byte k (p + 528 * k) 0 ne (omega arith) (omega arith),
        other_byte k (p + 528 * k + 1) 0 ne (omega arith) (omega arith),
        other_byte k (p + 528 * k + 2) 0 ne (omega arith) (omega arith),
        other_byte k (p + 528 * k + 3) 0 ne (omega arith) (omega arith),
      )

  new_number : slot_number ys p u ≡ i
  new_number = number_with_slot xs (p + 528 * u) i image fits whole (omega arith)

  other_image : (k : ℕ) → (k ≢ u) → slot_image ys p k ≡ slot_image xs p k
  other_image k ne = part_same ys xs 524 (p + 528 * k + 4) (length_with_slot xs (p + 528 * u) i image fits whole) (λ j d low high. other_byte k j d ne (omega arith) (omega arith))

  alone : (k : ℕ) → k < p → slot_number xs p k ≢ i
  alone = subst (Told xs p p i) none (told xs p p i)

  pub slots_kept : UsedSlots ys p p (u + 1)
  slots_kept =
      let s = slots in
      let l = room in
      let e = new_number in (
        omega arith,
        (λ k l. grind (arith, other_number)),
        (λ j k h. let a = other_number j in let b = other_number k in grind (arith, alone)),
        (λ k l m. grind (arith, other_number)),
      )

  pub new_slot : slot_of ys p p i ≡ Some u
  new_slot = slot_is ys p p i (Some u) (one_slot ys p (u + 1) i few within slots_kept) (room, new_number)

  -- the slot of another sector is not the one that was written
  not_new : (j k : ℕ) → j < p → slot_number xs p k ≡ j → k ≢ u
  not_new j k l e f = let s = slots in let h = room in grind arith

  told_kept : (j : ℕ) → j < p → (j ≢ i) → (o : Option ℕ) → Told xs p p j o → Told ys p p j o
  told_kept j l ne None h = λ k q e. let a = other_number k in let b = new_number in grind arith
  told_kept j l ne (Some k) h = (h.0, other_number k (not_new j k l h.1) ∙ h.1)

  pub other_slot : (j : ℕ) → j < p → (j ≢ i) → slot_of ys p p j ≡ slot_of xs p p j
  other_slot j l ne = slot_is ys p p j (slot_of xs p p j) (one_slot ys p (u + 1) j few l slots_kept) (told_kept j l ne (slot_of xs p p j) (told xs p p j))

  held_kept : (j : ℕ) → j < p → (o : Option ℕ) → Told xs p p j o → held ys p o ≡ held xs p o
  held_kept j l None h = refl
  held_kept j l (Some k) h = ap burnt (other_image k (not_new j k l h.1))

  pub index_kept : (index : List (Option ℕ)) → length index ≡ p → Indexed xs p p index → Indexed ys p p (slice_set index i (Some u))
  index_kept index long h j l = let e = new_slot in grind (arith, common_steps, h j l, long, other_slot j l)

  pub roll_burnt : roll_sectors ys p ≡ with_burnt (roll_sectors xs p) i image
  roll_burnt =
      row_burnt
      (roll_sector xs p)
      (roll_sector ys p)
      p
      i
      image
      within
      (ap (λ n. record { weak = (n == 1); state = held ys p (slot_of ys p p i) }) (verdict_kept i within)
      ∙ ap (λ o. record { weak = (slice_index xs i == 1); state = held ys p o }) new_slot
      ∙ ap (λ t. record { weak = (slice_index xs i == 1); state = burnt t }) (image_with_slot xs (p + 528 * u) i image fits whole))
      (λ k l ne.
      ap (λ n. record { weak = (n == 1); state = held ys p (slot_of ys p p k) }) (verdict_kept k l)
      ∙ ap (λ t. record { weak = (slice_index xs k == 1); state = t }) (ap (held ys p) (other_slot k l ne) ∙ held_kept k l (slot_of xs p p k) (told xs p p k)))

  pub verdicts_kept : Verdicts xs p → Verdicts ys p
  verdicts_kept h k l = omega (arith, verdict_kept k l, h k l)

-- the same, as the index tells it
module _ (xs : List ℕ) (p u i : ℕ) (index : List (Option ℕ)) (filled : Filled xs p p index u) (within : i < p) (free_now : false ≡ is_some (slice_index_or index i None)) where
  pub no_slot : slot_of xs p p i ≡ None
  no_slot = sym (filled.indexed i within) ∙ none_held _ free_now

  one_less : free (slice_set index i (Some u)) + 1 ≡ free index
  one_less = free_set index i u (omega (arith, filled.long)) (none_held _ free_now)

  pub room_left : u < p
  room_left = omega (arith, one_less, filled.room)

  pub filled_burnt : (image : List ℕ) → p ≤ 640064 → length xs ≡ 529 * p → length image ≡ 524 → Filled (with_slot xs (p + 528 * u) i image) p p (slice_set index i (Some u)) (u + 1)
  filled_burnt image few sized whole =
      record {
        slots = slots_kept xs p u i image few sized filled.slots room_left within no_slot whole;
        long = length-set index i (Some u) ∙ filled.long;
        indexed = index_kept xs p u i image few sized filled.slots room_left within no_slot whole index filled.long filled.indexed;
        room = omega (arith, one_less, filled.room);
      }

module _ (xs : List ℕ) (p : ℕ) where
  pub length_roll : length (roll_sectors xs p) ≡ p
  length_roll = length_row (roll_sector xs p) p

  pub roll_at : (i : ℕ) → i < p → (w : Bool) (o : Option ℕ) → (slice_index xs i == 1) ≡ w → slot_of xs p p i ≡ o → sector_at (roll_sectors xs p) i ≡ record { weak = w; state = held xs p o }
  roll_at i h w o e f =
      row_at (roll_sector xs p) p i h
      ∙ ap (λ v. record { weak = v; state = held xs p (slot_of xs p p i) }) e
      ∙ ap (λ q. record { weak = w; state = held xs p q }) f

  whole_held : (i : ℕ) (o : Option ℕ) → length xs ≡ 529 * p → Told xs p p i o → Whole (held xs p o)
  whole_held i None e h = tt
  whole_held i (Some k) e h = omega (arith, h.0, length-take 524 (drop (p + 528 * k + 4) xs), length-drop (p + 528 * k + 4) xs)

  pub roll_lawful : 1 ≤ p → p ≤ 640064 → length xs ≡ 529 * p → Lawful (roll_sectors xs p)
  roll_lawful some few sized = row_lawful (roll_sector xs p) p some few (λ i h. whole_held i (slot_of xs p p i) sized (told xs p p i))

  -- the sector's slot is o
  module _ (u : ℕ) (few : p ≤ 640064) (used : UsedSlots xs p p u) where
    state_by : (i : ℕ) → i < p → (o : Option ℕ) → Told xs p p i o → (sector_at (roll_sectors xs p) i).state ≡ held xs p o
    state_by i h o t = ap (λ (x : Sector). x.state) (roll_at i h _ o refl (slot_is xs p p i o (one_slot xs p u i few h used) t))

    pub roll_means : RollMeans xs p (roll_sectors xs p)
    roll_means =
        record {
          many = length_roll;
          weak = λ i h.
              subst (λ (x : Sector). Decides x.weak (verdict_at xs i ≡ 1)) (sym (row_at (roll_sector xs p) p i h)) (eqb-true (verdict_at xs i) 1, eq-eqb (verdict_at xs i) 1);
          in_slot = λ i k h l e. state_by i h (Some k) (l, e);
          in_none = λ i h none. state_by i h None none;
        }
