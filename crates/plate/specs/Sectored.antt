-- The sectors of a plate, one by one, and once one of them is burnt.
use Rattle.std.specs.Prelude.{◌≡◌, ℕ, ◌+◌, ◌*◌, ◌<◌, ◌≤◌, Bool, List, length, drop, ◌==◌, ◌≢◌, refl}
use Rattle.std.proofs.Common.{ap, ⊎_elim, arith}
use Rattle.medium.proofs.Rows.{length_row, row_at, row_burnt, row_lawful}
use Rattle.medium.specs.Calls.{with_burnt}
use Rattle.medium.specs.Sectors.{Lawful, Whole, blank, burnt, sector_at}
use Rattle.plate.specs.Covering.{covered_decides}
use Rattle.plate.specs.Filled.{mark_with_image, other_mark, other_state, state_with_image}
use Rattle.plate.specs.Cells.{Marked, image_at, mark_at, state_at, with_image}
use Rattle.plate.specs.Flaws.{covered}
use Rattle.plate.specs.Plates.{PlateMeans, PlateSized, plate_sector, plate_sectors}
use Rattle.plate.specs.declared.flaws.Flaw.{Flaw}
use Rattle.std.proofs.lemmas.List.{length-take, length-drop}
use Rattle.std.proofs.lemmas.Bool.{cases_eq, cond_both, ne_eqb}

module _ (xs : List ℕ) (fs : List Flaw) (p : ℕ) where
  pub length_plate : length (plate_sectors xs fs p) ≡ p
  length_plate = length_row (plate_sector xs fs) p

  pub blank_at : (i : ℕ) → i < p → mark_at xs i ≡ 0 → (w : Bool) → covered fs i ≡ w → sector_at (plate_sectors xs fs p) i ≡ record { weak = w; state = blank }
  blank_at i h e w f = rw (row_at (plate_sector xs fs) p i h, e, f)

  pub burnt_at : (i : ℕ) → i < p → (mark_at xs i ≢ 0) → (w : Bool) → covered fs i ≡ w → sector_at (plate_sectors xs fs p) i ≡ record { weak = w; state = burnt (image_at xs i) }
  burnt_at i h ne w f = rw (row_at (plate_sector xs fs) p i h, ne_eqb (mark_at xs i) 0 ne, f)

  whole_at : (i : ℕ) → i < p → length xs ≡ 525 * p → Whole (state_at xs i)
  whole_at i h e =
      cond_both (mark_at xs i == 0) blank (burnt (image_at xs i)) Whole (λ _. tt)
      (λ _. omega (arith, length-take 524 (drop (525 * i + 1) xs), length-drop (525 * i + 1) xs))

  pub plate_lawful : PlateSized (length xs) p → Lawful (plate_sectors xs fs p)
  plate_lawful h = row_lawful (plate_sector xs fs) p h.0 h.1 (λ i l. whole_at i l h.2)

  pub plate_means : PlateMeans xs fs p (plate_sectors xs fs p)
  plate_means =
      record {
        many = length_plate;
        weak = λ i h. rw (row_at (plate_sector xs fs) p i h) (covered_decides fs i);
        unmarked = λ i h e. rw (blank_at i h e (covered fs i) refl);
        marked = λ i h e. rw (burnt_at i h (λ z. omega arith) (covered fs i) refl);
      }

module _ (xs : List ℕ) (fs : List Flaw) (p i : ℕ) (image : List ℕ) (sized : length xs ≡ 525 * p) (within : i < p) (whole : length image ≡ 524) where
  fits : 525 * i + 525 ≤ length xs
  fits = omega arith

  pub plate_burnt : plate_sectors (with_image xs i image) fs p ≡ with_burnt (plate_sectors xs fs p) i image
  plate_burnt =
      row_burnt
      (plate_sector xs fs)
      (plate_sector (with_image xs i image) fs)
      p
      i
      image
      within
      (rw (state_with_image xs i image fits whole))
      (λ k h ne. rw (other_state xs i image fits whole k ne))

  pub still_marked : Marked xs p → Marked (with_image xs i image) p
  still_marked old k h =
      ⊎_elim
      (λ e. omega (arith, ap (mark_at (with_image xs i image)) e, mark_with_image xs i image fits whole))
      (λ ne. rw (other_mark xs i image fits whole k ne) (old k h))
      (cases_eq k i)
