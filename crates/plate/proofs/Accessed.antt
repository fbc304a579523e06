-- What reading and burning a sector of an open plate come to, way by way.
use Rattle.std.proofs.Common.{◌≡◌, ℕ, ◌<◌, Bool, List, length, Ok, Err, vec_items, sym, refl, ap, ◌∙◌, arith}
use Rattle.medium.proofs.Reached.{burning_as, image_as, reading_as, sectors_as, whole_image, within}
use Rattle.medium.specs.Calls.{burning, filled, image_after, reaching, reading, sectors_after, shown, verdict}
use Rattle.medium.specs.Faults.{medium_fault}
use Rattle.medium.specs.declared.faults.Refusal.TheVariants.{AlreadyBurnt}
use Rattle.medium.specs.declared.interface.Reading.TheVariants.{Blank}
use Rattle.plate.specs.Sectored.{blank_at, burnt_at, length_plate, plate_burnt, still_marked}
use Rattle.medium.specs.Sectors.{Sector, burnt, sector_at}
use Rattle.plate.specs.Access.{sectors_of}
use Rattle.plate.specs.Cells.{image_at, mark_at, with_image}
use Rattle.plate.specs.Flaws.{covered}
use Rattle.plate.specs.Plates.{PlateOpenable, plate_sectors}
use Rattle.plate.specs.Filled.{length_with_image}
use Rattle.std.proofs.lemmas.List.{with_items_is}
use Rattle.std.specs.Vec.{with_items}
use Rattle.plate.specs.declared.plates.Plate.{Plate}

module _ (p : Plate) (i : ℕ) (image : List ℕ) where
  abbrev s : List Sector
  s = sectors_of p

  abbrev xs : List ℕ
  xs = vec_items p.memory

  row : length s ≡ p.count
  row = length_plate xs (vec_items p.flaws) p.count

  module _ (e : Ok tt ≡ reaching p.count i (length image)) where
    inside : i < p.count
    inside = within p.count i (length image) e

    whole : length image ≡ 524
    whole = whole_image p.count i (length image) e

    -- the sector is x
    module _ (x : Sector) (at : sector_at s i ≡ x) where
      read_at : (Ok (shown x.weak x.state) ≡ reading s i (length image)) × (filled x.weak x.state image ≡ image_after s i image)
      read_at = (reading_as s p.count i image row e x at, image_as s p.count i image row e x at)

    pub read_blank : mark_at xs i ≡ 0 → (Ok Blank ≡ reading s i (length image)) × (image ≡ image_after s i image)
    read_blank mark = read_at _ (blank_at xs (vec_items p.flaws) p.count i inside mark _ refl)

    module _ (w : Bool) (flawed : covered (vec_items p.flaws) i ≡ w) where
      at_burnt : (mark_at xs i ≡ 0 → ⊥) → sector_at s i ≡ record { weak = w; state = burnt (image_at xs i) }
      at_burnt mark = burnt_at xs (vec_items p.flaws) p.count i inside mark w flawed

      pub read_burnt : (mark_at xs i ≡ 0 → ⊥) → (Ok (shown w (burnt (image_at xs i))) ≡ reading s i (length image)) × (filled w (burnt (image_at xs i)) image ≡ image_after s i image)
      read_burnt mark = read_at _ (at_burnt mark)

      pub burn_burnt : (mark_at xs i ≡ 0 → ⊥) → (Err (medium_fault AlreadyBurnt i) ≡ burning s i (length image)) × (s ≡ sectors_after s i image)
      burn_burnt mark = (
        burning_as s p.count i image row e _ (at_burnt mark),
        sectors_as s p.count i image row e _ (at_burnt mark),
      )

      -- the bytes ys are what was there with the cell filled
      pub burn_blank : (ys : List ℕ) → mark_at xs i ≡ 0 → ys ≡ with_image xs i image → (Ok (verdict w) ≡ burning s i (length image)) × (plate_sectors ys (vec_items p.flaws) p.count ≡ sectors_after s i image)
      burn_blank ys mark k =
          let at = blank_at xs (vec_items p.flaws) p.count i inside mark w flawed in (
            burning_as s p.count i image row e _ at,
            rw (k, plate_burnt xs (vec_items p.flaws) p.count i image p.openable.0.2 inside whole) (sectors_as s p.count i image row e _ at),
          )

    pub written : (ws : List ℕ) → ws ≡ with_image xs i image → vec_items (with_items p.memory ws) ≡ with_image xs i image
    written ws k =
        with_items_is p.memory ws (ap length k ∙ length_with_image xs i image (omega (arith, inside, p.openable.0.2)) whole ∙ sym p.memory.ok.0) ∙ k

    pub still_openable : (ys : List ℕ) → ys ≡ with_image xs i image → PlateOpenable ys (vec_items p.flaws) p.count
    still_openable ys k =
        let old = p.openable in
        let long = length_with_image xs i image (omega (arith, inside, old.0.2)) whole in
        rw k ((old.0.0, old.0.1, long ∙ old.0.2), (still_marked xs (vec_items p.flaws) p.count i image old.0.2 inside whole old.1.0, old.1.1))
