-- What a plate means, and what memory and flaw list it can be opened with.
use Rattle.std.specs.Prelude.{◌≡◌, ℕ, ◌*◌, ◌<◌, ◌≤◌, ◌⊎◌, List, map, length, Decides}
use Rattle.medium.specs.Faults.{medium_fault}
use Rattle.medium.specs.Sectors.{Sector, blank, burnt, sector_at}
use Rattle.medium.specs.declared.faults.Fault.{Fault}
use Rattle.medium.specs.declared.faults.Refusal.TheVariants.{WrongMemory, BrokenForm}
use Rattle.plate.specs.Cells.{Marked, image_at, mark_at, state_at}
use Rattle.plate.specs.Flaws.{Covered, FlawsFormed, covered}
use Rattle.plate.specs.declared.flaws.Flaw.{Flaw}
use Rattle.std.specs.List.{range_with_len}

-- sector i: weak where a flaw covers it, in the state that its cell tells
abbrev pub plate_sector : List ℕ → List Flaw → ℕ → Sector
plate_sector bytes flaws i = record { weak = covered flaws i; state = state_at bytes i }

-- the sectors 0 to p - 1
abbrev pub plate_sectors : List ℕ → List Flaw → ℕ → List Sector
plate_sectors bytes flaws p = map (plate_sector bytes flaws) (range_with_len 0 p)

-- s is what the bytes and the flaws of a plate of p sectors mean
pub record PlateMeans (bytes : List ℕ) (flaws : List Flaw) (p : ℕ) (s : List Sector) : Type 0 where
  pub many : length s ≡ p
  -- a sector is weak exactly if a flaw covers it
  pub weak : (i : ℕ) → i < p → Decides (sector_at s i).weak (Covered flaws i)
  -- it is blank where its mark is 0, and burnt with the bytes behind the mark where that is 1
  pub unmarked : (i : ℕ) → i < p → mark_at bytes i ≡ 0 → (sector_at s i).state ≡ blank
  pub marked : (i : ℕ) → i < p → mark_at bytes i ≡ 1 → (sector_at s i).state ≡ burnt (image_at bytes i)

-- `len` bytes are as many as a plate of p sectors has
abbrev pub PlateSized : ℕ → ℕ → Type 0
PlateSized len p = (1 ≤ p) × (p ≤ 640064) × (len ≡ 525 * p)

abbrev pub PlateFormed : List ℕ → List Flaw → ℕ → Type 0
PlateFormed bytes flaws p = Marked bytes p × FlawsFormed flaws p

-- what a plate of p sectors can be opened with
abbrev pub PlateOpenable : List ℕ → List Flaw → ℕ → Type 0
PlateOpenable bytes flaws p = PlateSized (length bytes) p × PlateFormed bytes flaws p

-- why a plate is not opened: its size is tried first, and then its form
abbrev pub PlateRefused : List ℕ → List Flaw → ℕ → Fault → Type 0
PlateRefused bytes flaws p f =
    ((f ≡ medium_fault WrongMemory 0) × (PlateSized (length bytes) p → ⊥))
    ⊎ ((f ≡ medium_fault BrokenForm 0) × PlateSized (length bytes) p × (PlateFormed bytes flaws p → ⊥))
