-- What a roll means, and what memory it can be opened with.
use Rattle.std.specs.Prelude.{◌≡◌, ℕ, ◌*◌, ◌<◌, ◌≤◌, ◌⊎◌, List, map, length, Decides, ◌==◌, ◌≢◌}
use Rattle.medium.specs.Faults.{medium_fault}
use Rattle.medium.specs.Sectors.{Sector, blank, burnt, sector_at}
use Rattle.medium.specs.declared.faults.Fault.{Fault}
use Rattle.medium.specs.declared.faults.Refusal.TheVariants.{WrongMemory, BrokenForm}
use Rattle.roll.specs.Slots.{UsedSlots, Verdicts, held, slot_image, slot_number, slot_of, verdict_at}
use Rattle.std.specs.List.{range_with_len}

-- sector i: weak by its verdict, and burnt with what its slot holds if it has one
abbrev pub roll_sector : List ℕ → ℕ → ℕ → Sector
roll_sector bytes p i = record { weak = (verdict_at bytes i == 1); state = held bytes p (slot_of bytes p p i) }

-- the sectors 0 to p - 1
abbrev pub roll_sectors : List ℕ → ℕ → List Sector
roll_sectors bytes p = map (roll_sector bytes p) (range_with_len 0 p)

-- s is what the bytes of a roll of p sectors mean
pub record RollMeans (bytes : List ℕ) (p : ℕ) (s : List Sector) : Type 0 where
  pub many : length s ≡ p
  -- a sector is weak exactly if its verdict is 1
  pub weak : (i : ℕ) → i < p → Decides (sector_at s i).weak (verdict_at bytes i ≡ 1)
  -- a sector whose number stands in a slot is burnt with the bytes of that slot, and any other is blank
  pub in_slot : (i k : ℕ) → i < p → k < p → slot_number bytes p k ≡ i → (sector_at s i).state ≡ burnt (slot_image bytes p k)
  pub in_none : (i : ℕ) → i < p → ((k : ℕ) → k < p → slot_number bytes p k ≢ i) → (sector_at s i).state ≡ blank

-- `len` bytes are as many as a roll of p sectors has
abbrev pub RollSized : ℕ → ℕ → Type 0
RollSized len p = (1 ≤ p) × (p ≤ 640064) × (len ≡ 529 * p)

-- the verdicts are 0 or 1; some slots are used, each for a sector of its own, and the unused ones stand last
abbrev pub RollFormed : List ℕ → ℕ → Type 0
RollFormed bytes p = Verdicts bytes p × ((u : ℕ) × UsedSlots bytes p p u)

-- what a roll of p sectors can be opened with
abbrev pub RollOpenable : List ℕ → ℕ → Type 0
RollOpenable bytes p = RollSized (length bytes) p × RollFormed bytes p

-- why a roll is not opened: its size is tried first, and then its form
abbrev pub RollRefused : List ℕ → ℕ → Fault → Type 0
RollRefused bytes p f =
    ((f ≡ medium_fault WrongMemory 0) × (RollSized (length bytes) p → ⊥))
    ⊎ ((f ≡ medium_fault BrokenForm 0) × RollSized (length bytes) p × (RollFormed bytes p → ⊥))
