-- The bytes of a roll of p sectors: p verdicts, one byte each, and then p slots in the order of burning.
-- A slot is the number of a sector, in four bytes, the highest first, and then the sector's 524 bytes.
use Rattle.std.specs.Prelude.{◌≡◌, ℕ, zero, suc, ◌+◌, ◌*◌, ◌<◌, ◌≤◌, cond, ◌&&◌, List, ◌++◌, length, take, drop, Some, None, count_by, Option, ◌==◌, is_none, slice_index, slice_index_or}
use Rattle.medium.specs.Bytes.{four_at, four_bytes}
use Rattle.medium.specs.Calls.{reaches}
use Rattle.medium.specs.Sectors.{State, blank, burnt, is_blank}

-- the verdict on sector i: 0 sound, 1 weak
abbrev pub verdict_at : List ℕ → ℕ → ℕ
verdict_at bytes i = slice_index bytes i

-- each of the first p verdicts is 0 or 1
abbrev pub Verdicts : List ℕ → ℕ → Type 0
Verdicts bytes p = (i : ℕ) → i < p → verdict_at bytes i ≤ 1

-- the sector's number in slot k, and its image
abbrev pub slot_number : List ℕ → ℕ → ℕ → ℕ
slot_number bytes p k = four_at bytes (p + 528 * k)

abbrev pub slot_image : List ℕ → ℕ → ℕ → List ℕ
slot_image bytes p k = take 524 (drop (p + 528 * k + 4) bytes)

-- each of the first u slots has a sector's number
abbrev pub Numbered : List ℕ → ℕ → ℕ → Type 0
Numbered bytes p u = (k : ℕ) → k < u → slot_number bytes p k < p

-- no two of them have the same
abbrev pub Distinct : List ℕ → ℕ → ℕ → Type 0
Distinct bytes p u = (j k : ℕ) → (j < u) × (k < u) × (slot_number bytes p j ≡ slot_number bytes p k) → j ≡ k

-- the slots from u on, of the first n, begin with four (FF)
abbrev pub Unused : List ℕ → ℕ → ℕ → ℕ → Type 0
Unused bytes p n u = (k : ℕ) → u ≤ k → k < n → slot_number bytes p k ≡ 4294967295

-- of the first n slots u are used, and they stand first
abbrev pub UsedSlots : List ℕ → ℕ → ℕ → ℕ → Type 0
UsedSlots bytes p n u = (u ≤ n) × Numbered bytes p u × Distinct bytes p u × Unused bytes p n u

-- the slot, of the first n, that holds sector i
unfoldable pub slot_of : List ℕ → ℕ → ℕ → ℕ → Option ℕ
slot_of bytes p zero i = None
slot_of bytes p (suc n) i = cond (slot_number bytes p n == i) (Some n) (slot_of bytes p n i)

-- what a sector holds whose slot is known
abbrev pub held : List ℕ → ℕ → Option ℕ → State
held bytes p None = blank
held bytes p (Some k) = burnt (slot_image bytes p k)

-- the index says of each sector which of the first n slots holds it
abbrev pub Indexed : List ℕ → ℕ → ℕ → List (Option ℕ) → Type 0
Indexed bytes p n index = (i : ℕ) → i < p → slice_index_or index i None ≡ slot_of bytes p n i

-- how many sectors have no slot
abbrev pub free : List (Option ℕ) → ℕ
free index = count_by is_none index

-- of the first n slots u are used, and the index has them all
pub record Filled (bytes : List ℕ) (p n : ℕ) (index : List (Option ℕ)) (u : ℕ) : Type 0 where
  pub slots : UsedSlots bytes p n u
  pub long : length index ≡ p
  pub indexed : Indexed bytes p n index
  pub room : free index + u ≡ p

-- the bytes once a slot is written at `at`; every byte before and behind the slot is as it was
abbrev pub with_slot : List ℕ → ℕ → ℕ → List ℕ → List ℕ
with_slot bytes at n image = take at bytes ++ (four_bytes n ++ (image ++ drop (at + 528) bytes))

-- the bytes of a roll of p sectors, u of its slots used, once a burn was asked for
abbrev pub bytes_after : List ℕ → ℕ → ℕ → ℕ → List ℕ → List ℕ
bytes_after bytes p u i image =
    cond (reaches p i (length image) && is_blank (held bytes p (slot_of bytes p p i))) (with_slot bytes (p + 528 * u) i image) bytes
