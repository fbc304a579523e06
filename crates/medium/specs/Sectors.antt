-- What a write-once medium is: a row of sectors, each sound or weak for good, each blank or burnt.
use Rattle.std.specs.Prelude.{◌≡◌, ℕ, ◌≤◌, Bool, true, false, List, length, slice_index_or}

-- what was done to a sector: nothing yet, or it was burnt with these bytes
pub data State : Type 0 where
  blank : State
  burnt : List ℕ → State

pub record Sector : Type 0 where
  pub weak : Bool
  pub state : State

abbrev pub is_blank : State → Bool
is_blank blank = true
is_blank (burnt image) = false

-- what a number past the last sector reads as; no call reaches it
abbrev pub beyond : Sector
beyond = record { weak = true; state = blank }

abbrev pub sector_at : List Sector → ℕ → Sector
sector_at s i = slice_index_or s i beyond

-- a burnt sector has 524 bytes
abbrev pub Whole : State → Type 0
Whole blank = Unit {0}
Whole (burnt image) = length image ≡ 524

-- what holds of every medium
pub record Lawful (s : List Sector) : Type 0 where
  pub some : 1 ≤ length s
  pub few : length s ≤ 640064
  pub whole : (i : ℕ) → Whole (sector_at s i).state
