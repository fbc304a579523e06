-- Which sector is the lowest that is burnt.
use Rattle.std.specs.Prelude.{◌≡◌, ℕ, ◌<◌, false, List, length, Some, None, Option}
use Rattle.medium.specs.Sectors.{Sector, blank, is_blank, sector_at}

-- each of the first n sectors is blank
abbrev pub BlankBelow : List Sector → ℕ → Type 0
BlankBelow s n = (k : ℕ) → k < n → (sector_at s k).state ≡ blank

abbrev pub LowestBurnt : List Sector → Option ℕ → Type 0
LowestBurnt s None = BlankBelow s (length s)
LowestBurnt s (Some i) = (i < length s) × (is_blank (sector_at s i).state ≡ false) × BlankBelow s i
