-- The flaw list of a plate: runs of weak sectors, apart and in rising order.
use Rattle.std.specs.Prelude.{ℕ, ◌+◌, ◌<◌, ◌≤◌, Bool, ◌&&◌, List, map, length, nat_le, nat_lt}
use Rattle.medium.specs.Order.{Rising}
use Rattle.std.specs.List.{All, AllAdjacentBelow, Any, list_any}
use Rattle.plate.specs.declared.flaws.Flaw.{Flaw}

-- the first sector behind a flaw
abbrev pub end_of : Flaw → ℕ
end_of f = f.offset + f.length

-- flaw f covers sector i
abbrev pub Covers : Flaw → ℕ → Type 0
Covers f i = (f.offset ≤ i) × (i < end_of f)

-- some flaw of the list covers sector i
abbrev pub Covered : List Flaw → ℕ → Type 0
Covered fs i = Any (λ f. Covers f i) fs

-- a flaw has a sector at least, and ends by sector p
abbrev pub Inside : Flaw → ℕ → Type 0
Inside f p = (1 ≤ f.length) × (end_of f ≤ p)

abbrev pub AllInside : List Flaw → ℕ → Type 0
AllInside fs p = All (λ f. Inside f p) fs

-- each flaw ends by the beginning of the next
abbrev pub Apart : List Flaw → Type 0
Apart fs = AllAdjacentBelow (λ a b. end_of a ≤ b.offset) fs (length fs)

-- the flaw list of a plate of p sectors
pub record FlawsFormed (fs : List Flaw) (p : ℕ) : Type 0 where
  pub few : length fs ≤ 64
  pub sorted : Rising (map (λ f. f.offset) fs)
  pub inside : AllInside fs p
  pub apart : Apart fs

-- the tests by which a sector is told to be weak
abbrev pub covers : Flaw → ℕ → Bool
covers f i = nat_le f.offset i && nat_lt i (end_of f)

abbrev pub covered : List Flaw → ℕ → Bool
covered fs i = list_any (λ f. covers f i) fs
