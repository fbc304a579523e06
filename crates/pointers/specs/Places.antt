-- Where the homes and the spares of a layout lie, by sector numbers. A track has 31 sectors; `range_with_len a k` is k numbers from a on.
use Rattle.std.specs.Prelude.{◌≡◌, ℕ, ◌+◌, ◌-◌, ◌*◌, ◌/◌, ◌%◌, ◌<◌, ◌≤◌, cond, ◌⊎◌, List, ◌==◌}
use Rattle.std.specs.List.{range_with_len}
use mathlib.Core.List.{Memᴰ}
use Rattle.pointers.specs.declared.layout.Layout.{Layout}

-- the first track of the data zone: behind the secondary area, where that starts at track 3
abbrev pub first_track : Layout → ℕ
first_track l = cond (l.start == 3) (3 + l.secondary / 31) 3

-- the first sector of the data zone
unfoldable pub data_start : Layout → ℕ
data_start l = 31 * first_track l

-- how many sectors a group takes
abbrev pub width : Layout → ℕ
width l = l.homes + l.spares

-- the first sector of group a
abbrev pub group_start : Layout → ℕ → ℕ
group_start l a = data_start l + a * width l

-- the first sector behind the groups
abbrev pub groups_end : Layout → ℕ
groups_end l = group_start l l.groups

-- how many blocks there are
unfoldable pub blocks : Layout → ℕ
blocks l = l.groups * l.homes

-- the home of block b
unfoldable pub home : Layout → ℕ → ℕ
home l b = data_start l + (b / l.homes * width l + b % l.homes)

-- the spares of group a, which follow its homes
unfoldable pub primaries : Layout → ℕ → List ℕ
primaries l a = range_with_len (data_start l + (a * width l + l.homes)) l.spares

-- the secondary spares, which serve every group
unfoldable pub secondaries : Layout → List ℕ
secondaries l = range_with_len (31 * l.start) l.secondary

-- p is a spare: of one of the groups, or a secondary one
abbrev pub Spare : Layout → ℕ → Type 0
Spare l p = ((a : ℕ) × (a < l.groups) × Memᴰ p (primaries l a)) ⊎ Memᴰ p (secondaries l)

-- the places of a layout on a medium with the last track n
pub record PlacesSound (n : ℕ) (l : Layout) : Type 0 where
  -- homes and spares lie behind the first two copies of the layout, and before the last two
  pub home_inside : (b : ℕ) → b < blocks l → (93 ≤ home l b) × (home l b < 31 * (n - 2))
  pub spare_inside : (p : ℕ) → Spare l p → (93 ≤ p) × (p < 31 * (n - 2))
  -- no two blocks have the same home
  pub homes_differ : (a b : ℕ) → a < blocks l → b < blocks l → home l a ≡ home l b → a ≡ b
  -- no home is a spare
  pub no_spare : (b : ℕ) → b < blocks l → Spare l (home l b) → ⊥
  -- no two groups share a spare, and none has a secondary one
  pub spares_differ : (a b p : ℕ) → Memᴰ p (primaries l a) → Memᴰ p (primaries l b) → a ≡ b
  pub kinds_differ : (a p : ℕ) → a < l.groups → Memᴰ p (primaries l a) → Memᴰ p (secondaries l) → ⊥
