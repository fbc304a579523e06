-- The spares of a block in the order in which they are tried, and all spares of a layout in rising order.
use Rattle.std.specs.Prelude.{◌≡◌, ℕ, zero, suc, ◌+◌, ◌-◌, ◌*◌, ◌/◌, ◌%◌, ◌<◌, Bool, cond, ◌&&◌, ◌||◌, ◌⊎◌, List, [], ◌++◌, ◌==◌, nat_le, nat_lt}
use mathlib.Core.List.{Memᴰ}
use Rattle.medium.specs.Order.{Rising}
use Rattle.pointers.specs.Places.{Spare, blocks, data_start, home, primaries, secondaries, width}
use Rattle.pointers.specs.declared.layout.Layout.{Layout}

-- the spares of block b: those of its group, and then the secondary ones
unfoldable pub spares_of : Layout → ℕ → List ℕ
spares_of l b = primaries l (b / l.homes) ++ secondaries l

-- the spares of the first k groups
abbrev pub group_spares : Layout → ℕ → List ℕ
group_spares l zero = []
group_spares l (suc k) = group_spares l k ++ primaries l k

-- every spare: a secondary area from track 3 on comes before the groups, any other behind them
unfoldable pub all_spares : Layout → List ℕ
all_spares l =
    cond (l.start == 3) (secondaries l ++ group_spares l l.groups) (group_spares l l.groups ++ secondaries l)

-- p and q are spares of block b, and p is tried before q: it is one of the group where q is not, or it is lower
abbrev pub TriedBefore : Layout → ℕ → ℕ → ℕ → Type 0
TriedBefore l b p q =
    (Memᴰ p (primaries l (b / l.homes)) × Memᴰ q (secondaries l))
    ⊎ ((p < q) × ((Memᴰ p (primaries l (b / l.homes)) × Memᴰ q (primaries l (b / l.homes))) ⊎ (Memᴰ p (secondaries l) × Memᴰ q (secondaries l))))

-- spare p may stand for the home h: it is a spare of the block that has its home there
abbrev pub MayReplace : Layout → ℕ → ℕ → Type 0
MayReplace l p h = (b : ℕ) × (b < blocks l) × (home l b ≡ h) × Memᴰ p (spares_of l b)

-- the test whether sector h is a home
unfoldable pub is_home : Layout → ℕ → Bool
is_home l h =
    nat_le (data_start l) h && (nat_lt ((h - data_start l) / width l) l.groups && nat_lt ((h - data_start l) % width l) l.homes)

-- the test whether sector p is a secondary spare
unfoldable pub is_secondary : Layout → ℕ → Bool
is_secondary l p = nat_le (31 * l.start) p && nat_lt p (31 * l.start + l.secondary)

-- the test whether spare p serves the group of sector h: a secondary one does, and one of that group
abbrev pub serves : Layout → ℕ → ℕ → Bool
serves l p h = is_secondary l p || (p - data_start l) / width l == (h - data_start l) / width l

-- the test whether spare p may stand for h: a home, and of the spare's group unless that is a secondary one
unfoldable pub may_replace : Layout → ℕ → ℕ → Bool
may_replace l p h = is_home l h && serves l p h

-- what the lists are
pub record SparesListed (l : Layout) : Type 0 where
  -- all spares, each once, in rising order
  pub rising : Rising (all_spares l)
  pub each : (p : ℕ) → Spare l p → Memᴰ p (all_spares l)
  pub only : (p : ℕ) → Memᴰ p (all_spares l) → Spare l p
  -- those of a block are among them
  pub of_block : (b p : ℕ) → b < blocks l → Memᴰ p (spares_of l b) → Memᴰ p (all_spares l)
