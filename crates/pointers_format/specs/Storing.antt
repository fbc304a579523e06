-- What storing a block burns, and whether it finds a place.
use Rattle.std.specs.Prelude.{◌≡◌, ℕ, Bool, true, false, cond, ◌||◌, ◌⊎◌, List, [], ◌∷◌, ◌++◌, length, ◌≢◌}
use mathlib.Core.List.{Memᴰ}
use Rattle.format.specs.Blocks.{blank_at}
use Rattle.format.specs.Sectors.{burnt_with, free, some_free}
use Rattle.medium.specs.Runs.{after_burns}
use Rattle.medium.specs.Sectors.{Sector, sector_at}
use Rattle.medium.specs.declared.runs.Burn.{Burn}
use Rattle.pointers.specs.Places.{home}
use Rattle.pointers.specs.Spares.{TriedBefore, spares_of}
use Rattle.pointers.specs.declared.layout.Layout.{Layout}
use Rattle.pointers_format.specs.Pointing.{home_tail, spare_tail}

-- whether a place is left to block b
unfoldable pub left : Layout → List Sector → ℕ → Bool
left l s b = free s (home l b) || some_free s (spares_of l b)

-- the block in its home, and in a spare for the home h
abbrev pub home_burn : Layout → ℕ → List ℕ → Burn
home_burn l b bytes = record { sector = home l b; image = bytes ++ home_tail (home l b) (spares_of l b) }

abbrev pub spare_burn : ℕ → List ℕ → ℕ → Burn
spare_burn h bytes p = record { sector = p; image = bytes ++ spare_tail p h }

-- the blank ones among some spares, in their order, up to the first that is sound
abbrev pub spare_burns : List Sector → ℕ → List ℕ → List ℕ → List Burn
spare_burns s h bytes [] = []
spare_burns s h bytes (p ∷ ps) =
    cond (blank_at s p) (spare_burn h bytes p ∷ cond (sector_at s p).weak (spare_burns s h bytes ps) []) (spare_burns s h bytes ps)

-- the burns in order: the home, and where that is weak, spares
unfoldable pub storing_burns : Layout → List Sector → ℕ → List ℕ → List Burn
storing_burns l s b bytes =
    home_burn l b bytes ∷ cond (sector_at s (home l b)).weak (spare_burns s (home l b) bytes (spares_of l b)) []

-- what they leave
unfoldable pub stored : Layout → List Sector → ℕ → List ℕ → List Sector
stored l s b bytes = after_burns s (storing_burns l s b bytes)

-- spare i is burnt for block b: the home is weak, the spare is blank, and no blank spare that is tried before it is sound
pub record SpareBurnt (l : Layout) (s : List Sector) (b i : ℕ) : Type 0 where
  pub home_weak : (sector_at s (home l b)).weak ≡ true
  pub spare : Memᴰ i (spares_of l b)
  pub blank : blank_at s i ≡ true
  pub none_before : (q : ℕ) → TriedBefore l b q i → free s q ≡ false

-- a place for block b: its home or one of its spares, blank and sound
pub record Place (l : Layout) (s : List Sector) (b p : ℕ) : Type 0 where
  pub serves : (p ≡ home l b) ⊎ Memᴰ p (spares_of l b)
  pub blank : blank_at s p ≡ true
  pub sound : (sector_at s p).weak ≡ false

-- storing block b took the sectors s to t
pub record StoredSectors (l : Layout) (s : List Sector) (b : ℕ) (bytes : List ℕ) (t : List Sector) : Type 0 where
  pub as_many : length t ≡ length s
  pub home_burnt : sector_at t (home l b) ≡ burnt_with s (home l b) (bytes ++ home_tail (home l b) (spares_of l b))
  pub spare_burnt : (i : ℕ) → SpareBurnt l s b i → sector_at t i ≡ burnt_with s i (bytes ++ spare_tail i (home l b))
  pub others : (i : ℕ) → (i ≢ home l b) → (SpareBurnt l s b i → ⊥) → sector_at t i ≡ sector_at s i
