-- Which spares stand for which homes.
use Rattle.std.specs.Prelude.{◌≡◌, ℕ, ◌<◌, Bool, true, false, cond, not, ◌&&◌, ◌||◌, List, [], ◌∷◌, drop, Some, None, Option, ◌==◌, ◌≢◌, slice_set}
use Rattle.format.specs.Blocks.{Link, sound_at, spoiled_at}
use Rattle.format.specs.Sectors.{image_at}
use Rattle.medium.specs.Sectors.{Sector}
use Rattle.pointers.specs.Places.{Spare}
use Rattle.pointers.specs.Spares.{MayReplace, all_spares, may_replace}
use Rattle.pointers.specs.declared.layout.Layout.{Layout}
use Rattle.pointers_format.specs.Pointing.{spare_tail, target}
use Rattle.std.specs.Str.{bytes_eq}

-- the home that spare p names
unfoldable pub named_by : List Sector → ℕ → ℕ
named_by s p = target (image_at s p)

-- the links of the sound ones among some spares
abbrev pub links_among : List Sector → List ℕ → List Link
links_among s [] = []
links_among s (p ∷ ps) =
    cond (sound_at s p) (record { home = named_by s p; spare = p } ∷ links_among s ps) (links_among s ps)

-- the sound spare p names the home h
unfoldable pub names : List Sector → ℕ → ℕ → Bool
names s p h = sound_at s p && named_by s p == h

-- the links that stand: each sound spare is one
unfoldable pub links : Layout → List Sector → List Link
links l s = links_among s (all_spares l)

-- the sound spare p is a valid link to the home h
pub record LinkValid (l : Layout) (s : List Sector) (p h : ℕ) : Type 0 where
  -- it points to itself and twice to h
  pub pointers : drop 512 (image_at s p) ≡ spare_tail p h
  -- h is the home of a block whose spare it is, and is spoiled
  pub stands_for : MayReplace l p h
  pub spoiled : spoiled_at s h ≡ true
  -- no lower spare names h
  pub first : (q : ℕ) → Spare l q → q < p → sound_at s q ≡ true → named_by s q ≢ h

-- spare p is sound, and a valid link to no home
pub record LinkFaulty (l : Layout) (s : List Sector) (p : ℕ) : Type 0 where
  pub spare : Spare l p
  pub sound : sound_at s p ≡ true
  pub invalid : (h : ℕ) → LinkValid l s p h → ⊥

-- the test of a sound spare by itself
unfoldable pub points_well : Layout → List Sector → ℕ → Bool
points_well l s p =
    may_replace l p (named_by s p) && (bytes_eq (drop 512 (image_at s p)) (spare_tail p (named_by s p)) && spoiled_at s (named_by s p))

abbrev pub has : List ℕ → ℕ → Bool
has [] h = false
has (x ∷ xs) h = x == h || has xs h

-- the test of a spare, where `taken` says whether a lower one names its home
abbrev pub passes_unless : Layout → List Sector → Bool → ℕ → Bool
passes_unless l s taken p = cond (sound_at s p) (points_well l s p && not taken) true

-- the test of a spare, where lower ones name the homes in taken
abbrev pub passes : Layout → List Sector → List ℕ → ℕ → Bool
passes l s taken p = passes_unless l s (has taken (named_by s p)) p

-- the homes that are named once spare p was seen too
abbrev pub taken_with : List Sector → List ℕ → ℕ → List ℕ
taken_with s taken p = cond (sound_at s p) (named_by s p ∷ taken) taken

-- the first of some spares that does not pass
abbrev pub faulty_among : Layout → List Sector → List ℕ → List ℕ → Option ℕ
faulty_among l s taken [] = None
faulty_among l s taken (p ∷ ps) = cond (passes l s taken p) (faulty_among l s (taken_with s taken p) ps) (Some p)

-- the first faulty spare of a layout, by number
unfoldable pub faulty : Layout → List Sector → Option ℕ
faulty l s = faulty_among l s [] (all_spares l)

-- marks, one for each sector: that of the home which spare p names is set
abbrev pub marks_with : List Sector → List Bool → ℕ → List Bool
marks_with s marks p = cond (sound_at s p) (slice_set marks (named_by s p) true) marks
