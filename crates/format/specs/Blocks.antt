-- What a block is to its reader, for every format: how it stands, where it rests and what it holds.
-- All of it follows from the block's home, the links that stand, and the sectors.
use Rattle.std.specs.Prelude.{ℕ, Bool, true, false, cond, not, ◌&&◌, List, [], ◌∷◌, take, Some, None, Option, ◌==◌}
use Rattle.medium.specs.Sectors.{Sector, State, blank, burnt, is_blank, sector_at}

-- a spoiled home, and the spare that holds its block
pub record Link : Type 0 where
  pub home : ℕ
  pub spare : ℕ

pub data Standing : Type 0 where
  unwritten : Standing
  held : Standing
  lost : Standing

abbrev pub blank_at : List Sector → ℕ → Bool
blank_at s i = is_blank (sector_at s i).state

-- burnt and sound
abbrev pub sound_at : List Sector → ℕ → Bool
sound_at s i = not (blank_at s i) && not (sector_at s i).weak

-- burnt and weak
abbrev pub spoiled_at : List Sector → ℕ → Bool
spoiled_at s i = not (blank_at s i) && (sector_at s i).weak

-- the spare that is linked to the home h, if one is
abbrev pub spare_of : List Link → ℕ → Option ℕ
spare_of [] h = None
spare_of (x ∷ xs) h = cond (x.home == h) (Some x.spare) (spare_of xs h)

-- a block rests in its home if that is sound, and else in the spare that is linked to it
abbrev pub resting : List Sector → List Link → ℕ → Option ℕ
resting s links h = cond (sound_at s h) (Some h) (spare_of links h)

abbrev pub standing_by : Bool → Option ℕ → Standing
standing_by true r = unwritten
standing_by false (Some p) = held
standing_by false None = lost

-- a blank home: unwritten; a burnt home and a resting sector: held; a burnt home and none: lost
abbrev pub standing : List Sector → List Link → ℕ → Standing
standing s links h = standing_by (blank_at s h) (resting s links h)

abbrev pub image_of : State → List ℕ
image_of blank = []
image_of (burnt image) = image

-- the block in sector p: its first 512 bytes
abbrev pub block_in : List Sector → ℕ → List ℕ
block_in s p = take 512 (image_of (sector_at s p).state)
