-- Single sectors and lists of them, as formats look at them.
use Rattle.std.specs.Prelude.{◌≡◌, ℕ, suc, ◌<◌, Bool, true, false, cond, not, ◌&&◌, ◌||◌, List, [], ◌∷◌, length, Some, None, Option, option_map}
use mathlib.Core.List.{Memᴰ}
use Rattle.format.specs.Blocks.{blank_at, image_of, sound_at, spoiled_at}
use Rattle.medium.specs.Sectors.{Sector, burnt, is_blank, sector_at}
use Rattle.medium.specs.declared.interface.Reading.{Reading}
use Rattle.medium.specs.declared.interface.Reading.TheVariants.{Blank, Spoiled, Sound}
use Rattle.medium.specs.declared.runs.Burn.{Burn}

-- the bytes of a sector
abbrev pub image_at : List Sector → ℕ → List ℕ
image_at s i = image_of (sector_at s i).state

-- what sector i shows to a reader is r
abbrev pub shows : List Sector → ℕ → Reading → Bool
shows s i Blank = blank_at s i
shows s i Spoiled = spoiled_at s i
shows s i Sound = sound_at s i

-- the bytes of sector i, if it is sound
abbrev pub sound_image : List Sector → ℕ → Option (List ℕ)
sound_image s i = cond (sound_at s i) (Some (image_at s i)) None

-- sector i burnt with these bytes, and as weak as it is
abbrev pub burnt_with : List Sector → ℕ → List ℕ → Sector
burnt_with s i image = record { weak = (sector_at s i).weak; state = burnt image }

-- blank, and not weak
abbrev pub free : List Sector → ℕ → Bool
free s i = blank_at s i && not (sector_at s i).weak

abbrev pub some_free : List Sector → List ℕ → Bool
some_free s [] = false
some_free s (i ∷ is) = free s i || some_free s is

-- the first sound one among some sectors
abbrev pub first_sound : List Sector → List ℕ → Option ℕ
first_sound s [] = None
first_sound s (i ∷ is) = cond (sound_at s i) (Some i) (first_sound s is)

-- that one with its bytes
abbrev pub sound_copy : List Sector → List ℕ → Option (ℕ × List ℕ)
sound_copy s is = option_map (λ i. (i, image_at s i)) (first_sound s is)

-- the burns of one image into some sectors, in their order
abbrev pub copy_burns : List ℕ → List ℕ → List Burn
copy_burns image [] = []
copy_burns image (i ∷ is) = record { sector = i; image = image } ∷ copy_burns image is

-- no number stands twice
abbrev pub Apart : List ℕ → Type 0
Apart [] = Unit {0}
Apart (x ∷ xs) = (Memᴰ x xs → ⊥) × Apart xs

-- sectors that a medium has, each blank
abbrev pub AllBlank : List Sector → List ℕ → Type 0
AllBlank s is = (i : ℕ) → Memᴰ i is → (i < length s) × (blank_at s i ≡ true)

abbrev pub AllInside : List Sector → List ℕ → Type 0
AllInside s is = (i : ℕ) → Memᴰ i is → i < length s

-- the lowest burnt one of the sectors that are numbered from i on
abbrev pub lowest_from : ℕ → List Sector → Option ℕ
lowest_from i [] = None
lowest_from i (x ∷ xs) = cond (is_blank x.state) (lowest_from (suc i) xs) (Some i)
