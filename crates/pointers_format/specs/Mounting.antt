-- What mounting answers.
use Rattle.std.specs.Prelude.{◌≡◌, ℕ, ◌<◌, true, cond, ◌⊎◌, List, length, take, Some, None, Ok, Err, Option, Result, ◌≢◌}
use mathlib.Core.List.{Memᴰ}
use Rattle.format.specs.Blocks.{sound_at}
use Rattle.format.specs.Laws.{format_fault}
use Rattle.format.specs.Sectors.{first_sound, image_at}
use Rattle.medium.specs.Sectors.{Sector}
use Rattle.medium.specs.declared.faults.Fault.{Fault}
use Rattle.medium.specs.declared.faults.Refusal.TheVariants.{BrokenLayout, FaultyLink, NoSoundLayout, WrongSectorCount}
use Rattle.pointers.specs.Places.{Spare}
use Rattle.pointers.specs.Reading.{SheetRead, SheetRules, sheet_read}
use Rattle.pointers.specs.Rules.{Sized, fits_format, last_track}
use Rattle.pointers.specs.declared.pointers.Pointers.{Pointers}
use Rattle.pointers_format.specs.Copies.{copies}
use Rattle.pointers_format.specs.Linking.{LinkFaulty, LinkValid, faulty, links}
use Rattle.pointers_format.specs.declared.format_a.FormatA.{FormatA}

-- the sheet in sector p
abbrev pub sheet_at : List Sector → ℕ → List ℕ
sheet_at s p = take 512 (image_at s p)

-- the first sound copy on a medium of this size
abbrev pub first_copy : List Sector → Option ℕ
first_copy s = first_sound s (copies (last_track (length s)))

abbrev pub read_at : List Sector → Option ℕ → Result Pointers Fault
read_at s None = Err (format_fault NoSoundLayout 0)
read_at s (Some p) = sheet_read (length s) (sheet_at s p)

-- the geometry of a medium, by its first sound copy
unfoldable pub geometry_of : List Sector → Result Pointers Fault
geometry_of s = cond (fits_format (length s)) (read_at s (first_copy s)) (Err (format_fault WrongSectorCount 0))

-- what the check of the links answers
abbrev pub links_checked : Option ℕ → Result (Unit {0}) Fault
links_checked None = Ok tt
links_checked (Some p) = Err (format_fault FaultyLink p)

abbrev pub unless_faulty : Pointers → Result (Unit {0}) Fault → Result FormatA Fault
unless_faulty g (Ok x) = Ok (record { geometry = g })
unless_faulty g (Err e) = Err e

abbrev pub checked : List Sector → Result Pointers Fault → Result FormatA Fault
checked s (Ok g) = unless_faulty g (links_checked (faulty g.layout s))
checked s (Err e) = Err e

-- the size, a sound copy, its sheet, and then the links
unfoldable pub mounting : List Sector → Result FormatA Fault
mounting s = checked s (geometry_of s)

-- the medium mounts as f: the first sound copy gives f, and each sound spare is a valid link, which stands
pub record Mounted (s : List Sector) (f : FormatA) : Type 0 where
  pub sheet : (p : ℕ) × (first_copy s ≡ Some p) × SheetRead (length s) (sheet_at s p) f.geometry
  pub linked : (p : ℕ) → Spare f.geometry.layout p → sound_at s p ≡ true → (h : ℕ) × LinkValid f.geometry.layout s p h × Memᴰ (record { home = h; spare = p }) (links f.geometry.layout s)

-- no format has such a size
abbrev pub RefusedBy6 : List Sector → Type 0
RefusedBy6 s = (n : ℕ) → Sized (length s) n → ⊥

-- no copy is sound
abbrev pub RefusedBy7 : List Sector → Type 0
RefusedBy7 s = Sized (length s) (last_track (length s)) × ((p : ℕ) → Memᴰ p (copies (last_track (length s))) → sound_at s p ≢ true)

-- the first sound copy breaks a rule
abbrev pub RefusedBy8 : List Sector → Type 0
RefusedBy8 s = Sized (length s) (last_track (length s)) × ((p : ℕ) × (first_copy s ≡ Some p) × (SheetRules (last_track (length s)) (sheet_at s p) → ⊥))

-- p is the lowest faulty spare
abbrev pub RefusedBy11 : List Sector → ℕ → Type 0
RefusedBy11 s p =
    (g : Pointers) × (geometry_of s ≡ Ok g) × LinkFaulty g.layout s p × ((q : ℕ) → q < p → LinkFaulty g.layout s q → ⊥)

-- why mounting was refused
abbrev pub MountRefused : List Sector → Fault → Type 0
MountRefused s e =
    ((e ≡ format_fault WrongSectorCount 0) × RefusedBy6 s)
    ⊎ (((e ≡ format_fault NoSoundLayout 0) × RefusedBy7 s)
    ⊎ (((e ≡ format_fault BrokenLayout 0) × RefusedBy8 s)
    ⊎ ((p : ℕ) × (e ≡ format_fault FaultyLink p) × RefusedBy11 s p)))
