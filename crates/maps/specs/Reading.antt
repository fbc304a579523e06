-- What reading a layout sheet answers.
use Rattle.std.specs.Prelude.{◌≡◌, ℕ, ◌+◌, ◌-◌, ◌*◌, ◌/◌, ◌%◌, ◌<◌, ◌≤◌, Bool, true, cond, ◌&&◌, ◌⊎◌, List, None, Ok, Err, Result, ◌==◌, nat_le}
use Rattle.format.specs.Laws.{format_fault}
use Rattle.maps.specs.Places.{band_of, first_of, no_band, size_of, valid}
use Rattle.maps.specs.Rules.{LayoutRules, tracks_of}
use Rattle.maps.specs.Sheets.{band_count, first_track, identified, layout_in, overflow_entry}
use Rattle.maps.specs.declared.bands.Layout.{Layout}
use Rattle.maps.specs.declared.bands.Purpose.{Purpose}
use Rattle.maps.specs.declared.maps.Maps.{Maps}
use Rattle.medium.specs.declared.faults.Fault.{Fault}
use Rattle.medium.specs.declared.faults.Refusal.TheVariants.{WrongSectorCount, BrokenLayout}

-- p sectors are those of the tracks -2 to n, where n is 8 to 19,999
abbrev pub fits_format : ℕ → Bool
fits_format p = p % 32 == 0 && (nat_le 352 p && nat_le p 640064)

abbrev pub last_track : ℕ → ℕ
last_track p = p / 32 - 3

-- a valid layout, or the refusal of the sheet
abbrev pub checked : Bool → Layout → Result Layout Fault
checked kept l = cond kept (Ok l) (Err (format_fault BrokenLayout 0))

abbrev pub given_layout : ℕ → List ℕ → Result Layout Fault
given_layout n d = checked (identified d && valid (layout_in n d)) (layout_in n d)

-- the number of sectors is tried first, and then the rules
abbrev pub reading_layout : ℕ → List ℕ → Result Layout Fault
reading_layout p d = cond (fits_format p) (given_layout (last_track p) d) (Err (format_fault WrongSectorCount 0))

-- the same in words: n is the last track of a medium of p sectors
pub record LastTrack (p n : ℕ) : Type 0 where
  pub low : 8 ≤ n
  pub high : n ≤ 19999
  pub sectors : p ≡ 32 * (n + 3)

-- l is the layout that the bytes d give to a medium whose last track is n
pub record LayoutGiven (n : ℕ) (d : List ℕ) (l : Layout) : Type 0 where
  pub last : l.last ≡ n
  pub count : l.count ≡ band_count d
  -- each area begins with the first sector of its first track, and has all sectors of its tracks
  pub first : (k : ℕ) (a : Purpose) → k < band_count d → 1 ≤ tracks_of d k a → first_of (band_of l k) a ≡ 32 * (first_track d k a + 2)
  pub size : (k : ℕ) (a : Purpose) → k < band_count d → 1 ≤ tracks_of d k a → size_of (band_of l k) a ≡ 32 * tracks_of d k a
  -- an overflow band has no prime area, and behind the last band stands none
  pub without_prime : (k : ℕ) → k < band_count d → overflow_entry d k ≡ true → (band_of l k).primes ≡ None
  pub no_more : (k : ℕ) → band_count d ≤ k → band_of l k ≡ no_band

-- the sheet was read: it keeps the rules, and this is its layout
pub record SheetRead (p : ℕ) (d : List ℕ) (m : Maps) : Type 0 where
  pub tracks : LastTrack p m.layout.last
  pub rules : LayoutRules m.layout.last d
  pub given : LayoutGiven m.layout.last d m.layout

-- it was refused: no last track gives so many sectors, or one does and a rule is broken
abbrev pub SheetRefused : ℕ → List ℕ → Fault → Type 0
SheetRefused p d f =
    ((f ≡ format_fault WrongSectorCount 0) × ((n : ℕ) → LastTrack p n → ⊥))
    ⊎ ((f ≡ format_fault BrokenLayout 0) × ((n : ℕ) × LastTrack p n × (LayoutRules n d → ⊥)))

-- the layout in an answer
abbrev pub layout_answer : Result Maps Fault → Result Layout Fault
layout_answer (Ok m) = Ok m.layout
layout_answer (Err f) = Err f
