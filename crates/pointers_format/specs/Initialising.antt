-- What initialising answers, and what it leaves.
use Rattle.std.specs.Prelude.{◌≡◌, ℕ, true, false, cond, ◌⊎◌, List, length, Some, None, Ok, Err, Option, Result}
use mathlib.Core.List.{Memᴰ}
use Rattle.format.specs.Laws.{format_fault}
use Rattle.format.specs.Sectors.{burnt_with, copy_burns, lowest_from, some_free}
use Rattle.medium.specs.Blank.{LowestBurnt}
use Rattle.medium.specs.Runs.{after_burns}
use Rattle.medium.specs.Sectors.{Sector, sector_at}
use Rattle.medium.specs.declared.faults.Fault.{Fault}
use Rattle.medium.specs.declared.faults.Refusal.TheVariants.{LayoutNotBurnt, NotBlank}
use Rattle.pointers.specs.Reading.{SheetRead, SheetRefused, sheet_read}
use Rattle.pointers.specs.Rules.{last_track}
use Rattle.pointers.specs.declared.pointers.Pointers.{Pointers}
use Rattle.pointers_format.specs.Copies.{copies, copy_image}
use Rattle.pointers_format.specs.declared.format_a.FormatA.{FormatA}

-- the sectors with every copy burnt
unfoldable pub with_copies : Pointers → List Sector → List Sector
with_copies g s = after_burns s (copy_burns (copy_image g.layout) (copies (last_track g.sectors)))

abbrev pub begun_on : List Sector → Pointers → Option ℕ → Result FormatA Fault
begun_on s g (Some i) = Err (format_fault NotBlank i)
begun_on s g None =
    cond (some_free s (copies (last_track g.sectors))) (Ok (record { geometry = g })) (Err (format_fault LayoutNotBurnt 0))

abbrev pub begun : List Sector → Result Pointers Fault → Result FormatA Fault
begun s (Err e) = Err e
begun s (Ok g) = begun_on s g (lowest_from 0 s)

-- the sheet, then a burnt sector, and then the verdicts on the copies
unfoldable pub initialising : List Sector → List ℕ → Result FormatA Fault
initialising s d = begun s (sheet_read (length s) d)

abbrev pub left_on : List Sector → Pointers → Option ℕ → List Sector
left_on s g (Some i) = s
left_on s g None = with_copies g s

abbrev pub left_by : List Sector → Result Pointers Fault → List Sector
left_by s (Err e) = s
left_by s (Ok g) = left_on s g (lowest_from 0 s)

unfoldable pub initialised : List Sector → List ℕ → List Sector
initialised s d = left_by s (sheet_read (length s) d)

-- the sheet d gave the geometry g, the sectors s were blank, and t is s with every copy burnt
pub record CopiesBurnt (s : List Sector) (d : List ℕ) (g : Pointers) (t : List Sector) : Type 0 where
  pub given : SheetRead (length s) d g
  pub blank : LowestBurnt s None
  pub copy : (i : ℕ) → Memᴰ i (copies (last_track (length s))) → sector_at t i ≡ burnt_with s i (copy_image g.layout)
  pub others : (i : ℕ) → (Memᴰ i (copies (last_track (length s))) → ⊥) → sector_at t i ≡ sector_at s i

-- initialising took the sectors s to t and made f
abbrev pub Initialised : List Sector → List ℕ → List Sector → FormatA → Type 0
Initialised s d t f =
    CopiesBurnt s d f.geometry t × ((i : ℕ) × Memᴰ i (copies (last_track (length s))) × ((sector_at s i).weak ≡ false))

-- it was refused, by the first of these that holds
abbrev pub InitialiseRefused : List Sector → List ℕ → List Sector → Fault → Type 0
InitialiseRefused s d t e =
    ((t ≡ s) × SheetRefused (length s) d e)
    ⊎ (((t ≡ s) × ((i : ℕ) × (e ≡ format_fault NotBlank i) × LowestBurnt s (Some i)))
    ⊎ ((e ≡ format_fault LayoutNotBurnt 0) × ((g : Pointers) × CopiesBurnt s d g t) × ((i : ℕ) → Memᴰ i (copies (last_track (length s))) → (sector_at s i).weak ≡ true)))
