-- What reading a sheet answers, for a medium of p sectors.
use Rattle.std.specs.Prelude.{◌≡◌, ℕ, Bool, true, false, cond, ◌⊎◌, List, Ok, Err, Result, refl}
use Rattle.format.specs.Laws.{format_fault}
use Rattle.medium.specs.declared.faults.Fault.{Fault}
use Rattle.medium.specs.declared.faults.Refusal.TheVariants.{BrokenLayout, WrongSectorCount}
use Rattle.pointers.specs.Places.{first_track}
use Rattle.pointers.specs.Rules.{LayoutRules, Sized, fits_format, last_track, layout_valid}
use Rattle.pointers.specs.Sheets.{Marked, layout_in, marked}
use Rattle.pointers.specs.declared.pointers.Pointers.{Pointers}

-- what a test that holds gives, or else x
abbrev pub given_that : {A : Type 0} (t : Bool) → (t ≡ true → A) → A → A
given_that true f x = f refl
given_that false f x = x

-- the refusal of a size that does not fit the format
abbrev pub wrong_size : Result Pointers Fault
wrong_size = Err (format_fault WrongSectorCount 0)

-- the refusal of a sheet that breaks a rule
abbrev pub broken_layout : Result Pointers Fault
broken_layout = Err (format_fault BrokenLayout 0)

-- the layout that the bytes give, for a medium of p sectors: its rules are tried, and then the bytes around it
abbrev pub layout_read : (p : ℕ) → List ℕ → fits_format p ≡ true → Result Pointers Fault
layout_read p d s =
    given_that (layout_valid (last_track p) (layout_in d)) (λ v. cond (marked (first_track (layout_in d)) d) (Ok (record { sectors = p; layout = layout_in d; sized = s; valid = v })) broken_layout) broken_layout

-- the size is tried first, and then the layout
abbrev pub sheet_read : ℕ → List ℕ → Result Pointers Fault
sheet_read p d = given_that (fits_format p) (layout_read p d) wrong_size

-- the sheet keeps every rule of the format on a medium with the last track n
abbrev pub SheetRules : ℕ → List ℕ → Type 0
SheetRules n d = LayoutRules n (layout_in d) × Marked (first_track (layout_in d)) d

-- the sheet was read: the layout is the one that its bytes give, and keeps the rules
pub record SheetRead (p : ℕ) (d : List ℕ) (f : Pointers) : Type 0 where
  pub size : f.sectors ≡ p
  pub sized : Sized p (last_track p)
  pub given : f.layout ≡ layout_in d
  pub rules : SheetRules (last_track p) d

-- it was refused, by the first of these that holds
abbrev pub SheetRefused : ℕ → List ℕ → Fault → Type 0
SheetRefused p d e =
    ((e ≡ format_fault WrongSectorCount 0) × ((n : ℕ) → Sized p n → ⊥))
    ⊎ ((e ≡ format_fault BrokenLayout 0) × ((n : ℕ) × Sized p n × (SheetRules n d → ⊥)))
