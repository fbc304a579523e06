-- What reading and burning a sector answer, and what they leave.
use Rattle.std.specs.Prelude.{ℕ, Bool, true, false, cond, ◌&&◌, List, length, Ok, Err, Result, ◌==◌, nat_lt, slice_set}
use Rattle.medium.specs.Faults.{medium_fault}
use Rattle.medium.specs.Sectors.{Sector, State, blank, burnt, is_blank, sector_at}
use Rattle.medium.specs.declared.faults.Fault.{Fault}
use Rattle.medium.specs.declared.faults.Refusal.TheVariants.{WrongLength, NoSuchSector, AlreadyBurnt}
use Rattle.medium.specs.declared.interface.Reading.{Reading}
use Rattle.medium.specs.declared.interface.Reading.TheVariants.{Blank, Spoiled, Sound}
use Rattle.medium.specs.declared.interface.Verdict.{Verdict}
use Rattle.medium.specs.declared.interface.Verdict.TheVariants.{Weak, Sound as FoundSound}

-- an image of `len` bytes is a sector's, and sector i is one of the first p
abbrev pub reaches : ℕ → ℕ → ℕ → Bool
reaches p i len = len == 524 && nat_lt i p

-- the fault where it is not so: a wrong length is told first
abbrev pub unreached : ℕ → ℕ → Fault
unreached i len = cond (len == 524) (medium_fault NoSuchSector i) (medium_fault WrongLength 0)

-- refused unless the call reaches its sector; then it answers r
abbrev pub reach_or : {X : Type 0} → ℕ → ℕ → ℕ → Result X Fault → Result X Fault
reach_or p i len r = cond (reaches p i len) r (Err (unreached i len))

-- the test alone
abbrev pub reaching : ℕ → ℕ → ℕ → Result (Unit {0}) Fault
reaching p i len = reach_or p i len (Ok tt)

-- what a sector shows to a reader
abbrev pub shown : Bool → State → Reading
shown weak blank = Blank
shown true (burnt image) = Spoiled
shown false (burnt image) = Sound

-- what a reader's image then holds: the bytes of a sound sector, else what it held
abbrev pub filled : Bool → State → List ℕ → List ℕ
filled weak blank old = old
filled true (burnt image) old = old
filled false (burnt image) old = image

abbrev pub reading : List Sector → ℕ → ℕ → Result Reading Fault
reading s i len = reach_or (length s) i len (Ok (shown (sector_at s i).weak (sector_at s i).state))

abbrev pub image_after : List Sector → ℕ → List ℕ → List ℕ
image_after s i old = cond (reaches (length s) i (length old)) (filled (sector_at s i).weak (sector_at s i).state old) old

abbrev pub verdict : Bool → Verdict
verdict true = Weak
verdict false = FoundSound

-- only a blank sector can be burnt
abbrev pub burning : List Sector → ℕ → ℕ → Result Verdict Fault
burning s i len =
    reach_or (length s) i len (cond (is_blank (sector_at s i).state) (Ok (verdict (sector_at s i).weak)) (Err (medium_fault AlreadyBurnt i)))

-- sector i burnt with the image; it is as weak as it was, and no other sector is touched
abbrev pub with_burnt : List Sector → ℕ → List ℕ → List Sector
with_burnt s i image = slice_set s i (record { weak = (sector_at s i).weak; state = burnt image })

abbrev pub sectors_after : List Sector → ℕ → List ℕ → List Sector
sectors_after s i image =
    cond (reaches (length s) i (length image)) (cond (is_blank (sector_at s i).state) (with_burnt s i image) s) s
