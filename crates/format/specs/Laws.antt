-- What every format promises of a medium that mounts, and of storing a block there.
use Rattle.std.specs.Prelude.{◌≡◌, ℕ, ◌<◌, Bool, true, false, cond, List, length, Some, Ok, Err, Result, ◌==◌, ◌≢◌}
use mathlib.Core.List.{Memᴰ}
use Rattle.format.specs.Blocks.{Link, blank_at, block_in, held, lost, resting, sound_at, spoiled_at, standing}
use Rattle.medium.specs.Faults.{fault_of}
use Rattle.medium.specs.Sectors.{Sector}
use Rattle.medium.specs.declared.faults.Fault.{Fault}
use Rattle.medium.specs.declared.faults.Layer.TheVariants.{Format}
use Rattle.medium.specs.declared.faults.Refusal.{Refusal}
use Rattle.medium.specs.declared.faults.Refusal.TheVariants.{NoPlaceLeft, WrongSectorCount}

-- a refusal that the format finds
abbrev pub format_fault : Refusal → ℕ → Fault
format_fault = fault_of Format

-- n blocks with their homes, and the links that stand on the sectors s
pub record LinksSound (s : List Sector) (n : ℕ) (home : ℕ → ℕ) (links : List Link) : Type 0 where
  -- two blocks have two homes, and each lies on the medium
  pub homes_inside : (b : ℕ) → b < n → home b < length s
  pub homes_apart : (b c : ℕ) → b < n → c < n → home b ≡ home c → b ≡ c
  -- a link is of some block's home, and no home is a spare
  pub of_a_block : (x : Link) → Memᴰ x links → (b : ℕ) × (b < n) × (home b ≡ x.home)
  pub no_home_a_spare : (x : Link) (b : ℕ) → Memᴰ x links → b < n → home b ≢ x.spare
  -- no home and no spare stands in two links
  pub home_once : (x y : Link) → Memᴰ x links → Memᴰ y links → x.home ≡ y.home → x ≡ y
  pub spare_once : (x y : Link) → Memᴰ x links → Memᴰ y links → x.spare ≡ y.spare → x ≡ y
  -- the home of a link cannot be read, and its spare can
  pub spoiled_home : (x : Link) → Memᴰ x links → spoiled_at s x.home ≡ true
  pub sound_spare : (x : Link) → Memᴰ x links → sound_at s x.spare ≡ true

-- every home is blank
abbrev pub HomesBlank : List Sector → ℕ → (ℕ → ℕ) → Type 0
HomesBlank s n home = (b : ℕ) → b < n → blank_at s (home b) ≡ true

-- storing block b took the sectors s with the links ls to t with the links ms; `left` says whether a place was left to it
pub record StoringResult (s t : List Sector) (n : ℕ) (home : ℕ → ℕ) (ls ms : List Link) (b : ℕ) (bytes : List ℕ) (left : Bool) : Type 0 where
  -- with a place left it is held, and the sector where it rests has the bytes given
  pub accepted : left ≡ true → (p : ℕ) × (resting t ms (home b) ≡ Some p) × (block_in t p ≡ bytes)
  pub then_held : left ≡ true → standing t ms (home b) ≡ held
  -- with none it is lost: its home is spoiled and unlinked
  pub refused : left ≡ false → standing t ms (home b) ≡ lost
  -- no other block's standing, resting sector or bytes are changed
  pub others_stand : (c : ℕ) → c < n → (c ≢ b) → standing t ms (home c) ≡ standing s ls (home c)
  pub others_rest : (c : ℕ) → c < n → (c ≢ b) → resting t ms (home c) ≡ resting s ls (home c)
  pub others_hold : (c p : ℕ) → c < n → (c ≢ b) → resting s ls (home c) ≡ Some p → block_in t p ≡ block_in s p

-- what storing answers: accepted where a place is left, else refusal 14 at the block
abbrev pub storing : Bool → ℕ → Result (Unit {0}) Fault
storing left b = cond left (Ok tt) (Err (format_fault NoPlaceLeft b))

-- a layout for p sectors on a medium with the sectors s: refused by 6 where s has another number of them
abbrev pub on_its_medium : {X : Type 0} → ℕ → List Sector → Result X Fault → Result X Fault
on_its_medium p s r = cond (length s == p) r (Err (format_fault WrongSectorCount 0))

-- and then nothing is burnt
abbrev pub stored_on : ℕ → List Sector → List Sector → List Sector
stored_on p s t = cond (length s == p) t s
