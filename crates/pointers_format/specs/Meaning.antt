-- The format by its meanings: what the calls of the interface speak of.
use Rattle.std.specs.Prelude.{◌≡◌, ℕ, Bool, List, length, Ok, Err, Result, ◌≢◌}
use Rattle.format.specs.Blocks.{Link}
use Rattle.format.specs.Laws.{format_fault}
use Rattle.medium.specs.Sectors.{Sector}
use Rattle.medium.specs.declared.faults.Fault.{Fault}
use Rattle.medium.specs.declared.faults.Refusal.TheVariants.{NoPlaceLeft, WrongSectorCount}
use Rattle.pointers.specs.Places.{blocks, home}
use Rattle.pointers_format.specs.Linking.{links}
use Rattle.pointers_format.specs.Storing.{Place, StoredSectors, left, stored}
use Rattle.pointers_format.specs.declared.format_a.FormatA.{FormatA}

abbrev pub size_of : FormatA → ℕ
size_of f = f.geometry.sectors

abbrev pub blocks_of : FormatA → ℕ
blocks_of f = blocks f.geometry.layout

abbrev pub home_of : FormatA → ℕ → ℕ
home_of f b = home f.geometry.layout b

abbrev pub links_of : FormatA → List Sector → List Link
links_of f s = links f.geometry.layout s

abbrev pub left_of : FormatA → List Sector → ℕ → Bool
left_of f s b = left f.geometry.layout s b

abbrev pub stored_of : FormatA → List Sector → ℕ → List ℕ → List Sector
stored_of f s b bytes = stored f.geometry.layout s b bytes

-- storing block b took the sectors s to t, and answered r
pub record BlockStored (f : FormatA) (s : List Sector) (b : ℕ) (bytes : List ℕ) (r : Result (Unit {0}) Fault) (t : List Sector) : Type 0 where
  -- on a medium of the layout's size: which sectors are burnt, with which bytes
  pub sectors : length s ≡ size_of f → StoredSectors f.geometry.layout s b bytes t
  -- accepted exactly if a place was left
  pub accepted : length s ≡ size_of f → (p : ℕ) → Place f.geometry.layout s b p → r ≡ Ok tt
  pub refused : length s ≡ size_of f → ((p : ℕ) → Place f.geometry.layout s b p → ⊥) → r ≡ Err (format_fault NoPlaceLeft b)
  -- on any other nothing is
  pub other_size : (length s ≢ size_of f) → (r ≡ Err (format_fault WrongSectorCount 0)) × (t ≡ s)
