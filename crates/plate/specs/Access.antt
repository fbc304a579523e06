-- What an open plate means, and which of its bytes a burn changes.
use Rattle.std.specs.Prelude.{◌≡◌, ℕ, List, vec_items}
use Rattle.medium.specs.Sectors.{Sector}
use Rattle.plate.specs.Cells.{bytes_after}
use Rattle.plate.specs.Plates.{plate_sectors}
use Rattle.plate.specs.declared.plates.Plate.{Plate}

abbrev pub sectors_of : Plate → List Sector
sectors_of p = plate_sectors (vec_items p.memory) (vec_items p.flaws) p.count

-- a burn took plate p to q: the bytes outside the sector's cell, the flaws and the count are as they were
pub record BurntInCell (p : Plate) (i : ℕ) (image : List ℕ) (q : Plate) : Type 0 where
  pub bytes : vec_items q.memory ≡ bytes_after (vec_items p.memory) p.count i image
  pub same_flaws : q.flaws ≡ p.flaws
  pub same_count : q.count ≡ p.count
