-- What opening a plate answers, and what closing it hands back.
use Rattle.std.specs.Prelude.{◌≡◌, ℕ, vec_items, Vec}
use Rattle.plate.specs.Access.{sectors_of}
use Rattle.plate.specs.Plates.{PlateMeans, PlateOpenable, PlateRefused}
use Rattle.plate.specs.declared.flaws.Flaw.{Flaw}
use Rattle.plate.specs.declared.plates.Plate.{Plate}
use Rattle.plate.specs.declared.plates.Unopened.{Unopened}
use Rattle.std.specs.declared.alloc.Global.{Global}

-- plate p was opened: it could be, and it holds exactly what was given
pub record Opened (memory : Vec ℕ Global) (flaws : Vec Flaw Global) (count : ℕ) (p : Plate) : Type 0 where
  pub openable : PlateOpenable (vec_items memory) (vec_items flaws) count
  pub holds_memory : p.memory ≡ memory
  pub holds_flaws : p.flaws ≡ flaws
  pub holds_count : p.count ≡ count
  pub means : PlateMeans (vec_items memory) (vec_items flaws) count (sectors_of p)

-- opening was refused by the right fault, and the caller has everything back
pub record Refused (memory : Vec ℕ Global) (flaws : Vec Flaw Global) (count : ℕ) (u : Unopened) : Type 0 where
  pub why : PlateRefused (vec_items memory) (vec_items flaws) count u.fault
  pub back_memory : u.memory ≡ memory
  pub back_flaws : u.flaws ≡ flaws

-- plate p was closed: its bytes and flaws are handed back, and they pass every check of opening
pub record Closed (p : Plate) (memory : Vec ℕ Global) (flaws : Vec Flaw Global) : Type 0 where
  pub back_memory : memory ≡ p.memory
  pub back_flaws : flaws ≡ p.flaws
  pub openable : PlateOpenable (vec_items memory) (vec_items flaws) p.count
