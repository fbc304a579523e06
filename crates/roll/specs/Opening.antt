-- What opening a roll answers, and what closing it hands back.
use Rattle.std.specs.Prelude.{◌≡◌, ℕ, List, length, vec_items, Vec}
use Rattle.roll.specs.Access.{sectors_of}
use Rattle.roll.specs.Rolls.{RollMeans, RollOpenable, RollRefused, RollSized}
use Rattle.roll.specs.declared.rolls.Roll.{Roll}
use Rattle.roll.specs.declared.rolls.Unopened.{Unopened}
use Rattle.roll.specs.declared.rolls.WhyNot.{WhyNot}
use Rattle.roll.specs.declared.rolls.WhyNot.TheVariants.{Refused, NoMemory}
use Rattle.std.specs.declared.alloc.Global.{Global}

-- roll r was opened: it could be, and it holds exactly what was given
pub record Opened (memory : Vec ℕ Global) (count : ℕ) (r : Roll) : Type 0 where
  pub openable : RollOpenable (vec_items memory) count
  pub holds_memory : r.memory ≡ memory
  pub holds_count : r.count ≡ count
  pub means : RollMeans (vec_items memory) count (sectors_of r)

-- the right refusal; or want of memory, which is only met where the size is right
abbrev pub Rightly : List ℕ → ℕ → WhyNot → Type 0
Rightly bytes count (Refused f) = RollRefused bytes count f
Rightly bytes count NoMemory = RollSized (length bytes) count

-- opening failed for the right reason, and the caller has the bytes back
pub record NotOpened (memory : Vec ℕ Global) (count : ℕ) (u : Unopened) : Type 0 where
  pub why : Rightly (vec_items memory) count u.why
  pub back : u.memory ≡ memory

-- roll r was closed: its bytes are handed back, and they pass every check of opening
pub record Closed (r : Roll) (memory : Vec ℕ Global) : Type 0 where
  pub back : memory ≡ r.memory
  pub openable : RollOpenable (vec_items memory) r.count
