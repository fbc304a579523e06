-- When two bench tests agree.
use Rattle.std.specs.Prelude.{◌≡◌, Bool, true, List, vec_items}
use Rattle.bench.specs.Trials.{Tested}
use Rattle.bench.specs.declared.trial.Account.{Account}
use Rattle.medium.specs.Sectors.{Sector}
use Rattle.medium.specs.declared.runs.Burn.{Burn}

-- every burn was answered and read back alike
abbrev pub SameAccount : Account → Account → Type 0
SameAccount a b = (vec_items a.burnt ≡ vec_items b.burnt) × (vec_items a.read ≡ vec_items b.read)

-- accounts of the same burns, from the same sectors on, always agree
abbrev pub AlwaysAgree : Account → Account → Bool → Type 0
AlwaysAgree a b r = (s : List Sector) (bs : List Burn) (t u : List Sector) → Tested s bs a t → Tested s bs b u → r ≡ true
