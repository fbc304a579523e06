-- The test of a flaw list for a sector says whether some flaw of it covers the sector.
use Rattle.std.specs.Prelude.{ℕ, List, Decides}
use Rattle.std.proofs.Common.{arith}
use Rattle.plate.specs.Flaws.{Covered, Covers, covered, covers}
use Rattle.plate.specs.declared.flaws.Flaw.{Flaw}
use Rattle.std.proofs.lemmas.Bool.Decides.{nat_tests}
use Rattle.std.proofs.lemmas.List.Folds.{Any-from_list_any, list_any-from_Any}

covers_decides : (f : Flaw) (i : ℕ) → Decides (covers f i) (Covers f i)
covers_decides f i = grind (arith, nat_tests)

pub covered_decides : (fs : List Flaw) (i : ℕ) → Decides (covered fs i) (Covered fs i)
covered_decides fs i = (
  (λ e. let r = Any-from_list_any (λ f. covers f i) fs e in (r.0, r.1, r.2, r.3, (covers_decides r.1 i).0 r.4)),
  (λ r. list_any-from_Any (λ f. covers f i) fs (r.0, r.1, r.2, r.3, (covers_decides r.1 i).1 r.4)),
)
