-- What a call answers and leaves where it does not reach its sector, and where it does.
-- Every medium's read and burn come down to these.
use Rattle.std.proofs.Common.{◌≡◌, ℕ, ◌<◌, Bool, true, false, cond, eqb, ltb, List, length, Ok, Err, Result, sym, refl, ap, ◌∙◌}
use Rattle.std.proofs.lemmas.Bool.{and_parts, cond-true, eqb-true, ltb-true}
use Rattle.medium.specs.Calls.{burning, filled, image_after, reaches, reaching, reading, sectors_after, shown, unreached, verdict, with_burnt}
use Rattle.medium.specs.Faults.{medium_fault}
use Rattle.medium.specs.Sectors.{Sector, is_blank, sector_at}
use Rattle.medium.specs.declared.faults.Fault.{Fault}
use Rattle.medium.specs.declared.faults.Refusal.TheVariants.{AlreadyBurnt}

abbrev tested : Bool → Fault → Result (Unit {0}) Fault
tested b u = cond b (Ok tt) (Err u)

answer_refused : {X : Type 0} (b : Bool) (u f : Fault) (r : Result X Fault) → Err f ≡ tested b u → Err f ≡ cond b r (Err u)
answer_refused true u f r e = cc
answer_refused false u f r e = cc

rest_refused : {X : Type 0} (b : Bool) (u f : Fault) (old new : X) → Err f ≡ tested b u → old ≡ cond b new old
rest_refused true u f old new e = cc
rest_refused false u f old new e = refl

passed : (b : Bool) (u : Fault) → Ok tt ≡ tested b u → b ≡ true
passed true u e = refl
passed false u e = cc

not_passed : (b : Bool) (u f : Fault) → Err f ≡ tested b u → b ≡ false
not_passed true u f e = cc
not_passed false u f e = refl

pub out_of_reach : (p i len : ℕ) (f : Fault) → Err f ≡ reaching p i len → reaches p i len ≡ false
out_of_reach p i len f e = not_passed (reaches p i len) (unreached i len) f e

module _ (p i len : ℕ) (e : Ok tt ≡ reaching p i len) where
  pub in_reach : reaches p i len ≡ true
  in_reach = passed (reaches p i len) (unreached i len) e

  parts : (eqb len 524 ≡ true) × (ltb i p ≡ true)
  parts = and_parts (eqb len 524) (ltb i p) in_reach

  pub whole_image : len ≡ 524
  whole_image = eqb-true len 524 parts.0

  pub within : i < p
  within = ltb-true i p parts.1

-- a call for sector i of the p sectors s, with an image
module _ (s : List Sector) (p i : ℕ) (image : List ℕ) (row : length s ≡ p) where
  at_row : reaching p i (length image) ≡ reaching (length s) i (length image)
  at_row = ap (λ n. reaching n i (length image)) (sym row)

  module _ (f : Fault) (e : Err f ≡ reaching p i (length image)) where
    pub burning_refused : Err f ≡ burning s i (length image)
    burning_refused = answer_refused (reaches (length s) i (length image)) _ f _ (e ∙ at_row)

    pub sectors_refused : s ≡ sectors_after s i image
    sectors_refused = rest_refused (reaches (length s) i (length image)) _ f s _ (e ∙ at_row)

  -- it reaches the sector x
  module _ (e : Ok tt ≡ reaching p i (length image)) (x : Sector) (at : sector_at s i ≡ x) where
    reached : {X : Type 0} (r t : X) → cond (reaches (length s) i (length image)) r t ≡ r
    reached r t = cond-true (reaches (length s) i (length image)) r t (passed _ (unreached i (length image)) (e ∙ at_row))

    pub reading_as : Ok (shown x.weak x.state) ≡ reading s i (length image)
    reading_as = ap (λ (y : Sector). Ok (shown y.weak y.state)) (sym at) ∙ sym (reached _ _)

    pub image_as : filled x.weak x.state image ≡ image_after s i image
    image_as = ap (λ (y : Sector). filled y.weak y.state image) (sym at) ∙ sym (reached _ _)

    pub burning_as : cond (is_blank x.state) (Ok (verdict x.weak)) (Err (medium_fault AlreadyBurnt i)) ≡ burning s i (length image)
    burning_as =
        ap (λ (y : Sector). cond (is_blank y.state) (Ok (verdict y.weak)) (Err (medium_fault AlreadyBurnt i))) (sym at) ∙ sym (reached _ _)

    pub sectors_as : cond (is_blank x.state) (with_burnt s i image) s ≡ sectors_after s i image
    sectors_as = ap (λ (y : Sector). cond (is_blank y.state) (with_burnt s i image) s) (sym at) ∙ sym (reached _ _)
