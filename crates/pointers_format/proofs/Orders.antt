-- Lists in rising order, and their parts.
use Rattle.std.proofs.Common.{◌≡◌, ℕ, ◌<◌, true, eqb, List, [], ◌∷◌, ◌++◌, sym, ⊎_elim, arith}
use mathlib.Core.List.Memᴰ
use mathlib.Core.List.{Memᴰ}
use Rattle.pointers.proofs.Members.{Climbing}
use Rattle.pointers_format.specs.Linking.{has}
use Rattle.std.proofs.lemmas.Bool.{eq-eqb, eqb-true, or_cases, or_left, or_right}

-- what is below a member stands before it
pub below_front : (front back : List ℕ) (p q : ℕ) → Climbing (front ++ (p ∷ back)) → Memᴰ q (front ++ (p ∷ back)) → q < p → Memᴰ q front
below_front [] back p q a m h =
    absurd (⊎_elim (λ (e : q ≡ p). omega arith) (λ (n : Memᴰ q back). let k = a.0 q n in omega arith) (Memᴰ.cases_cons m))
below_front (x ∷ front) back p q a m h =
    ⊎_elim (λ (e : q ≡ x). Memᴰ.head e) (λ (n : Memᴰ q (front ++ (p ∷ back))). Memᴰ.tail (below_front front back p q a.1 n h)) (Memᴰ.cases_cons m)

-- the test of membership
pub has_in : (xs : List ℕ) (h : ℕ) → has xs h ≡ true → Memᴰ h xs
has_in [] h t = absurd (let z : ◌≡◌ {A = ℕ} 0 1 = cc in omega arith)
has_in (x ∷ xs) h t =
    ⊎_elim (λ u. Memᴰ.head (sym (eqb-true x h u))) (λ u. Memᴰ.tail (has_in xs h u)) (or_cases (eqb x h) (has xs h) t)

pub in_has : (xs : List ℕ) (h : ℕ) → Memᴰ h xs → has xs h ≡ true
in_has [] h m = absurd (Memᴰ.not-nil m)
in_has (x ∷ xs) h m =
    ⊎_elim (λ (e : h ≡ x). or_left (eqb x h) _ (eq-eqb x h (sym e))) (λ (n : Memᴰ h xs). or_right (eqb x h) _ (in_has xs h n)) (Memᴰ.cases_cons m)
