-- What `array::from_fn` makes by a closure that calls leave as it was.
use Rattle.std.proofs.Common.{◌≡◌, ℕ, zero, suc, ◌+◌, ◌<◌, ◌≤◌, List, map, get_or, refl, ◌∙◌, subst, ⊎_elim, arith}
use Rattle.std.proofs.lemmas.Bool.{cases_lt}
use Rattle.std.proofs.lemmas.List.FromFn.{fill_by_all}
use Rattle.std.specs.Array.{IsFromFnResult, IsFromFnResultFrom}
use Rattle.std.specs.Fn.{Called}
use Rattle.std.specs.List.{range_with_len}
use denote.Param.Members.{Mut}

module _ {F B : Type 0} (g : Mut F (ℕ × Unit {0}) B) (f : F) (h : ℕ → B) (same : (i : ℕ) (y : B) (q : F) → Called g f (i, tt) y q → (q ≡ f) × (y ≡ h i)) where
  made_at : (n i : ℕ) (p : F) (ys : List B) → p ≡ f → IsFromFnResultFrom g p ys i n → (k : ℕ) (d : B) → i ≤ k → k < i + n → get_or ys k d ≡ h k
  made_at zero i p ys e r k d low high = absurd (omega arith)
  made_at (suc n) i p ys e r k d low high =
      let s = same i r.1 r.0 (subst (λ t. Called g t (i, tt) r.1 r.0) e r.3) in
      ⊎_elim
      (λ (l : i < k). made_at n (i + 1) r.0 ys s.0 r.4 k d (omega arith) (omega arith))
      (λ (l : k ≤ i). let here : i ≡ k = omega arith in subst (λ j. get_or ys j d ≡ h j) here (r.2.1 d ∙ s.1))
      (cases_lt i k)

  pub made_by : (ys : List B) (n : ℕ) (d : B) → IsFromFnResult g f ys n → ys ≡ map h (range_with_len 0 n)
  made_by ys n d r = fill_by_all h ys n d r.long (λ k l. made_at n 0 f ys refl r.each k d (omega arith) (omega arith))
