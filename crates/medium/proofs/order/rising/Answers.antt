use Rattle.std.proofs.Common.{rules, of_calls, ◌≡◌, ℕ, ◌+◌, ◌<◌, Bool, true, false, List, [], ◌∷◌, map, length, nat_lt, sym, refl, ◌∙◌, Decides, arith}
use Rattle.std.proofs.lemmas.Bool.{false≢true, lt-ltb, ltb-true}
use Rattle.std.proofs.lemmas.Fn.{always_returns_same}
use Rattle.std.proofs.lemmas.List.{get_or-map, length-map}
use Rattle.std.proofs.lemmas.Grind.{common_steps}
use Rattle.std.specs.List.{IsAllAdjacentAnswer}
use Rattle.medium.specs.Order.{Rising}
use Rattle.medium.proofs.order.rising.Goals as goal

module _ {X : Type 0} (f : X → ℕ) where
  answers : (xs : List X) (r : Bool) → IsAllAdjacentAnswer (λ x y b. b ≡ nat_lt (f x) (f y)) xs r → Decides r (Rising (map f xs))
  answers [] true h = (λ e k l. absurd (omega arith), λ all. refl)
  answers [] false h = absurd (omega (arith, h.1))
  answers (x ∷ xs) true h = (
    λ e k l.
        let inside : k + 1 < length (x ∷ xs) = omega (arith, length-map (x ∷ xs) f) in
        omega (arith, ltb-true _ _ (sym (h k x inside)), get_or-map f (x ∷ xs) k x 0 (omega arith), get_or-map f (x ∷ xs) (k + 1) x 0 inside),
    λ all. refl,
  )
  answers (x ∷ xs) false h = (
    λ e. absurd (false≢true e),
    λ all. h.2 x ∙ lt-ltb _ _ (omega (arith, all h.0 (omega (arith, length-map (x ∷ xs) f, h.1)), get_or-map f (x ∷ xs) h.0 x 0 (omega (arith, h.1)), get_or-map f (x ∷ xs) (h.0 + 1) x 0 h.1)),
  )

  -- the list that was tried is the one that was given
  answers_all : (tried xs : List X) (r : Bool) → tried ≡ xs → IsAllAdjacentAnswer (λ x y b. b ≡ nat_lt (f x) (f y)) tried r → Decides r (Rising (map f xs))
  answers_all tried xs r e h = rw (← e) (answers tried r h)

pub returns : goal.returns
returns g c =
    let f = g.R.Keyed.keyed in
    answers_all f _ c.args.records.now _ (search (rules, common_steps)) (c.is_sorted_by.ensures.cases (λ x y. nat_lt (f x) (f y)) (always_returns_same _ _ _ (λ a r f' k. search (rules, of_calls))))
