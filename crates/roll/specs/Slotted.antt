-- Which slot holds a sector, slot by slot.
use Rattle.std.specs.Prelude.{◌≡◌, ℕ, zero, suc, ◌+◌, ◌<◌, ◌≤◌, true, false, cond, List, length, replicate, Some, None, Option, ◌==◌, ◌≢◌, is_none, is_some, slice_index_or, slice_set}
use Rattle.std.proofs.Common.{sym, ◌∙◌, add-one}
use Rattle.std.proofs.Math.Path.{ap, subst}
use Rattle.std.proofs.Math.Logic.{⊎_elim}
use native.Mathlib.Omega.{arith}
use Rattle.std.proofs.lemmas.List.{get_or-replicate, length-replicate, length-set}
use Rattle.std.proofs.lemmas.Grind.{common_steps}
use Rattle.std.proofs.lemmas.List.Folds.{sum_by-replicate}
use Rattle.std.proofs.lemmas.List.Sums.{sum_by-set}
use Rattle.std.proofs.lemmas.Bool.{cases_Bool, cond-true, cond-false, eqb-true, eqb-false}
use Rattle.roll.specs.Slots.{slot_number, slot_of, UsedSlots, Indexed, Filled, free}

pub none_held : (o : Option ℕ) → false ≡ is_some o → o ≡ None
none_held o e = grind arith

pub free_set : (index : List (Option ℕ)) (m n : ℕ) → m < length index → slice_index_or index m None ≡ None → free (slice_set index m (Some n)) + 1 ≡ free index
free_set index m n l e =
    let f : Option ℕ → ℕ = λ o. cond (is_none o) 1 0 in
    omega (arith, sum_by-set f index m (Some n) None l, ap f e)

module _ (xs : List ℕ) (p : ℕ) where
  -- what it says that a slot, or none, holds sector i
  abbrev pub Told : ℕ → ℕ → Option ℕ → Type 0
  Told n i None = (k : ℕ) → k < n → slot_number xs p k ≢ i
  Told n i (Some k) = (k < n) × (slot_number xs p k ≡ i)

  pub slot_step : (n i : ℕ) → slot_of xs p (n + 1) i ≡ cond (slot_number xs p n == i) (Some n) (slot_of xs p n i)
  unfolding slot_of
  slot_step n i = ap (λ m. slot_of xs p m i) (add-one n)

  told_more : (n i : ℕ) (o : Option ℕ) → (slot_number xs p n ≢ i) → Told n i o → Told (suc n) i o
  told_more n i None ne h = λ k l e. grind arith
  told_more n i (Some k) ne h = grind arith

  pub told : (n i : ℕ) → Told n i (slot_of xs p n i)
  unfolding slot_of
  told zero i = λ k l e. omega arith
  told (suc n) i =
      ⊎_elim
      (λ t. subst (Told (suc n) i) (sym (cond-true (slot_number xs p n == i) (Some n) (slot_of xs p n i) t)) (omega arith, eqb-true (slot_number xs p n) i t))
      (λ f. subst (Told (suc n) i) (sym (cond-false (slot_number xs p n == i) (Some n) (slot_of xs p n i) f)) (told_more n i (slot_of xs p n i) (eqb-false (slot_number xs p n) i f) (told n i)))
      (cases_Bool (slot_number xs p n == i))

  -- an answer that is told of, where one slot at most holds the sector
  same_told : (n i : ℕ) (o q : Option ℕ) → ((j k : ℕ) → j < n → k < n → slot_number xs p j ≡ i → slot_number xs p k ≡ i → j ≡ k) → Told n i o → Told n i q → o ≡ q
  same_told n i o q one a b = grind arith

  pub slot_is : (n i : ℕ) (o : Option ℕ) → ((j k : ℕ) → j < n → k < n → slot_number xs p j ≡ i → slot_number xs p k ≡ i → j ≡ k) → Told n i o → slot_of xs p n i ≡ o
  slot_is n i o one h = same_told n i (slot_of xs p n i) o one (told n i) h

  -- slot n is not used
  pub unused_more : (n u : ℕ) → UsedSlots xs p n u → slot_number xs p n ≡ 4294967295 → UsedSlots xs p (n + 1) u
  unused_more n u s e = (omega (arith, s.0), s.1, s.2, λ k l m. grind arith)

  pub unused_index : (n : ℕ) (index : List (Option ℕ)) → p ≤ 640064 → slot_number xs p n ≡ 4294967295 → Indexed xs p n index → Indexed xs p (n + 1) index
  unused_index n index few e h i l = grind (arith, slot_step, h i l)

  pub filled_unused : (n u : ℕ) (index : List (Option ℕ)) → p ≤ 640064 → slot_number xs p n ≡ 4294967295 → Filled xs p n index u → Filled xs p (n + 1) index u
  filled_unused n u index few e f =
      record {
        slots = unused_more n u f.slots e;
        long = f.long;
        indexed = unused_index n index few e f.indexed;
        room = f.room;
      }

  -- slot n holds sector m, which no slot before it holds
  pub used_more : (n u m : ℕ) → u ≡ n → UsedSlots xs p n u → m ≡ slot_number xs p n → m < p → slot_of xs p n m ≡ None → UsedSlots xs p (n + 1) (u + 1)
  used_more n u m eq s e l none =
      let alone : (k : ℕ) → k < n → slot_number xs p k ≢ slot_number xs p n = λ k q z. subst (Told n m) none (told n m) k q (z ∙ sym e) in (
        omega arith,
        λ k q. grind (arith, alone),
        λ j k ab. grind (arith, alone),
        λ k a b. absurd (omega arith),
      )

  pub used_index : (n m : ℕ) (index : List (Option ℕ)) → length index ≡ p → m ≡ slot_number xs p n → m < p → Indexed xs p n index → Indexed xs p (n + 1) (slice_set index m (Some n))
  used_index n m index long e l h i q = grind (arith, common_steps, slot_step, h i q, long)

  module _ (n u m : ℕ) (index : List (Option ℕ)) (first : u ≡ n) (f : Filled xs p n index u) (number : m ≡ slot_number xs p n) (within : m < p) (free_now : false ≡ is_some (slice_index_or index m None)) where
    pub filled_used : Filled xs p (n + 1) (slice_set index m (Some n)) (u + 1)
    filled_used =
        record {
          slots = used_more n u m first f.slots number within (sym (f.indexed m within) ∙ none_held _ free_now);
          long = length-set index m (Some n) ∙ f.long;
          indexed = used_index n m index f.long number within f.indexed;
          room = omega (arith, free_set index m n (omega (arith, f.long)) (none_held _ free_now), f.room);
        }

  -- no form has a used slot n that breaks it
  module _ (n v : ℕ) (within : n < p) (used : slot_number xs p n ≢ 4294967295) (form : UsedSlots xs p p v) where
    pub broken_number : p ≤ slot_number xs p n → ⊥
    broken_number big = grind arith

    pub broken_order : (u : ℕ) → p ≤ 640064 → UsedSlots xs p n u → u ≢ n → ⊥
    broken_order u few t gap = grind arith

    pub broken_twice : (k : ℕ) → k < n → slot_number xs p k ≡ slot_number xs p n → ⊥
    broken_twice k a e = grind arith

    -- as the index tells it
    pub broken_index : (m : ℕ) (index : List (Option ℕ)) → Indexed xs p n index → m ≡ slot_number xs p n → m < p → true ≡ is_some (slice_index_or index m None) → ⊥
    broken_index m index h e l some = let t = told n m in let d = h m l in grind arith

pub free_all : (n : ℕ) → free (replicate n None) ≡ n
free_all n = omega (arith, sum_by-replicate (λ (o : Option ℕ). cond (is_none o) 1 0) n None)

pub filled_none : (xs : List ℕ) (p : ℕ) → Filled xs p 0 (replicate p None) 0
unfolding slot_of
filled_none xs p =
    record {
      slots = (omega arith, (λ k h. absurd (omega arith)), (λ j k h. absurd (omega (arith, h.0))), (λ k a b. absurd (omega arith)));
      long = length-replicate p None;
      indexed = λ i l. get_or-replicate p i None None l;
      room = omega (arith, free_all p);
    }
