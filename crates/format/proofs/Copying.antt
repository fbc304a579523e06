-- The loops over the copies of a layout, turn by turn.
use Rattle.std.proofs.Common.{◌≡◌, ℕ, zero, suc, ◌+◌, ◌-◌, ◌<◌, ◌≤◌, Bool, true, false, not, ◌&&◌, ◌||◌, List, [], ◌∷◌, length, get_or, drop, Some, None, Option, sym, refl, ap, ◌∙◌, subst, ⊎_elim, arith}
use mathlib.Core.List.Memᴰ
use mathlib.Core.List.{Memᴰ}
use Rattle.format.specs.Blocks.{blank_at}
use Rattle.format.specs.Sectors.{Apart, copy_burns, free, lowest_from, some_free}
use Rattle.medium.proofs.Burns.{after_elsewhere, after_length}
use Rattle.medium.specs.Blank.{BlankBelow, LowestBurnt}
use Rattle.medium.specs.Calls.{sectors_after}
use Rattle.medium.specs.Runs.{after_burns}
use Rattle.medium.specs.Sectors.{Sector, State, blank, burnt, is_blank, sector_at}
use Rattle.std.proofs.lemmas.List.{at_drop_more}
use Rattle.std.proofs.Math.Bool.{or_assoc}
use Rattle.std.proofs.lemmas.Bool.{cases_Bool, cond-false, cond-true}

pub mem_at : (xs : List ℕ) (i : ℕ) → i < length xs → Memᴰ (get_or xs i 0) xs
mem_at [] i h = absurd (omega arith)
mem_at (x ∷ xs) zero h = Memᴰ.head refl
mem_at (x ∷ xs) (suc i) h = Memᴰ.tail (mem_at xs i (omega arith))

apart_drop : (xs : List ℕ) (i : ℕ) → Apart xs → Apart (drop i xs)
apart_drop [] zero a = a
apart_drop [] (suc i) a = a
apart_drop (x ∷ xs) zero a = a
apart_drop (x ∷ xs) (suc i) a = apart_drop xs i a.1

-- what stands at i does not stand behind it
pub apart_at : (xs : List ℕ) (i : ℕ) → i < length xs → Apart xs → Memᴰ (get_or xs i 0) (drop (i + 1) xs) → ⊥
apart_at xs i h a m = (subst Apart (at_drop_more (λ (ys : List ℕ). ys) xs i 0 h) (apart_drop xs i a)).0 m

-- before the turn at i the sectors s are left of s0, and what is left to burn comes to the whole
pub record Copying (s0 s : List Sector) (image sectors : List ℕ) (i : ℕ) (any : Bool) : Type 0 where
  pub still : after_burns s (copy_burns image (drop i sectors)) ≡ after_burns s0 (copy_burns image sectors)
  pub found : (any || some_free s0 (drop i sectors)) ≡ some_free s0 sectors
  pub same : (j : ℕ) → Memᴰ j (drop i sectors) → sector_at s j ≡ sector_at s0 j
  pub as_many : length s ≡ length s0

module _ (s0 s : List Sector) (image sectors : List ℕ) (i : ℕ) (any : Bool) (k : Copying s0 s image sectors i any) where
  module _ (more : i < length sectors) where
    abbrev pub here : ℕ
    here = get_or sectors i 0

    pub same_here : sector_at s here ≡ sector_at s0 here
    same_here = k.same here (subst (λ xs. Memᴰ here xs) (sym (at_drop_more (λ (xs : List ℕ). xs) sectors i 0 more)) (Memᴰ.head refl))

    pub copying_next : (t : List Sector) (sound : Bool) → Apart sectors → blank_at s0 here ≡ true → t ≡ sectors_after s here image → sound ≡ not (sector_at s here).weak → Copying s0 t image sectors (i + 1) (any || sound)
    copying_next t sound a b e w =
        let free_here : free s0 here ≡ sound = ap (λ t. t && not (sector_at s0 here).weak) b ∙ sym (w ∙ ap (λ x. not x.weak) same_here) in
        record {
          still = ap (λ u. after_burns u (copy_burns image (drop (i + 1) sectors))) e ∙ sym (at_drop_more (λ xs. after_burns s (copy_burns image xs)) sectors i 0 more) ∙ k.still;
          found = or_assoc any sound (some_free s0 (drop (i + 1) sectors)) ∙ ap (λ x. any || (x || some_free s0 (drop (i + 1) sectors))) (sym free_here) ∙ sym (ap (λ x. any || x) (at_drop_more (some_free s0) sectors i 0 more)) ∙ k.found;
          same = λ j m. ap (λ u. sector_at u j) e ∙ after_elsewhere s here image j (λ z. apart_at sectors i more a (Memᴰ.cast (sym z) m)) ∙ k.same j (subst (λ xs. Memᴰ j xs) (sym (at_drop_more (λ (xs : List ℕ). xs) sectors i 0 more)) (Memᴰ.tail m));
          as_many = ap length e ∙ after_length s here image ∙ k.as_many;
        }

-- the lowest burnt sector is the one that is found from the front
blank_so : (x : State) → x ≡ blank → is_blank x ≡ true
blank_so x e = ap is_blank e

lowest_at : (xs : List Sector) (i k : ℕ) → k < length xs → ((j : ℕ) → j < k → (sector_at xs j).state ≡ blank) → is_blank (sector_at xs k).state ≡ false → lowest_from i xs ≡ Some (i + k)
lowest_at [] i k h below here = absurd (omega arith)
lowest_at (x ∷ xs) i zero h below here = let z : i ≡ i + 0 = omega arith in cond-false (is_blank x.state) _ _ here ∙ ap Some z
lowest_at (x ∷ xs) i (suc k) h below here =
    let z : suc i + k ≡ i + suc k = omega arith in
    cond-true (is_blank x.state) _ _ (blank_so x.state (below 0 (omega arith))) ∙ lowest_at xs (suc i) k (omega arith) (λ j l. below (suc j) (omega arith)) here ∙ ap Some z

lowest_none : (xs : List Sector) (i : ℕ) → ((j : ℕ) → j < length xs → (sector_at xs j).state ≡ blank) → lowest_from i xs ≡ None
lowest_none [] i below = refl
lowest_none (x ∷ xs) i below = cond-true (is_blank x.state) _ _ (blank_so x.state (below 0 (omega arith))) ∙ lowest_none xs (suc i) (λ j l. below (suc j) (omega arith))

pub lowest_is : (s : List Sector) (o : Option ℕ) → LowestBurnt s o → lowest_from 0 s ≡ o
lowest_is s None h = lowest_none s 0 h
lowest_is s (Some k) h = let z : 0 + k ≡ k = omega arith in lowest_at s 0 k h.0 h.2 h.1 ∙ ap Some z

-- and what is found from the front is the lowest
pub record LowestAt (xs : List Sector) (i k : ℕ) : Type 0 where
  pub low : i ≤ k
  pub inside : k - i < length xs
  pub burnt_there : is_blank (sector_at xs (k - i)).state ≡ false
  pub blank_below : BlankBelow xs (k - i)

blank_back : (x : State) → is_blank x ≡ true → x ≡ blank
blank_back blank e = refl
blank_back (burnt image) e = cc

blank_first : (x : Sector) (xs : List Sector) (n : ℕ) → is_blank x.state ≡ true → BlankBelow xs n → BlankBelow (x ∷ xs) (suc n)
blank_first x xs n t h zero l = blank_back x.state t
blank_first x xs n t h (suc j) l = h j (omega arith)

none_lowest : (xs : List Sector) (i : ℕ) → lowest_from i xs ≡ None → BlankBelow xs (length xs)
none_lowest [] i e = λ j l. absurd (omega arith)
none_lowest (x ∷ xs) i e =
    ⊎_elim (λ t. blank_first x xs (length xs) t (none_lowest xs (suc i) (sym (cond-true (is_blank x.state) _ _ t) ∙ e))) (λ t. absurd (some_none (sym (cond-false (is_blank x.state) _ _ t) ∙ e))) (cases_Bool (is_blank x.state))
  where
    some_none : {A : Type 0} {y : A} → Some y ≡ None → ⊥
    some_none {A} {y} z = let w : ◌≡◌ {A = ℕ} 0 1 = cc in omega arith

some_lowest : (xs : List Sector) (i k : ℕ) → lowest_from i xs ≡ Some k → LowestAt xs i k
some_lowest [] i k e = absurd (let w : ◌≡◌ {A = ℕ} 0 1 = cc in omega arith)
some_lowest (x ∷ xs) i k e =
    let here : is_blank x.state ≡ false → LowestAt (x ∷ xs) i k =
    λ t. let same : Some i ≡ Some k = sym (cond-false (is_blank x.state) _ _ t) ∙ e in
    let j : i ≡ k = cc in
    let z : 0 ≡ k - i = omega arith in
    record { low = omega arith; inside = omega arith; burnt_there = subst (λ n. is_blank (sector_at (x ∷ xs) n).state ≡ false) z t; blank_below = λ n l. absurd (omega arith) } in
    let later : is_blank x.state ≡ true → LowestAt (x ∷ xs) i k =
    λ t. let r = some_lowest xs (suc i) k (sym (cond-true (is_blank x.state) _ _ t) ∙ e) in
    let low = r.low in
    let in' = r.inside in
    let z : suc (k - suc i) ≡ k - i = omega arith in
    record { low = omega arith; inside = omega arith; burnt_there = subst (λ n. is_blank (sector_at (x ∷ xs) n).state ≡ false) z r.burnt_there; blank_below = subst (BlankBelow (x ∷ xs)) z (blank_first x xs (k - suc i) t r.blank_below) } in
    ⊎_elim later here (cases_Bool (is_blank x.state))

pub lowest_means : (s : List Sector) (o : Option ℕ) → lowest_from 0 s ≡ o → LowestBurnt s o
lowest_means s None e = none_lowest s 0 e
lowest_means s (Some k) e =
    let r = some_lowest s 0 k e in
    let z : k - 0 ≡ k = omega arith in
    (subst (λ n. n < length s) z r.inside, subst (λ n. is_blank (sector_at s n).state ≡ false) z r.burnt_there, subst (BlankBelow s) z r.blank_below)
