-- Which spares are burnt for a block, and what the burns leave.
use Rattle.std.specs.Prelude.{◌≡◌, ℕ, true, false, ◌||◌, List, [], ◌∷◌, ◌++◌, length, refl}
use Rattle.std.proofs.Common.{sym, ap, subst, ◌∙◌, ⊎_elim, arith, length-append}
use mathlib.Core.List.{Memᴰ}
use Rattle.format.specs.Blocks.{blank_at}
use Rattle.format.specs.Sectors.{Apart, free, some_free}
use Rattle.medium.proofs.Burns.{Distinct}
use Rattle.medium.specs.Sectors.{Sector, sector_at}
use Rattle.medium.specs.declared.runs.Burn.{Burn}
use Rattle.pointers_format.specs.Pointing.{home_tail, pointer_to_first, spare_tail}
use Rattle.pointers_format.specs.Storing.{spare_burn, spare_burns}
use Rattle.std.proofs.lemmas.Bool.{and_from, and_left, and_parts, and_right, both_ways, cases_Bool, cond-false, cond-true, not_from_false, not_from_true, or_left, or_right}

pub image_length : (bytes tail : List ℕ) → length bytes ≡ 512 → length tail ≡ 12 → length (bytes ++ tail) ≡ 524
image_length bytes tail e f = omega (arith, length-append bytes tail)

pub spare_tail_length : (p h : ℕ) → length (spare_tail p h) ≡ 12
unfolding spare_tail
spare_tail_length p h = refl

first_length : (ps : List ℕ) → length (pointer_to_first ps) ≡ 4
first_length [] = refl
first_length (p ∷ ps) = refl

pub home_tail_length : (h : ℕ) (ps : List ℕ) → length (home_tail h ps) ≡ 12
unfolding home_tail
home_tail_length h ps = omega (arith, length-append (pointer_to_first ps) (pointer_to_first ps), first_length ps)

-- a spare p that is burnt: where it stands among the candidates, it is blank, and none before it is free
pub record BurntAmong (s : List Sector) (ps : List ℕ) (p : ℕ) : Type 0 where
  pub front : List ℕ
  pub back : List ℕ
  pub split : ps ≡ front ++ (p ∷ back)
  pub blank : blank_at s p ≡ true
  pub none_free : (q : ℕ) → Memᴰ q front → free s q ≡ false

-- the first of some that is free
pub record FirstFree (s : List Sector) (ps : List ℕ) : Type 0 where
  pub at : ℕ
  pub is_free : free s at ≡ true
  pub burnt : BurntAmong s ps at

module _ (s : List Sector) where
  -- one more candidate in front, which is not free
  behind : (x : ℕ) (ps : List ℕ) (p : ℕ) → free s x ≡ false → BurntAmong s ps p → BurntAmong s (x ∷ ps) p
  behind x ps p n b =
      record {
        front = x ∷ b.front;
        back = b.back;
        split = ap (λ xs. x ∷ xs) b.split;
        blank = b.blank;
        none_free = λ q m. ⊎_elim (λ (e : q ≡ x). ap (free s) e ∙ n) (b.none_free q) (mathlib.Core.List.Memᴰ.cases_cons m);
      }

  pub first_free : (ps : List ℕ) → some_free s ps ≡ true → FirstFree s ps
  first_free [] e = absurd (both_ways _ refl e)
  first_free (x ∷ ps) e =
      let here : free s x ≡ true → FirstFree s (x ∷ ps) =
      λ t. record { at = x; is_free = t; burnt = record { front = []; back = ps; split = refl; blank = (and_parts _ _ t).0; none_free = λ q m. absurd (mathlib.Core.List.Memᴰ.not-nil m) } } in
      let later : free s x ≡ false → FirstFree s (x ∷ ps) =
      λ n. let r = first_free ps (sym (ap (λ t. t || some_free s ps) n) ∙ e) in
      record { at = r.at; is_free = r.is_free; burnt = behind x ps r.at n r.burnt } in
      ⊎_elim here later (cases_Bool (free s x))

  pub free_among : (ps : List ℕ) (p : ℕ) → Memᴰ p ps → free s p ≡ true → some_free s ps ≡ true
  free_among [] p m t = absurd (mathlib.Core.List.Memᴰ.not-nil m)
  free_among (x ∷ ps) p m t =
      ⊎_elim (λ (e : p ≡ x). or_left (free s x) _ (ap (free s) (sym e) ∙ t)) (λ n. or_right (free s x) _ (free_among ps p n t)) (mathlib.Core.List.Memᴰ.cases_cons m)

  module _ (h : ℕ) (bytes : List ℕ) where
    abbrev burns : List ℕ → List Burn
    burns ps = spare_burns s h bytes ps

    -- the three ways of a candidate
    over : (x : ℕ) (ps : List ℕ) → blank_at s x ≡ false → burns (x ∷ ps) ≡ burns ps
    over x ps b = cond-false (blank_at s x) _ _ b

    weak : (x : ℕ) (ps : List ℕ) → blank_at s x ≡ true → (sector_at s x).weak ≡ true → burns (x ∷ ps) ≡ spare_burn h bytes x ∷ burns ps
    weak x ps b w = cond-true (blank_at s x) _ _ b ∙ ap (λ bs. spare_burn h bytes x ∷ bs) (cond-true (sector_at s x).weak _ _ w)

    sound : (x : ℕ) (ps : List ℕ) → blank_at s x ≡ true → (sector_at s x).weak ≡ false → burns (x ∷ ps) ≡ spare_burn h bytes x ∷ []
    sound x ps b w = cond-true (blank_at s x) _ _ b ∙ ap (λ bs. spare_burn h bytes x ∷ bs) (cond-false (sector_at s x).weak _ _ w)

    ways : (x : ℕ) (ps : List ℕ) (P : List Burn → Type 0) → (blank_at s x ≡ false → P (burns ps)) → (blank_at s x ≡ true → (sector_at s x).weak ≡ true → P (spare_burn h bytes x ∷ burns ps)) → (blank_at s x ≡ true → (sector_at s x).weak ≡ false → P (spare_burn h bytes x ∷ [])) → P (burns (x ∷ ps))
    ways x ps P f g k =
        let blank : blank_at s x ≡ true → P (burns (x ∷ ps)) =
        λ b. ⊎_elim (λ w. subst P (sym (weak x ps b w)) (g b w)) (λ w. subst P (sym (sound x ps b w)) (k b w)) (cases_Bool (sector_at s x).weak) in
        ⊎_elim blank (λ b. subst P (sym (over x ps b)) (f b)) (cases_Bool (blank_at s x))

    -- a burn of the list is one of a spare that is burnt
    pub in_burns : (ps : List ℕ) (b : Burn) → Memᴰ b (burns ps) → (b ≡ spare_burn h bytes b.sector) × BurntAmong s ps b.sector
    in_burns [] b m = absurd (mathlib.Core.List.Memᴰ.not-nil m)
    in_burns (x ∷ ps) b m =
        let Goal : Type 0 = (b ≡ spare_burn h bytes b.sector) × BurntAmong s (x ∷ ps) b.sector in
        let here : blank_at s x ≡ true → b ≡ spare_burn h bytes x → Goal =
        λ t e. let same : x ≡ b.sector = sym (ap (λ y. y.sector) e) in
        (e ∙ ap (spare_burn h bytes) same, subst (BurntAmong s (x ∷ ps)) same (record { front = []; back = ps; split = refl; blank = t; none_free = λ q n. absurd (mathlib.Core.List.Memᴰ.not-nil n) })) in
        let later : free s x ≡ false → Memᴰ b (burns ps) → Goal = λ n k. let r = in_burns ps b k in (r.0, behind x ps b.sector n r.1) in
        ways x ps (λ bs. Memᴰ b bs → Goal) (λ t. later (and_left _ _ t)) (λ t w k. ⊎_elim (here t) (later (and_right _ _ (not_from_true _ w))) (mathlib.Core.List.Memᴰ.cases_cons k)) (λ t w k. ⊎_elim (here t) (λ n. absurd (mathlib.Core.List.Memᴰ.not-nil n)) (mathlib.Core.List.Memᴰ.cases_cons k)) m

    -- and such a spare has its burn in the list
    in_burns_by : (front back : List ℕ) (p : ℕ) → blank_at s p ≡ true → ((q : ℕ) → Memᴰ q front → free s q ≡ false) → Memᴰ (spare_burn h bytes p) (burns (front ++ (p ∷ back)))
    in_burns_by [] back p b none =
        let P : List Burn → Type 0 = λ bs. Memᴰ (spare_burn h bytes p) bs in
        ways p back P (λ n. absurd (both_ways _ n b)) (λ _ _. mathlib.Core.List.Memᴰ.head refl) (λ _ _. mathlib.Core.List.Memᴰ.head refl)
    in_burns_by (x ∷ front) back p b none =
        let P : List Burn → Type 0 = λ bs. Memᴰ (spare_burn h bytes p) bs in
        let rest : Memᴰ (spare_burn h bytes p) (burns (front ++ (p ∷ back))) = in_burns_by front back p b (λ q m. none q (mathlib.Core.List.Memᴰ.tail m)) in
        ways x (front ++ (p ∷ back)) P (λ _. rest) (λ _ _. mathlib.Core.List.Memᴰ.tail rest) (λ t w. absurd (both_ways _ (none x (mathlib.Core.List.Memᴰ.head refl)) (and_from _ _ t (not_from_false _ w))))

    pub burn_in : (ps : List ℕ) (p : ℕ) → BurntAmong s ps p → Memᴰ (spare_burn h bytes p) (burns ps)
    burn_in ps p b = subst (λ xs. Memᴰ (spare_burn h bytes p) (burns xs)) (sym b.split) (in_burns_by b.front b.back p b.blank b.none_free)

    -- a burn of the list is of a candidate
    pub burn_among : (ps : List ℕ) (b : Burn) → Memᴰ b (burns ps) → Memᴰ b.sector ps
    burn_among [] b m = absurd (mathlib.Core.List.Memᴰ.not-nil m)
    burn_among (x ∷ ps) b m =
        let Goal : Type 0 = Memᴰ b.sector (x ∷ ps) in
        let here : b ≡ spare_burn h bytes x → Goal = λ e. mathlib.Core.List.Memᴰ.head (ap (λ y. y.sector) e) in
        let later : Memᴰ b (burns ps) → Goal = λ k. mathlib.Core.List.Memᴰ.tail (burn_among ps b k) in
        ways x ps (λ bs. Memᴰ b bs → Goal) (λ _. later) (λ _ _ k. ⊎_elim here later (mathlib.Core.List.Memᴰ.cases_cons k)) (λ _ _ k. ⊎_elim here (λ n. absurd (mathlib.Core.List.Memᴰ.not-nil n)) (mathlib.Core.List.Memᴰ.cases_cons k)) m

    pub burns_distinct : (ps : List ℕ) → Apart ps → Distinct (burns ps)
    burns_distinct [] a = tt
    burns_distinct (x ∷ ps) a =
        let rest = burns_distinct ps a.1 in
        ways x ps Distinct (λ _. rest) (λ _ _. ((λ b m e. a.0 (subst (λ p. Memᴰ p ps) e (burn_among ps b m))), rest)) (λ _ _. ((λ b m e. absurd (mathlib.Core.List.Memᴰ.not-nil m)), tt))
