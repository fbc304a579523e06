-- What it says that no spare is faulty, that one is, and at which spare a home is found.
use Rattle.std.specs.Prelude.{◌≡◌, ℕ, Bool, true, false, cond, not, ◌&&◌, ◌⊎◌, List, [], ◌∷◌, ◌++◌, Some, None, ◌==◌, ◌≢◌}
use Rattle.std.proofs.Math.Path.{refl, sym, ap, subst}
use Rattle.std.proofs.Common.{◌∙◌, inl, inr, arith}
use mathlib.Core.List.{Memᴰ}
use Rattle.std.proofs.Math.Logic.{⊎_elim}
use Rattle.format.specs.Blocks.{Link, sound_at, spare_of}
use Rattle.format.specs.Sectors.{Apart}
use Rattle.medium.specs.Sectors.{Sector}
use Rattle.pointers.specs.declared.layout.Layout.{Layout}
use Rattle.pointers_format.specs.Linking.{faulty_among, has, links_among, named_by, names, passes, points_well, taken_with}
use Rattle.std.proofs.lemmas.Bool.{and_cases, and_from, and_parts, both_ways, cases_Bool, cond-false, cond-true, eq-eqb, eqb-false, eqb-true, ne_eqb, not-false, not_from_false, not-true, or_cases, or_from, or_parts}

pub some_none : {A : Type 0} {x : A} → Some x ≢ None
some_none {A} {x} e = let z : ◌≡◌ {A = ℕ} 0 1 = cc in omega arith

module _ (l : Layout) (s : List Sector) where
  -- a step of the check
  faulty_pass : (taken : List ℕ) (p : ℕ) (ps : List ℕ) → faulty_among l s taken (p ∷ ps) ≡ None → (passes l s taken p ≡ true) × (faulty_among l s (taken_with s taken p) ps ≡ None)
  faulty_pass taken p ps e =
      ⊎_elim (λ t. (t, sym (cond-true (passes l s taken p) _ _ t) ∙ e)) (λ t. absurd (some_none (sym (cond-false (passes l s taken p) _ _ t) ∙ e))) (cases_Bool (passes l s taken p))

  pass_sound : (taken : List ℕ) (p : ℕ) → sound_at s p ≡ true → passes l s taken p ≡ true → (points_well l s p ≡ true) × (has taken (named_by s p) ≡ false)
  pass_sound taken p so e =
      let parts = and_parts (points_well l s p) (not (has taken (named_by s p))) (sym (cond-true (sound_at s p) _ _ so) ∙ e) in
      (parts.0, not-true _ parts.1)

  -- the homes that are named later were not named before
  taken_before : (taken : List ℕ) (p h : ℕ) → has (taken_with s taken p) h ≡ false → (has taken h ≡ false) × (sound_at s p ≡ true → named_by s p ≢ h)
  taken_before taken p h e =
      let yes' : sound_at s p ≡ true → (has taken h ≡ false) × (sound_at s p ≡ true → named_by s p ≢ h) =
      λ t. let r = or_parts (named_by s p == h) (has taken h) (sym (ap (λ xs. has xs h) (cond-true (sound_at s p) (named_by s p ∷ taken) taken t)) ∙ e) in
      (r.1, λ _ k. eqb-false _ _ r.0 k) in
      let no' : sound_at s p ≡ false → (has taken h ≡ false) × (sound_at s p ≡ true → named_by s p ≢ h) =
      λ t. (sym (ap (λ xs. has xs h) (cond-false (sound_at s p) (named_by s p ∷ taken) taken t)) ∙ e, λ u _. both_ways _ t u) in
      ⊎_elim yes' no' (cases_Bool (sound_at s p))

  -- what no fault says of each sound spare
  abbrev pub Clear : List ℕ → ℕ → Type 0
  Clear taken p = (points_well l s p ≡ true) × (has taken (named_by s p) ≡ false)

  pub clear : (taken ps : List ℕ) → faulty_among l s taken ps ≡ None → (p : ℕ) → Memᴰ p ps → sound_at s p ≡ true → Clear taken p
  clear taken [] e p m so = absurd (mathlib.Core.List.Memᴰ.not-nil m)
  clear taken (x ∷ ps) e p m so =
      let step = faulty_pass taken x ps e in
      let here : p ≡ x → Clear taken p = λ q. subst (Clear taken) (sym q) (pass_sound taken x (subst (λ y. sound_at s y ≡ true) q so) step.0) in
      let later : Memᴰ p ps → Clear taken p =
      λ u. let c = clear (taken_with s taken x) ps step.1 p u so in (c.0, (taken_before taken x (named_by s p) c.1).0) in
      ⊎_elim here later (mathlib.Core.List.Memᴰ.cases_cons m)

  -- a sound spare names another home than each one behind it
  later_differs : (taken : List ℕ) (x : ℕ) (ps : List ℕ) → faulty_among l s taken (x ∷ ps) ≡ None → sound_at s x ≡ true → (p : ℕ) → Memᴰ p ps → sound_at s p ≡ true → named_by s x ≢ named_by s p
  later_differs taken x ps e so p m sp n =
      (taken_before taken x (named_by s p) (clear (taken_with s taken x) ps (faulty_pass taken x ps e).1 p m sp).1).1 so n

  -- no two sound spares name one home
  abbrev pub Once : List ℕ → Type 0
  Once ps = (p q : ℕ) → Memᴰ p ps → Memᴰ q ps → sound_at s p ≡ true → sound_at s q ≡ true → named_by s p ≡ named_by s q → p ≡ q

  pub named_once : (taken ps : List ℕ) → faulty_among l s taken ps ≡ None → Once ps
  named_once taken [] e p q m n sp sq same = absurd (mathlib.Core.List.Memᴰ.not-nil m)
  named_once taken (x ∷ ps) e p q m n sp sq same =
      let moved : (y : ℕ) → y ≡ x → sound_at s y ≡ true → sound_at s x ≡ true = λ y i t. subst (λ z. sound_at s z ≡ true) i t in
      let rest : Memᴰ p ps → Memᴰ q ps → p ≡ q = λ u v. named_once (taken_with s taken x) ps (faulty_pass taken x ps e).1 p q u v sp sq same in
      let first : p ≡ x → p ≡ q = λ i. ⊎_elim (λ (j : q ≡ x). i ∙ sym j) (λ (v : Memᴰ q ps). absurd (later_differs taken x ps e (moved p i sp) q v sq (ap (named_by s) (sym i) ∙ same))) (mathlib.Core.List.Memᴰ.cases_cons n) in
      let second : Memᴰ p ps → p ≡ q = λ u. ⊎_elim (λ (j : q ≡ x). absurd (later_differs taken x ps e (moved q j sq) p u sp (ap (named_by s) (sym j) ∙ sym same))) (rest u) (mathlib.Core.List.Memᴰ.cases_cons n) in
      ⊎_elim first second (mathlib.Core.List.Memᴰ.cases_cons m)

  -- where each sound spare points well and no two name one home, none is faulty
  pub none_faulty : (taken ps : List ℕ) → Apart ps → ((p : ℕ) → Memᴰ p ps → sound_at s p ≡ true → Clear taken p) → Once ps → faulty_among l s taken ps ≡ None
  none_faulty taken [] a each once = refl
  none_faulty taken (x ∷ ps) a each once =
      let once' : Once ps = λ p q m n. once p q (mathlib.Core.List.Memᴰ.tail m) (mathlib.Core.List.Memᴰ.tail n) in
      let sound : sound_at s x ≡ true → faulty_among l s taken (x ∷ ps) ≡ None =
      λ t. let c = each x (mathlib.Core.List.Memᴰ.head refl) t in
      let each' : (p : ℕ) → Memᴰ p ps → sound_at s p ≡ true → Clear (named_by s x ∷ taken) p =
      λ p m u. let d = each p (mathlib.Core.List.Memᴰ.tail m) u in
      (d.0, or_from _ _ (ne_eqb _ _ (λ e. a.0 (mathlib.Core.List.Memᴰ.cast (once x p (mathlib.Core.List.Memᴰ.head refl) (mathlib.Core.List.Memᴰ.tail m) t u e) m))) d.1) in
      let pass : passes l s taken x ≡ true = cond-true (sound_at s x) _ _ t ∙ and_from _ _ c.0 (not_from_false _ c.1) in
      cond-true (passes l s taken x) _ _ pass ∙ ap (λ xs. faulty_among l s xs ps) (cond-true (sound_at s x) (named_by s x ∷ taken) taken t) ∙ none_faulty (named_by s x ∷ taken) ps a.1 each' once' in
      let other : sound_at s x ≡ false → faulty_among l s taken (x ∷ ps) ≡ None =
      λ t. cond-true (passes l s taken x) _ _ (cond-false (sound_at s x) _ _ t) ∙ ap (λ xs. faulty_among l s xs ps) (cond-false (sound_at s x) (named_by s x ∷ taken) taken t) ∙ none_faulty taken ps a.1 (λ p m. each p (mathlib.Core.List.Memᴰ.tail m)) once' in
      ⊎_elim sound other (cases_Bool (sound_at s x))

  -- the first faulty spare p: those before it are not, and it points ill or names a home that is taken
  pub record FirstFaulty (taken ps : List ℕ) (p : ℕ) : Type 0 where
    pub front : List ℕ
    pub back : List ℕ
    pub split : ps ≡ front ++ (p ∷ back)
    pub clean : faulty_among l s taken front ≡ None
    pub sound : sound_at s p ≡ true
    pub ill : (points_well l s p ≡ false) ⊎ ((has taken (named_by s p) ≡ true) ⊎ ((q : ℕ) × Memᴰ q front × (sound_at s q ≡ true) × (named_by s q ≡ named_by s p)))

  fails : (taken : List ℕ) (p : ℕ) → passes l s taken p ≡ false → (sound_at s p ≡ true) × ((points_well l s p ≡ false) ⊎ (has taken (named_by s p) ≡ true))
  fails taken p e =
      let unsound : sound_at s p ≡ false → ⊥ = λ t. both_ways _ (sym (cond-false (sound_at s p) _ _ t) ∙ e) refl in
      let so : sound_at s p ≡ true = ⊎_elim (λ t. t) (λ t. absurd (unsound t)) (cases_Bool (sound_at s p)) in
      (so, ⊎_elim inl (λ n. inr (not-false _ n)) (and_cases (points_well l s p) (not (has taken (named_by s p))) (sym (cond-true (sound_at s p) _ _ so) ∙ e)))

  -- a home that is taken once p was seen was taken before, or p names it
  taken_after : (taken : List ℕ) (p h : ℕ) → has (taken_with s taken p) h ≡ true → (has taken h ≡ true) ⊎ ((sound_at s p ≡ true) × (named_by s p ≡ h))
  taken_after taken p h e =
      let yes' : sound_at s p ≡ true → (has taken h ≡ true) ⊎ ((sound_at s p ≡ true) × (named_by s p ≡ h)) =
      λ t. ⊎_elim (λ u. inr (t, eqb-true _ _ u)) inl (or_cases (named_by s p == h) (has taken h) (sym (ap (λ xs. has xs h) (cond-true (sound_at s p) (named_by s p ∷ taken) taken t)) ∙ e)) in
      ⊎_elim yes' (λ t. inl (sym (ap (λ xs. has xs h) (cond-false (sound_at s p) (named_by s p ∷ taken) taken t)) ∙ e)) (cases_Bool (sound_at s p))

  pub first_faulty : (taken ps : List ℕ) (p : ℕ) → faulty_among l s taken ps ≡ Some p → FirstFaulty taken ps p
  first_faulty taken [] p e = absurd (some_none (sym e))
  first_faulty taken (x ∷ ps) p e =
      let stop : passes l s taken x ≡ false → FirstFaulty taken (x ∷ ps) p =
      λ t. let same : Some x ≡ Some p = sym (cond-false (passes l s taken x) _ _ t) ∙ e in
      let i : x ≡ p = cc in
      let f = fails taken x t in
      subst (FirstFaulty taken (x ∷ ps)) i (record { front = []; back = ps; split = refl; clean = refl; sound = f.0; ill = ⊎_elim inl (λ h. inr (inl h)) f.1 }) in
      let go : passes l s taken x ≡ true → FirstFaulty taken (x ∷ ps) p =
      λ t. let r = first_faulty (taken_with s taken x) ps p (sym (cond-true (passes l s taken x) _ _ t) ∙ e) in
      let here : (sound_at s x ≡ true) × (named_by s x ≡ named_by s p) → (q : ℕ) × Memᴰ q (x ∷ r.front) × (sound_at s q ≡ true) × (named_by s q ≡ named_by s p) = λ h. (x, mathlib.Core.List.Memᴰ.head refl, h.0, h.1) in
      let later : (q : ℕ) × Memᴰ q r.front × (sound_at s q ≡ true) × (named_by s q ≡ named_by s p) → (q : ℕ) × Memᴰ q (x ∷ r.front) × (sound_at s q ≡ true) × (named_by s q ≡ named_by s p) = λ h. (h.0, mathlib.Core.List.Memᴰ.tail h.1, h.2, h.3) in
      record {
        front = x ∷ r.front;
        back = r.back;
        split = ap (λ xs. x ∷ xs) r.split;
        clean = cond-true (passes l s taken x) _ _ t ∙ r.clean;
        sound = r.sound;
        ill = ⊎_elim inl (⊎_elim (λ h. ⊎_elim (λ k. inr (inl k)) (λ k. inr (inr (here k))) (taken_after taken x (named_by s p) h)) (λ h. inr (inr (later h)))) r.ill;
      } in
      ⊎_elim go stop (cases_Bool (passes l s taken x))

module _ (s : List Sector) where
  -- a link is a sound spare with the home that it names
  pub in_links : (ps : List ℕ) (y : Link) → Memᴰ y (links_among s ps) → Memᴰ y.spare ps × (sound_at s y.spare ≡ true) × (y.home ≡ named_by s y.spare)
  in_links [] y m = absurd (mathlib.Core.List.Memᴰ.not-nil m)
  in_links (p ∷ ps) y m =
      let here : Link = record { home = named_by s p; spare = p } in
      let Goal : Type 0 = Memᴰ y.spare (p ∷ ps) × (sound_at s y.spare ≡ true) × (y.home ≡ named_by s y.spare) in
      let later : Memᴰ y (links_among s ps) → Goal = λ u. let r = in_links ps y u in (mathlib.Core.List.Memᴰ.tail r.0, r.1, r.2) in
      let sound : sound_at s p ≡ true → Goal =
      λ t. let first : y ≡ here → Goal = λ e. (mathlib.Core.List.Memᴰ.head (ap (λ z. z.spare) e), subst (λ z. sound_at s z ≡ true) (sym (ap (λ z. z.spare) e)) t, ap (λ z. z.home) e ∙ sym (ap (λ z. named_by s z.spare) e)) in
      ⊎_elim first later (mathlib.Core.List.Memᴰ.cases_cons (subst (λ ls. Memᴰ y ls) (cond-true (sound_at s p) (here ∷ links_among s ps) (links_among s ps) t) m)) in
      let other : sound_at s p ≡ false → Goal = λ t. later (subst (λ ls. Memᴰ y ls) (cond-false (sound_at s p) (here ∷ links_among s ps) (links_among s ps) t) m) in
      ⊎_elim sound other (cases_Bool (sound_at s p))

  -- and each sound spare is one
  pub link_in : (ps : List ℕ) (p : ℕ) → Memᴰ p ps → sound_at s p ≡ true → Memᴰ (record { home = named_by s p; spare = p }) (links_among s ps)
  link_in [] p m so = absurd (mathlib.Core.List.Memᴰ.not-nil m)
  link_in (x ∷ ps) p m so =
      let mine : Link = record { home = named_by s p; spare = p } in
      let first : Link = record { home = named_by s x; spare = x } in
      let rest = links_among s ps in
      let here : p ≡ x → Memᴰ mine (links_among s (x ∷ ps)) =
      λ e. subst (λ ls. Memᴰ mine ls) (sym (cond-true (sound_at s x) (first ∷ rest) rest (subst (λ y. sound_at s y ≡ true) e so))) (mathlib.Core.List.Memᴰ.head (ap (λ y. record { home = named_by s y; spare = y }) e)) in
      let later : Memᴰ p ps → Memᴰ mine (links_among s (x ∷ ps)) =
      λ n. let k = link_in ps p n so in
      ⊎_elim (λ t. subst (λ ls. Memᴰ mine ls) (sym (cond-true (sound_at s x) (first ∷ rest) rest t)) (mathlib.Core.List.Memᴰ.tail k)) (λ t. subst (λ ls. Memᴰ mine ls) (sym (cond-false (sound_at s x) (first ∷ rest) rest t)) k) (cases_Bool (sound_at s x)) in
      ⊎_elim here later (mathlib.Core.List.Memᴰ.cases_cons m)

  -- the search for the spare of a home, step by step
  pub found_step : (p : ℕ) (ps : List ℕ) (k : ℕ) → spare_of (links_among s (p ∷ ps)) k ≡ cond (names s p k) (Some p) (spare_of (links_among s ps) k)
  unfolding names
  found_step p ps k = step (sound_at s p) (record { home = named_by s p; spare = p }) (links_among s ps)
    where
      step : (t : Bool) (x : Link) (ls : List Link) → spare_of (cond t (x ∷ ls) ls) k ≡ cond (t && x.home == k) (Some x.spare) (spare_of ls k)
      step true x ls = refl
      step false x ls = refl

  pub not_found : (ps : List ℕ) (k : ℕ) → ((q : ℕ) → Memᴰ q ps → sound_at s q ≡ true → named_by s q ≢ k) → spare_of (links_among s ps) k ≡ None
  unfolding names
  not_found [] k none = refl
  not_found (p ∷ ps) k none =
      let unnamed : names s p k ≡ false = ⊎_elim (λ t. absurd (let r = and_parts _ _ t in none p (mathlib.Core.List.Memᴰ.head refl) r.0 (eqb-true _ _ r.1))) (λ t. t) (cases_Bool (names s p k)) in
      found_step p ps k ∙ cond-false _ _ _ unnamed ∙ not_found ps k (λ q m. none q (mathlib.Core.List.Memᴰ.tail m))

  pub found : (ps : List ℕ) (k p : ℕ) → Memᴰ p ps → sound_at s p ≡ true → named_by s p ≡ k → ((q : ℕ) → Memᴰ q ps → sound_at s q ≡ true → named_by s q ≡ k → q ≡ p) → spare_of (links_among s ps) k ≡ Some p
  unfolding names
  found [] k p m so e only = absurd (mathlib.Core.List.Memᴰ.not-nil m)
  found (x ∷ ps) k p m so e only =
      let yes' : names s x k ≡ true → spare_of (links_among s (x ∷ ps)) k ≡ Some p =
      λ t. let r = and_parts _ _ t in found_step x ps k ∙ cond-true _ _ _ t ∙ ap Some (only x (mathlib.Core.List.Memᴰ.head refl) r.0 (eqb-true _ _ r.1)) in
      let later : names s x k ≡ false → Memᴰ p ps =
      λ t. ⊎_elim (λ (i : p ≡ x). absurd (both_ways _ t (subst (λ z. names s z k ≡ true) i (and_from _ _ so (eq-eqb _ _ e))))) (λ (u : Memᴰ p ps). u) (mathlib.Core.List.Memᴰ.cases_cons m) in
      let no' : names s x k ≡ false → spare_of (links_among s (x ∷ ps)) k ≡ Some p = λ t. found_step x ps k ∙ cond-false _ _ _ t ∙ found ps k p (later t) so e (λ q n. only q (mathlib.Core.List.Memᴰ.tail n)) in
      ⊎_elim yes' no' (cases_Bool (names s x k))

  pub found_in : (ps : List ℕ) (k p : ℕ) → spare_of (links_among s ps) k ≡ Some p → Memᴰ p ps × (sound_at s p ≡ true)
  unfolding names
  found_in [] k p e = absurd (some_none (sym e))
  found_in (x ∷ ps) k p e =
      let Goal : Type 0 = Memᴰ p (x ∷ ps) × (sound_at s p ≡ true) in
      let yes' : names s x k ≡ true → Goal =
      λ t. let f : Some x ≡ Some p = sym (cond-true _ _ _ t) ∙ sym (found_step x ps k) ∙ e in
      let i : p ≡ x = cc in
      (mathlib.Core.List.Memᴰ.head i, subst (λ z. sound_at s z ≡ true) (sym i) (and_parts _ _ t).0) in
      let no' : names s x k ≡ false → Goal = λ t. let r = found_in ps k p (sym (cond-false _ _ _ t) ∙ sym (found_step x ps k) ∙ e) in (mathlib.Core.List.Memᴰ.tail r.0, r.1) in
      ⊎_elim yes' no' (cases_Bool (names s x k))
