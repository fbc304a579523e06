-- What reading a sheet answers, way by way.
use Rattle.std.proofs.Common.{◌≡◌, ℕ, Bool, true, false, ◌&&◌, List, take, drop, replicate, Ok, sym, refl, ap, ◌∙◌, subst, ap₂, inl, inr, ⊎_elim, MatchResult}
use mathlib.Core.Bool.{Bool-set}
use mathlib.Core.HLevel.{is_prop→PathP}
use Rattle.format.specs.Laws.{format_fault}
use Rattle.medium.specs.declared.faults.Refusal.TheVariants.{BrokenLayout, WrongSectorCount}
use Rattle.pointers.proofs.Ruled.{fits_sized, rules_of, sized, valid_from}
use Rattle.pointers.specs.Places.{first_track}
use Rattle.pointers.specs.Reading.{SheetRead, SheetRefused, SheetRules, broken_layout, given_that, layout_read, sheet_read, wrong_size}
use Rattle.pointers.specs.Rules.{fits_format, last_track, layout_valid}
use Rattle.pointers.specs.Sheets.{Marked, head, layout_in, marked}
use Rattle.pointers.specs.declared.layout.Layout.{Layout}
use Rattle.pointers.specs.declared.pointers.Pointers.{Pointers}
use Rattle.std.proofs.lemmas.Slice.Eq.{bytes_eq-Decides}
use Rattle.std.proofs.lemmas.Bool.{and_from, and_parts, both_ways, cases_Bool, cond-false, cond-true, false≢true}
use Rattle.std.specs.Str.{bytes_eq}

marked_so : (first : ℕ) (d : List ℕ) → marked first d ≡ true → Marked first d
unfolding marked
marked_so first d t =
    let h = and_parts (bytes_eq (take 4 d) (head first)) (bytes_eq (take 16 (drop 14 d)) (replicate 16 0xFF)) t in
    ((bytes_eq-Decides (take 4 d) (head first)).0 h.0, (bytes_eq-Decides (take 16 (drop 14 d)) (replicate 16 0xFF)).0 h.1)

so_marked : (first : ℕ) (d : List ℕ) → Marked first d → marked first d ≡ true
unfolding marked
so_marked first d h = and_from _ _ ((bytes_eq-Decides (take 4 d) (head first)).1 h.0) ((bytes_eq-Decides (take 16 (drop 14 d)) (replicate 16 0xFF)).1 h.1)

-- two of a size and a layout are the same
pub same_pointers : (f g : Pointers) → f.sectors ≡ g.sectors → f.layout ≡ g.layout → f ≡ g
same_pointers f g e q =
    λ i. record {
      sectors = e i;
      layout = q i;
      sized = is_prop→PathP (λ j. fits_format (e j) ≡ true) (λ j. Bool-set (fits_format (e j)) true) f.sized g.sized i;
      valid = is_prop→PathP (λ j. layout_valid (last_track (e j)) (q j) ≡ true) (λ j. Bool-set (layout_valid (last_track (e j)) (q j)) true) f.valid g.valid i;
    }

given_true : {A : Type 0} (t : Bool) (f : t ≡ true → A) (x : A) (e : t ≡ true) → given_that t f x ≡ f e
given_true true f x e = ap f (Bool-set true true refl e)
given_true false f x e = absurd (false≢true e)

given_false : {A : Type 0} (t : Bool) (f : t ≡ true → A) (x : A) → t ≡ false → given_that t f x ≡ x
given_false true f x e = absurd (false≢true (sym e))
given_false false f x e = refl

module _ (p : ℕ) (d : List ℕ) where
  pub wrong : fits_format p ≡ false → (wrong_size ≡ sheet_read p d) × SheetRefused p d (format_fault WrongSectorCount 0)
  wrong t = (sym (given_false (fits_format p) (layout_read p d) wrong_size t), inl (refl, (λ n s. both_ways _ t (fits_sized p n s))))

  -- what is read where the tests hold
  pub reads : (f : Pointers) → f.sectors ≡ p → f.layout ≡ layout_in d → marked (first_track (layout_in d)) d ≡ true → Ok f ≡ sheet_read p d
  reads f e q m =
      let fits : fits_format p ≡ true = ap fits_format (sym e) ∙ f.sized in
      let valid : layout_valid (last_track p) (layout_in d) ≡ true = ap₂ (λ x l. layout_valid (last_track x) l) (sym e) (sym q) ∙ f.valid in
      ap Ok (same_pointers f (record { sectors = p; layout = layout_in d; sized = fits; valid = valid }) e q)
      ∙ sym (given_true (fits_format p) (layout_read p d) wrong_size fits ∙ given_true (layout_valid (last_track p) (layout_in d)) _ broken_layout valid ∙ cond-true (marked (first_track (layout_in d)) d) _ _ m)

  -- the layout l was read from the bytes
  module _ (l : Layout) (e : l ≡ layout_in d) (fits : fits_format p ≡ true) where
    abbrev stands : Layout → Bool
    stands m = layout_valid (last_track p) m && marked (first_track m) d

    broken_read : stands (layout_in d) ≡ false → sheet_read p d ≡ broken_layout
    broken_read t =
        let m = layout_in d in
        let first = given_true (fits_format p) (layout_read p d) wrong_size fits in
        let unruly : layout_valid (last_track p) m ≡ false → sheet_read p d ≡ broken_layout = λ v. first ∙ given_false (layout_valid (last_track p) m) _ broken_layout v in
        let unmarked : layout_valid (last_track p) m ≡ true → sheet_read p d ≡ broken_layout =
        λ v. first ∙ given_true (layout_valid (last_track p) m) _ broken_layout v ∙ cond-false (marked (first_track m) d) _ _ (ap (λ b. b && marked (first_track m) d) (sym v) ∙ t) in
        ⊎_elim unmarked unruly (cases_Bool (layout_valid (last_track p) m))

    pub broken : stands l ≡ false → (broken_layout ≡ sheet_read p d) × SheetRefused p d (format_fault BrokenLayout 0)
    broken t =
        let u : stands (layout_in d) ≡ false = ap stands (sym e) ∙ t in
        let against : SheetRules (last_track p) d → ⊥ = λ h. both_ways _ u (and_from _ _ (valid_from (last_track p) (layout_in d) h.0) (so_marked (first_track (layout_in d)) d h.1)) in
        (sym (broken_read u), inr (refl, (last_track p, sized p fits, against)))

    pub stood : stands l ≡ true → (f : Pointers) → f.sectors ≡ p → f.layout ≡ l → (Ok f ≡ sheet_read p d) × SheetRead p d f
    stood t f s q =
        let u : stands (layout_in d) ≡ true = ap stands (sym e) ∙ t in
        let h = and_parts (layout_valid (last_track p) (layout_in d)) (marked (first_track (layout_in d)) d) u in
        (reads f s (q ∙ e) h.1, record { size = s; sized = sized p fits; given = q ∙ e; rules = (rules_of (last_track p) (layout_in d) h.0, marked_so (first_track (layout_in d)) d h.1) })

-- the answer says what it means
pub read_means : (p : ℕ) (d : List ℕ) → MatchResult (sheet_read p d) (SheetRead p d) (SheetRefused p d)
read_means p d =
    let l = layout_in d in
    let Meant : Type 0 = MatchResult (sheet_read p d) (SheetRead p d) (SheetRefused p d) in
    let unfit : fits_format p ≡ false → Meant = λ t. let r = wrong p d t in subst (λ a. MatchResult a (SheetRead p d) (SheetRefused p d)) r.0 r.1 in
    let unruly : fits_format p ≡ true → (layout_valid (last_track p) l && marked (first_track l) d) ≡ false → Meant =
    λ t u. let r = broken p d l refl t u in subst (λ a. MatchResult a (SheetRead p d) (SheetRefused p d)) r.0 r.1 in
    let well : fits_format p ≡ true → (layout_valid (last_track p) l && marked (first_track l) d) ≡ true → Meant =
    λ t u. let r = stood p d l refl t u (record { sectors = p; layout = l; sized = t; valid = (and_parts _ _ u).0 }) refl refl in subst (λ a. MatchResult a (SheetRead p d) (SheetRefused p d)) r.0 r.1 in
    ⊎_elim (λ t. ⊎_elim (well t) (unruly t) (cases_Bool (layout_valid (last_track p) l && marked (first_track l) d))) unfit (cases_Bool (fits_format p))
