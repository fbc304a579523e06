-- The check of the links, spare by spare.
use Rattle.std.proofs.Common.{◌≡◌, ℕ, ◌<◌, Bool, true, false, cond, not, ◌&&◌, ◌||◌, eqb, List, [], ◌∷◌, length, get_or, set, replicate, Some, None, sym, refl, ap, ◌∙◌, subst, ⊎_elim, arith}
use mathlib.Core.List.{Memᴰ}
use Rattle.format.specs.Blocks.{sound_at}
use Rattle.medium.specs.Sectors.{Sector}
use Rattle.pointers.proofs.Spared.{may_only}
use Rattle.pointers.specs.Rules.{last_track}
use Rattle.pointers.specs.Spares.{all_spares, may_replace}
use Rattle.pointers.specs.declared.pointers.Pointers.{Pointers}
use Rattle.pointers.specs.declared.layout.Layout.{Layout}
use Rattle.pointers_format.specs.Mounted.{few_sectors, home_inside, rules, well_parts}
use Rattle.pointers_format.specs.Linking.{faulty, faulty_among, has, marks_with, named_by, passes, passes_unless, points_well, taken_with}
use Rattle.std.proofs.lemmas.List.{get_or-replicate, get_or-set_other, get_or-set_same, length-replicate, length-set}
use Rattle.std.proofs.lemmas.Bool.{and_parts, cases_Bool, cases_eq, cond-false, cond-true, eq-eqb, ne_eqb, or_left}

-- a home that a spare may stand for lies on the medium
pub may_inside : (g : Pointers) (p h : ℕ) → Memᴰ p (all_spares g.layout) → may_replace g.layout p h ≡ true → (h < g.sectors) × (h < 620000)
may_inside g p h m t =
    let r = may_only (last_track g.sectors) g.layout (rules g) p h m t in
    let k : h < g.sectors = subst (λ x. x < g.sectors) r.2 (home_inside g r.0 r.1) in
    let f = few_sectors g in
    (k, omega arith)

pub well_inside : (g : Pointers) (s : List Sector) (p : ℕ) → Memᴰ p (all_spares g.layout) → points_well g.layout s p ≡ true → named_by s p < 620000
well_inside g s p m t = (may_inside g p (named_by s p) m (well_parts g.layout s p t).0).1

-- the homes in taken are marked, and what is left to check comes to the whole
pub record Checking (l : Layout) (s : List Sector) (marks : List Bool) (rest : List ℕ) : Type 0 where
  pub taken : List ℕ
  pub still : faulty_among l s taken rest ≡ faulty l s
  pub marked : (h : ℕ) → h < 620000 → get_or marks h false ≡ has taken h
  pub as_many : length marks ≡ 620000
  pub listed : (p : ℕ) → Memᴰ p rest → Memᴰ p (all_spares l)

pub checking_start : (l : Layout) (s : List Sector) (n : ℕ) (rest : List ℕ) → n ≡ 620000 → rest ≡ all_spares l → Checking l s (replicate n false) rest
unfolding faulty
checking_start l s n rest e all = record { taken = []; still = ap (faulty_among l s []) all; marked = λ h k. get_or-replicate n h false false (omega arith); as_many = length-replicate n false ∙ e; listed = λ p m. subst (Memᴰ p) all m }

module _ (g : Pointers) (s : List Sector) (marks : List Bool) (rest : List ℕ) (k : Checking g.layout s marks rest) where
  pub checking_done : rest ≡ [] → None ≡ faulty g.layout s
  checking_done none = ap (faulty_among g.layout s k.taken) (sym none) ∙ k.still

  module _ (p : ℕ) (later : List ℕ) (more : rest ≡ p ∷ later) where
    abbrev l : Layout
    l = g.layout

    abbrev seen : Bool
    seen = get_or marks (named_by s p) false

    pub checking_listed : Memᴰ p (all_spares l)
    checking_listed = k.listed p (subst (Memᴰ p) (sym more) (Memᴰ.head refl))

    passes_same : passes_unless l s seen p ≡ passes l s k.taken p
    passes_same =
        let n = has k.taken (named_by s p) in
        let well : points_well l s p ≡ true → (points_well l s p && not seen) ≡ (points_well l s p && not n) = λ t. ap (λ b. points_well l s p && not b) (k.marked (named_by s p) (well_inside g s p checking_listed t)) in
        let ill : points_well l s p ≡ false → (points_well l s p && not seen) ≡ (points_well l s p && not n) = λ t. ap (λ b. b && not seen) t ∙ sym (ap (λ b. b && not n) t) in
        ap (λ b. cond (sound_at s p) b true) (⊎_elim well ill (cases_Bool (points_well l s p)))

    split : cond (passes l s k.taken p) (faulty_among l s (taken_with s k.taken p) later) (Some p) ≡ faulty l s
    split = ap (faulty_among l s k.taken) (sym more) ∙ k.still

    pub checking_stop : passes_unless l s seen p ≡ false → Some p ≡ faulty l s
    checking_stop n = sym (cond-false (passes l s k.taken p) _ _ (sym passes_same ∙ n)) ∙ split

    -- a sound spare that passes points well
    passed_well : passes_unless l s seen p ≡ true → sound_at s p ≡ true → points_well l s p ≡ true
    passed_well y t = (and_parts (points_well l s p) (not seen) (sym (cond-true (sound_at s p) _ _ t) ∙ y)).0

    marked_next : passes_unless l s seen p ≡ true → (h : ℕ) → h < 620000 → get_or (marks_with s marks p) h false ≡ has (taken_with s k.taken p) h
    marked_next y h low =
        let n = named_by s p in
        let sound : sound_at s p ≡ true → get_or (marks_with s marks p) h false ≡ has (taken_with s k.taken p) h =
        λ t. let small = well_inside g s p checking_listed (passed_well y t) in
        let m = k.as_many in
        let here : n ≡ h → get_or (set marks n true) h false ≡ (eqb n h || has k.taken h) =
        λ e. ap (λ x. get_or (set marks n true) x false) (sym e) ∙ get_or-set_same marks n true false (omega arith) ∙ sym (or_left (eqb n h) _ (eq-eqb n h e)) in
        let other : (n ≡ h → ⊥) → get_or (set marks n true) h false ≡ (eqb n h || has k.taken h) =
        λ d. get_or-set_other marks n h true false (λ e. d (sym e)) ∙ k.marked h low ∙ sym (ap (λ b. b || has k.taken h) (ne_eqb n h d)) in
        ap (λ ms. get_or ms h false) (cond-true (sound_at s p) (set marks n true) marks t) ∙ ⊎_elim here other (cases_eq n h) ∙ sym (ap (λ xs. has xs h) (cond-true (sound_at s p) (n ∷ k.taken) k.taken t)) in
        let unsound : sound_at s p ≡ false → get_or (marks_with s marks p) h false ≡ has (taken_with s k.taken p) h =
        λ t. ap (λ ms. get_or ms h false) (cond-false (sound_at s p) (set marks n true) marks t) ∙ k.marked h low ∙ sym (ap (λ xs. has xs h) (cond-false (sound_at s p) (n ∷ k.taken) k.taken t)) in
        ⊎_elim sound unsound (cases_Bool (sound_at s p))

    marks_length : length (marks_with s marks p) ≡ length marks
    marks_length =
        ⊎_elim (λ t. ap length (cond-true (sound_at s p) (set marks (named_by s p) true) marks t) ∙ length-set marks (named_by s p) true) (λ t. ap length (cond-false (sound_at s p) (set marks (named_by s p) true) marks t)) (cases_Bool (sound_at s p))

    pub checking_next : (t : List Bool) → t ≡ marks_with s marks p → passes_unless l s seen p ≡ true → Checking l s t later
    checking_next t e y =
        record {
          taken = taken_with s k.taken p;
          still = sym (cond-true (passes l s k.taken p) _ _ (sym passes_same ∙ y)) ∙ split;
          marked = λ h low. ap (λ ms. get_or ms h false) e ∙ marked_next y h low;
          as_many = ap length e ∙ marks_length ∙ k.as_many;
          listed = λ q m. k.listed q (subst (Memᴰ q) (sym more) (Memᴰ.tail m));
        }
