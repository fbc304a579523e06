-- The listing of areas, step by step.
use Rattle.std.proofs.lemmas.Grind.{common_steps}
use Rattle.std.proofs.Common.{◌≡◌, ℕ, zero, suc, ◌+◌, ◌*◌, ◌<◌, true, false, not, ◌&&◌, eqb, List, [], ◌∷◌, ◌++◌, length, get_or, Some, None, Option, sym, refl, ap, ◌∙◌, arith}
use Rattle.maps.specs.Areas.{area_from, begun, begun_in}
use Rattle.std.specs.Option.{MatchOption, option_or}
use Rattle.std.specs.List.{cons_option, filter_map, range_with_len}
use Rattle.maps.specs.Places.{bands_of, first_home, no_band, overflow}
use Rattle.maps.specs.declared.areas.Area.{Area}
use Rattle.maps.specs.declared.bands.Band.{Band}
use Rattle.maps.specs.declared.bands.Layout.{Layout}
use Rattle.maps.specs.declared.bands.Purpose.TheVariants.{Map, Alternative, Prime}
use Rattle.std.proofs.lemmas.List.Elements.{filter_map-append}

module _ (k : ℕ) (x : Band) (t : ℕ) where
  pub begun_map : x.maps ≡ 32 * (t + 2) → begun_in k x t ≡ Some (area_from k x Map t)
  begun_map e = grind (arith, common_steps)

  module _ (no_map : x.maps ≡ 32 * (t + 2) → ⊥) where
    pub begun_alternative : x.spares ≡ 32 * (t + 2) → begun_in k x t ≡ Some (area_from k x Alternative t)
    begun_alternative e = grind (arith, common_steps)

    module _ (no_alternative : x.spares ≡ 32 * (t + 2) → ⊥) where
      pub begun_prime : (not (overflow x) && eqb (first_home x) (32 * (t + 2))) ≡ true → begun_in k x t ≡ Some (area_from k x Prime t)
      begun_prime e = grind (arith, common_steps)

      pub begun_none : (not (overflow x) && eqb (first_home x) (32 * (t + 2))) ≡ false → begun_in k x t ≡ None
      begun_none e = grind (arith, common_steps)

-- the area of the first band that has one there, or none
abbrev pub BegunFirst : ℕ → List Band → ℕ → Option Area → Type 0
BegunFirst n bs t r =
    MatchOption r
    ((k : ℕ) → k < length bs → begun_in (k + n) (get_or bs k no_band) t ≡ None)
    (λ a. (i : ℕ) × (i < length bs) × (begun_in (i + n) (get_or bs i no_band) t ≡ Some a) × ((k : ℕ) → k < i → begun_in (k + n) (get_or bs k no_band) t ≡ None))

module _ (x : Band) (xs : List Band) (n t : ℕ) where
  begun_here : (o : Option Area) → begun_in (0 + n) x t ≡ o → begun n (x ∷ xs) t ≡ option_or o (begun (n + 1) xs t)
  begun_here o e = grind (arith, common_steps)

  begun_later : (k : ℕ) (o : Option Area) → begun_in (suc k + n) (get_or xs k no_band) t ≡ o → begun_in (k + (n + 1)) (get_or xs k no_band) t ≡ o
  begun_later k o e = grind (arith, common_steps)

begun_at : (n : ℕ) (bs : List Band) (t : ℕ) (a : Area) (i : ℕ) → i < length bs → begun_in (i + n) (get_or bs i no_band) t ≡ Some a → ((k : ℕ) → k < i → begun_in (k + n) (get_or bs k no_band) t ≡ None) → Some a ≡ begun n bs t
begun_at n [] t a i h e f = absurd (omega arith)
begun_at n (x ∷ xs) t a zero h e f = sym (begun_here x xs n t (Some a) e)
begun_at n (x ∷ xs) t a (suc i) h e f =
    begun_at (n + 1) xs t a i (omega arith) (begun_later x xs n t i (Some a) e) (λ k l. begun_later x xs n t k None (f (suc k) (omega arith)))
    ∙ sym (begun_here x xs n t None (f 0 (omega arith)))

begun_nowhere : (n : ℕ) (bs : List Band) (t : ℕ) → ((k : ℕ) → k < length bs → begun_in (k + n) (get_or bs k no_band) t ≡ None) → None ≡ begun n bs t
begun_nowhere n [] t f = refl
begun_nowhere n (x ∷ xs) t f =
    begun_nowhere (n + 1) xs t (λ k l. begun_later x xs n t k None (f (suc k) (omega arith))) ∙ sym (begun_here x xs n t None (f 0 (omega arith)))

pub begun_first : (n : ℕ) (bs : List Band) (t : ℕ) (r : Option Area) → BegunFirst n bs t r → r ≡ begun n bs t
begun_first n bs t None f = begun_nowhere n bs t f
begun_first n bs t (Some a) f = begun_at n bs t a f.0 f.1 f.2 f.3

range_more : (a n k : ℕ) → a + n ≡ k → range_with_len a (suc n) ≡ range_with_len a n ++ k ∷ []
range_more a zero k e = grind (arith, common_steps)
range_more a (suc n) k e = ap (λ xs. a ∷ xs) (range_more (a + 1) n k (omega arith))

abbrev pub as_list : Option Area → List Area
as_list o = cons_option o []

-- the areas that begin before track t, track by track
abbrev pub areas_before : Layout → ℕ → List Area
areas_before l zero = []
areas_before l (suc t) = areas_before l t ++ as_list (begun 1 (bands_of l) t)

-- they are those that are listed
pub before_listed : (l : Layout) (t : ℕ) → areas_before l t ≡ filter_map (begun 1 (bands_of l)) (range_with_len 0 t)
before_listed l zero = grind (arith, common_steps)
before_listed l (suc t) =
    ap (λ xs. xs ++ as_list (begun 1 (bands_of l) t)) (before_listed l t)
    ∙ sym (filter_map-append (begun 1 (bands_of l)) (range_with_len 0 t) (t ∷ []))
    ∙ ap (filter_map (begun 1 (bands_of l))) (sym (range_more 0 t t (omega arith)))
