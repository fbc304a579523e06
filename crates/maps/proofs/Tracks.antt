-- The list of areas has every area of the layout and no other, in rising order.
use Rattle.std.proofs.lemmas.Grind.{common_steps}
use Rattle.std.proofs.Common.{◌≡◌, ℕ, zero, suc, ◌+◌, ◌-◌, ◌*◌, ◌/◌, ◌%◌, ◌<◌, ◌≤◌, true, false, not, ◌&&◌, eqb, List, [], ◌∷◌, ◌++◌, map, length, get_or, Some, None, Option, sym, refl, ap, ◌∙◌, subst, ⊎_elim, arith}
use mathlib.Core.List.Memᴰ
use mathlib.Core.List.{Memᴰ}
use Rattle.maps.proofs.Found.{laid, long, one_place}
use Rattle.maps.proofs.Listed.{areas_before, as_list, before_listed, begun_alternative, begun_map, begun_none, begun_prime}
use Rattle.maps.proofs.Standing.{Stands, each_stands, stands}
use Rattle.std.specs.Option.{option_or}
use Rattle.maps.specs.Areas.{AreaTold, AreasListed, all_areas, area_from, begun, begun_in}
use Rattle.maps.specs.Places.{InArea, band_formed, band_of, bands_of, first_home, first_of, homes_of, no_band, overflow, sectors_for, size_of, valid, whole_tracks}
use Rattle.maps.specs.declared.areas.Area.{Area}
use Rattle.maps.specs.declared.bands.Band.{Band}
use Rattle.maps.specs.declared.bands.Layout.{Layout}
use Rattle.maps.specs.declared.bands.Purpose.{Purpose}
use Rattle.maps.specs.declared.bands.Purpose.TheVariants.{Map, Alternative, Prime}
use Rattle.medium.specs.Order.{Rising}
use Rattle.std.proofs.lemmas.List.{append-nil, map_push}
use Rattle.std.proofs.lemmas.Bool.{and_parts, cases_Bool, cases_eq, cases_lt, eqb-true, not-true}

-- the area of x for the use a begins on track t
abbrev Starts : Band → Purpose → ℕ → Type 0
Starts x a t = (first_of x a ≡ 32 * (t + 2)) × (1 ≤ size_of x a)

-- area r of band number k begins on track t
record Begun (k : ℕ) (x : Band) (t : ℕ) (r : Area) : Type 0 where
  pub band : r.band ≡ k
  pub first : r.first ≡ t
  pub last : r.last ≡ t + (size_of x r.purpose - 1) / 32
  pub starts : Starts x r.purpose t

some_none : (r : Area) (o : Option Area) → o ≡ Some r → o ≡ None → ⊥
some_none r o p q = cc

module _ (k : ℕ) (x : Band) (t : ℕ) where
  begun_as : (a : Purpose) (r : Area) → Starts x a t → begun_in k x t ≡ Some (area_from k x a t) → begun_in k x t ≡ Some r → Begun k x t r
  begun_as a r s e f = grind (arith, common_steps)

  in_sound : (overflow x ≡ false → 1 ≤ homes_of x) → (r : Area) → begun_in k x t ≡ Some r → Begun k x t r
  in_sound homes r f =
      ⊎_elim
      (λ (m : x.maps ≡ 32 * (t + 2)). begun_as Map r (m, omega arith) (begun_map k x t m) f)
      (λ (m : x.maps ≡ 32 * (t + 2) → ⊥).
      ⊎_elim
      (λ (s : x.spares ≡ 32 * (t + 2)). begun_as Alternative r (s, omega arith) (begun_alternative k x t m s) f)
      (λ (s : x.spares ≡ 32 * (t + 2) → ⊥).
      ⊎_elim
      (λ p.
      let two = and_parts (not (overflow x)) (eqb (first_home x) (32 * (t + 2))) p in
      let some : overflow x ≡ false = not-true (overflow x) two.0 in
      begun_as Prime r (eqb-true _ _ two.1, homes some) (begun_prime k x t m s p) f)
      (λ p. absurd (some_none r (begun_in k x t) f (begun_none k x t m s p)))
      (cases_Bool (not (overflow x) && eqb (first_home x) (32 * (t + 2)))))
      (cases_eq x.spares (32 * (t + 2))))
      (cases_eq x.maps (32 * (t + 2)))

  in_none : (a : Purpose) → begun_in k x t ≡ None → Starts x a t → ⊥
  in_none a f s = grind (arith, common_steps)

-- the area that begins on a track, over all bands
abbrev Sound : ℕ → List Band → ℕ → Area → Type 0
Sound n bs t r = (j : ℕ) × (j < length bs) × Begun (n + j) (get_or bs j no_band) t r

-- each prime area has a sector
abbrev Homed : List Band → Type 0
Homed bs = (j : ℕ) → j < length bs → overflow (get_or bs j no_band) ≡ false → 1 ≤ homes_of (get_or bs j no_band)

all_sound : (n : ℕ) (bs : List Band) → Homed bs → (t : ℕ) (r : Area) → begun n bs t ≡ Some r → Sound n bs t r
all_sound n [] homed t r f = absurd (some_none r None f refl)
all_sound n (x ∷ xs) homed t r f = by (begun_in n x t) refl f (λ g. all_sound (n + 1) xs (λ j h. homed (suc j) (omega arith)) t r g)
  where
    by : (o : Option Area) → begun_in n x t ≡ o → option_or o (begun (n + 1) xs t) ≡ Some r → (begun (n + 1) xs t ≡ Some r → Sound (n + 1) xs t r) → Sound n (x ∷ xs) t r
    by (Some a) e g more = let z : n ≡ n + 0 = omega arith in (0, omega arith, subst (λ i. Begun i x t r) z (in_sound n x t (homed 0 (omega arith)) r (e ∙ g)))
    by None e g more =
        let m = more g in
        let l = m.1 in
        let z : n + 1 + m.0 ≡ n + suc m.0 = omega arith in
        (suc m.0, omega arith, subst (λ i. Begun i (get_or xs m.0 no_band) t r) z m.2)

all_none : (n : ℕ) (bs : List Band) (t j : ℕ) (a : Purpose) → begun n bs t ≡ None → j < length bs → Starts (get_or bs j no_band) a t → ⊥
all_none n [] t j a f h s = absurd (omega arith)
all_none n (x ∷ xs) t j a f h s = by (begun_in n x t) refl f j h s (λ g i l w. all_none (n + 1) xs t i a g l w)
  where
    by : (o : Option Area) → begun_in n x t ≡ o → option_or o (begun (n + 1) xs t) ≡ None → (j : ℕ) → j < length (x ∷ xs) → Starts (get_or (x ∷ xs) j no_band) a t → (begun (n + 1) xs t ≡ None → (i : ℕ) → i < length xs → Starts (get_or xs i no_band) a t → ⊥) → ⊥
    by (Some b) e g j h s more = some_none b (Some b) refl g
    by None e g zero h s more = in_none n x t a e s
    by None e g (suc j) h s more = more g j (omega arith) s

-- lists of numbers that rise, and one more
rising_push : (xs : List ℕ) (y : ℕ) → Rising xs → ((k : ℕ) → k < length xs → get_or xs k 0 < y) → Rising (xs ++ y ∷ [])
rising_push xs y rise below k h = grind (arith, common_steps)

below_push : (xs : List ℕ) (y : ℕ) → ((k : ℕ) → k < length xs → get_or xs k 0 < y) → (k : ℕ) → k < length (xs ++ y ∷ []) → get_or (xs ++ y ∷ []) k 0 < suc y
below_push xs y below k h = grind (arith, common_steps)

abbrev firsts : List Area → List ℕ
firsts rs = map (λ r. r.first) rs

whole_by : (x : Band) → whole_tracks x ≡ true → (b : Purpose) → (first_of x b % 32 ≡ 0) × (size_of x b % 32 ≡ 0)
whole_by x w Map = grind (arith, common_steps)
whole_by x w Alternative = grind (arith, common_steps)
whole_by x w Prime = grind (arith, common_steps)

-- the area of a band that stands lies within the tracks
area_within : (end : ℕ) (x : Band) → Stands end x → (a : Purpose) → 1 ≤ size_of x a → (64 ≤ first_of x a) × (first_of x a + size_of x a ≤ end)
area_within end x s Map h = grind (arith, common_steps)
area_within end x s Alternative h = grind (arith, common_steps)
area_within end x s Prime h = grind (arith, common_steps)

module _ (l : Layout) (kept : valid l ≡ true) (eight : length l.bands ≡ 8) (formed : (k : ℕ) → band_formed l.count k (band_of l k) ≡ true) where
  used : (k : ℕ) → k < l.count → get_or (bands_of l) k no_band ≡ band_of l k
  used k h = grind (arith, common_steps)

  homed : Homed (bands_of l)
  homed j h = (stands (sectors_for l.last) (get_or (bands_of l) j no_band) (each_stands (sectors_for l.last) (bands_of l) (laid l kept).stand j h)).primes.some_home

  rise : (t : ℕ) → Rising (firsts (areas_before l t)) × ((k : ℕ) → k < length (firsts (areas_before l t)) → get_or (firsts (areas_before l t)) k 0 < t)
  rise zero = ((λ k h. absurd (omega arith)), (λ k h. absurd (omega arith)))
  rise (suc t) = by (begun 1 (bands_of l) t) refl (rise t)
    where
      by : (o : Option Area) → begun 1 (bands_of l) t ≡ o → Rising (firsts (areas_before l t)) × ((k : ℕ) → k < length (firsts (areas_before l t)) → get_or (firsts (areas_before l t)) k 0 < t) → Rising (firsts (areas_before l t ++ as_list o)) × ((k : ℕ) → k < length (firsts (areas_before l t ++ as_list o)) → get_or (firsts (areas_before l t ++ as_list o)) k 0 < suc t)
      by (Some r) e p =
          let first : r.first ≡ t = (all_sound 1 (bands_of l) homed t r e).2.first in
          let same : firsts (areas_before l t) ++ t ∷ [] ≡ firsts (areas_before l t ++ r ∷ []) = ap (λ n. firsts (areas_before l t) ++ n ∷ []) (sym first) ∙ sym (map_push (λ s. s.first) (areas_before l t) r) in
          (subst Rising same (rising_push (firsts (areas_before l t)) t p.0 p.1), subst (λ ys. (k : ℕ) → k < length ys → get_or ys k 0 < suc t) same (below_push (firsts (areas_before l t)) t p.1))
      by None e p =
          let same : firsts (areas_before l t) ≡ firsts (areas_before l t ++ []) = ap firsts (sym (append-nil (areas_before l t))) in
          (subst Rising same p.0, subst (λ ys. (k : ℕ) → k < length ys → get_or ys k 0 < suc t) same (λ k h. let b = p.1 k h in omega arith))

  whole_size : (k : ℕ) (a : Purpose) → (first_of (band_of l k) a % 32 ≡ 0) × (size_of (band_of l k) a % 32 ≡ 0)
  whole_size k a = grind (arith, common_steps)

  told : (t : ℕ) (r : Area) → begun 1 (bands_of l) t ≡ Some r → AreaTold l r
  told t r e =
      let s = all_sound 1 (bands_of l) homed t r e in
      let j : ℕ = s.0 in
      let within = s.1 in
      let long = long l kept eight in
      let known : j < l.count = omega arith in
      let g = subst (λ x. Begun (1 + j) x t r) (used j known) s.2 in
      let number = g.band in
      let back : r.band - 1 ≡ j = omega arith in
      let whole = (whole_size j r.purpose).1 in
      let track = g.first in
      let behind = g.last in
      let start = g.starts.0 in
      let some = g.starts.1 in
      let end : first_of (band_of l j) r.purpose + size_of (band_of l j) r.purpose ≡ 32 * (r.last + 3) = omega arith in
      let begin : first_of (band_of l j) r.purpose ≡ 32 * (r.first + 2) = omega arith in
      record {
        some_band = omega arith;
        known_band = omega arith;
        begins = subst (λ i. first_of (band_of l i) r.purpose ≡ 32 * (r.first + 2)) (sym back) begin;
        ends = subst (λ i. first_of (band_of l i) r.purpose + size_of (band_of l i) r.purpose ≡ 32 * (r.last + 3)) (sym back) end;
      }

  each_told : (t : ℕ) (r : Area) → Memᴰ r (areas_before l t) → AreaTold l r
  each_told zero r m = absurd (Memᴰ.not-nil m)
  each_told (suc t) r m = ⊎_elim (λ n. each_told t r n) (λ n. by (begun 1 (bands_of l) t) refl n) (Memᴰ.append_cases (areas_before l t) m)
    where
      by : (o : Option Area) → begun 1 (bands_of l) t ≡ o → Memᴰ r (as_list o) → AreaTold l r
      by (Some s) e n = ⊎_elim (λ (q : r ≡ s). told t r (e ∙ ap Some (sym q))) (λ n. absurd (Memᴰ.not-nil n)) (Memᴰ.cases_cons n)
      by None e n = absurd (Memᴰ.not-nil n)

  kept_on : (u t : ℕ) (r : Area) → t ≤ u → Memᴰ r (areas_before l t) → Memᴰ r (areas_before l u)
  kept_on zero t r h m = let e : t ≡ 0 = omega arith in subst (λ n. Memᴰ r (areas_before l n)) e m
  kept_on (suc u) t r h m =
      ⊎_elim
      (λ (k : t < suc u). Memᴰ.append_left (as_list (begun 1 (bands_of l) u)) (kept_on u t r (omega arith) m))
      (λ (k : suc u ≤ t). let e : t ≡ suc u = omega arith in subst (λ n. Memᴰ r (areas_before l n)) e m)
      (cases_lt t (suc u))

  abbrev ListedAs : ℕ → ℕ → Purpose → Type 0
  ListedAs t k a = (r : Area) × Memᴰ r (areas_before l t) × (r.band ≡ k + 1) × (r.purpose ≡ a)

  -- the area that begins on its track is the one that is listed there
  there : (k : ℕ) (a : Purpose) (t : ℕ) → k < l.count → Starts (get_or (bands_of l) k no_band) a t → ListedAs (suc t) k a
  there k a t h s = by (begun 1 (bands_of l) t) refl
    where
      by : (o : Option Area) → begun 1 (bands_of l) t ≡ o → (r : Area) × Memᴰ r (areas_before l t ++ as_list o) × (r.band ≡ k + 1) × (r.purpose ≡ a)
      by None e = let long = long l kept eight in absurd (all_none 1 (bands_of l) t k a e (omega arith) s)
      by (Some r) e =
          let g = all_sound 1 (bands_of l) homed t r e in
          let long = long l kept eight in
          let i = 32 * (t + 2) in
          let b0 = g.2.starts.0 in
          let b1 = g.2.starts.1 in
          let s0 = s.0 in
          let s1 = s.1 in
          let here : InArea (get_or (bands_of l) k no_band) a (32 * (t + 2)) = (omega arith, omega arith) in
          let found : InArea (get_or (bands_of l) g.0 no_band) r.purpose (32 * (t + 2)) = (omega arith, omega arith) in
          let one = one_place (sectors_for l.last) (bands_of l) (laid l kept).stand k g.0 a r.purpose (32 * (t + 2)) (omega arith) g.1 here found in
          let same = one.0 in
          let number = g.2.band in
          (r, Memᴰ.append_right (areas_before l t) (Memᴰ.head refl), omega arith, sym one.1)

  every_listed : (k : ℕ) (a : Purpose) → k < l.count → 1 ≤ size_of (band_of l k) a → ListedAs (l.last + 1) k a
  every_listed k a h some =
      let long = long l kept eight in
      let e = used k h in
      let w = whole_size k a in
      let w0 = w.0 in
      let st = subst (Stands (sectors_for l.last)) e (stands (sectors_for l.last) (get_or (bands_of l) k no_band) (each_stands (sectors_for l.last) (bands_of l) (laid l kept).stand k (omega arith))) in
      let inside = area_within (sectors_for l.last) (band_of l k) st a some in
      let low = inside.0 in
      let high = inside.1 in
      let t = first_of (band_of l k) a / 32 - 2 in
      let start : first_of (band_of l k) a ≡ 32 * (first_of (band_of l k) a / 32 - 2 + 2) = omega arith in
      let s : Starts (get_or (bands_of l) k no_band) a (first_of (band_of l k) a / 32 - 2) = subst (λ x. Starts x a (first_of (band_of l k) a / 32 - 2)) (sym e) (start, some) in
      let r = there k a (first_of (band_of l k) a / 32 - 2) h s in
      let le : suc (first_of (band_of l k) a / 32 - 2) ≤ l.last + 1 = omega arith in
      (r.0, kept_on (l.last + 1) (suc (first_of (band_of l k) a / 32 - 2)) r.0 le r.1, r.2, r.3)

  pub areas_listed : (rs : List Area) → rs ≡ all_areas l → AreasListed l rs
  areas_listed rs e =
      subst (AreasListed l) (before_listed l (l.last + 1) ∙ sym e) (record { each = each_told (l.last + 1); every = every_listed; rising = (rise (l.last + 1)).0 })
