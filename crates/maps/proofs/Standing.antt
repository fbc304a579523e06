-- Bands that stand, by their places.
use Rattle.std.proofs.lemmas.Grind.{common_steps}
use Rattle.std.proofs.Common.{◌≡◌, ℕ, zero, suc, ◌+◌, ◌<◌, ◌≤◌, Bool, true, false, ◌&&◌, leb, Some, None, Option, is_none, List, [], ◌∷◌, length, get_or, refl, ⊎_elim, arith}
use Rattle.maps.specs.Places.{InArea, apart, apart_from_all, area_apart, band_stands, bands_apart, bands_stand, block_count, first_home, first_in, first_of, homes_of, inside, no_band, primes_stand, rises_to, size_in, size_of}
use Rattle.maps.specs.declared.bands.Extent.{Extent}
use Rattle.std.specs.Option.{option_map_or}
use Rattle.maps.specs.declared.bands.Band.{Band}
use Rattle.maps.specs.declared.bands.Purpose.{Purpose}
use Rattle.maps.specs.declared.bands.Purpose.TheVariants.{Map, Alternative, Prime}
use Rattle.std.proofs.lemmas.List.Recursion.{and_at, and_from_places}
use Rattle.std.specs.List.{list_all}
use Rattle.std.proofs.lemmas.Bool.{and_from, and_parts, cases_lt, leb-true, true≢false}

abbrev pub apart_by : Band → Purpose → Band → Purpose → Bool
apart_by x a y b = apart (first_of x a) (size_of x a) (first_of y b) (size_of y b)

never_both : (a m c n i : ℕ) → apart a m c n ≡ true → (a ≤ i) × (i < a + m) → (c ≤ i) × (i < c + n) → ⊥
never_both a m c n i t p q = grind (arith, common_steps)

-- a prime area by itself, and in its band: nothing lies in one that is not there
apart_to : (a n : ℕ) (o : Option Extent) → option_map_or (λ e. apart a n e.first e.size) o true ≡ true → apart a n (first_in o) (size_in o) ≡ true
apart_to a n None t = grind (arith, common_steps)
apart_to a n (Some e) t = grind (arith, common_steps)

apart_in : (a n : ℕ) (o : Option Extent) → apart a n (first_in o) (size_in o) ≡ true → option_map_or (λ e. apart a n e.first e.size) o true ≡ true
apart_in a n None t = grind (arith, common_steps)
apart_in a n (Some e) t = grind (arith, common_steps)

area_by : (a n : ℕ) (y : Band) → area_apart a n y ≡ true → (b : Purpose) → apart a n (first_of y b) (size_of y b) ≡ true
area_by a n y t Map = grind (arith, common_steps)
area_by a n y t Alternative = grind (arith, common_steps)
area_by a n y t Prime = grind (arith, common_steps)

area_from : (a n : ℕ) (y : Band) → ((b : Purpose) → apart a n (first_of y b) (size_of y b) ≡ true) → area_apart a n y ≡ true
area_from a n y f = and_from _ _ (f Map) (and_from _ _ (f Alternative) (apart_in a n y.primes (f Prime)))

primes_by : (y : Band) (o : Option Extent) → option_map_or (λ e. area_apart e.first e.size y) o true ≡ true → (b : Purpose) → apart (first_in o) (size_in o) (first_of y b) (size_of y b) ≡ true
primes_by y None t b = grind (arith, common_steps)
primes_by y (Some e) t b = grind (arith, common_steps)

primes_from : (y : Band) (o : Option Extent) → ((b : Purpose) → apart (first_in o) (size_in o) (first_of y b) (size_of y b) ≡ true) → option_map_or (λ e. area_apart e.first e.size y) o true ≡ true
primes_from y None f = refl
primes_from y (Some e) f = area_from e.first e.size y f

-- two bands: they rise, and any two of their areas are apart
pub pair_rises : (x y : Band) → bands_apart x y ≡ true → rises_to x y ≡ true
pair_rises x y t = grind (arith, common_steps)

pub pair_by : (x y : Band) → bands_apart x y ≡ true → (a b : Purpose) → apart_by x a y b ≡ true
pair_by x y t Map b = area_by _ _ y (and_parts (area_apart x.maps 128 y) _ (and_parts (rises_to x y) _ t).1).0 b
pair_by x y t Alternative b =
    area_by _ _ y (and_parts (area_apart x.spares 128 y) _ (and_parts (area_apart x.maps 128 y) _ (and_parts (rises_to x y) _ t).1).1).0 b
pair_by x y t Prime b =
    primes_by y x.primes (and_parts (area_apart x.spares 128 y) _ (and_parts (area_apart x.maps 128 y) _ (and_parts (rises_to x y) _ t).1).1).1 b

pub pair_from : (x y : Band) → rises_to x y ≡ true → ((a b : Purpose) → apart_by x a y b ≡ true) → bands_apart x y ≡ true
pair_from x y t f =
    and_from _ _ t (and_from _ _ (area_from x.maps 128 y (f Map)) (and_from _ _ (area_from x.spares 128 y (f Alternative)) (primes_from y x.primes (f Prime))))

pub pair_separate : (x y : Band) → bands_apart x y ≡ true → (a b : Purpose) (i : ℕ) → InArea x a i → InArea y b i → ⊥
pair_separate x y t a b i p q = never_both _ _ _ _ i (pair_by x y t a b) p q

inside_parts : (end a k : ℕ) → inside end a k ≡ true → (64 ≤ a) × (a + k ≤ end)
inside_parts end a k t = grind (arith, common_steps)

-- a prime area: what it keeps
pub record PrimesStand (end : ℕ) (x : Band) (o : Option Extent) : Type 0 where
  pub some_home : is_none o ≡ false → 1 ≤ size_in o
  pub within : 1 ≤ size_in o → (64 ≤ first_in o) × (first_in o + size_in o ≤ end)
  pub map_apart : apart x.maps 128 (first_in o) (size_in o) ≡ true
  pub spares_apart : apart x.spares 128 (first_in o) (size_in o) ≡ true

primes_kept : (end : ℕ) (x : Band) (o : Option Extent) → option_map_or (primes_stand end x) o true ≡ true → PrimesStand end x o
primes_kept end x None t =
    record {
      some_home = λ e. absurd (true≢false e);
      within = λ h. absurd (omega arith);
      map_apart = apart_to x.maps 128 None refl;
      spares_apart = apart_to x.spares 128 None refl;
    }
primes_kept end x (Some e) t =
    let h = and_parts (leb 1 e.size) _ t in
    let k = and_parts (inside end e.first e.size) _ h.1 in
    let a = and_parts (apart x.maps 128 e.first e.size) (apart x.spares 128 e.first e.size) k.1 in
    record {
      some_home = λ _. leb-true _ _ h.0;
      within = λ _. inside_parts end e.first e.size k.0;
      map_apart = a.0;
      spares_apart = a.1;
    }

pub primes_pass : (end : ℕ) (x : Band) (o : Option Extent) → (is_none o ≡ false → (1 ≤ size_in o) × (inside end (first_in o) (size_in o) ≡ true)) → apart x.maps 128 (first_in o) (size_in o) ≡ true → apart x.spares 128 (first_in o) (size_in o) ≡ true → option_map_or (primes_stand end x) o true ≡ true
primes_pass end x None f m s = grind (arith, common_steps)
primes_pass end x (Some e) f m s = grind (arith, common_steps)

-- one band: what its areas keep
pub record Stands (end : ℕ) (x : Band) : Type 0 where
  pub map_low : 64 ≤ x.maps
  pub map_high : x.maps + 128 ≤ end
  pub spares_low : 64 ≤ x.spares
  pub spares_high : x.spares + 128 ≤ end
  pub map_spares : apart_by x Map x Alternative ≡ true
  pub primes : PrimesStand end x x.primes

pub stands : (end : ℕ) (x : Band) → band_stands end x ≡ true → Stands end x
stands end x t =
    let h = and_parts (inside end x.maps 128 && inside end x.spares 128) _ t in
    let two = and_parts (inside end x.maps 128) (inside end x.spares 128) h.0 in
    let m = inside_parts end x.maps 128 two.0 in
    let s = inside_parts end x.spares 128 two.1 in
    let a = and_parts (apart x.maps 128 x.spares 128) _ h.1 in
    record {
      map_low = m.0;
      map_high = m.1;
      spares_low = s.0;
      spares_high = s.1;
      map_spares = a.0;
      primes = primes_kept end x x.primes a.1;
    }

-- the prime area of a band that has homes lies within the tracks
pub primes_inside : (end : ℕ) (x : Band) → Stands end x → 1 ≤ homes_of x → (64 ≤ first_home x) × (first_home x + homes_of x ≤ end)
primes_inside end x s h = grind (arith, common_steps)

-- a sector lies in one area of a band at most
pub one_area : (end : ℕ) (x : Band) → Stands end x → (a b : Purpose) (i : ℕ) → InArea x a i → InArea x b i → a ≡ b
one_area end x s Map Map i p q = grind (arith, common_steps)
one_area end x s Map Alternative i p q = grind (arith, common_steps)
one_area end x s Map Prime i p q = grind (arith, common_steps)
one_area end x s Alternative Map i p q = grind (arith, common_steps)
one_area end x s Alternative Alternative i p q = grind (arith, common_steps)
one_area end x s Alternative Prime i p q = grind (arith, common_steps)
one_area end x s Prime Map i p q = grind (arith, common_steps)
one_area end x s Prime Alternative i p q = grind (arith, common_steps)
one_area end x s Prime Prime i p q = grind (arith, common_steps)

-- from the test of all bands to each band and each two, and back
module _ (end : ℕ) where
  parts : (x : Band) (xs : List Band) → bands_stand end (x ∷ xs) ≡ true → (band_stands end x ≡ true) × (apart_from_all x xs ≡ true) × (bands_stand end xs ≡ true)
  parts x xs t = grind (arith, common_steps)

  pub each_stands : (bs : List Band) → bands_stand end bs ≡ true → (k : ℕ) → k < length bs → band_stands end (get_or bs k no_band) ≡ true
  each_stands [] t k h = absurd (omega arith)
  each_stands (x ∷ xs) t zero h = (parts x xs t).0
  each_stands (x ∷ xs) t (suc k) h = each_stands xs (parts x xs t).2 k (omega arith)

  from_all : (x : Band) (ys : List Band) → apart_from_all x ys ≡ true → (j : ℕ) → j < length ys → bands_apart x (get_or ys j no_band) ≡ true
  from_all x ys t j h = and_at (list_all (bands_apart x)) (bands_apart x) refl (λ _ _. refl) ys j no_band h t

  pub two_apart : (bs : List Band) → bands_stand end bs ≡ true → (k j : ℕ) → k < j → j < length bs → bands_apart (get_or bs k no_band) (get_or bs j no_band) ≡ true
  two_apart [] t k j l h = absurd (omega arith)
  two_apart (x ∷ xs) t k zero l h = absurd (omega arith)
  two_apart (x ∷ xs) t zero (suc j) l h = from_all x xs (parts x xs t).1 j (omega arith)
  two_apart (x ∷ xs) t (suc k) (suc j) l h = two_apart xs (parts x xs t).2 k j (omega arith) (omega arith)

  to_all : (x : Band) (ys : List Band) → ((j : ℕ) → j < length ys → bands_apart x (get_or ys j no_band) ≡ true) → apart_from_all x ys ≡ true
  to_all x ys f = and_from_places (list_all (bands_apart x)) (bands_apart x) refl (λ _ _. refl) ys no_band f

  pub all_stand : (bs : List Band) → ((k : ℕ) → k < length bs → band_stands end (get_or bs k no_band) ≡ true) → ((k j : ℕ) → k < j → j < length bs → bands_apart (get_or bs k no_band) (get_or bs j no_band) ≡ true) → bands_stand end bs ≡ true
  all_stand [] f g = refl
  all_stand (x ∷ xs) f g =
      and_from _ _ (and_from _ _ (f 0 (omega arith)) (to_all x xs (λ j h. g 0 (suc j) (omega arith) (omega arith))))
      (all_stand xs (λ k h. f (suc k) (omega arith)) (λ k j l h. g (suc k) (suc j) (omega arith) (omega arith)))

-- a band with a home, and how many homes there are at least
pub some_home : (bs : List Band) → 1 ≤ block_count bs → (k : ℕ) × (k < length bs) × (1 ≤ homes_of (get_or bs k no_band))
some_home [] h = absurd (omega arith)
some_home (x ∷ xs) h =
    ⊎_elim
    (λ (p : 0 < homes_of x). (0, omega arith, omega arith))
    (λ (z : homes_of x ≤ 0). let r = some_home xs (omega arith) in let l = r.1 in (suc r.0, omega arith, r.2))
    (cases_lt 0 (homes_of x))

pub homes_within : (bs : List Band) (k : ℕ) → k < length bs → homes_of (get_or bs k no_band) ≤ block_count bs
homes_within [] k h = grind (arith, common_steps)
homes_within (x ∷ xs) zero h = omega arith
homes_within (x ∷ xs) (suc k) h = let r = homes_within xs k (omega arith) in omega arith
