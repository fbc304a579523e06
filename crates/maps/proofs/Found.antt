-- The homes of a layout that keeps the rules, and the loop that finds one.
use Rattle.std.proofs.lemmas.Grind.{common_steps}
use Rattle.std.proofs.Common.{◌≡◌, ℕ, zero, suc, ◌+◌, ◌-◌, ◌*◌, ◌<◌, ◌≤◌, true, false, leb, List, [], ◌∷◌, length, get_or, drop, Some, None, Option, is_none, sym, ap, ◌∙◌, subst, ⊎_elim, arith}
use Rattle.maps.proofs.Standing.{each_stands, one_area, pair_by, pair_rises, pair_separate, primes_inside, stands, two_apart}
use Rattle.maps.specs.Homes.{HomesPlaced}
use Rattle.maps.specs.Places.{InArea, band_of, bands_apart, bands_of, bands_stand, block_count, blocks, first_home, home, home_in, homes_of, no_band, overflow, sectors_for, size_in, valid}
use Rattle.maps.specs.declared.bands.Extent.{Extent}
use Rattle.maps.specs.declared.bands.Band.{Band}
use Rattle.maps.specs.declared.bands.Layout.{Layout}
use Rattle.maps.specs.declared.bands.Purpose.{Purpose}
use Rattle.maps.specs.declared.bands.Purpose.TheVariants.{Prime}
use Rattle.std.proofs.lemmas.List.{at_drop_all, drop_more, get_or-take, length-take}
use Rattle.std.proofs.lemmas.Bool.{both_ways, cases_lt, cases_order, leb-true, ltb-true, or_cases}

-- the home of a block of the first band, and of a block of a later one
home_here : (x : Band) (xs : List Band) (b : ℕ) → b < homes_of x → home_in (x ∷ xs) b ≡ first_home x + b
home_here x xs b h = grind (arith, common_steps)

home_later : (x : Band) (xs : List Band) (b : ℕ) → homes_of x ≤ b → home_in (x ∷ xs) b ≡ home_in xs (b - homes_of x)
home_later x xs b h = grind (arith, common_steps)

-- the band that holds the home of block b
pub own : (bs : List Band) (b : ℕ) → b < block_count bs → (k : ℕ) × (k < length bs) × InArea (get_or bs k no_band) Prime (home_in bs b)
own [] b h = absurd (omega arith)
own (x ∷ xs) b h =
    ⊎_elim
    (λ (l : b < homes_of x). let e = home_here x xs b l in (0, omega arith, (omega arith, omega arith)))
    (λ (l : homes_of x ≤ b).
    let o = own xs (b - homes_of x) (omega arith) in
    let e = home_later x xs b l in
    let w = o.1 in
    (suc o.0, omega arith, subst (InArea (get_or xs o.0 no_band) Prime) (sym e) o.2))
    (cases_lt b (homes_of x))

-- every prime sector is the home of a block
pub onto : (bs : List Band) (k i : ℕ) → k < length bs → InArea (get_or bs k no_band) Prime i → (b : ℕ) × (b < block_count bs) × (home_in bs b ≡ i)
onto [] k i h p = absurd (omega arith)
onto (x ∷ xs) zero i h p =
    let low = p.0 in
    let high = p.1 in
    let less : i - first_home x < homes_of x = omega arith in
    (i - first_home x, omega arith, home_here x xs (i - first_home x) less ∙ let e : first_home x + (i - first_home x) ≡ i = omega arith in e)
onto (x ∷ xs) (suc k) i h p =
    let r = onto xs k i (omega arith) p in
    let l = r.1 in
    let back : homes_of x + r.0 - homes_of x ≡ r.0 = omega arith in
    (homes_of x + r.0, omega arith, home_later x xs (homes_of x + r.0) (omega arith) ∙ ap (home_in xs) back ∙ r.2)

-- a band with a home has a prime area
pub some_area : (o : Option Extent) → 1 ≤ size_in o → is_none o ≡ false
some_area None h = grind (arith, common_steps)
some_area (Some e) h = grind (arith, common_steps)

module _ (end : ℕ) where
  -- the homes of a later band lie behind those of a band before
  behind : (x y : Band) → bands_apart x y ≡ true → 1 ≤ homes_of x → (i : ℕ) → InArea y Prime i → first_home x + homes_of x ≤ i
  behind x y t some i p =
      let low = p.0 in
      let high = p.1 in
      let x_some : overflow x ≡ false = some_area x.primes some in
      let y_some : overflow y ≡ false = some_area y.primes (omega arith) in
      let less : first_home x < first_home y =
      ⊎_elim
      (λ u. absurd (both_ways _ x_some u))
      (λ u. ⊎_elim (λ v. absurd (both_ways _ y_some v)) (λ v. ltb-true _ _ v) (or_cases (overflow y) _ u))
      (or_cases (overflow x) _ (pair_rises x y t)) in
      ⊎_elim
      (λ u. let le : first_home x + homes_of x ≤ first_home y = leb-true _ _ u in omega arith)
      (λ u. absurd (let le : first_home y + homes_of y ≤ first_home x = leb-true _ _ u in omega arith))
      (or_cases (leb (first_home x + homes_of x) (first_home y)) _ (pair_by x y t Prime Prime))

  rest_stands : (x : Band) (xs : List Band) → bands_stand end (x ∷ xs) ≡ true → bands_stand end xs ≡ true
  rest_stands x xs t = grind (arith, common_steps)

  rises : (bs : List Band) → bands_stand end bs ≡ true → (b c : ℕ) → c < block_count bs → b < c → home_in bs b < home_in bs c
  rises [] t b c h l = absurd (omega arith)
  rises (x ∷ xs) t b c h l =
      ⊎_elim
      (λ (p : c < homes_of x). let e = home_here x xs b (omega arith) in let f = home_here x xs c p in omega arith)
      (λ (p : homes_of x ≤ c).
      let f = home_later x xs c p in
      ⊎_elim
      (λ (q : b < homes_of x).
      let e = home_here x xs b q in
      let o = own xs (c - homes_of x) (omega arith) in
      let w = o.1 in
      let two = two_apart end (x ∷ xs) t 0 (suc o.0) (omega arith) (omega arith) in
      let le = behind x (get_or xs o.0 no_band) two (omega arith) (home_in xs (c - homes_of x)) o.2 in
      omega arith)
      (λ (q : homes_of x ≤ b).
      let e = home_later x xs b q in
      let r = rises xs (rest_stands x xs t) (b - homes_of x) (c - homes_of x) (omega arith) (omega arith) in
      omega arith)
      (cases_lt b (homes_of x)))
      (cases_lt c (homes_of x))

  -- a sector lies in one area at most
  pub one_place : (bs : List Band) → bands_stand end bs ≡ true → (k j : ℕ) (a b : Purpose) (i : ℕ) → k < length bs → j < length bs → InArea (get_or bs k no_band) a i → InArea (get_or bs j no_band) b i → (k ≡ j) × (a ≡ b)
  one_place bs t k j a b i h m p q =
      ⊎_elim
      (λ (e : k ≡ j). (e, one_area end (get_or bs k no_band) (stands end _ (each_stands end bs t k h)) a b i p (subst (λ n. InArea (get_or bs n no_band) b i) (sym e) q)))
      (⊎_elim
      (λ (l : k < j). absurd (pair_separate (get_or bs k no_band) (get_or bs j no_band) (two_apart end bs t k j l m) a b i p q))
      (λ (l : j < k). absurd (pair_separate (get_or bs j no_band) (get_or bs k no_band) (two_apart end bs t j k l h) b a i q p)))
      (cases_order k j)

  homes_end : (bs : List Band) → bands_stand end bs ≡ true → (k : ℕ) → k < length bs → homes_of (get_or bs k no_band) ≤ end
  homes_end bs t k h =
      let s = stands end (get_or bs k no_band) (each_stands end bs t k h) in
      ⊎_elim
      (λ (p : 0 < homes_of (get_or bs k no_band)). let q = primes_inside end (get_or bs k no_band) s p in let r = q.1 in omega arith)
      (λ (z : homes_of (get_or bs k no_band) ≤ 0). omega arith)
      (cases_lt 0 (homes_of (get_or bs k no_band)))

  homes_few : (bs : List Band) → bands_stand end bs ≡ true → end ≤ 640064 → block_count bs ≤ 640064 * length bs
  homes_few [] t small = omega arith
  homes_few (x ∷ xs) t small =
      let r = homes_few xs (rest_stands x xs t) small in
      let h : homes_of x ≤ end = homes_end (x ∷ xs) t 0 (omega arith) in
      omega arith

  -- a sector of a prime area is one of a medium
  pub finding_fits : (bs : List Band) → bands_stand end bs ≡ true → end ≤ 640064 → (i rest : ℕ) → i < length bs → rest < homes_of (get_or bs i no_band) → first_home (get_or bs i no_band) + rest < 640064
  finding_fits bs t small i rest more h =
      let high = (primes_inside end (get_or bs i no_band) (stands end (get_or bs i no_band) (each_stands end bs t i more)) (omega arith)).1 in
      omega arith

-- the loop that finds the home of block b: at band i, it is block `rest` of the bands that are left
pub record Finding (bs : List Band) (b i rest : ℕ) : Type 0 where
  pub same : home_in (drop i bs) rest ≡ home_in bs b
  pub less : rest < block_count (drop i bs)

-- while a block is left at place i of the eight, that place is in use
pub finding_used : (l : Layout) (b i rest : ℕ) → Finding (bands_of l) b i rest → (i < length (bands_of l)) × (get_or (bands_of l) i no_band ≡ band_of l i)
finding_used l b i rest g =
    let less = g.less in
    let more : i < length (bands_of l) =
    ⊎_elim
    (λ (h : i < length (bands_of l)). h)
    (λ (h : length (bands_of l) ≤ i). let none : block_count (drop i (bands_of l)) ≡ 0 = at_drop_all block_count (bands_of l) i h in absurd (omega arith))
    (cases_lt i (length (bands_of l))) in
    (more, get_or-take l.count l.bands i no_band (omega (arith, length-take l.count l.bands)))

finding_split : (l : Layout) (b i rest : ℕ) → Finding (bands_of l) b i rest → drop i (bands_of l) ≡ band_of l i ∷ drop (i + 1) (bands_of l)
finding_split l b i rest g =
    let u = finding_used l b i rest g in
    drop_more (bands_of l) i no_band u.0 ∙ ap (λ x. x ∷ drop (i + 1) (bands_of l)) u.1

-- the home of the block, if it is one of that place, and the next place, if it is none
pub finding_in : (l : Layout) (b i rest : ℕ) → Finding (bands_of l) b i rest → rest < homes_of (band_of l i) → first_home (band_of l i) + rest ≡ home l b
finding_in l b i rest g h =
    sym (home_here (band_of l i) (drop (i + 1) (bands_of l)) rest h) ∙ sym (ap (λ k. home_in k rest) (finding_split l b i rest g)) ∙ g.same

pub finding_on : (l : Layout) (b i rest r : ℕ) → Finding (bands_of l) b i rest → rest ≡ homes_of (band_of l i) + r → Finding (bands_of l) b (i + 1) r
finding_on l b i rest r g h =
    let xs = drop (i + 1) (bands_of l) in
    let e = finding_split l b i rest g in
    let left : rest - homes_of (band_of l i) ≡ r = omega arith in
    let all : rest < homes_of (band_of l i) + block_count xs = subst (λ k. rest < block_count k) e g.less in
    record { same = sym (home_later (band_of l i) xs rest (omega arith) ∙ ap (home_in xs) left) ∙ sym (ap (λ k. home_in k rest) e) ∙ g.same; less = omega arith }

pub last_low : (l : Layout) → valid l ≡ true → 8 ≤ l.last
last_low l kept = grind (arith, common_steps)

-- place k of the bands that are in use is place k of the eight
pub band_found : (l : Layout) (bs : List Band) (k : ℕ) (x : Band) → bs ≡ bands_of l → k < l.count → x ≡ get_or bs k no_band → x ≡ band_of l k
band_found l bs k x e h f = grind (arith, common_steps)

module _ (l : Layout) (kept : valid l ≡ true) where
  -- what a valid layout keeps
  pub record Laid : Type 0 where
    pub small : l.last ≤ 19999
    pub few : l.count ≤ 8
    pub stand : bands_stand (sectors_for l.last) (bands_of l) ≡ true

  pub laid : Laid
  laid = grind (arith, common_steps)

  pub blocks_few : length (bands_of l) ≤ 8 → block_count (bands_of l) ≤ 5120512
  blocks_few f =
      let s = laid.small in
      let r = homes_few (sectors_for l.last) (bands_of l) laid.stand (omega arith) in
      omega arith

  home_inside : (b : ℕ) → b < blocks l → (64 ≤ home l b) × (home l b < sectors_for l.last)
  home_inside b h =
      let o = own (bands_of l) b h in
      let low = o.2.0 in
      let high = o.2.1 in
      let x = get_or (bands_of l) o.0 no_band in
      let s = stands (sectors_for l.last) x (each_stands (sectors_for l.last) (bands_of l) laid.stand o.0 o.1) in
      let q = primes_inside (sectors_for l.last) x s (omega arith) in
      let q0 = q.0 in
      let q1 = q.1 in
      (omega arith, omega arith)

  homes_rise : (b c : ℕ) → c < blocks l → b < c → home l b < home l c
  homes_rise b c h m = rises (sectors_for l.last) (bands_of l) laid.stand b c h m

  module _ (eight : length l.bands ≡ 8) where
    pub long : length (bands_of l) ≡ l.count
    long = grind (arith, common_steps)

    used : (k : ℕ) → k < l.count → get_or (bands_of l) k no_band ≡ band_of l k
    used k h = get_or-take l.count l.bands k no_band h

    pub homes_placed : HomesPlaced l
    homes_placed =
        let g = long in
        record {
          low = λ b h. (home_inside b h).0;
          on_medium = λ b h. (home_inside b h).1;
          rising = homes_rise;
          two_homes = λ b c h m e.
              ⊎_elim (λ (s : b ≡ c). s) (⊎_elim (λ (u : b < c). absurd (let r = homes_rise b c m u in omega arith)) (λ (u : c < b). absurd (let r = homes_rise c b h u in omega arith))) (cases_order b c);
          only_prime = λ b k a h m p.
              let o = own (bands_of l) b h in
              (one_place (sectors_for l.last) (bands_of l) laid.stand k o.0 a Prime (home_in (bands_of l) b) (omega arith) o.1 (subst (λ x. InArea x a (home_in (bands_of l) b)) (sym (used k m)) p) o.2).1;
          every_prime = λ k i h p. onto (bands_of l) k i (omega arith) (subst (λ x. InArea x Prime i) (sym (used k h)) p);
        }
