-- The test of a layout decides the rules.
use Rattle.std.proofs.lemmas.Grind.{common_steps}
use Rattle.std.proofs.Common.{◌≡◌, ℕ, ◌+◌, ◌-◌, ◌*◌, ◌<◌, ◌≤◌, max, true, false, ◌&&◌, eqb, ltb, leb, List, get_or, Some, None, is_none, sym, refl, ap, ◌∙◌, subst, ⊎_elim, arith}
use Rattle.maps.proofs.Formed.{band_used, used_many}
use Rattle.maps.proofs.Standing.{Stands, all_stand, apart_by, each_stands, homes_within, one_area, pair_from, pair_rises, pair_separate, primes_inside, primes_pass, some_home, stands, two_apart}
use Rattle.maps.specs.Places.{InArea, apart, band_stands, bands_apart, bands_of, bands_stand, block_count, first_home, first_in, first_of, homes_of, inside, no_band, overflow, rises_to, sectors_for, size_in, size_of, valid}
use Rattle.maps.specs.Rules.{HasPrime, LayoutRules, LiesIn, tracks_of}
use Rattle.maps.specs.Sheets.{band_at, band_count, first_sector, first_track, identified, layout_in, overflow_entry, prime_tracks, primes_at}
use Rattle.maps.specs.declared.bands.Purpose.{Purpose}
use Rattle.maps.specs.declared.bands.Purpose.TheVariants.{Map, Alternative, Prime}
use Rattle.std.proofs.lemmas.Bool.{and_from, and_parts, both_ways, cases_Bool, cases_lt, cases_order, cond-false, cond-true, eq-eqb, eqb-true, le-leb, leb-true, lt-ltb, ltb-true, or_cases, or_left, or_right}

-- the first sector of a track that a medium may have
first_near : (t : ℕ) → t ≤ 19999 → first_sector t ≡ 32 * (t + 2)
first_near t h = grind (arith, common_steps)

first_low : (t s : ℕ) → first_sector t + s ≤ 640064 → 1 ≤ s → t ≤ 19999
first_low t s h k = grind (arith, common_steps)

-- the tests of two areas and of one, from what they say
before : (a m c n : ℕ) → a + m ≤ c → apart a m c n ≡ true
before a m c n h = grind (arith, common_steps)

behind : (a m c n : ℕ) → c + n ≤ a → apart a m c n ≡ true
behind a m c n h = grind (arith, common_steps)

within_tracks : (end a k : ℕ) → 64 ≤ a → a + k ≤ end → inside end a k ≡ true
within_tracks end a k l h = grind (arith, common_steps)

module _ (n : ℕ) (d : List ℕ) (small : n ≤ 19999) where
  -- the area of band k for the use a, in sectors and in tracks
  pub record AreaAt (k : ℕ) (a : Purpose) : Type 0 where
    pub first : first_of (band_at d k) a ≡ 32 * (first_track d k a + 2)
    pub size : size_of (band_at d k) a ≡ 32 * tracks_of d k a
    pub end : first_track d k a + tracks_of d k a ≤ n + 1

  pub no_primes : (k : ℕ) → overflow_entry d k ≡ true → (band_at d k).primes ≡ None
  no_primes k e = cond-true (overflow_entry d k) _ _ e

  some_primes : (k : ℕ) → overflow_entry d k ≡ false → (band_at d k).primes ≡ Some (primes_at d k)
  some_primes k e = cond-false (overflow_entry d k) _ _ e

  no_prime : (k : ℕ) → overflow_entry d k ≡ true → (first_home (band_at d k) ≡ 0) × (homes_of (band_at d k) ≡ 0)
  no_prime k e = grind (arith, common_steps)

  prime_first : (k : ℕ) → overflow_entry d k ≡ false → first_home (band_at d k) ≡ first_sector (first_track d k Prime)
  prime_first k e = ap first_in (some_primes k e)

  prime_homes : (k : ℕ) → overflow_entry d k ≡ false → homes_of (band_at d k) ≡ 32 * prime_tracks d k
  prime_homes k e = ap size_in (some_primes k e)

  map_first : (k : ℕ) → (band_at d k).maps ≡ first_sector (first_track d k Map)
  map_first k = refl

  spares_first : (k : ℕ) → (band_at d k).spares ≡ first_sector (first_track d k Alternative)
  spares_first k = refl

  -- a band that stands has its areas where the sheet says
  stood : (k : ℕ) → Stands (sectors_for n) (band_at d k) → (a : Purpose) → 1 ≤ tracks_of d k a → AreaAt k a
  stood k s Map h =
      let hi = s.map_high in
      let e = map_first k in
      let near = first_low (first_track d k Map) 128 (omega arith) (omega arith) in
      let f = first_near (first_track d k Map) near in
      record { first = e ∙ f; size = refl; end = omega arith }
  stood k s Alternative h =
      let hi = s.spares_high in
      let e = spares_first k in
      let near = first_low (first_track d k Alternative) 128 (omega arith) (omega arith) in
      let f = first_near (first_track d k Alternative) near in
      record { first = e ∙ f; size = refl; end = omega arith }
  stood k s Prime h =
      ⊎_elim
      (λ o. absurd (let z : tracks_of d k Prime ≡ 0 = cond-true (overflow_entry d k) 0 (prime_tracks d k) o in omega arith))
      (λ o.
      let tr : tracks_of d k Prime ≡ prime_tracks d k = cond-false (overflow_entry d k) 0 (prime_tracks d k) o in
      let hs = prime_homes k o in
      let e = prime_first k o in
      let p = primes_inside (sectors_for n) (band_at d k) s (omega arith) in
      let hi = p.1 in
      let near = first_low (first_track d k Prime) (32 * prime_tracks d k) (omega arith) (omega arith) in
      let f = first_near (first_track d k Prime) near in
      record { first = e ∙ f; size = hs ∙ ap (λ t. 32 * t) (sym tr); end = omega arith })
      (cases_Bool (overflow_entry d k))

  -- a track of an area is a sector of it
  lies : (k : ℕ) (a : Purpose) (t : ℕ) → LiesIn d k a t → AreaAt k a → InArea (band_at d k) a (32 * (t + 2))
  lies k a t l r = grind (arith, common_steps)

  some_tracks : (k : ℕ) (a : Purpose) (t : ℕ) → LiesIn d k a t → 1 ≤ tracks_of d k a
  some_tracks k a t l = let from = l.from in let before = l.before in omega arith

  module _ (each : (k : ℕ) → k < band_count d → Stands (sectors_for n) (band_at d k)) (two : (k j : ℕ) → k < j → j < band_count d → bands_apart (band_at d k) (band_at d j) ≡ true) where
    in_band : (k : ℕ) (a : Purpose) (t : ℕ) → LiesIn d k a t → InArea (band_at d k) a (32 * (t + 2))
    in_band k a t l = lies k a t l (stood k (each k l.band) a (some_tracks k a t l))

    inside_rule : (k : ℕ) (a : Purpose) (t : ℕ) → LiesIn d k a t → t ≤ n
    inside_rule k a t l = grind (arith, common_steps)

    disjoint_rule : (k j : ℕ) (a b : Purpose) (t : ℕ) → LiesIn d k a t → LiesIn d j b t → (k ≡ j) × (a ≡ b)
    disjoint_rule k j a b t l m =
        ⊎_elim
        (λ (e : k ≡ j). (e, one_area _ (band_at d k) (each k l.band) a b (32 * (t + 2)) (in_band k a t l) (subst (λ i. InArea (band_at d i) b (32 * (t + 2))) (sym e) (in_band j b t m))))
        (⊎_elim
        (λ (h : k < j). absurd (pair_separate (band_at d k) (band_at d j) (two k j h m.band) a b (32 * (t + 2)) (in_band k a t l) (in_band j b t m)))
        (λ (h : j < k). absurd (pair_separate (band_at d j) (band_at d k) (two j k h l.band) b a (32 * (t + 2)) (in_band j b t m) (in_band k a t l))))
        (cases_order k j)

    some_track_rule : (k : ℕ) → HasPrime d k → 1 ≤ prime_tracks d k
    some_track_rule k h = grind (arith, common_steps)

    prime_area : (k : ℕ) → HasPrime d k → AreaAt k Prime
    prime_area k h = grind (arith, common_steps)

    rising_rule : (k j : ℕ) → HasPrime d k → HasPrime d j → k < j → first_track d k Prime < first_track d j Prime
    rising_rule k j h m l =
        let some : (i : ℕ) → HasPrime d i → overflow (band_at d i) ≡ false = λ i p. ap is_none (some_primes i p.1) in
        let fk = (prime_area k h).first in
        let fj = (prime_area j m).first in
        let less : first_home (band_at d k) < first_home (band_at d j) =
        ⊎_elim
        (λ u. absurd (both_ways _ (some k h) u))
        (λ u. ⊎_elim (λ v. absurd (both_ways _ (some j m) v)) (λ v. ltb-true _ _ v) (or_cases (overflow (band_at d j)) _ u))
        (or_cases (overflow (band_at d k)) _ (pair_rises (band_at d k) (band_at d j) (two k j l m.0))) in
        omega arith

  -- what the test passes keeps the rules
  pub rules_kept : (identified d && valid (layout_in n d)) ≡ true → LayoutRules n d
  rules_kept t =
      let h = and_parts (identified d) (valid (layout_in n d)) t in
      let ids = and_parts (eqb (get_or d 0 0) 0) (eqb (get_or d 1 0) 0) h.0 in
      let bs = bands_of (layout_in n d) in
      let a = and_parts (leb 8 n && leb n 19999) _ h.1 in
      let b = and_parts (leb 1 (band_count d) && leb (band_count d) 8) _ a.1 in
      let cs = and_parts (leb 1 (band_count d)) (leb (band_count d) 8) b.0 in
      let e = and_parts (leb 1 (block_count bs)) (bands_stand (sectors_for n) bs) b.1 in
      let few : band_count d ≤ 8 = leb-true _ _ cs.1 in
      let many = used_many n d few in
      let each : (k : ℕ) → k < band_count d → Stands (sectors_for n) (band_at d k) =
      λ k l. stands _ _ (ap (band_stands (sectors_for n)) (sym (band_used n d k few l)) ∙ each_stands (sectors_for n) bs e.1 k (omega arith)) in
      let two : (k j : ℕ) → k < j → j < band_count d → bands_apart (band_at d k) (band_at d j) ≡ true =
      λ k j l m. ap (λ x. bands_apart x (band_at d j)) (sym (band_used n d k few (omega arith))) ∙ ap (bands_apart (get_or bs k no_band)) (sym (band_used n d j few m)) ∙ two_apart (sectors_for n) bs e.1 k j l (omega arith) in
      let home = some_home bs (leb-true _ _ e.0) in
      let within = home.1 in
      let at_home : home.0 < band_count d = omega arith in
      let homes : 1 ≤ homes_of (band_at d home.0) = subst (λ x. 1 ≤ homes_of x) (band_used n d home.0 few at_home) home.2 in
      let prime : overflow_entry d home.0 ≡ false = ⊎_elim (λ o. absurd (let z = (no_prime home.0 o).1 in omega arith)) (λ o. o) (cases_Bool (overflow_entry d home.0)) in
      record {
        first_byte = eqb-true _ _ ids.0;
        second_byte = eqb-true _ _ ids.1;
        some_band = leb-true _ _ cs.0;
        few_bands = few;
        inside = inside_rule each two;
        disjoint = disjoint_rule each two;
        some_track = some_track_rule each two;
        rising = rising_rule each two;
        some_prime = (home.0, (at_home, prime));
      }

  module _ (low : 8 ≤ n) (r : LayoutRules n d) where
    last_lies : (k : ℕ) (a : Purpose) → k < band_count d → 1 ≤ tracks_of d k a → first_track d k a + tracks_of d k a ≤ n + 1
    last_lies k a h some =
        let last : LiesIn d k a (first_track d k a + tracks_of d k a - 1) = record { band = h; from = omega arith; before = omega arith } in
        let le = r.inside k a (first_track d k a + tracks_of d k a - 1) last in
        omega arith

    prime_count : (k : ℕ) → overflow_entry d k ≡ false → tracks_of d k Prime ≡ prime_tracks d k
    prime_count k o = cond-false (overflow_entry d k) 0 (prime_tracks d k) o

    pub kept_area : (k : ℕ) (a : Purpose) → k < band_count d → 1 ≤ tracks_of d k a → AreaAt k a
    kept_area k Map h some =
        let e = last_lies k Map h some in
        record { first = map_first k ∙ first_near (first_track d k Map) (omega arith); size = refl; end = e }
    kept_area k Alternative h some =
        let e = last_lies k Alternative h some in
        record { first = spares_first k ∙ first_near (first_track d k Alternative) (omega arith); size = refl; end = e }
    kept_area k Prime h some =
        let e = last_lies k Prime h some in
        ⊎_elim
        (λ o. absurd (let z : tracks_of d k Prime ≡ 0 = cond-true (overflow_entry d k) 0 (prime_tracks d k) o in omega arith))
        (λ o. record { first = prime_first k o ∙ first_near (first_track d k Prime) (omega arith); size = prime_homes k o ∙ ap (λ t. 32 * t) (sym (prime_count k o)); end = e })
        (cases_Bool (overflow_entry d k))

    -- an area without tracks is the prime area of an overflow band
    none_there : (k : ℕ) (a : Purpose) → k < band_count d → tracks_of d k a ≤ 0 → (first_of (band_at d k) a ≡ 0) × (size_of (band_at d k) a ≡ 0)
    none_there k Map h z = absurd (omega arith)
    none_there k Alternative h z = absurd (omega arith)
    none_there k Prime h z =
        ⊎_elim
        (λ o. no_prime k o)
        (λ o. absurd (let c = prime_count k o in let s = r.some_track k (h, o) in omega arith))
        (cases_Bool (overflow_entry d k))

    -- two areas with tracks that are not one have no sector in common
    tracks_apart : (k j : ℕ) (a b : Purpose) → k < band_count d → j < band_count d → (k ≡ j → a ≡ b → ⊥) → AreaAt k a → AreaAt j b → 1 ≤ tracks_of d k a → 1 ≤ tracks_of d j b → apart_by (band_at d k) a (band_at d j) b ≡ true
    tracks_apart k j a b h m other p q some more =
        let pf = p.first in
        let ps = p.size in
        let qf = q.first in
        let qs = q.size in
        ⊎_elim
        (λ (l : first_track d k a < first_track d j b + tracks_of d j b).
        ⊎_elim
        (λ (o : first_track d j b < first_track d k a + tracks_of d k a).
        let here : LiesIn d k a (max (first_track d k a) (first_track d j b)) = record { band = h; from = omega arith; before = omega arith } in
        let there : LiesIn d j b (max (first_track d k a) (first_track d j b)) = record { band = m; from = omega arith; before = omega arith } in
        let same = r.disjoint k j a b (max (first_track d k a) (first_track d j b)) here there in
        absurd (other same.0 same.1))
        (λ (o : first_track d k a + tracks_of d k a ≤ first_track d j b). before (first_of (band_at d k) a) (size_of (band_at d k) a) (first_of (band_at d j) b) (size_of (band_at d j) b) (omega arith))
        (cases_lt (first_track d j b) (first_track d k a + tracks_of d k a)))
        (λ (l : first_track d j b + tracks_of d j b ≤ first_track d k a). behind (first_of (band_at d k) a) (size_of (band_at d k) a) (first_of (band_at d j) b) (size_of (band_at d j) b) (omega arith))
        (cases_lt (first_track d k a) (first_track d j b + tracks_of d j b))

    areas_apart : (k j : ℕ) (a b : Purpose) → k < band_count d → j < band_count d → (k ≡ j → a ≡ b → ⊥) → apart_by (band_at d k) a (band_at d j) b ≡ true
    areas_apart k j a b h m other =
        ⊎_elim
        (λ some.
        ⊎_elim
        (λ more. tracks_apart k j a b h m other (kept_area k a h some) (kept_area j b m more) some more)
        (λ none. let z = none_there j b m none in let f = z.0 in let s = z.1 in behind (first_of (band_at d k) a) (size_of (band_at d k) a) (first_of (band_at d j) b) (size_of (band_at d j) b) (omega arith))
        (cases_lt 0 (tracks_of d j b)))
        (λ none. let z = none_there k a h none in let f = z.0 in let s = z.1 in before (first_of (band_at d k) a) (size_of (band_at d k) a) (first_of (band_at d j) b) (size_of (band_at d j) b) (omega arith))
        (cases_lt 0 (tracks_of d k a))

    area_inside : (k : ℕ) (a : Purpose) → k < band_count d → 1 ≤ tracks_of d k a → inside (sectors_for n) (first_of (band_at d k) a) (size_of (band_at d k) a) ≡ true
    area_inside k a h some =
        let p = kept_area k a h some in
        let f = p.first in
        let s = p.size in
        let e = p.end in
        within_tracks (sectors_for n) (first_of (band_at d k) a) (size_of (band_at d k) a) (omega arith) (omega arith)

    primes_kept : (k : ℕ) → k < band_count d → overflow (band_at d k) ≡ false → (1 ≤ homes_of (band_at d k)) × (inside (sectors_for n) (first_home (band_at d k)) (homes_of (band_at d k)) ≡ true)
    primes_kept k h there =
        ⊎_elim
        (λ o. absurd (both_ways _ there (ap is_none (no_primes k o))))
        (λ o.
        let c = prime_count k o in
        let s = r.some_track k (h, o) in
        let hs = prime_homes k o in
        (omega arith, area_inside k Prime h (omega arith)))
        (cases_Bool (overflow_entry d k))

    band_kept : (k : ℕ) → k < band_count d → band_stands (sectors_for n) (band_at d k) ≡ true
    band_kept k h =
        and_from _ _ (and_from _ _ (area_inside k Map h (omega arith)) (area_inside k Alternative h (omega arith)))
        (and_from _ _ (areas_apart k k Map Alternative h h (λ _ e. cc))
        (primes_pass (sectors_for n) (band_at d k) (band_at d k).primes (primes_kept k h) (areas_apart k k Map Prime h h (λ _ e. cc)) (areas_apart k k Alternative Prime h h (λ _ e. cc))))

    two_kept : (k j : ℕ) → k < j → j < band_count d → bands_apart (band_at d k) (band_at d j) ≡ true
    two_kept k j l m =
        let h : k < band_count d = omega arith in
        let over : (i : ℕ) → overflow_entry d i ≡ true → overflow (band_at d i) ≡ true = λ i o. ap is_none (no_primes i o) in
        let rises : rises_to (band_at d k) (band_at d j) ≡ true =
        ⊎_elim
        (λ o. or_left _ _ (over k o))
        (λ o. or_right _ _
        (⊎_elim
        (λ u. or_left _ _ (over j u))
        (λ u.
        let less = r.rising k j (h, o) (m, u) l in
        let sk = r.some_track k (h, o) in
        let sj = r.some_track j (m, u) in
        let ck = prime_count k o in
        let cj = prime_count j u in
        let fk = (kept_area k Prime h (omega arith)).first in
        let fj = (kept_area j Prime m (omega arith)).first in
        or_right (overflow (band_at d j)) (ltb (first_home (band_at d k)) (first_home (band_at d j))) (lt-ltb (first_home (band_at d k)) (first_home (band_at d j)) (omega arith)))
        (cases_Bool (overflow_entry d j))))
        (cases_Bool (overflow_entry d k)) in
        pair_from (band_at d k) (band_at d j) rises (λ a b. areas_apart k j a b h m (λ e _. omega arith))

    -- what keeps the rules passes the test
    pub rules_pass : (identified d && valid (layout_in n d)) ≡ true
    rules_pass =
        let bs = bands_of (layout_in n d) in
        let few = r.few_bands in
        let many = used_many n d few in
        let stand : bands_stand (sectors_for n) bs ≡ true =
        all_stand (sectors_for n) bs
        (λ k h. ap (band_stands (sectors_for n)) (band_used n d k few (omega arith)) ∙ band_kept k (omega arith))
        (λ k j l m. ap (λ x. bands_apart x (get_or bs j no_band)) (band_used n d k few (omega arith)) ∙ ap (bands_apart (band_at d k)) (band_used n d j few (omega arith)) ∙ two_kept k j l (omega arith)) in
        let i = r.some_prime.0 in
        let p : HasPrime d i = r.some_prime.1 in
        let s = r.some_track i p in
        let hs = prime_homes i p.1 in
        let at : i < band_count d = p.0 in
        let same = ap homes_of (band_used n d i few at) in
        let w = homes_within bs i (omega arith) in
        let some : 1 ≤ block_count bs = omega arith in
        and_from _ _ (and_from _ _ (eq-eqb _ _ r.first_byte) (eq-eqb _ _ r.second_byte))
        (and_from _ _ (and_from _ _ (le-leb _ _ low) (le-leb _ _ small))
        (and_from _ _ (and_from _ _ (le-leb _ _ r.some_band) (le-leb _ _ few)) (and_from _ _ (le-leb _ _ some) stand)))
