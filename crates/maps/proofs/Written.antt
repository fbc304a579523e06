-- The bytes that a layout is written in, and what reading them gives.
use Rattle.std.proofs.lemmas.Grind.{common_steps}
use Rattle.std.proofs.Common.{◌≡◌, ℕ, ◌+◌, ◌-◌, ◌*◌, ◌/◌, ◌%◌, ◌<◌, ◌≤◌, true, false, ◌&&◌, eqb, ltb, List, map, length, get_or, Some, None, Option, is_none, Ok, sym, refl, ap, ◌∙◌, ⊎_elim, arith}
use Rattle.maps.proofs.Formed.{kept, tracks_fitting}
use Rattle.maps.proofs.Found.{laid, last_low, long}
use Rattle.maps.proofs.Standing.{Stands, each_stands, primes_inside, stands}
use Rattle.maps.specs.Places.{band_formed, band_of, band_stands, bands_of, first_home, first_in, homes_of, no_band, overflow, sectors_for, size_in, valid}
use Rattle.maps.specs.Reading.{last_track, reading_layout}
use Rattle.medium.specs.Bytes.{two_at}
use Rattle.maps.specs.Sheets.{Writable, band_at, band_count, band_or_none, entry_byte, entry_numbers, first_sector, first_track, identified, layout_in, overflow_entry, prime_numbers, prime_tracks, sheet_byte, sheet_of, track_of}
use Rattle.maps.specs.declared.bands.Band.{Band}
use Rattle.maps.specs.declared.bands.Extent.{Extent}
use Rattle.maps.specs.declared.bands.Layout.{Layout}
use Rattle.maps.specs.declared.bands.Purpose.TheVariants.{Map, Alternative, Prime}
use Rattle.std.proofs.lemmas.List.FromFn.{get_or-map-range_with_len, length-map-range_with_len}
use Rattle.std.proofs.lemmas.List.{ext_get_or, get_or-take}
use Rattle.std.specs.List.{range_with_len}
use Rattle.std.proofs.lemmas.Bool.{and_from, cases_Bool, cases_lt, cond-false, cond-true, eq-eqb, le-ltb, lt-ltb, ne_eqb}

-- a prime area that is there or not
none_there : (o : Option Extent) → is_none o ≡ true → o ≡ None
none_there None t = grind (arith, common_steps)
none_there (Some e) t = grind (arith, common_steps)

some_there : (o : Option Extent) → is_none o ≡ false → o ≡ Some (record { first = first_in o; size = size_in o })
some_there None t = grind (arith, common_steps)
some_there (Some e) t = grind (arith, common_steps)

pub byte_count : (l : Layout) (i : ℕ) → i ≡ 2 → sheet_byte l i ≡ l.count
byte_count l i e = grind (arith, common_steps)

pub byte_entry : (l : Layout) (i : ℕ) → 3 ≤ i → (i - 3) / 8 < l.count → sheet_byte l i ≡ entry_byte (band_of l ((i - 3) / 8)) ((i - 3) % 8)
byte_entry l i h m = grind (arith, common_steps)

module _ (l : Layout) (kept : valid l ≡ true) (eight : length l.bands ≡ 8) where
  end_small : sectors_for l.last ≤ 640064
  end_small = let s = (laid l kept).small in omega arith

  pub bands_few : l.count ≤ 8
  bands_few = (laid l kept).few

  standing : (k : ℕ) → k < l.count → Stands (sectors_for l.last) (band_of l k)
  standing k h =
      let g = long l kept eight in
      stands (sectors_for l.last) (band_of l k) (ap (band_stands (sectors_for l.last)) (sym (get_or-take l.count l.bands k no_band h)) ∙ each_stands (sectors_for l.last) (bands_of l) (laid l kept).stand k (omega arith))

  pub writable : (k : ℕ) → k < l.count → Writable (band_of l k)
  writable k h =
      let s = standing k h in
      let small = end_small in
      let mh = s.map_high in
      let sh = s.spares_high in
      let primes = primes_inside (sectors_for l.last) (band_of l k) s in
      record {
        map_low = s.map_low;
        map_high = omega arith;
        spares_low = s.spares_low;
        spares_high = omega arith;
        prime_low = λ o. (primes (s.primes.some_home o)).0;
        prime_high = λ o. let h = s.primes.some_home o in let q = (primes h).1 in omega arith;
        homes_high = ⊎_elim (λ (p : 0 < homes_of (band_of l k)). let q = (primes p).1 in omega arith) (λ (z : homes_of (band_of l k) ≤ 0). omega arith) (cases_lt 0 (homes_of (band_of l k)));
      }

-- a number's two bytes, and the number again
half_high : (x : Band) (i : ℕ) → entry_byte x (2 * i) ≡ get_or (entry_numbers x) i 0 / 256
half_high x i = grind (arith, common_steps)

half_low : (x : Band) (i : ℕ) → entry_byte x (2 * i + 1) ≡ get_or (entry_numbers x) i 0 % 256
half_low x i = grind (arith, common_steps)

-- the first sector of a track, and the sector again
first_back : (s : ℕ) → 64 ≤ s → s < 640064 → s % 32 ≡ 0 → first_sector (track_of s) ≡ s
first_back s low high whole = grind (arith, common_steps)

-- bands with the same parts, and layouts
same_parts : (m s : ℕ) (o : Option Extent) (m' s' : ℕ) (o' : Option Extent) → m ≡ m' → s ≡ s' → o ≡ o' → ◌≡◌ {A = Band} (record { maps = m; spares = s; primes = o }) (record { maps = m'; spares = s'; primes = o' })
same_parts m s o m' s' o' a b e = cc

same_extent : (f n f' n' : ℕ) → f ≡ f' → n ≡ n' → ◌≡◌ {A = Option Extent} (Some (record { first = f; size = n })) (Some (record { first = f'; size = n' }))
same_extent f n f' n' a b = cc

same_layout : (n c : ℕ) (xs : List Band) (c' : ℕ) (ys : List Band) → c ≡ c' → xs ≡ ys → ◌≡◌ {A = Layout} (record { last = n; count = c; bands = xs }) (record { last = n; count = c'; bands = ys })
same_layout n c xs c' ys e f = cc

-- the bytes d are those of the layout
module _ (l : Layout) (kept : valid l ≡ true) (eight : length l.bands ≡ 8) (formed : (k : ℕ) → band_formed l.count k (band_of l k) ≡ true) (d : List ℕ) (bytes : (i : ℕ) → i < 512 → get_or d i 0 ≡ sheet_byte l i) where
  byte_at : (k j : ℕ) → k < l.count → j < 8 → get_or d (8 * k + 3 + j) 0 ≡ entry_byte (band_of l k) j
  byte_at k j h m =
      let few = bands_few l kept eight in
      let q : (8 * k + 3 + j - 3) / 8 ≡ k = omega arith in
      let r : (8 * k + 3 + j - 3) % 8 ≡ j = omega arith in
      bytes (8 * k + 3 + j) (omega arith)
      ∙ byte_entry l (8 * k + 3 + j) (omega arith) (omega arith)
      ∙ ap (λ n. entry_byte (band_of l n) ((8 * k + 3 + j - 3) % 8)) q
      ∙ ap (entry_byte (band_of l k)) r

  number_back : (k i p : ℕ) → k < l.count → i < 4 → p ≡ 8 * k + 3 + 2 * i → two_at d p ≡ get_or (entry_numbers (band_of l k)) i 0
  number_back k i p h m e =
      let x = band_of l k in
      let hi : get_or d p 0 ≡ get_or (entry_numbers x) i 0 / 256 = ap (λ n. get_or d n 0) e ∙ byte_at k (2 * i) h (omega arith) ∙ half_high x i in
      let f : p + 1 ≡ 8 * k + 3 + (2 * i + 1) = omega arith in
      let lo : get_or d (p + 1) 0 ≡ get_or (entry_numbers x) i 0 % 256 = ap (λ n. get_or d n 0) f ∙ byte_at k (2 * i + 1) h (omega arith) ∙ half_low x i in
      omega arith

  tracks_back : (k : ℕ) → k < l.count → (first_track d k Map ≡ track_of (band_of l k).maps) × (first_track d k Alternative ≡ track_of (band_of l k).spares) × (first_track d k Prime ≡ get_or (prime_numbers (band_of l k).primes) 0 0) × (prime_tracks d k ≡ get_or (prime_numbers (band_of l k).primes) 1 0)
  tracks_back k h =
      (number_back k 0 (8 * k + 3) h (omega arith) (omega arith), number_back k 1 (8 * k + 5) h (omega arith) (omega arith), number_back k 2 (8 * k + 7) h (omega arith) (omega arith), number_back k 3 (8 * k + 9) h (omega arith) (omega arith))

  module _ (k : ℕ) (h : k < l.count) where
    abbrev x : Band
    x = band_of l k

    whole : (x.maps % 32 ≡ 0) × (x.spares % 32 ≡ 0) × (first_home x % 32 ≡ 0) × (homes_of x % 32 ≡ 0)
    whole = grind (arith, common_steps)

    maps_back : first_sector (first_track d k Map) ≡ x.maps
    maps_back = let w = writable l kept eight k h in ap first_sector (tracks_back k h).0 ∙ first_back x.maps w.map_low w.map_high whole.0

    spares_back : first_sector (first_track d k Alternative) ≡ x.spares
    spares_back = let w = writable l kept eight k h in ap first_sector (tracks_back k h).1 ∙ first_back x.spares w.spares_low w.spares_high whole.1

    same_band : (o : Option Extent) → o ≡ x.primes → ◌≡◌ {A = Band} (record { maps = first_sector (first_track d k Map); spares = first_sector (first_track d k Alternative); primes = o }) x
    same_band o e = same_parts _ _ o x.maps x.spares x.primes maps_back spares_back e

    band_none : overflow x ≡ true → band_at d k ≡ x
    band_none o =
        let t = tracks_back k h in
        let none = none_there x.primes o in
        let first : first_track d k Prime ≡ 65535 = t.2 ∙ ap (λ p. get_or (prime_numbers p) 0 0) none in
        let tracks : prime_tracks d k ≡ 65535 = t.3 ∙ ap (λ p. get_or (prime_numbers p) 1 0) none in
        let over : overflow_entry d k ≡ true = and_from _ _ (eq-eqb _ _ first) (eq-eqb _ _ tracks) in
        same_band _ (cond-true (overflow_entry d k) _ _ over ∙ sym none)

    band_some : overflow x ≡ false → band_at d k ≡ x
    band_some o =
        let t = tracks_back k h in
        let w = writable l kept eight k h in
        let some = some_there x.primes o in
        let low = w.prime_low o in
        let high = w.prime_high o in
        let first : first_track d k Prime ≡ track_of (first_home x) = t.2 ∙ ap (λ p. get_or (prime_numbers p) 0 0) some in
        let tracks : prime_tracks d k ≡ homes_of x / 32 = t.3 ∙ ap (λ p. get_or (prime_numbers p) 1 0) some in
        let far : first_track d k Prime ≡ 65535 → ⊥ = λ e. omega arith in
        let over : overflow_entry d k ≡ false = ap (λ b. b && eqb (prime_tracks d k) 65535) (ne_eqb (first_track d k Prime) 65535 far) in
        let whole_homes = whole.3 in
        let homes : 32 * prime_tracks d k ≡ homes_of x = omega arith in
        same_band _ (cond-false (overflow_entry d k) _ _ over ∙ same_extent _ _ _ _ (ap first_sector first ∙ first_back (first_home x) low high whole.2) homes ∙ sym some)

    band_back : band_at d k ≡ x
    band_back = ⊎_elim band_none band_some (cases_Bool (overflow x))

  none_back : (k : ℕ) → l.count ≤ k → no_band ≡ band_of l k
  none_back k h = grind (arith, common_steps)

  count_back : band_count d ≡ l.count
  count_back = bytes 2 (omega arith) ∙ byte_count l 2 refl

  place_back : (k : ℕ) → band_or_none d k ≡ band_of l k
  place_back k =
      let e = count_back in
      ⊎_elim
      (λ (h : k < l.count). cond-true (ltb k (band_count d)) _ _ (lt-ltb _ _ (let m : k < band_count d = omega arith in m)) ∙ band_back k h)
      (λ (h : l.count ≤ k). cond-false (ltb k (band_count d)) _ _ (le-ltb _ _ (let m : band_count d ≤ k = omega arith in m)) ∙ none_back k h)
      (cases_lt k l.count)

  -- the bytes give the layout
  pub layout_back : layout_in l.last d ≡ l
  layout_back =
      let e = count_back in
      let bands : map (band_or_none d) (range_with_len 0 8) ≡ l.bands =
      ext_get_or no_band _ _ (length-map-range_with_len (band_or_none d) 0 8 ∙ sym eight)
      (λ k h. get_or-map-range_with_len (band_or_none d) 0 8 k k no_band h (omega arith) ∙ place_back k) in
      same_layout l.last (band_count d) (map (band_or_none d) (range_with_len 0 8)) l.count l.bands e bands

  pub identified_back : identified d ≡ true
  identified_back = grind (arith, common_steps)

-- reading the bytes of a layout, for as many sectors, gives that layout
pub read_back : (l : Layout) → valid l ≡ true → length l.bands ≡ 8 → ((k : ℕ) → band_formed l.count k (band_of l k) ≡ true) → (d : List ℕ) → d ≡ sheet_of l → reading_layout (sectors_for l.last) d ≡ Ok l
read_back l v eight formed d e =
    let bytes : (i : ℕ) → i < 512 → get_or d i 0 ≡ sheet_byte l i = λ i h. ap (λ xs. get_or xs i 0) e ∙ get_or-map-range_with_len (sheet_byte l) 0 512 i i 0 h (omega arith) in
    let low = last_low l v in
    let high = (laid l v).small in
    let fit = tracks_fitting l.last low high in
    let same : l ≡ layout_in (last_track (sectors_for l.last)) d = sym (ap (λ n. layout_in n d) fit.1 ∙ layout_back l v eight formed d bytes) in
    sym (kept (sectors_for l.last) d l (sym fit.0) same (and_from _ _ (identified_back l v eight formed d bytes) v))
