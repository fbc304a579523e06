-- The layout that a sheet gives, place by place.
use Rattle.std.proofs.lemmas.Grind.{common_steps}
use Rattle.std.proofs.Common.{◌≡◌, ℕ, ◌+◌, ◌*◌, ◌<◌, ◌≤◌, true, ◌&&◌, ltb, List, map, length, get_or, Ok, Result, sym, refl, ap, ◌∙◌, subst, ⊎_elim, arith}
use Rattle.maps.specs.Places.{band_formed, bands_of, no_band, valid}
use Rattle.maps.specs.Reading.{fits_format, last_track, reading_layout}
use Rattle.maps.specs.Sheets.{band_at, band_count, band_or_none, identified, layout_in}
use Rattle.maps.specs.declared.bands.Layout.{Layout}
use Rattle.medium.specs.declared.faults.Fault.{Fault}
use Rattle.std.proofs.lemmas.List.FromFn.{get_or-map-range_with_len}
use Rattle.std.proofs.lemmas.List.{get_or_past, get_or-take}
use Rattle.std.proofs.lemmas.Bool.{cases_lt, cond-true, lt-ltb, or_right}
use Rattle.std.specs.List.{range_with_len}

-- what reading answers where the rules are kept
pub kept : (p : ℕ) (d : List ℕ) (l : Layout) → true ≡ fits_format p → l ≡ layout_in (last_track p) d → (identified d && valid l) ≡ true → ◌≡◌ {A = Result Layout Fault} (Ok l) (reading_layout p d)
kept p d l t e v = grind (arith, common_steps)

pub tracks_fitting : (n : ℕ) → 8 ≤ n → n ≤ 19999 → (fits_format (32 * (n + 3)) ≡ true) × (last_track (32 * (n + 3)) ≡ n)
tracks_fitting n low high = grind (arith, common_steps)

pub band_in : (n : ℕ) (d : List ℕ) (k : ℕ) → k < 8 → get_or (layout_in n d).bands k no_band ≡ band_or_none d k
band_in n d k h = get_or-map-range_with_len (band_or_none d) 0 8 k k no_band h (omega arith)

-- place k in use has the band of entry k
pub band_used : (n : ℕ) (d : List ℕ) (k : ℕ) → band_count d ≤ 8 → k < band_count d → get_or (bands_of (layout_in n d)) k no_band ≡ band_at d k
band_used n d k few h =
    get_or-take (band_count d) (map (band_or_none d) (range_with_len 0 8)) k no_band h
    ∙ get_or-map-range_with_len (band_or_none d) 0 8 k k no_band (omega arith) (omega arith)
    ∙ cond-true (ltb k (band_count d)) _ _ (lt-ltb _ _ h)

pub used_many : (n : ℕ) (d : List ℕ) → band_count d ≤ 8 → length (bands_of (layout_in n d)) ≡ band_count d
used_many n d few = grind (arith, common_steps)

formed_or_none : (d : List ℕ) (k : ℕ) → band_formed (band_count d) k (band_or_none d k) ≡ true
formed_or_none d k = grind (arith, common_steps)

pub formed_bands : (n : ℕ) (d : List ℕ) (k : ℕ) → band_formed (layout_in n d).count k (get_or (layout_in n d).bands k no_band) ≡ true
formed_bands n d k =
    ⊎_elim
    (λ h. ap (band_formed (band_count d) k) (band_in n d k h) ∙ formed_or_none d k)
    (λ h. ap (band_formed (band_count d) k) (get_or_past (map (band_or_none d) (range_with_len 0 8)) k no_band h) ∙ or_right (ltb k (band_count d)) true refl)
    (cases_lt k 8)

pub read_formed : (n : ℕ) (d : List ℕ) (l : Layout) → l ≡ layout_in n d → (k : ℕ) → band_formed l.count k (get_or l.bands k no_band) ≡ true
read_formed n d l e k =
    let P : Layout → Type 0 = λ m. band_formed m.count k (get_or m.bands k no_band) ≡ true in
    subst P (sym e) (formed_bands n d k)
