-- What reading answers, in words.
use Rattle.std.proofs.lemmas.Grind.{common_steps}
use Rattle.std.proofs.Common.{◌≡◌, ℕ, ◌<◌, ◌≤◌, true, false, ◌&&◌, ltb, List, map, sym, refl, ap, ◌∙◌, subst, inr, ⊎_elim, arith}
use Rattle.format.specs.Laws.{format_fault}
use Rattle.maps.proofs.Formed.{band_in}
use Rattle.maps.proofs.Ruled.{kept_area, no_primes, rules_kept, rules_pass}
use Rattle.maps.specs.Places.{band_of, first_of, no_band, size_of, valid}
use Rattle.maps.specs.Reading.{LastTrack, LayoutGiven, SheetRefused, fits_format, last_track}
use Rattle.maps.specs.Rules.{LayoutRules}
use Rattle.maps.specs.Sheets.{band_at, band_count, band_or_none, identified, layout_in}
use Rattle.maps.specs.declared.bands.Layout.{Layout}
use Rattle.medium.specs.declared.faults.Fault.{Fault}
use Rattle.medium.specs.declared.faults.Refusal.TheVariants.{BrokenLayout}
use Rattle.std.proofs.lemmas.List.{get_or_past}
use Rattle.std.proofs.lemmas.Bool.{both_ways, cases_lt, cond-false, cond-true, le-ltb, lt-ltb}
use Rattle.std.specs.List.{range_with_len}

last_of : (p : ℕ) → true ≡ fits_format p → LastTrack p (last_track p)
last_of p t = grind (arith, common_steps)

pub refused_rules : (p : ℕ) (d : List ℕ) (l : Layout) (f : Fault) → true ≡ fits_format p → l ≡ layout_in (last_track p) d → (identified d && valid l) ≡ false → f ≡ format_fault BrokenLayout 0 → SheetRefused p d f
refused_rules p d l f t e v g =
    let n = last_track p in
    let z = last_of p t in
    inr (g, (n, z, λ r. both_ways _ (ap (λ k. identified d && valid k) (sym e) ∙ v) (rules_pass n d z.high z.low r)))

module _ (n : ℕ) (d : List ℕ) (r : LayoutRules n d) (high : n ≤ 19999) (low : 8 ≤ n) where
  used : (k : ℕ) → k < band_count d → band_of (layout_in n d) k ≡ band_at d k
  used k h = let few = r.few_bands in band_in n d k (omega arith) ∙ cond-true (ltb k (band_count d)) _ _ (lt-ltb _ _ h)

  beyond : (k : ℕ) → band_count d ≤ k → band_of (layout_in n d) k ≡ no_band
  beyond k h =
      ⊎_elim
      (λ l. band_in n d k l ∙ cond-false (ltb k (band_count d)) _ _ (le-ltb _ _ h))
      (λ l. get_or_past (map (band_or_none d) (range_with_len 0 8)) k no_band l)
      (cases_lt k 8)

  given_in : LayoutGiven n d (layout_in n d)
  given_in =
      record {
        last = refl;
        count = refl;
        first = λ k a h some. ap (λ x. first_of x a) (used k h) ∙ (kept_area n d high low r k a h some).first;
        size = λ k a h some. ap (λ x. size_of x a) (used k h) ∙ (kept_area n d high low r k a h some).size;
        without_prime = λ k h o. ap (λ x. x.primes) (used k h) ∙ no_primes n d high k o;
        no_more = beyond;
      }

-- the three parts of a layout that was read
pub read_as : (p : ℕ) (d : List ℕ) (l : Layout) → true ≡ fits_format p → l ≡ layout_in (last_track p) d → (identified d && valid l) ≡ true → LastTrack p l.last × LayoutRules l.last d × LayoutGiven l.last d l
read_as p d l t e v =
    let n = last_track p in
    let z = last_of p t in
    let r = rules_kept n d z.high (ap (λ k. identified d && valid k) (sym e) ∙ v) in
    let P : Layout → Type 0 = λ k. LastTrack p k.last × LayoutRules k.last d × LayoutGiven k.last d k in
    subst P (sym e) (z, r, given_in n d r z.high z.low)
