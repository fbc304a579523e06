-- A row of sectors given one by one, and once one of them is burnt.
use Rattle.std.proofs.Common.{◌≡◌, ℕ, ◌<◌, ◌≤◌, List, map, length, get_or, sym, ap, ◌∙◌, subst, ⊎_elim, arith}
use Rattle.std.proofs.lemmas.List.FromFn.{length-map-range_with_len, get_or-map-range_with_len}
use Rattle.std.proofs.lemmas.List.{ext_get_or, length-set, get_or_past, get_or-set_same, get_or-set_other}
use Rattle.std.proofs.lemmas.Bool.{cases_lt, cases_eq}
use Rattle.std.specs.List.{range_with_len}
use Rattle.medium.specs.Sectors.{Sector, burnt, beyond, sector_at, Whole, Lawful}
use Rattle.medium.specs.Calls.{with_burnt}

abbrev pub row : (ℕ → Sector) → ℕ → List Sector
row f p = map f (range_with_len 0 p)

pub length_row : (f : ℕ → Sector) (p : ℕ) → length (row f p) ≡ p
length_row f p = length-map-range_with_len f 0 p

pub row_at : (f : ℕ → Sector) (p i : ℕ) → i < p → sector_at (row f p) i ≡ f i
row_at f p i h = get_or-map-range_with_len f 0 p i i beyond h (omega arith)

pub row_lawful : (f : ℕ → Sector) (p : ℕ) → 1 ≤ p → p ≤ 640064 → ((i : ℕ) → i < p → Whole (f i).state) → Lawful (row f p)
row_lawful f p some few whole =
    record {
      some = omega (arith, length_row f p);
      few = omega (arith, length_row f p);
      whole = λ i.
          ⊎_elim
          (λ h. subst (λ x. Whole x.state) (sym (row_at f p i h)) (whole i h))
          (λ h. subst (λ x. Whole x.state) (sym (get_or_past (row f p) i beyond (omega (arith, length_row f p)))) tt)
          (cases_lt i p);
    }

module _ (f g : ℕ → Sector) (p i : ℕ) (image : List ℕ) (within : i < p) (here : g i ≡ record { weak = (f i).weak; state = burnt image }) (others : (k : ℕ) → k < p → (k ≡ i → ⊥) → g k ≡ f k) where
  same_at : (k : ℕ) → k < p → g k ≡ get_or (with_burnt (row f p) i image) k beyond
  same_at k h =
      ⊎_elim
      (λ e.
      ap g e
      ∙ here
      ∙ ap (λ (x : Sector). record { weak = x.weak; state = burnt image }) (sym (row_at f p i within))
      ∙ sym (get_or-set_same (row f p) i _ beyond (omega (arith, length_row f p)))
      ∙ ap (λ n. get_or (with_burnt (row f p) i image) n beyond) (sym e))
      (λ ne. others k h ne ∙ sym (row_at f p k h) ∙ sym (get_or-set_other (row f p) i k _ beyond ne))
      (cases_eq k i)

  pub row_burnt : row g p ≡ with_burnt (row f p) i image
  row_burnt =
      ext_get_or
      beyond
      (row g p)
      (with_burnt (row f p) i image)
      (length_row g p ∙ sym (length-set (row f p) i _ ∙ length_row f p))
      (λ k h. let l : k < p = omega (arith, length_row g p) in row_at g p k l ∙ same_at k l)
