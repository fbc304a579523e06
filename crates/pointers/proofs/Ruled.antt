-- The tests of a layout say whether it keeps the rules.
use Rattle.std.proofs.Common.{◌≡◌, ℕ, ◌+◌, ◌/◌, ◌%◌, ◌≤◌, true, inl, inr, ⊎_elim, arith}
use Rattle.pointers.specs.Places.{first_track}
use Rattle.pointers.specs.Rules.{LayoutRules, SecondaryArea, SecondaryTracks, Sized, fits_format, last_track, layout_valid, secondary_valid}
use Rattle.pointers.specs.declared.layout.Layout.{Layout}
use Rattle.pointers.specs.declared.pointers.Pointers.{Pointers}
use Rattle.std.proofs.lemmas.Bool.Decides.{nat_tests}
use Rattle.std.proofs.lemmas.Bool.{cases_eq}

-- the size
pub sized : (p : ℕ) → fits_format p ≡ true → Sized p (last_track p)
sized p t = record { whole = grind (arith, nat_tests); least = grind (arith, nat_tests); most = grind (arith, nat_tests) }

pub fits_sized : (p n : ℕ) → Sized p n → fits_format p ≡ true
fits_sized p n s = grind (arith, nat_tests)

module _ (n : ℕ) (l : Layout) where
  area_of : secondary_valid n l ≡ true → SecondaryArea n l
  area_of v = ⊎_elim none some (cases_eq l.secondary 0)
    where
      none : l.secondary ≡ 0 → SecondaryArea n l
      none e = inl (e, grind (arith, nat_tests))

      some : (l.secondary ≡ 0 → ⊥) → SecondaryArea n l
      some q =
          let whole : l.secondary % 31 ≡ 0 = grind (arith, nat_tests) in
          inr (
            l.secondary / 31,
            record {
              some = omega arith;
              whole = omega arith;
              place = ⊎_elim inl (λ (d : l.start ≡ 3 → ⊥). inr (grind (arith, nat_tests))) (cases_eq l.start 3);
            },
          )

  area_valid : SecondaryArea n l → secondary_valid n l ≡ true
  area_valid a =
      ⊎_elim (λ (h : (l.secondary ≡ 0) × (l.start ≡ 0xFFFFFFFF)). grind (arith, nat_tests)) (λ (h : (k : ℕ) × SecondaryTracks n l k). ⊎_elim (λ (t : l.start ≡ 3). grind (arith, nat_tests)) (λ (t : l.start + h.0 + 2 ≡ n). grind (arith, nat_tests)) h.1.place) a

  pub rules_of : layout_valid n l ≡ true → LayoutRules n l
  unfolding layout_valid
  rules_of v =
      record {
        some_groups = grind (arith, nat_tests);
        most_groups = grind (arith, nat_tests);
        some_homes = grind (arith, nat_tests);
        most_spares = grind (arith, nat_tests);
        area = area_of (grind (arith, nat_tests));
        before_copies = grind (arith, nat_tests);
        before_secondary = λ h. grind (arith, nat_tests);
      }

  pub valid_from : LayoutRules n l → layout_valid n l ≡ true
  unfolding layout_valid
  valid_from r =
      let area = area_valid r.area in
      grind (arith, nat_tests)

-- the first track of the data zone is low, and fits a byte
pub first_track_low : (l : Layout) → first_track l ≤ 3 + l.secondary / 31
first_track_low l = grind (arith, nat_tests)

pub first_track_small : (n : ℕ) (l : Layout) → layout_valid n l ≡ true → first_track l ≤ 36
first_track_small n l v = let r = rules_of n l v in let a = first_track_low l in let b = r.most_spares in omega arith

-- the size and the rules of a format on its medium
pub size_held : (f : Pointers) → Sized f.sectors (last_track f.sectors)
size_held f = sized f.sectors f.sized

pub rules_held : (f : Pointers) → LayoutRules (last_track f.sectors) f.layout
rules_held f = rules_of (last_track f.sectors) f.layout f.valid
