-- Storing, step by step: the home, and then the spares.
use Rattle.std.proofs.Common.{◌≡◌, ℕ, ◌<◌, true, false, ◌||◌, List, ◌∷◌, length, sym, ap, ◌∙◌}
use mathlib.Core.List.{Memᴰ}
use Rattle.format.specs.Blocks.{blank_at}
use Rattle.format.specs.Sectors.{free, some_free}
use Rattle.medium.proofs.Burns.{after_elsewhere}
use Rattle.medium.specs.Calls.{sectors_after}
use Rattle.medium.specs.Runs.{after_burns}
use Rattle.medium.specs.Sectors.{Sector, sector_at}
use Rattle.pointers.specs.Places.{blocks, home}
use Rattle.pointers.specs.Spares.{spares_of}
use Rattle.pointers.specs.declared.pointers.Pointers.{Pointers}
use Rattle.pointers.specs.declared.layout.Layout.{Layout}
use Rattle.pointers_format.specs.Stored.{no_home}
use Rattle.pointers_format.proofs.Trying.{burns_same}
use Rattle.pointers_format.specs.Storing.{home_burn, left, spare_burns, stored, storing_burns}
use Rattle.std.proofs.lemmas.Bool.{and_from, and_right, cond-false, cond-true, not_from_false, not_from_true, or_left}

module _ (g : Pointers) (s : List Sector) (size : length s ≡ g.sectors) (b : ℕ) (known : b < blocks g.layout) (bytes : List ℕ) where
  abbrev l : Layout
  l = g.layout

  abbrev once : List Sector
  once = sectors_after s (home l b) (home_burn l b bytes).image

  pub in_home : blank_at s (home l b) ≡ true → (sector_at s (home l b)).weak ≡ false → (once ≡ stored l s b bytes) × (true ≡ left l s b)
  unfolding stored storing_burns left
  in_home e w = (
    sym (ap (λ bs. after_burns s (home_burn l b bytes ∷ bs)) (cond-false (sector_at s (home l b)).weak _ _ w)),
    sym (or_left (free s (home l b)) _ (and_from _ _ e (not_from_false _ w))),
  )

  pub in_spares : (sector_at s (home l b)).weak ≡ true → (after_burns once (spare_burns once (home l b) bytes (spares_of l b)) ≡ stored l s b bytes) × (some_free once (spares_of l b) ≡ left l s b)
  unfolding stored storing_burns left
  in_spares w =
      let same : (q : ℕ) → Memᴰ q (spares_of l b) → sector_at once q ≡ sector_at s q = λ q m. after_elsewhere s (home l b) (home_burn l b bytes).image q (no_home g s size b known q m) in
      let r = burns_same (home l b) bytes s once (spares_of l b) same in (
        ap (after_burns once) r.0 ∙ sym (ap (λ bs. after_burns s (home_burn l b bytes ∷ bs)) (cond-true (sector_at s (home l b)).weak _ _ w)),
        r.1 ∙ sym (ap (λ v. v || some_free s (spares_of l b)) (and_right _ _ (not_from_true _ w))),
      )
