-- The loop that tries the spares of a block, turn by turn.
use Rattle.std.proofs.Common.{◌≡◌, ℕ, Bool, true, false, cond, not, ◌&&◌, ◌||◌, List, [], ◌∷◌, ◌++◌, length, sym, refl, ap, ◌∙◌, ap₂, ⊎_elim, subst}
use mathlib.Core.List.Memᴰ
use mathlib.Core.List.{Memᴰ}
use Rattle.format.specs.Blocks.{blank_at}
use Rattle.format.specs.Sectors.{Apart, free, some_free}
use Rattle.medium.proofs.Burns.{after_elsewhere, after_length}
use Rattle.medium.specs.Calls.{reaches, sectors_after, with_burnt}
use Rattle.medium.specs.Runs.{after_burns}
use Rattle.medium.specs.Sectors.{Sector, is_blank, sector_at}
use Rattle.pointers_format.specs.Pointing.{spare_tail}
use Rattle.pointers_format.specs.Storing.{spare_burn, spare_burns}
use Rattle.std.proofs.lemmas.Bool.{and_cases, and_parts, both_ways, cases_Bool, cond-false, cond-true, not-false, not-true}

-- a burnt sector stays
after_burnt : (s : List Sector) (i : ℕ) (image : List ℕ) → blank_at s i ≡ false → sectors_after s i image ≡ s
after_burnt s i image b =
    ap (λ u. cond (reaches (length s) i (length image)) u s) (cond-false (is_blank (sector_at s i).state) (with_burnt s i image) s b) ∙ both_same (reaches (length s) i (length image)) s
  where
    both_same : (t : Bool) (u : List Sector) → cond t u u ≡ u
    both_same true u = refl
    both_same false u = refl

module _ (h : ℕ) (bytes : List ℕ) where
  -- the burns and the test look at the candidates alone
  pub burns_same : (s t : List Sector) (ps : List ℕ) → ((q : ℕ) → Memᴰ q ps → sector_at t q ≡ sector_at s q) → (spare_burns t h bytes ps ≡ spare_burns s h bytes ps) × (some_free t ps ≡ some_free s ps)
  burns_same s t [] same = (refl, refl)
  burns_same s t (p ∷ ps) same =
      let here = same p (Memᴰ.head refl) in
      let rest = burns_same s t ps (λ q m. same q (Memᴰ.tail m)) in (
        ap₂ (λ (x : Sector) bs. cond (is_blank x.state) (spare_burn h bytes p ∷ cond x.weak bs []) bs) here rest.0,
        ap₂ (λ (x : Sector) b. (is_blank x.state && not x.weak) || b) here rest.1,
      )

  -- what is left to burn comes to the whole
  pub record Trying (s0 s : List Sector) (ps rest : List ℕ) : Type 0 where
    pub still : after_burns s (spare_burns s h bytes rest) ≡ after_burns s0 (spare_burns s0 h bytes ps)
    pub found : some_free s rest ≡ some_free s0 ps
    pub apart : Apart rest
    pub as_many : length s ≡ length s0

  pub trying_start : (s : List Sector) (ps rest : List ℕ) → rest ≡ ps → Apart ps → Trying s s ps rest
  trying_start s ps rest all apart =
      record { still = ap (λ xs. after_burns s (spare_burns s h bytes xs)) all; found = ap (some_free s) all; apart = subst Apart (sym all) apart; as_many = refl }

  module _ (s0 s : List Sector) (ps left : List ℕ) (k : Trying s0 s ps left) where
    pub trying_done : left ≡ [] → (s ≡ after_burns s0 (spare_burns s0 h bytes ps)) × (false ≡ some_free s0 ps)
    trying_done none = (ap (λ xs. after_burns s (spare_burns s h bytes xs)) (sym none) ∙ k.still, ap (some_free s) (sym none) ∙ k.found)

    module _ (p : ℕ) (rest : List ℕ) (more : left ≡ p ∷ rest) where
      abbrev after : List Sector
      after = sectors_after s p (bytes ++ spare_tail p h)

      still_more : after_burns s (spare_burns s h bytes (p ∷ rest)) ≡ after_burns s0 (spare_burns s0 h bytes ps)
      still_more = ap (λ xs. after_burns s (spare_burns s h bytes xs)) (sym more) ∙ k.still

      found_more : (free s p || some_free s rest) ≡ some_free s0 ps
      found_more = ap (some_free s) (sym more) ∙ k.found

      pub trying_found : (t : List Sector) → t ≡ after → free s p ≡ true → (t ≡ after_burns s0 (spare_burns s0 h bytes ps)) × (true ≡ some_free s0 ps)
      trying_found t e y =
          let parts = and_parts (blank_at s p) (not (sector_at s p).weak) y in
          let one : spare_burns s h bytes (p ∷ rest) ≡ spare_burn h bytes p ∷ [] =
          cond-true (blank_at s p) _ _ parts.0 ∙ ap (λ bs. spare_burn h bytes p ∷ bs) (cond-false (sector_at s p).weak _ _ (not-true _ parts.1)) in
          (e ∙ sym (ap (after_burns s) one) ∙ still_more, sym (ap (λ b. b || some_free s rest) y) ∙ found_more)

      module _ (none : free s p ≡ false) where
        apart : Apart (p ∷ rest)
        apart = subst Apart more k.apart

        same : (q : ℕ) → Memᴰ q rest → sector_at after q ≡ sector_at s q
        same q m = after_elsewhere s p (bytes ++ spare_tail p h) q (λ e. apart.0 (Memᴰ.cast (sym e) m))

        passed : after_burns s (spare_burns s h bytes (p ∷ rest)) ≡ after_burns after (spare_burns s h bytes rest)
        passed =
            let weak : blank_at s p ≡ true → after_burns s (spare_burns s h bytes (p ∷ rest)) ≡ after_burns after (spare_burns s h bytes rest) =
            λ b. let w : (sector_at s p).weak ≡ true = not-false _ (⊎_elim (λ z. absurd (both_ways _ z b)) (λ z. z) (and_cases (blank_at s p) (not (sector_at s p).weak) none)) in
            ap (after_burns s) (cond-true (blank_at s p) _ _ b ∙ ap (λ bs. spare_burn h bytes p ∷ bs) (cond-true (sector_at s p).weak _ _ w)) in
            let over : blank_at s p ≡ false → after_burns s (spare_burns s h bytes (p ∷ rest)) ≡ after_burns after (spare_burns s h bytes rest) =
            λ b. ap (after_burns s) (cond-false (blank_at s p) _ _ b) ∙ sym (ap (λ u. after_burns u (spare_burns s h bytes rest)) (after_burnt s p (bytes ++ spare_tail p h) b)) in
            ⊎_elim weak over (cases_Bool (blank_at s p))

        pub trying_next : (t : List Sector) → t ≡ after → Trying s0 t ps rest
        trying_next t e =
            let r = burns_same s after rest same in
            record {
              still = ap (λ u. after_burns u (spare_burns u h bytes rest)) e ∙ ap (after_burns after) r.0 ∙ sym passed ∙ still_more;
              found = ap (λ u. some_free u rest) e ∙ r.1 ∙ sym (ap (λ b. b || some_free s rest) none) ∙ found_more;
              apart = apart.1;
              as_many = ap length e ∙ after_length s p (bytes ++ spare_tail p h) ∙ k.as_many;
            }
