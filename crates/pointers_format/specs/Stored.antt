-- What storing a block leaves, sector by sector, and when it finds a place.
use Rattle.std.specs.Prelude.{◌≡◌, ℕ, ◌<◌, true, cond, not, ◌⊎◌, List, [], ◌∷◌, length, ◌≢◌, refl}
use Rattle.std.proofs.Common.{sym, subst, ◌∙◌}
use Rattle.std.proofs.Math.Path.{ap}
use mathlib.Core.List.Memᴰ
use mathlib.Core.List.{Memᴰ}
use Rattle.std.proofs.Math.Logic.{inl, inr, ⊎_elim}
use Rattle.format.specs.Blocks.{blank_at}
use Rattle.format.specs.Sectors.{free, some_free}
use Rattle.medium.proofs.Burns.{Distinct, FitsIn, burns_elsewhere, burns_here, burns_length}
use Rattle.medium.specs.Sectors.{Sector, sector_at}
use Rattle.medium.specs.declared.runs.Burn.{Burn}
use Rattle.pointers.proofs.Members.{split_in}
use Rattle.pointers.proofs.Spared.{block_listed, front_tried, listed_spare, spares_apart, tried_front}
use Rattle.pointers.specs.Places.{blocks, home}
use Rattle.pointers.specs.Rules.{last_track}
use Rattle.pointers.specs.Spares.{all_spares, spares_of}
use Rattle.pointers.specs.declared.pointers.Pointers.{Pointers}
use Rattle.pointers.specs.declared.layout.Layout.{Layout}
use Rattle.pointers_format.specs.Burning.{BurntAmong, burn_in, burns_distinct, first_free, free_among, home_tail_length, image_length, in_burns, spare_tail_length}
use Rattle.pointers_format.specs.Mounted.{home_inside, places, rules, spare_inside}
use Rattle.pointers_format.specs.Pointing.{home_tail, spare_tail}
use Rattle.pointers_format.specs.Storing.{Place, SpareBurnt, StoredSectors, home_burn, left, spare_burn, spare_burns, stored, storing_burns}
use Rattle.std.proofs.lemmas.Bool.{and_from, and_parts, cases_Bool, cases_eq, cond-false, cond-true, not_from_false, not-true, or_cases, or_left, or_right}

-- whether a sector is among those of some burns
asked : (bs : List Burn) (i : ℕ) → ((c : Burn) × Memᴰ c bs × (c.sector ≡ i)) ⊎ ((c : Burn) → Memᴰ c bs → i ≢ c.sector)
asked [] i = inr (λ c m e. Memᴰ.not-nil m)
asked (x ∷ bs) i =
    let later : (x.sector ≢ i) → ((c : Burn) → Memᴰ c bs → i ≢ c.sector) → (c : Burn) → Memᴰ c (x ∷ bs) → i ≡ c.sector → ⊥ =
    λ n r c m e. ⊎_elim (λ (k : c ≡ x). n (ap (λ (y : Burn). y.sector) (sym k) ∙ sym e)) (λ k. r c k e) (Memᴰ.cases_cons m) in
    ⊎_elim (λ e. inl (x, Memᴰ.head refl, e)) (λ n. ⊎_elim (λ r. inl (r.0, Memᴰ.tail r.1, r.2)) (λ r. inr (later n r)) (asked bs i)) (cases_eq x.sector i)

-- places, and the test for one
module _ (l : Layout) (s : List Sector) (b : ℕ) where
  place_by : (p : ℕ) → free s p ≡ true → (p ≡ home l b) ⊎ Memᴰ p (spares_of l b) → Place l s b p
  place_by p t w = let h = and_parts (blank_at s p) (not (sector_at s p).weak) t in record { serves = w; blank = h.0; sound = not-true _ h.1 }

  pub left_place : left l s b ≡ true → (p : ℕ) × Place l s b p
  unfolding left
  left_place t =
      let spare : some_free s (spares_of l b) ≡ true → (p : ℕ) × Place l s b p =
      λ u. let r = first_free s (spares_of l b) u in
      (r.at, place_by r.at r.is_free (inr (subst (λ xs. Memᴰ r.at xs) (sym r.burnt.split) (Memᴰ.append_right r.burnt.front (Memᴰ.head refl))))) in
      ⊎_elim (λ u. (home l b, place_by (home l b) u (inl refl))) spare (or_cases (free s (home l b)) (some_free s (spares_of l b)) t)

  pub place_left : (p : ℕ) → Place l s b p → left l s b ≡ true
  unfolding left
  place_left p w =
      let t : free s p ≡ true = and_from _ _ w.blank (not_from_false _ w.sound) in
      ⊎_elim (λ e. or_left (free s (home l b)) _ (ap (free s) (sym e) ∙ t)) (λ m. or_right (free s (home l b)) _ (free_among s (spares_of l b) p m t)) w.serves

module _ (g : Pointers) (s : List Sector) (size : length s ≡ g.sectors) (b : ℕ) (known : b < blocks g.layout) where
  abbrev l : Layout
  l = g.layout

  pub no_home : (p : ℕ) → Memᴰ p (spares_of l b) → p ≢ home l b
  no_home p m e = (places g).no_spare b known (listed_spare l (home l b) (subst (λ q. Memᴰ q (all_spares l)) e (block_listed (last_track g.sectors) l (rules g) b p known m)))

  pub inside : (p : ℕ) → Memᴰ p (spares_of l b) → p < length s
  inside p m = subst (λ n. p < n) (sym size) (spare_inside g p (block_listed (last_track g.sectors) l (rules g) b p known m))

  pub home_there : home l b < length s
  home_there = subst (λ n. home l b < n) (sym size) (home_inside g b known)

  -- a spare that is burnt, by its place among the candidates and by what was tried before
  pub to_words : (i : ℕ) → (sector_at s (home l b)).weak ≡ true → BurntAmong s (spares_of l b) i → SpareBurnt l s b i
  to_words i w x =
      record {
        home_weak = w;
        spare = subst (λ xs. Memᴰ i xs) (sym x.split) (Memᴰ.append_right x.front (Memᴰ.head refl));
        blank = x.blank;
        none_before = λ q t. x.none_free q (tried_front (last_track g.sectors) l (rules g) b known x.front x.back q i x.split t);
      }

  from_words : (i : ℕ) → SpareBurnt l s b i → BurntAmong s (spares_of l b) i
  from_words i x =
      let r = split_in (spares_of l b) x.spare in
      record { front = r.0; back = r.1; split = r.2; blank = x.blank; none_free = λ q m. x.none_before q (front_tried l b r.0 r.1 q i r.2 m) }

  module _ (bytes : List ℕ) (full : length bytes ≡ 512) (blank : blank_at s (home l b) ≡ true) where
    abbrev rest : List Burn
    rest = cond (sector_at s (home l b)).weak (spare_burns s (home l b) bytes (spares_of l b)) []

    abbrev bs : List Burn
    bs = home_burn l b bytes ∷ rest

    in_rest : (c : Burn) → Memᴰ c rest → (c ≡ spare_burn (home l b) bytes c.sector) × SpareBurnt l s b c.sector
    in_rest c m =
        let w = (sector_at s (home l b)).weak in
        let burns = spare_burns s (home l b) bytes (spares_of l b) in
        let yes' : w ≡ true → (c ≡ spare_burn (home l b) bytes c.sector) × SpareBurnt l s b c.sector =
        λ t. let r = in_burns s (home l b) bytes (spares_of l b) c (subst (λ xs. Memᴰ c xs) (cond-true w burns [] t) m) in (r.0, to_words c.sector t r.1) in
        ⊎_elim yes' (λ t. absurd (Memᴰ.not-nil (subst (λ xs. Memᴰ c xs) (cond-false w burns [] t) m))) (cases_Bool w)

    rest_in : (i : ℕ) → SpareBurnt l s b i → Memᴰ (spare_burn (home l b) bytes i) rest
    rest_in i x =
        subst (λ xs. Memᴰ (spare_burn (home l b) bytes i) xs) (sym (cond-true (sector_at s (home l b)).weak (spare_burns s (home l b) bytes (spares_of l b)) [] x.home_weak)) (burn_in s (home l b) bytes (spares_of l b) i (from_words i x))

    rest_distinct : Distinct rest
    rest_distinct =
        let w = (sector_at s (home l b)).weak in
        let burns = spare_burns s (home l b) bytes (spares_of l b) in
        ⊎_elim (λ t. subst Distinct (sym (cond-true w burns [] t)) (burns_distinct s (home l b) bytes (spares_of l b) (spares_apart (last_track g.sectors) l (rules g) b known))) (λ t. subst Distinct (sym (cond-false w burns [] t)) tt) (cases_Bool w)

    distinct : Distinct bs
    distinct = ((λ c m e. no_home c.sector (in_rest c m).1.spare e), rest_distinct)

    home_fits : FitsIn s (home_burn l b bytes)
    home_fits = record { inside = home_there; blank = blank; whole = image_length bytes (home_tail (home l b) (spares_of l b)) full (home_tail_length (home l b) (spares_of l b)) }

    spare_fits : (i : ℕ) → SpareBurnt l s b i → FitsIn s (spare_burn (home l b) bytes i)
    spare_fits i x = record { inside = inside i x.spare; blank = x.blank; whole = image_length bytes (spare_tail i (home l b)) full (spare_tail_length i (home l b)) }

    pub stored_sectors : StoredSectors l s b bytes (stored l s b bytes)
    unfolding stored storing_burns
    stored_sectors =
        record {
          as_many = burns_length s bs;
          home_burnt = burns_here s bs distinct (home_burn l b bytes) (Memᴰ.head refl) home_fits;
          spare_burnt = λ i x. burns_here s bs distinct (spare_burn (home l b) bytes i) (Memᴰ.tail (rest_in i x)) (spare_fits i x);
          others = λ i n o. burns_elsewhere s bs i (λ c m e. ⊎_elim (λ (k : c ≡ home_burn l b bytes). n (e ∙ ap (λ (y : Burn). y.sector) k)) (λ k. o (subst (SpareBurnt l s b) (sym e) (in_rest c k).1)) (Memᴰ.cases_cons m));
        }

    -- each sector is as it was, or it is the home, or a spare that is burnt
    pub each_sector : (i : ℕ) → (sector_at (stored l s b bytes) i ≡ sector_at s i) ⊎ ((i ≡ home l b) ⊎ SpareBurnt l s b i)
    unfolding stored storing_burns
    each_sector i =
        let hit : (c : Burn) × Memᴰ c bs × (c.sector ≡ i) → (i ≡ home l b) ⊎ SpareBurnt l s b i =
        λ r. ⊎_elim (λ (k : r.0 ≡ home_burn l b bytes). inl (sym r.2 ∙ ap (λ (y : Burn). y.sector) k)) (λ k. inr (subst (SpareBurnt l s b) r.2 (in_rest r.0 k).1)) (Memᴰ.cases_cons r.1) in
        ⊎_elim (λ r. inr (hit r)) (λ r. inl (burns_elsewhere s bs i r)) (asked bs i)
