-- Storing in a medium that mounts keeps every promise: it mounts again, the block is held or lost, the others are as they were.
use Rattle.std.specs.Prelude.{◌≡◌, ℕ, ◌+◌, ◌-◌, ◌*◌, ◌/◌, ◌%◌, ◌<◌, ◌≤◌, Bool, true, false, cond, not, ◌&&◌, ◌||◌, ◌⊎◌, List, [], ◌∷◌, ◌++◌, length, take, drop, Some, None, Ok, Option, ◌==◌, ◌≢◌, slice_index, slice_index_or}
use Rattle.std.proofs.Math.Path.{refl, sym, ap, ap₂}
use Rattle.std.proofs.Common.{subst, ◌∙◌, inl, inr, arith}
use mathlib.Core.List.{Memᴰ}
use Rattle.std.proofs.Math.Logic.{⊎_elim}
use Rattle.format.specs.Blocks.{blank_at, block_in, image_of, lost, resting, sound_at, spare_of, spoiled_at, standing, standing_by}
use Rattle.format.specs.Laws.{StoringResult}
use Rattle.format.specs.Sectors.{free, image_at, some_free}
use Rattle.medium.specs.Sectors.{Sector, burnt, is_blank, sector_at}
use Rattle.pointers.proofs.Spared.{all_apart, block_listed, listed_spare, may_from}
use Rattle.pointers.specs.Places.{blocks, home, primaries, secondaries}
use Rattle.pointers.specs.Rules.{last_track}
use Rattle.pointers.specs.Spares.{TriedBefore, all_spares, may_replace, spares_of}
use Rattle.pointers.specs.declared.layout.Layout.{Layout}
use Rattle.pointers_format.specs.Burning.{first_free, free_among}
use Rattle.pointers_format.specs.Linked.{Once, found, found_in, found_step, named_once, none_faulty, not_found}
use Rattle.pointers_format.specs.Mounted.{clean, geometry_same, is_sound, is_spoiled, mounted, mounts, names_spoiled, places, rules, size, well}
use Rattle.pointers_format.specs.Stored.{each_sector, stored_sectors, to_words}
use Rattle.pointers_format.specs.Copies.{copies}
use Rattle.pointers_format.specs.Linking.{faulty, has, links, links_among, named_by, names, points_well}
use Rattle.pointers_format.specs.Mounting.{geometry_of, mounting}
use Rattle.pointers_format.specs.Pointing.{home_tail, spare_tail, target}
use Rattle.pointers_format.specs.Storing.{SpareBurnt, StoredSectors, left, stored}
use Rattle.pointers_format.specs.declared.format_a.FormatA.{FormatA}
use Rattle.std.proofs.lemmas.List.{drop_at, get_or-append_right, take_at}
use Rattle.std.proofs.lemmas.Bool.{and_from, and_left, and_parts, and_right, both_ways, cases_Bool, cases_eq, cases_lt, cond-false, cond-true, eq-eqb, ne_eqb, not_from_false, not_from_true, not-true, or_left, or_parts}
use Rattle.std.specs.Str.{bytes_eq}

pub same_self : (xs : List ℕ) → bytes_eq xs xs ≡ true
same_self [] = refl
same_self (x ∷ xs) = and_from _ _ (eq-eqb x x refl) (same_self xs)

-- a pointer leads back to its sector
pub there_again : (h : ℕ) → (h / 31 / 256 * 256 + h / 31 % 256) * 31 + h % 31 ≡ h
there_again h = omega arith

pub target_of : (bytes : List ℕ) (p h : ℕ) → length bytes ≡ 512 → target (bytes ++ spare_tail p h) ≡ h
unfolding target spare_tail
target_of bytes p h full =
    let at : (i : ℕ) → 512 ≤ i → slice_index (bytes ++ spare_tail p h) i ≡ slice_index_or (spare_tail p h) (i - 512) 0 = λ i n. get_or-append_right bytes (spare_tail p h) 512 i 0 full n in
    let a = at 516 (omega arith) in
    let b = at 517 (omega arith) in
    let c = at 518 (omega arith) in
    ap₂ (λ x y. x * 31 + y) (ap₂ (λ x y. x * 256 + y) a b) c ∙ there_again h

pub named_same : (s t : List Sector) (p : ℕ) → sector_at t p ≡ sector_at s p → named_by t p ≡ named_by s p
unfolding named_by
named_same s t p e = ap (λ x. target (image_of x.state)) e

well_same : (l : Layout) (s t : List Sector) (p : ℕ) → sector_at t p ≡ sector_at s p → sector_at t (named_by s p) ≡ sector_at s (named_by s p) → points_well l t p ≡ points_well l s p
unfolding points_well
well_same l s t p e f =
    let n : named_by t p ≡ named_by s p = named_same s t p e in
    ap₂ ◌&&◌ (ap (may_replace l p) n) (ap₂ ◌&&◌ (ap₂ bytes_eq (ap (λ x. drop 512 (image_of x.state)) e) (ap (spare_tail p) n)) (ap (spoiled_at t) n ∙ ap is_spoiled f))

-- the copies of the layout lie outside the tracks 3 to n - 3
pub in_copies : (n i : ℕ) → Memᴰ i (copies n) → (i < 93) ⊎ (31 * (n - 2) ≤ i)
unfolding copies
in_copies n i m =
    ⊎_elim (λ (e : i ≡ 0). inl (omega arith)) (λ m. ⊎_elim (λ (e : i ≡ 46). inl (omega arith)) (λ m. ⊎_elim (λ (e : i ≡ 31 * (n - 2)). inr (omega arith)) (λ m. ⊎_elim (λ (e : i ≡ 31 * (n - 1) + 15). inr (omega arith)) (λ m. absurd (mathlib.Core.List.Memᴰ.not-nil m)) (mathlib.Core.List.Memᴰ.cases_cons m)) (mathlib.Core.List.Memᴰ.cases_cons m)) (mathlib.Core.List.Memᴰ.cases_cons m)) (mathlib.Core.List.Memᴰ.cases_cons m)

-- a sector is as it was, or sound neither before nor afterwards
abbrev Kept : List Sector → List Sector → ℕ → Type 0
Kept s t i = (sector_at t i ≡ sector_at s i) ⊎ ((sound_at s i ≡ false) × (sound_at t i ≡ false))

-- of two spares of a block one is tried before the other
one_first : (l : Layout) (b p q : ℕ) → Memᴰ p (spares_of l b) → Memᴰ q (spares_of l b) → (p ≡ q) ⊎ (TriedBefore l b p q ⊎ TriedBefore l b q p)
unfolding spares_of
one_first l b p q m n =
    let P = primaries l (b / l.homes) in
    let S = secondaries l in
    let Goal : Type 0 = (p ≡ q) ⊎ (TriedBefore l b p q ⊎ TriedBefore l b q p) in
    let alike : (p < q → TriedBefore l b p q) → (q < p → TriedBefore l b q p) → Goal =
    λ f g. ⊎_elim inl (λ d. ⊎_elim (λ h. inr (inl (f h))) (λ h. inr (inr (g (omega arith)))) (cases_lt p q)) (cases_eq p q) in
    let first : Memᴰ p P → Goal =
    λ u. ⊎_elim (λ v. alike (λ h. inr (h, inl (u, v))) (λ h. inr (h, inl (v, u)))) (λ v. inr (inl (inl (u, v)))) (mathlib.Core.List.Memᴰ.append_cases P n) in
    let second : Memᴰ p S → Goal =
    λ u. ⊎_elim (λ v. inr (inr (inl (v, u)))) (λ v. alike (λ h. inr (h, inr (u, v))) (λ h. inr (h, inr (v, u)))) (mathlib.Core.List.Memᴰ.append_cases P n) in
    ⊎_elim first second (mathlib.Core.List.Memᴰ.append_cases P m)

module _ (s : List Sector) (f : FormatA) (e : mounting s ≡ Ok f) (b : ℕ) (bytes : List ℕ) (known : b < blocks f.geometry.layout) (blank : blank_at s (home f.geometry.layout b) ≡ true) (full : length bytes ≡ 512) where
  abbrev l : Layout
  l = f.geometry.layout

  abbrev t : List Sector
  t = stored l s b bytes

  abbrev last : ℕ
  last = last_track f.geometry.sectors

  x : StoredSectors l s b bytes t
  x = stored_sectors f.geometry s (size s f e) b known bytes full blank

  -- a spare that took the block
  abbrev New : ℕ → Type 0
  New q = SpareBurnt l s b q × ((sector_at s q).weak ≡ false)

  not_home : (q : ℕ) → Memᴰ q (all_spares l) → q ≢ home l b
  not_home q m k = (places f.geometry).no_spare b known (listed_spare l (home l b) (subst (λ p. Memᴰ p (all_spares l)) k m))

  among : (q : ℕ) → Memᴰ q (spares_of l b) → Memᴰ q (all_spares l)
  among q m = block_listed last l (rules f.geometry) b q known m

  other_home : (c : ℕ) → c < blocks l → (c ≢ b) → sector_at t (home l c) ≡ sector_at s (home l c)
  other_home c h n =
      x.others (home l c) (λ k. n ((places f.geometry).homes_differ c b h known k)) (λ u. (places f.geometry).no_spare c h (listed_spare l (home l c) (among (home l c) u.spare)))

  outside : (i : ℕ) → (i < 93) ⊎ (31 * (last - 2) ≤ i) → sector_at t i ≡ sector_at s i
  outside i o =
      let w = (places f.geometry).home_inside b known in
      let not_spare : Memᴰ i (all_spares l) → ⊥ = λ m. let k = (places f.geometry).spare_inside i (listed_spare l i m) in ⊎_elim (λ h. omega arith) (λ h. omega arith) o in
      x.others i (λ k. ⊎_elim (λ h. omega arith) (λ h. omega arith) o) (λ u. not_spare (among i u.spare))

  unsound_blank : (i : ℕ) → blank_at s i ≡ true → sound_at s i ≡ false
  unsound_blank i h = and_left _ _ (not_from_true _ h)

  each : (q : ℕ) → Memᴰ q (all_spares l) → Kept s t q ⊎ New q
  each q m =
      let burnt : SpareBurnt l s b q → Kept s t q ⊎ New q =
      λ u. ⊎_elim (λ w. inl (inr (unsound_blank q u.blank, ap is_sound (x.spare_burnt q u) ∙ not_from_true _ w))) (λ w. inr (u, w)) (cases_Bool (sector_at s q).weak) in
      ⊎_elim (λ k. inl (inl k)) (⊎_elim (λ k. absurd (not_home q m k)) burnt) (each_sector f.geometry s (size s f e) b known bytes full blank q)

  new_once : (q r : ℕ) → New q → New r → q ≡ r
  new_once q r u v =
      let free_one : (p : ℕ) → New p → free s p ≡ true = λ p w. and_from _ _ w.0.blank (not_from_false _ w.1) in
      ⊎_elim (λ k. k) (⊎_elim (λ k. absurd (both_ways _ (v.0.none_before q k) (free_one q u))) (λ k. absurd (both_ways _ (u.0.none_before r k) (free_one r v)))) (one_first l b q r u.0.spare v.0.spare)

  new_image : (q : ℕ) → New q → (sector_at t q).state ≡ burnt (bytes ++ spare_tail q (home l b))
  new_image q u = ap (λ y. y.state) (x.spare_burnt q u.0)

  new_sound : (q : ℕ) → New q → sound_at t q ≡ true
  new_sound q u = ap is_sound (x.spare_burnt q u.0) ∙ not_from_false _ u.1

  new_names : (q : ℕ) → New q → named_by t q ≡ home l b
  unfolding named_by
  new_names q u = ap (λ y. target (image_of y)) (new_image q u) ∙ target_of bytes q (home l b) full

  home_spoiled : (sector_at s (home l b)).weak ≡ true → spoiled_at t (home l b) ≡ true
  home_spoiled w = ap is_spoiled x.home_burnt ∙ w

  new_well : (q : ℕ) → New q → points_well l t q ≡ true
  unfolding points_well
  new_well q u =
      let n = new_names q u in
      let may : may_replace l q (named_by t q) ≡ true = ap (may_replace l q) n ∙ may_from last l (rules f.geometry) q (home l b) (b, known, refl, u.0.spare) in
      let tail : bytes_eq (drop 512 (image_at t q)) (spare_tail q (named_by t q)) ≡ true =
      ap₂ bytes_eq (ap (λ y. drop 512 (image_of y)) (new_image q u) ∙ drop_at bytes (spare_tail q (home l b)) 512 full) (ap (spare_tail q) n) ∙ same_self (spare_tail q (home l b)) in
      and_from _ _ may (and_from _ _ tail (ap (spoiled_at t) n ∙ home_spoiled u.0.home_weak))

  -- a home that is spoiled in s is not that of b
  not_this : (k : ℕ) → spoiled_at s k ≡ true → k ≢ home l b
  not_this k h q = both_ways _ (not_from_true _ blank) (subst (λ z. not (blank_at s z) ≡ true) q (and_parts (not (blank_at s k)) (sector_at s k).weak h).0)

  kept_spoiled : (p : ℕ) → Memᴰ p (all_spares l) → sound_at s p ≡ true → (sector_at t (named_by s p) ≡ sector_at s (named_by s p)) × (named_by s p ≢ home l b)
  kept_spoiled p m h =
      let r = names_spoiled s f e p m h in
      let not_b : named_by s p ≡ home l b → ⊥ = not_this (named_by s p) r.1 in
      let c = r.0 in
      (subst (λ k. sector_at t k ≡ sector_at s k) c.2 (other_home c.0 c.1 (λ q. not_b (sym c.2 ∙ ap (home l) q))), not_b)

  -- a spare that is sound in t was sound and is as it was, or is new
  was : (p : ℕ) → Memᴰ p (all_spares l) → sound_at t p ≡ true → ((sound_at s p ≡ true) × (sector_at t p ≡ sector_at s p)) ⊎ New p
  was p m h =
      let old : Kept s t p → (sound_at s p ≡ true) × (sector_at t p ≡ sector_at s p) = ⊎_elim (λ q. (sym (ap is_sound q) ∙ h, q)) (λ q. absurd (both_ways _ q.1 h)) in
      ⊎_elim (λ k. inl (old k)) inr (each p m)

  pub remounts : mounting t ≡ Ok f
  unfolding faulty
  remounts =
      let laid : geometry_of t ≡ Ok f.geometry =
      geometry_same s t x.as_many (λ p m. outside p (in_copies last p (subst (λ n. Memᴰ p (copies (last_track n))) (size s f e) m))) ∙ (mounted s f e).0 in
      let each_clear : (p : ℕ) → Memᴰ p (all_spares l) → sound_at t p ≡ true → (points_well l t p ≡ true) × (has [] (named_by t p) ≡ false) =
      λ p m h. (⊎_elim (λ o. well_same l s t p o.1 (kept_spoiled p m o.0).0 ∙ well s f e p m o.0) (λ n. new_well p n) (was p m h), refl) in
      let mixed : (p q : ℕ) → Memᴰ p (all_spares l) → (sound_at s p ≡ true) × (sector_at t p ≡ sector_at s p) → New q → named_by t p ≡ named_by t q → ⊥ =
      λ p q m o n h. (kept_spoiled p m o.0).1 (sym (named_same s t p o.1) ∙ h ∙ new_names q n) in
      let once_more : Once l t (all_spares l) =
      λ p q m n hp hq h. ⊎_elim (λ o. ⊎_elim (λ u. named_once l s [] (all_spares l) (clean s f e) p q m n o.0 u.0 (sym (named_same s t p o.1) ∙ h ∙ named_same s t q u.1)) (λ v. absurd (mixed p q m o v h)) (was q n hq)) (λ v. ⊎_elim (λ u. absurd (mixed q p n u v (sym h))) (λ w. new_once p q v w) (was q n hq)) (was p m hp) in
      mounts t f laid (none_faulty l t [] (all_spares l) (all_apart last l (rules f.geometry)) each_clear once_more)

  -- the spare of another home is as it was
  found_same : (k : ℕ) → (k ≢ home l b) → (ps : List ℕ) → ((p : ℕ) → Memᴰ p ps → Memᴰ p (all_spares l)) → spare_of (links_among t ps) k ≡ spare_of (links_among s ps) k
  unfolding names
  found_same k n [] sub = refl
  found_same k n (p ∷ ps) sub =
      let same : Kept s t p ⊎ New p → names t p k ≡ names s p k =
      ⊎_elim (⊎_elim (λ q. ap₂ (λ a c. a && c == k) (ap is_sound q) (named_same s t p q)) (λ q. and_left _ _ q.1 ∙ sym (and_left _ _ q.0))) (λ u. and_right _ _ (ne_eqb _ _ (λ q. n (sym q ∙ new_names p u))) ∙ sym (and_left _ _ (unsound_blank p u.0.blank))) in
      found_step t p ps k ∙ ap₂ (λ c r. cond c (Some p) r) (same (each p (sub p (mathlib.Core.List.Memᴰ.head refl)))) (found_same k n ps (λ q m. sub q (mathlib.Core.List.Memᴰ.tail m))) ∙ sym (found_step s p ps k)

  apart_homes : (c : ℕ) → c < blocks l → (c ≢ b) → home l c ≢ home l b
  apart_homes c h n k = n ((places f.geometry).homes_differ c b h known k)

  others_rest : (c : ℕ) → c < blocks l → (c ≢ b) → resting t (links l t) (home l c) ≡ resting s (links l s) (home l c)
  unfolding links
  others_rest c h n =
      ap₂ (λ a r. cond a (Some (home l c)) r) (ap is_sound (other_home c h n)) (found_same (home l c) (apart_homes c h n) (all_spares l) (λ p m. m))

  others_stand : (c : ℕ) → c < blocks l → (c ≢ b) → standing t (links l t) (home l c) ≡ standing s (links l s) (home l c)
  others_stand c h n = ap₂ standing_by (ap (λ y. is_blank y.state) (other_home c h n)) (others_rest c h n)

  others_hold : (c p : ℕ) → c < blocks l → (c ≢ b) → resting s (links l s) (home l c) ≡ Some p → block_in t p ≡ block_in s p
  unfolding links
  others_hold c p h n r =
      let there : sector_at t p ≡ sector_at s p → block_in t p ≡ block_in s p = ap (λ y. take 512 (image_of y.state)) in
      let test : Bool = sound_at s (home l c) in
      let rest : Option ℕ = spare_of (links_among s (all_spares l)) (home l c) in
      let at_home : test ≡ true → block_in t p ≡ block_in s p =
      λ u. let k : Some (home l c) ≡ Some p = sym (cond-true test (Some (home l c)) rest u) ∙ r in
      let i : home l c ≡ p = cc in
      there (subst (λ y. sector_at t y ≡ sector_at s y) i (other_home c h n)) in
      let at_spare : test ≡ false → block_in t p ≡ block_in s p =
      λ u. let k = found_in s (all_spares l) (home l c) p (sym (cond-false test (Some (home l c)) rest u) ∙ r) in
      ⊎_elim (⊎_elim there (λ v. absurd (both_ways _ v.0 k.1))) (λ v. absurd (both_ways _ (unsound_blank p v.0.blank) k.1)) (each p k.0) in
      ⊎_elim at_home at_spare (cases_Bool test)

  -- no sound spare of s names the home of b
  unnamed : (q : ℕ) → Memᴰ q (all_spares l) → sound_at s q ≡ true → named_by s q ≢ home l b
  unnamed q m h k = not_this (named_by s q) (names_spoiled s f e q m h).1 k

  abbrev Rests : ℕ → Type 0
  Rests p = (resting t (links l t) (home l b) ≡ Some p) × (block_in t p ≡ bytes)

  -- the home took the block
  in_home : (sector_at s (home l b)).weak ≡ false → Rests (home l b)
  in_home w =
      let sound : sound_at t (home l b) ≡ true = ap is_sound x.home_burnt ∙ not_from_false _ w in
      (cond-true (sound_at t (home l b)) _ _ sound, ap (λ y. take 512 (image_of y.state)) x.home_burnt ∙ take_at bytes (home_tail (home l b) (spares_of l b)) 512 full)

  unsound_home : (sector_at s (home l b)).weak ≡ true → resting t (links l t) (home l b) ≡ spare_of (links l t) (home l b)
  unsound_home w = cond-false (sound_at t (home l b)) _ _ (ap is_sound x.home_burnt ∙ not_from_true _ w)

  -- a spare took it
  in_spare : (p : ℕ) → New p → Rests p
  unfolding links
  in_spare p u =
      let m : Memᴰ p (all_spares l) = among p u.0.spare in
      let only : (q : ℕ) → Memᴰ q (all_spares l) → sound_at t q ≡ true → named_by t q ≡ home l b → q ≡ p =
      λ q n h k. ⊎_elim (λ o. absurd (unnamed q n o.0 (sym (named_same s t q o.1) ∙ k))) (λ v. new_once q p v u) (was q n h) in
      (unsound_home u.0.home_weak ∙ found t (all_spares l) (home l b) p m (new_sound p u) (new_names p u) only, ap (λ y. take 512 (image_of y)) (new_image p u) ∙ take_at bytes (spare_tail p (home l b)) 512 full)

  home_free : (sector_at s (home l b)).weak ≡ false → free s (home l b) ≡ true
  home_free w = and_from _ _ blank (not_from_false _ w)

  -- with a place left
  accepted : left l s b ≡ true → (p : ℕ) × Rests p
  unfolding left
  accepted h =
      let spare : (sector_at s (home l b)).weak ≡ true → (p : ℕ) × Rests p =
      λ w. let some : some_free s (spares_of l b) ≡ true = sym (ap (λ c. c || some_free s (spares_of l b)) (and_right _ _ (not_from_true _ w))) ∙ h in
      let r = first_free s (spares_of l b) some in
      let parts = and_parts (blank_at s r.at) (not (sector_at s r.at).weak) r.is_free in
      let u : New r.at = (to_words f.geometry s (size s f e) b known r.at w r.burnt, not-true _ parts.1) in
      (r.at, in_spare r.at u) in
      ⊎_elim spare (λ w. (home l b, in_home w)) (cases_Bool (sector_at s (home l b)).weak)

  home_burnt_now : blank_at t (home l b) ≡ false
  home_burnt_now = ap (λ y. is_blank y.state) x.home_burnt

  -- with none
  refused : left l s b ≡ false → standing t (links l t) (home l b) ≡ lost
  unfolding left links
  refused h =
      let parts = or_parts (free s (home l b)) (some_free s (spares_of l b)) h in
      let w : (sector_at s (home l b)).weak ≡ true = ⊎_elim (λ v. v) (λ v. absurd (both_ways _ parts.0 (home_free v))) (cases_Bool (sector_at s (home l b)).weak) in
      let none : (q : ℕ) → New q → ⊥ = λ q u. both_ways _ parts.1 (free_among s (spares_of l b) q u.0.spare (and_from _ _ u.0.blank (not_from_false _ u.1))) in
      let gone : spare_of (links_among t (all_spares l)) (home l b) ≡ None =
      not_found t (all_spares l) (home l b) (λ q m v k. ⊎_elim (λ o. unnamed q m o.0 (sym (named_same s t q o.1) ∙ k)) (none q) (was q m v)) in
      ap₂ standing_by home_burnt_now (unsound_home w ∙ gone)

  pub storing_result : StoringResult s t (blocks l) (home l) (links l s) (links l t) b bytes (left l s b)
  storing_result =
      record {
        accepted = λ h. let r = accepted h in (r.0, r.1.0, r.1.1);
        then_held = λ h. ap₂ standing_by home_burnt_now (accepted h).1.0;
        refused = refused;
        others_stand = others_stand;
        others_rest = others_rest;
        others_hold = others_hold;
      }

-- a blank sound home is a place
pub home_place : (l : Layout) (s : List Sector) (b : ℕ) → blank_at s (home l b) ≡ true → (sector_at s (home l b)).weak ≡ false → left l s b ≡ true
unfolding left
home_place l s b h w = or_left _ _ (and_from _ _ h (not_from_false _ w))
