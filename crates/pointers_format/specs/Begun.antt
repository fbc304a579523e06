-- What initialising leaves, and that it mounts.
use Rattle.std.specs.Prelude.{◌≡◌, ℕ, ◌+◌, ◌-◌, ◌*◌, ◌<◌, ◌≤◌, true, false, cond, List, [], ◌∷◌, length, take, replicate, Some, None, Ok, Err, Option, Result}
use Rattle.std.proofs.Math.Path.{refl, sym, ap, ap₂, subst}
use Rattle.std.proofs.Common.{◌∙◌, inl, inr, arith, length-append}
use mathlib.Core.List.{Memᴰ}
use Rattle.std.proofs.Math.Logic.{⊎_elim}
use Rattle.format.proofs.Copying.{lowest_means}
use Rattle.format.specs.Blocks.{blank_at, image_of, sound_at}
use Rattle.format.specs.Laws.{HomesBlank, format_fault}
use Rattle.format.specs.Sectors.{AllBlank, Apart, burnt_with, copy_burns, first_sound, lowest_from, some_free}
use Rattle.medium.proofs.Burns.{Distinct, burns_elsewhere, burns_here, burns_length}
use Rattle.medium.specs.Sectors.{Sector, is_blank, sector_at}
use Rattle.medium.specs.declared.faults.Fault.{Fault}
use Rattle.medium.specs.declared.faults.Refusal.TheVariants.{LayoutNotBurnt, NotBlank}
use Rattle.medium.specs.declared.runs.Burn.{Burn}
use Rattle.pointers.proofs.Ruled.{size_held}
use Rattle.pointers.proofs.Spared.{all_apart, listed_spare}
use Rattle.pointers.proofs.Written.{read_back}
use Rattle.pointers.specs.Places.{blocks, home}
use Rattle.pointers.specs.Reading.{SheetRefused, sheet_read}
use Rattle.pointers.specs.Rules.{fits_format, last_track}
use Rattle.pointers.specs.Sheets.{sheet_of}
use Rattle.pointers.specs.Spares.{all_spares}
use Rattle.pointers.specs.declared.pointers.Pointers.{Pointers}
use Rattle.pointers_format.specs.Burning.{first_free, free_among}
use Rattle.pointers_format.specs.Kept.{in_copies}
use Rattle.pointers_format.specs.Linked.{none_faulty}
use Rattle.pointers_format.specs.Mounted.{err_ok, first_in, is_sound, mounts, places, rules, sheet_bad, sheet_good}
use Rattle.pointers_format.specs.Copies.{copies, copy_image}
use Rattle.pointers_format.specs.Initialising.{CopiesBurnt, InitialiseRefused, Initialised, begun, begun_on, initialised, initialising, left_by, left_on, with_copies}
use Rattle.pointers_format.specs.Linking.{faulty}
use Rattle.pointers_format.specs.Mounting.{first_copy, geometry_of, mounting, read_at, sheet_at}
use Rattle.pointers_format.specs.declared.format_a.FormatA.{FormatA}
use Rattle.std.proofs.lemmas.List.{take_at}
use Rattle.std.proofs.lemmas.Bool.{and_from, and_left, and_parts, both_ways, cases_Bool, cond-false, cond-true, not_from_false, not_from_true, not-true}

-- the four sectors of the copies
module _ (n : ℕ) (low : 6 ≤ n) where
  pub copies_apart : Apart (copies n)
  unfolding copies
  copies_apart =
      let a = 31 * (n - 2) in
      let b = 31 * (n - 1) + 15 in
      let last : (p : ℕ) → Memᴰ p (b ∷ []) → p ≡ b = λ p m. ⊎_elim (λ e. e) (λ k. absurd (mathlib.Core.List.Memᴰ.not-nil k)) (mathlib.Core.List.Memᴰ.cases_cons m) in
      let two : (p : ℕ) → Memᴰ p (a ∷ b ∷ []) → 93 ≤ p = λ p m. ⊎_elim (λ e. omega arith) (λ k. let e = last p k in omega arith) (mathlib.Core.List.Memᴰ.cases_cons m) in
      let three : (p : ℕ) → Memᴰ p (46 ∷ a ∷ b ∷ []) → 46 ≤ p = λ p m. ⊎_elim (λ e. omega arith) (λ k. let e = two p k in omega arith) (mathlib.Core.List.Memᴰ.cases_cons m) in
      ((λ m. let e = three 0 m in omega arith), ((λ m. let e = two 46 m in omega arith), ((λ m. let e = last a m in omega arith), ((λ m. mathlib.Core.List.Memᴰ.not-nil m), tt))))

  pub copies_inside : (p : ℕ) → Memᴰ p (copies n) → p < 31 * (n + 1)
  unfolding copies
  copies_inside p m =
      ⊎_elim (λ (e : p ≡ 0). omega arith) (λ m. ⊎_elim (λ (e : p ≡ 46). omega arith) (λ m. ⊎_elim (λ (e : p ≡ 31 * (n - 2)). omega arith) (λ m. ⊎_elim (λ (e : p ≡ 31 * (n - 1) + 15). omega arith) (λ m. absurd (mathlib.Core.List.Memᴰ.not-nil m)) (mathlib.Core.List.Memᴰ.cases_cons m)) (mathlib.Core.List.Memᴰ.cases_cons m)) (mathlib.Core.List.Memᴰ.cases_cons m)) (mathlib.Core.List.Memᴰ.cases_cons m)

-- burning one image into some sectors
in_burns : (image ps : List ℕ) (c : Burn) → Memᴰ c (copy_burns image ps) → Memᴰ c.sector ps
in_burns image [] c m = absurd (mathlib.Core.List.Memᴰ.not-nil m)
in_burns image (p ∷ ps) c m = ⊎_elim (λ e. mathlib.Core.List.Memᴰ.head (ap (λ (y : Burn). y.sector) e)) (λ k. mathlib.Core.List.Memᴰ.tail (in_burns image ps c k)) (mathlib.Core.List.Memᴰ.cases_cons m)

burn_in : (image ps : List ℕ) (p : ℕ) → Memᴰ p ps → Memᴰ (record { sector = p; image = image }) (copy_burns image ps)
burn_in image [] p m = absurd (mathlib.Core.List.Memᴰ.not-nil m)
burn_in image (q ∷ ps) p m = ⊎_elim (λ e. mathlib.Core.List.Memᴰ.head (ap (λ k. record { sector = k; image = image }) e)) (λ k. mathlib.Core.List.Memᴰ.tail (burn_in image ps p k)) (mathlib.Core.List.Memᴰ.cases_cons m)

distinct : (image ps : List ℕ) → Apart ps → Distinct (copy_burns image ps)
distinct image [] a = tt
distinct image (p ∷ ps) a = ((λ c m e. a.0 (subst (λ q. Memᴰ q ps) e (in_burns image ps c m))), distinct image ps a.1)

pub copy_whole : (g : Pointers) → length (sheet_of g.layout) ≡ 512 → length (copy_image g.layout) ≡ 524
copy_whole g e = omega (arith, length-append (sheet_of g.layout) (replicate 12 0xFF))

pub sheet_length : (g : Pointers) → length (sheet_of g.layout) ≡ 512
unfolding sheet_of
sheet_length g = refl

-- a geometry g for the blank sectors s
module _ (g : Pointers) (s : List Sector) (size : g.sectors ≡ length s) (blank : lowest_from 0 s ≡ None) where
  abbrev n : ℕ
  n = last_track g.sectors

  abbrev t : List Sector
  t = with_copies g s

  all_blank : (i : ℕ) → i < length s → blank_at s i ≡ true
  all_blank i h = ap is_blank (lowest_means s None blank i h)

  pub copies_blank : AllBlank s (copies n)
  copies_blank p m =
      let z = size_held g in
      let low = z.least in
      let k = copies_inside n low p m in
      let w = z.whole in
      let h : p < length s = omega arith in
      (h, all_blank p h)

  pub copy_at : (p : ℕ) → Memᴰ p (copies n) → sector_at t p ≡ burnt_with s p (copy_image g.layout)
  unfolding with_copies
  copy_at p m =
      let h = copies_blank p m in
      burns_here s (copy_burns (copy_image g.layout) (copies n)) (distinct (copy_image g.layout) (copies n) (copies_apart n (size_held g).least)) (record { sector = p; image = copy_image g.layout }) (burn_in (copy_image g.layout) (copies n) p m) (record { inside = h.0; blank = h.1; whole = copy_whole g (sheet_length g) })

  pub others_at : (p : ℕ) → (Memᴰ p (copies n) → ⊥) → sector_at t p ≡ sector_at s p
  unfolding with_copies
  others_at p none = burns_elsewhere s (copy_burns (copy_image g.layout) (copies n)) p (λ c m e. none (subst (λ q. Memᴰ q (copies n)) (sym e) (in_burns (copy_image g.layout) (copies n) c m)))

  same_length : length t ≡ length s
  unfolding with_copies
  same_length = burns_length s (copy_burns (copy_image g.layout) (copies n))

  -- what lies inside the data tracks is as it was, and blank
  still_blank : (i : ℕ) → 93 ≤ i → i < 31 * (n - 2) → blank_at t i ≡ true
  still_blank i low high =
      let w = (size_held g).whole in
      ap (λ x. is_blank x.state) (others_at i (λ m. ⊎_elim (λ h. omega arith) (λ h. omega arith) (in_copies n i m))) ∙ all_blank i (omega arith)

  pub homes_blank : HomesBlank t (blocks g.layout) (home g.layout)
  homes_blank b h = let k = (places g).home_inside b h in still_blank (home g.layout b) k.0 k.1

  sheet_there : (p : ℕ) → Memᴰ p (copies n) → sheet_at t p ≡ sheet_of g.layout
  sheet_there p m = ap (λ x. take 512 (image_of x.state)) (copy_at p m) ∙ take_at (sheet_of g.layout) (replicate 12 0xFF) 512 (sheet_length g)

  sound_there : (p : ℕ) → Memᴰ p (copies n) → (sector_at s p).weak ≡ false → sound_at t p ≡ true
  sound_there p m w = ap is_sound (copy_at p m) ∙ not_from_false _ w

  finds : (ps : List ℕ) (p : ℕ) → Memᴰ p ps → sound_at t p ≡ true → (q : ℕ) × (first_sound t ps ≡ Some q)
  finds [] p m so = absurd (mathlib.Core.List.Memᴰ.not-nil m)
  finds (x ∷ ps) p m so =
      let later : sound_at t x ≡ false → (q : ℕ) × (first_sound t (x ∷ ps) ≡ Some q) =
      λ u. let r = finds ps p (⊎_elim (λ e. absurd (both_ways _ u (subst (λ y. sound_at t y ≡ true) e so))) (λ k. k) (mathlib.Core.List.Memᴰ.cases_cons m)) so in
      (r.0, cond-false (sound_at t x) _ _ u ∙ r.1) in
      ⊎_elim (λ u. (x, cond-true (sound_at t x) _ _ u)) later (cases_Bool (sound_at t x))

  module _ (some : some_free s (copies n) ≡ true) where
    geometry_there : geometry_of t ≡ Ok g
    unfolding geometry_of
    geometry_there =
        let r = first_free s (copies n) some in
        let m : Memᴰ r.at (copies n) = subst (λ xs. Memᴰ r.at xs) (sym r.burnt.split) (mathlib.Core.List.Memᴰ.append_right r.burnt.front (mathlib.Core.List.Memᴰ.head refl)) in
        let f = finds (copies n) r.at m (sound_there r.at m (not-true _ (and_parts (blank_at s r.at) _ r.is_free).1)) in
        let len : length t ≡ g.sectors = same_length ∙ sym size in
        let first : first_copy t ≡ Some f.0 = ap (λ k. first_sound t (copies (last_track k))) len ∙ f.1 in
        let fits : fits_format (length t) ≡ true = ap fits_format len ∙ g.sized in
        cond-true (fits_format (length t)) _ _ fits ∙ ap (read_at t) first ∙ ap₂ sheet_read len (sheet_there f.0 (first_in t (copies n) f.0 f.1)) ∙ read_back g

    pub fresh_mounts : mounting t ≡ Ok (record { geometry = g })
    unfolding faulty
    fresh_mounts =
        let l = g.layout in
        let unsound : (p : ℕ) → Memᴰ p (all_spares l) → sound_at t p ≡ true → ⊥ =
        λ p m so. let k = (places g).spare_inside p (listed_spare l p m) in both_ways _ (and_left _ _ (not_from_true _ (still_blank p k.0 k.1))) so in
        mounts t (record { geometry = g }) geometry_there (none_faulty l t [] (all_spares l) (all_apart n l (rules g)) (λ p m so. absurd (unsound p m so)) (λ p q m k sp sq. absurd (unsound p m sp)))

-- what initialising answers and leaves, by its steps
by_copies : (s : List Sector) (g : Pointers) (f : FormatA) (o : Option ℕ) → begun_on s g o ≡ Ok f → (o ≡ None) × (g ≡ f.geometry) × (some_free s (copies (last_track g.sectors)) ≡ true)
by_copies s g f (Some i) e = absurd (err_ok e)
by_copies s g f None e =
    let test = some_free s (copies (last_track g.sectors)) in
    let yes' : test ≡ true → (None ≡ None) × (g ≡ f.geometry) × (test ≡ true) =
    λ u. let k : ◌≡◌ {A = Result FormatA Fault} (Ok (record { geometry = g })) (Ok f) = sym (cond-true test _ _ u) ∙ e in
    let j : record { geometry = g } ≡ f = cc in
    (refl, ap (λ x. x.geometry) j, u) in
    ⊎_elim yes' (λ u. absurd (err_ok (sym (cond-false test _ _ u) ∙ e))) (cases_Bool test)

by_sheet : (s : List Sector) (r : Result Pointers Fault) (f : FormatA) → begun s r ≡ Ok f → (r ≡ Ok f.geometry) × (lowest_from 0 s ≡ None) × (some_free s (copies (last_track f.geometry.sectors)) ≡ true)
by_sheet s (Ok g) f e =
    let h = by_copies s g f (lowest_from 0 s) e in
    (ap Ok h.1, h.0, subst (λ k. some_free s (copies (last_track k.sectors)) ≡ true) h.1 h.2)
by_sheet s (Err x) f e = absurd (err_ok e)

module _ (s : List Sector) (d : List ℕ) (f : FormatA) (e : initialising s d ≡ Ok f) where
  facts : (sheet_read (length s) d ≡ Ok f.geometry) × (lowest_from 0 s ≡ None) × (some_free s (copies (last_track f.geometry.sectors)) ≡ true)
  unfolding initialising
  facts = by_sheet s (sheet_read (length s) d) f e

  size : f.geometry.sectors ≡ length s
  size = (sheet_good (length s) d f.geometry facts.0).size

  left_is : initialised s d ≡ with_copies f.geometry s
  unfolding initialised
  left_is = ap (left_by s) facts.0 ∙ ap (left_on s f.geometry) facts.1

  pub fresh : (mounting (initialised s d) ≡ Ok f) × HomesBlank (initialised s d) (blocks f.geometry.layout) (home f.geometry.layout)
  fresh = (
    ap mounting left_is ∙ fresh_mounts f.geometry s size facts.1 facts.2,
    subst (λ u. HomesBlank u (blocks f.geometry.layout) (home f.geometry.layout)) (sym left_is) (homes_blank f.geometry s size facts.1),
  )

-- the copies on a medium of that size
copies_burnt : (g : Pointers) (s : List Sector) (d : List ℕ) → sheet_read (length s) d ≡ Ok g → lowest_from 0 s ≡ None → CopiesBurnt s d g (with_copies g s)
copies_burnt g s d e b =
    let r = sheet_good (length s) d g e in
    let z = r.size in
    record {
      given = r;
      blank = lowest_means s None b;
      copy = λ i m. copy_at g s z b i (subst (λ k. Memᴰ i (copies (last_track k))) (sym z) m);
      others = λ i none. others_at g s z b i (λ m. none (subst (λ k. Memᴰ i (copies (last_track k))) z m));
    }

pub initialised_so : (s : List Sector) (d : List ℕ) (f : FormatA) → initialising s d ≡ Ok f → Initialised s d (initialised s d) f
initialised_so s d f e =
    let h = facts s d f e in
    let z = size s d f e in
    let r = first_free s (copies (last_track f.geometry.sectors)) h.2 in
    let m : Memᴰ r.at (copies (last_track f.geometry.sectors)) = subst (λ xs. Memᴰ r.at xs) (sym r.burnt.split) (mathlib.Core.List.Memᴰ.append_right r.burnt.front (mathlib.Core.List.Memᴰ.head refl)) in (
      subst (CopiesBurnt s d f.geometry) (sym (left_is s d f e)) (copies_burnt f.geometry s d h.0 h.1),
      (r.at, subst (λ k. Memᴰ r.at (copies (last_track k))) z m, not-true _ (and_parts (blank_at s r.at) _ r.is_free).1),
    )

none_weak : (s : List Sector) (ps : List ℕ) → some_free s ps ≡ false → (i : ℕ) → Memᴰ i ps → blank_at s i ≡ true → (sector_at s i).weak ≡ true
none_weak s ps e i m b = ⊎_elim (λ w. w) (λ w. absurd (both_ways _ e (free_among s ps i m (and_from _ _ b (not_from_false _ w))))) (cases_Bool (sector_at s i).weak)

-- why initialising was refused, and what it left
module _ (s : List Sector) (d : List ℕ) (x : Fault) where
  refused_on : (g : Pointers) → sheet_read (length s) d ≡ Ok g → (o : Option ℕ) → lowest_from 0 s ≡ o → begun_on s g o ≡ Err x → InitialiseRefused s d (left_on s g o) x
  refused_on g k (Some i) b e = inr (inl (refl, (i, cc, lowest_means s (Some i) b)))
  refused_on g k None b e =
      let z = (sheet_good (length s) d g k).size in
      let test = some_free s (copies (last_track g.sectors)) in
      let no' : test ≡ false → InitialiseRefused s d (with_copies g s) x =
      λ u. let j : ◌≡◌ {A = Result FormatA Fault} (Err (format_fault LayoutNotBurnt 0)) (Err x) = sym (cond-false test _ _ u) ∙ e in
      inr (inr (cc, (g, copies_burnt g s d k b), λ i m. let c = subst (λ q. Memᴰ i (copies (last_track q))) (sym z) m in none_weak s (copies (last_track g.sectors)) u i c (copies_blank g s z b i c).1)) in
      ⊎_elim (λ u. absurd (err_ok (sym e ∙ cond-true test _ _ u))) no' (cases_Bool test)

  refused_by : (r : Result Pointers Fault) → sheet_read (length s) d ≡ r → begun s r ≡ Err x → InitialiseRefused s d (left_by s r) x
  refused_by (Ok g) k e = refused_on g k (lowest_from 0 s) refl e
  refused_by (Err y) k e = let j : y ≡ x = cc in inl (refl, subst (SheetRefused (length s) d) j (sheet_bad (length s) d y k))

  pub initialise_refused : initialising s d ≡ Err x → InitialiseRefused s d (initialised s d) x
  unfolding initialising initialised
  initialise_refused e = refused_by (sheet_read (length s) d) refl e

-- initialising, step by step: the sheet, a burnt sector, and the verdicts on the copies
module _ (s : List Sector) (d : List ℕ) where
  pub begun_refused : (x : Fault) → sheet_read (length s) d ≡ Err x → (initialising s d ≡ Err x) × (initialised s d ≡ s)
  unfolding initialising initialised
  begun_refused x e = (ap (begun s) e, ap (left_by s) e)

  module _ (g : Pointers) (e : sheet_read (length s) d ≡ Ok g) where
    pub begun_burnt : (i : ℕ) → lowest_from 0 s ≡ Some i → (initialising s d ≡ Err (format_fault NotBlank i)) × (initialised s d ≡ s)
    unfolding initialising initialised
    begun_burnt i b = (ap (begun s) e ∙ ap (begun_on s g) b, ap (left_by s) e ∙ ap (left_on s g) b)

    pub begun_blank : lowest_from 0 s ≡ None → (initialising s d ≡ cond (some_free s (copies (last_track g.sectors))) (Ok (record { geometry = g })) (Err (format_fault LayoutNotBurnt 0))) × (initialised s d ≡ with_copies g s)
    unfolding initialising initialised
    begun_blank b = (ap (begun s) e ∙ ap (begun_on s g) b, ap (left_by s) e ∙ ap (left_on s g) b)
