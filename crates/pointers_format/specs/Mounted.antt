-- What it says that a medium mounts.
use Rattle.std.specs.Prelude.{◌≡◌, ℕ, ◌-◌, ◌*◌, ◌<◌, ◌≤◌, Bool, true, false, cond, not, ◌&&◌, List, [], ◌∷◌, length, take, drop, Some, None, Ok, Err, Option, Result, MatchResult, refl}
use Rattle.std.proofs.Math.Path.{sym, ap, subst}
use Rattle.std.proofs.Common.{ap₂, ◌∙◌, ⊎_elim, arith}
use mathlib.Core.List.{Memᴰ}
use Rattle.format.specs.Blocks.{Link, image_of, sound_at, spoiled_at}
use Rattle.format.specs.Laws.{LinksSound, format_fault}
use Rattle.format.specs.Sectors.{first_sound, image_at}
use Rattle.medium.specs.Sectors.{Sector, is_blank, sector_at}
use Rattle.medium.specs.declared.faults.Fault.{Fault}
use Rattle.medium.specs.declared.faults.Refusal.TheVariants.{WrongSectorCount}
use Rattle.pointers.proofs.Answered.{read_means}
use Rattle.pointers.proofs.Ruled.{rules_held, size_held}
use Rattle.pointers.proofs.Spared.{listed_spare, may_only}
use Rattle.pointers.proofs.Geometry.{places_sound}
use Rattle.pointers.specs.Places.{PlacesSound, blocks, home}
use Rattle.pointers.specs.Reading.{SheetRead, SheetRefused, sheet_read}
use Rattle.pointers.specs.Rules.{LayoutRules, fits_format, last_track}
use Rattle.pointers.specs.Spares.{MayReplace, all_spares, may_replace}
use Rattle.pointers.specs.declared.pointers.Pointers.{Pointers}
use Rattle.pointers.specs.declared.layout.Layout.{Layout}
use Rattle.pointers_format.specs.Linked.{clear, in_links, named_once}
use Rattle.pointers_format.specs.Copies.{copies}
use Rattle.pointers_format.specs.Linking.{faulty, faulty_among, links, links_among, named_by, points_well}
use Rattle.pointers_format.specs.Mounting.{checked, first_copy, geometry_of, links_checked, mounting, read_at, sheet_at, unless_faulty}
use Rattle.pointers_format.specs.Pointing.{spare_tail}
use Rattle.pointers_format.specs.declared.format_a.FormatA.{FormatA}
use Rattle.std.proofs.lemmas.Nat.{mul-le}
use Rattle.std.proofs.lemmas.Bool.{and_parts, cases_Bool, cond-false, cond-true}
use Rattle.std.specs.Str.{bytes_eq}

pub err_ok : {A : Type 0} {x : A} {e : Fault} → ◌≡◌ {A = Result A Fault} (Err e) (Ok x) → ⊥
err_ok {A} {x} {e} h = let z : ◌≡◌ {A = ℕ} 0 1 = cc in omega arith

by_links : (g : Pointers) (f : FormatA) (o : Option ℕ) → unless_faulty g (links_checked o) ≡ Ok f → (g ≡ f.geometry) × (o ≡ None)
by_links g f None e = let k : record { geometry = g } ≡ f = cc in (ap (λ x. x.geometry) k, refl)
by_links g f (Some p) e = absurd (err_ok e)

by_geometry : (s : List Sector) (r : Result Pointers Fault) (f : FormatA) → checked s r ≡ Ok f → (r ≡ Ok f.geometry) × (faulty f.geometry.layout s ≡ None)
by_geometry s (Ok g) f e =
    let h = by_links g f (faulty g.layout s) e in
    (ap Ok h.0, ap (λ k. faulty k.layout s) (sym h.0) ∙ h.1)
by_geometry s (Err x) f e = absurd (err_ok e)

pub mounted : (s : List Sector) (f : FormatA) → mounting s ≡ Ok f → (geometry_of s ≡ Ok f.geometry) × (faulty f.geometry.layout s ≡ None)
unfolding mounting
mounted s f e = by_geometry s (geometry_of s) f e

pub mounts : (s : List Sector) (f : FormatA) → geometry_of s ≡ Ok f.geometry → faulty f.geometry.layout s ≡ None → mounting s ≡ Ok f
unfolding mounting
mounts s f e n = ap (checked s) e ∙ ap (λ o. unless_faulty f.geometry (links_checked o)) n

-- what a sheet that was read says
pub sheet_good : (p : ℕ) (d : List ℕ) (g : Pointers) → sheet_read p d ≡ Ok g → SheetRead p d g
sheet_good p d g e = subst (λ r. MatchResult r (SheetRead p d) (SheetRefused p d)) e (read_means p d)

pub sheet_bad : (p : ℕ) (d : List ℕ) (x : Fault) → sheet_read p d ≡ Err x → SheetRefused p d x
sheet_bad p d x e = subst (λ r. MatchResult r (SheetRead p d) (SheetRefused p d)) e (read_means p d)

copy_good : (s : List Sector) (o : Option ℕ) (g : Pointers) → read_at s o ≡ Ok g → (p : ℕ) × (o ≡ Some p) × SheetRead (length s) (sheet_at s p) g
copy_good s None g e = absurd (err_ok e)
copy_good s (Some p) g e = (p, refl, sheet_good (length s) (sheet_at s p) g e)

-- the geometry of a medium comes from its first sound copy
pub geometry_good : (s : List Sector) (g : Pointers) → geometry_of s ≡ Ok g → (p : ℕ) × (first_copy s ≡ Some p) × SheetRead (length s) (sheet_at s p) g
unfolding geometry_of
geometry_good s g e =
    ⊎_elim (λ t. copy_good s (first_copy s) g (sym (cond-true (fits_format (length s)) _ _ t) ∙ e)) (λ t. absurd (err_ok (sym (cond-false (fits_format (length s)) _ _ t) ∙ e))) (cases_Bool (fits_format (length s)))

-- the tests of one sector
abbrev pub is_sound : Sector → Bool
is_sound x = not (is_blank x.state) && not x.weak

abbrev pub is_spoiled : Sector → Bool
is_spoiled x = not (is_blank x.state) && x.weak

pub first_in : (s : List Sector) (ps : List ℕ) (p : ℕ) → first_sound s ps ≡ Some p → Memᴰ p ps
first_in s [] p e = absurd (let z : ◌≡◌ {A = ℕ} 0 1 = cc in omega arith)
first_in s (x ∷ ps) p e =
    ⊎_elim (λ t. let f : Some x ≡ Some p = sym (cond-true (sound_at s x) (Some x) (first_sound s ps) t) ∙ e in Memᴰ.head (cc)) (λ t. Memᴰ.tail (first_in s ps p (sym (cond-false (sound_at s x) (Some x) (first_sound s ps) t) ∙ e))) (cases_Bool (sound_at s x))

pub sound_same : (s t : List Sector) (p : ℕ) → sector_at t p ≡ sector_at s p → sound_at t p ≡ sound_at s p
sound_same s t p e = ap is_sound e

first_same : (s t : List Sector) (ps : List ℕ) → ((p : ℕ) → Memᴰ p ps → sector_at t p ≡ sector_at s p) → first_sound t ps ≡ first_sound s ps
first_same s t [] h = refl
first_same s t (p ∷ ps) h =
    ap₂ (λ b r. cond b (Some p) r) (sound_same s t p (h p (Memᴰ.head refl))) (first_same s t ps (λ q m. h q (Memᴰ.tail m)))

read_same : (s t : List Sector) (o : Option ℕ) → length t ≡ length s → ((p : ℕ) → o ≡ Some p → sector_at t p ≡ sector_at s p) → read_at t o ≡ read_at s o
read_same s t None n h = refl
read_same s t (Some p) n h = ap₂ sheet_read n (ap (λ x. take 512 (image_of x.state)) (h p refl))

-- the geometry rests on the copies and the size
pub geometry_same : (s t : List Sector) → length t ≡ length s → ((p : ℕ) → Memᴰ p (copies (last_track (length s))) → sector_at t p ≡ sector_at s p) → geometry_of t ≡ geometry_of s
unfolding geometry_of
geometry_same s t e h =
    let found : first_copy t ≡ first_copy s = ap (λ n. first_sound t (copies (last_track n))) e ∙ first_same s t (copies (last_track (length s))) h in
    let read : read_at t (first_copy t) ≡ read_at s (first_copy s) = ap (read_at t) found ∙ read_same s t (first_copy s) e (λ p q. h p (first_in s (copies (last_track (length s))) p q)) in
    ap₂ (λ n r. cond (fits_format n) r (Err (format_fault WrongSectorCount 0))) e read

-- the geometry, step by step
module _ (s : List Sector) where
  pub no_size : fits_format (length s) ≡ false → Err (format_fault WrongSectorCount 0) ≡ geometry_of s
  unfolding geometry_of
  no_size t = sym (cond-false (fits_format (length s)) _ _ t)

  pub by_first : (p : ℕ) → p ≡ length s → fits_format p ≡ true → (o : Option ℕ) → first_sound s (copies (last_track p)) ≡ o → read_at s o ≡ geometry_of s
  unfolding geometry_of
  by_first p e t o f =
      let first : first_copy s ≡ o = ap (λ k. first_sound s (copies (last_track k))) (sym e) ∙ f in
      sym (cond-true (fits_format (length s)) _ _ (ap fits_format (sym e) ∙ t) ∙ ap (read_at s) first)

pub link_same : (x y : Link) → x.home ≡ y.home → x.spare ≡ y.spare → x ≡ y
link_same x y p q = λ i. record { home = p i; spare = q i }

-- what pointing well says
pub well_parts : (l : Layout) (s : List Sector) (p : ℕ) → points_well l s p ≡ true → (may_replace l p (named_by s p) ≡ true) × (bytes_eq (drop 512 (image_at s p)) (spare_tail p (named_by s p)) ≡ true) × (spoiled_at s (named_by s p) ≡ true)
unfolding points_well
well_parts l s p t =
    let a = and_parts (may_replace l p (named_by s p)) _ t in
    let b = and_parts (bytes_eq (drop 512 (image_at s p)) (spare_tail p (named_by s p))) (spoiled_at s (named_by s p)) a.1 in
    (a.0, b.0, b.1)

-- a geometry on the medium that it is for
module _ (g : Pointers) where
  pub rules : LayoutRules (last_track g.sectors) g.layout
  rules = rules_held g

  pub places : PlacesSound (last_track g.sectors) g.layout
  places = places_sound (last_track g.sectors) g.layout rules

  pub end_inside : (31 * (last_track g.sectors - 2) ≤ g.sectors) × (93 ≤ 31 * (last_track g.sectors - 2))
  end_inside = let z = size_held g in let w = z.whole in let m = z.least in (omega arith, omega arith)

  pub some_blocks : 1 ≤ blocks g.layout
  unfolding blocks
  some_blocks = mul-le 1 1 g.layout.groups g.layout.homes rules.some_groups rules.some_homes

  pub few_sectors : g.sectors ≤ 620000
  few_sectors = let z = size_held g in let w = z.whole in let m = z.most in omega arith

  pub home_inside : (b : ℕ) → b < blocks g.layout → home g.layout b < g.sectors
  home_inside b h = let k = places.home_inside b h in let z = end_inside in omega arith

  pub spare_inside : (p : ℕ) → Memᴰ p (all_spares g.layout) → p < g.sectors
  spare_inside p m = let k = places.spare_inside p (listed_spare g.layout p m) in let z = end_inside in omega arith

-- a medium that mounts
module _ (s : List Sector) (f : FormatA) (e : mounting s ≡ Ok f) where
  abbrev pub layout_on : Layout
  layout_on = f.geometry.layout

  pub size : length s ≡ f.geometry.sectors
  size = sym (geometry_good s f.geometry (mounted s f e).0).2.size

  pub clean : faulty_among layout_on s [] (all_spares layout_on) ≡ None
  unfolding faulty
  clean = (mounted s f e).1

  pub well : (p : ℕ) → Memᴰ p (all_spares layout_on) → sound_at s p ≡ true → points_well layout_on s p ≡ true
  well p m t = (clear layout_on s [] (all_spares layout_on) clean p m t).0

  -- a sound spare names a spoiled home that it may stand for
  pub names_spoiled : (p : ℕ) → Memᴰ p (all_spares layout_on) → sound_at s p ≡ true → MayReplace layout_on p (named_by s p) × (spoiled_at s (named_by s p) ≡ true)
  names_spoiled p m t =
      let r = well_parts layout_on s p (well p m t) in
      (may_only (last_track f.geometry.sectors) layout_on (rules f.geometry) p (named_by s p) m r.0, r.2)

  pub links_sound : LinksSound s (blocks layout_on) (home layout_on) (links layout_on s)
  unfolding links
  links_sound =
      let z = size in
      let part = λ (x : Link) (m : Memᴰ x (links_among s (all_spares layout_on))). in_links s (all_spares layout_on) x m in
      record {
        homes_inside = λ b h. let k = home_inside f.geometry b h in omega arith;
        homes_apart = (places f.geometry).homes_differ;
        of_a_block = λ x m. let r = part x m in let n = (names_spoiled x.spare r.0 r.1).0 in (n.0, n.1, n.2 ∙ sym r.2);
        no_home_a_spare = λ x b m h k. (places f.geometry).no_spare b h (listed_spare layout_on (home layout_on b) (subst (λ p. Memᴰ p (all_spares layout_on)) (sym k) (part x m).0));
        home_once = λ x y m n h. let r = part x m in let q = part y n in link_same x y h (named_once layout_on s [] (all_spares layout_on) clean x.spare y.spare r.0 q.0 r.1 q.1 (sym r.2 ∙ h ∙ q.2));
        spare_once = λ x y m n h. let r = part x m in let q = part y n in link_same x y (r.2 ∙ ap (named_by s) h ∙ sym q.2) h;
        spoiled_home = λ x m. let r = part x m in subst (λ k. spoiled_at s k ≡ true) (sym r.2) (names_spoiled x.spare r.0 r.1).1;
        sound_spare = λ x m. (part x m).1;
      }
