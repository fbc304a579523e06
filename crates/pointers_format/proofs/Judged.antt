-- What mounting answers, in words: each sound spare is a valid link, or why it was refused.
use Rattle.std.proofs.Common.{◌≡◌, ℕ, ◌+◌, ◌*◌, ◌<◌, true, false, List, [], ◌∷◌, ◌++◌, length, get_or, drop, Some, None, Ok, Err, Option, Result, sym, refl, ap, ◌∙◌, subst, ap₂, inl, inr, ⊎_elim, arith}
use mathlib.Core.List.{Memᴰ}
use Rattle.format.specs.Blocks.{sound_at, spoiled_at}
use Rattle.format.specs.Laws.{format_fault}
use Rattle.format.specs.Sectors.{first_sound, image_at}
use Rattle.medium.specs.Sectors.{Sector}
use Rattle.medium.specs.declared.faults.Fault.{Fault}
use Rattle.medium.specs.declared.faults.Refusal.TheVariants.{BrokenLayout, WrongSectorCount}
use Rattle.pointers.proofs.Members.{Climbing}
use Rattle.pointers.proofs.Ruled.{fits_sized, sized}
use Rattle.pointers.proofs.Spared.{below_next, climbing_all, listed_spare, may_from, may_only, spare_listed}
use Rattle.pointers.specs.Places.{Spare}
use Rattle.pointers.specs.Reading.{SheetRules}
use Rattle.pointers.specs.Rules.{Sized, fits_format, last_track}
use Rattle.pointers.specs.Spares.{all_spares, may_replace}
use Rattle.pointers.specs.declared.pointers.Pointers.{Pointers}
use Rattle.pointers.specs.declared.layout.Layout.{Layout}
use Rattle.pointers_format.specs.Kept.{there_again}
use Rattle.pointers_format.specs.Linked.{FirstFaulty, clear, first_faulty, link_in, named_once, some_none}
use Rattle.pointers_format.specs.Mounted.{clean, err_ok, geometry_good, mounted, rules, sheet_bad, well_parts}
use Rattle.pointers_format.proofs.Orders.{below_front}
use Rattle.pointers_format.specs.Copies.{copies}
use Rattle.pointers_format.specs.Linking.{LinkFaulty, LinkValid, faulty, faulty_among, links, named_by, points_well}
use Rattle.pointers_format.specs.Mounting.{MountRefused, Mounted, checked, first_copy, geometry_of, links_checked, mounting, read_at, sheet_at, unless_faulty}
use Rattle.pointers_format.specs.Pointing.{spare_tail, target}
use Rattle.pointers_format.specs.declared.format_a.FormatA.{FormatA}
use Rattle.std.proofs.lemmas.Slice.Eq.{bytes_eq-Decides}
use Rattle.std.proofs.lemmas.List.{get_or-drop}
use Rattle.std.proofs.lemmas.Bool.{and_from, both_ways, cases_Bool, cond-false, cond-true}
use Rattle.std.specs.Str.{bytes_eq}

-- the home that a spare names is the one to which its bytes point
tail_target : (image : List ℕ) (p h : ℕ) → drop 512 image ≡ spare_tail p h → target image ≡ h
unfolding target spare_tail
tail_target image p h e =
    let at : (i : ℕ) → get_or image (512 + i) 0 ≡ get_or (spare_tail p h) i 0 = λ i. sym (get_or-drop 512 image i 0) ∙ ap (λ xs. get_or xs i 0) e in
    ap₂ (λ x y. x * 31 + y) (ap₂ (λ x y. x * 256 + y) (at 4) (at 5)) (at 6) ∙ there_again h

none_sound : (s : List Sector) (ps : List ℕ) → first_sound s ps ≡ None → (p : ℕ) → Memᴰ p ps → sound_at s p ≡ true → ⊥
none_sound s [] e p m so = mathlib.Core.List.Memᴰ.not-nil m
none_sound s (q ∷ ps) e p m so =
    let later : sound_at s q ≡ false → Memᴰ p ps → ⊥ = λ t k. none_sound s ps (sym (cond-false (sound_at s q) _ _ t) ∙ e) p k so in
    ⊎_elim (λ t. some_none (sym (cond-true (sound_at s q) _ _ t) ∙ e)) (λ t. ⊎_elim (λ k. both_ways _ t (subst (λ y. sound_at s y ≡ true) k so)) (later t) (mathlib.Core.List.Memᴰ.cases_cons m)) (cases_Bool (sound_at s q))

module _ (g : Pointers) (s : List Sector) where
  abbrev l : Layout
  l = g.layout

  abbrev n : ℕ
  n = last_track g.sectors

  -- spare p is not faulty among those up to it
  valid_in : (front : List ℕ) → faulty_among l s [] front ≡ None → ((q : ℕ) → Memᴰ q front → Memᴰ q (all_spares l)) → (p : ℕ) → Memᴰ p front → sound_at s p ≡ true → ((q : ℕ) → Spare l q → q < p → Memᴰ q front) → LinkValid l s p (named_by s p)
  valid_in front clean sub p m so lower =
      let w = well_parts l s p (clear l s [] front clean p m so).0 in
      record {
        pointers = (bytes_eq-Decides (drop 512 (image_at s p)) (spare_tail p (named_by s p))).0 w.1;
        stands_for = may_only n l (rules g) p (named_by s p) (sub p m) w.0;
        spoiled = w.2;
        first = λ q sp h sq e. let k : q ≡ p = named_once l s [] front clean q p (lower q sp h) m sq so e in omega arith;
      }

  -- a valid link points well to the home that it names
  valid_names : (p h : ℕ) → LinkValid l s p h → named_by s p ≡ h
  unfolding named_by
  valid_names p h v = tail_target (image_at s p) p h v.pointers

  valid_well : (p h : ℕ) → LinkValid l s p h → points_well l s p ≡ true
  unfolding points_well
  valid_well p h v =
      let e = valid_names p h v in
      and_from _ _ (ap (may_replace l p) e ∙ may_from n l (rules g) p h v.stands_for) (and_from _ _ (ap (λ k. bytes_eq (drop 512 (image_at s p)) (spare_tail p k)) e ∙ (bytes_eq-Decides (drop 512 (image_at s p)) (spare_tail p h)).1 v.pointers) (ap (spoiled_at s) e ∙ v.spoiled))

  -- the first faulty spare is faulty, and no lower one is
  first_is : (p : ℕ) → FirstFaulty l s [] (all_spares l) p → LinkFaulty l s p × ((q : ℕ) → q < p → LinkFaulty l s q → ⊥)
  first_is p f =
      let climbs : Climbing (f.front ++ (p ∷ f.back)) = subst Climbing f.split (climbing_all n l (rules g)) in
      let listed : (q : ℕ) → Memᴰ q f.front → Memᴰ q (all_spares l) = λ q m. subst (λ xs. Memᴰ q xs) (sym f.split) (mathlib.Core.List.Memᴰ.append_left (p ∷ f.back) m) in
      let lower : (q : ℕ) → Spare l q → q < p → Memᴰ q f.front = λ q sp h. below_front f.front f.back p q climbs (subst (λ xs. Memᴰ q xs) f.split (spare_listed l q sp)) h in
      let here : Spare l p = listed_spare l p (subst (λ xs. Memᴰ p xs) (sym f.split) (mathlib.Core.List.Memᴰ.append_right f.front (mathlib.Core.List.Memᴰ.head refl))) in
      let invalid : (h : ℕ) → LinkValid l s p h → ⊥ =
      λ h v. ⊎_elim (λ k. both_ways _ k (valid_well p h v)) (⊎_elim (λ k. both_ways _ refl k) (λ k. v.first k.0 (listed_spare l k.0 (listed k.0 k.1)) (below_next f.front f.back k.0 p climbs k.1) k.2 (k.3 ∙ valid_names p h v))) f.ill in
      let none : (q : ℕ) → q < p → LinkFaulty l s q → ⊥ =
      λ q h u. u.invalid (named_by s q) (valid_in f.front f.clean listed q (lower q u.spare h) u.sound (λ r sp k. lower r sp (omega arith))) in
      (record { spare = here; sound = f.sound; invalid = invalid }, none)

pub mount_accepted : (s : List Sector) (f : FormatA) → mounting s ≡ Ok f → Mounted s f
unfolding links
mount_accepted s f e =
    let l = f.geometry.layout in
    record {
      sheet = geometry_good s f.geometry (mounted s f e).0;
      linked = λ p sp so. let m = spare_listed l p sp in
          (named_by s p, valid_in f.geometry s (all_spares l) (clean s f e) (λ q k. k) p m so (λ q sq h. spare_listed l q sq), link_in s (all_spares l) p m so);
    }

-- why mounting was refused
module _ (s : List Sector) (x : Fault) where
  by_link : (g : Pointers) → geometry_of s ≡ Ok g → (o : Option ℕ) → faulty g.layout s ≡ o → unless_faulty g (links_checked o) ≡ Err x → MountRefused s x
  unfolding faulty
  by_link g k None f e = absurd (err_ok (sym e))
  by_link g k (Some p) f e =
      let r = first_is g s p (first_faulty g.layout s [] (all_spares g.layout) p f) in
      inr (inr (inr (p, cc, (g, k, r.0, r.1))))

  by_copy : (fits : fits_format (length s) ≡ true) (o : Option ℕ) → first_copy s ≡ o → read_at s o ≡ Err x → MountRefused s x
  by_copy fits None f e = inr (inl (cc, (sized (length s) fits, none_sound s (copies (last_track (length s))) f)))
  by_copy fits (Some p) f e =
      let rest : (x ≡ format_fault BrokenLayout 0) × ((n : ℕ) × Sized (length s) n × (SheetRules n (sheet_at s p) → ⊥)) → MountRefused s x =
      λ r. let w = r.1.1.whole in
      let same : last_track (length s) ≡ r.1.0 = omega arith in
      inr (inr (inl (r.0, (sized (length s) fits, (p, f, λ h. r.1.2 (subst (λ n. SheetRules n (sheet_at s p)) same h)))))) in
      ⊎_elim (λ r. absurd (r.1 (last_track (length s)) (sized (length s) fits))) rest (sheet_bad (length s) (sheet_at s p) x e)

  by_geometry : (r : Result Pointers Fault) → geometry_of s ≡ r → checked s r ≡ Err x → MountRefused s x
  unfolding geometry_of
  by_geometry (Ok g) k e = by_link g k (faulty g.layout s) refl e
  by_geometry (Err y) k e =
      let test = fits_format (length s) in
      let same : y ≡ x = cc in
      let yes' : test ≡ true → MountRefused s x = λ t. by_copy t (first_copy s) refl (sym (cond-true test _ _ t) ∙ k ∙ ap Err same) in
      let no' : test ≡ false → MountRefused s x =
      λ t. let z : ◌≡◌ {A = Result Pointers Fault} (Err (format_fault WrongSectorCount 0)) (Err y) = sym (cond-false test _ _ t) ∙ k in
      let w : format_fault WrongSectorCount 0 ≡ y = cc in
      inl (sym same ∙ sym w, λ n u. both_ways _ t (fits_sized (length s) n u)) in
      ⊎_elim yes' no' (cases_Bool test)

  pub mount_refused : mounting s ≡ Err x → MountRefused s x
  unfolding mounting
  mount_refused e = by_geometry (geometry_of s) refl e
