-- The areas of a layout follow one another from the first sector to the last.
use Rattle.std.proofs.Common.{◌≡◌, ℕ, zero, suc, ◌+◌, ◌-◌, ◌*◌, ◌<◌, ◌≤◌, true, false, ltb, List, [], ◌∷◌, ◌++◌, ◌⊎◌, inl, inr, sym, refl, subst, ⊎_elim, add-mul, arith}
use Rattle.pointers.proofs.Ruled.{rules_held, size_held}
use Rattle.pointers.proofs.Geometry.{start_low}
use Rattle.pointers.specs.Areas.{Joined, area, areas_before, areas_behind, areas_of, areas_of_groups, group_areas, zone_end}
use Rattle.pointers.specs.Places.{data_start, groups_end, width}
use Rattle.pointers.specs.Rules.{LayoutRules, SecondaryBehind, SecondaryTracks, last_track}
use Rattle.pointers.specs.declared.areas.Area.{Area}
use Rattle.pointers.specs.declared.areas.Purpose.{Purpose}
use Rattle.pointers.specs.declared.areas.Purpose.TheVariants.{Copies, Secondary, Homes, Spares, Unused}
use Rattle.pointers.specs.declared.pointers.Pointers.{Pointers}
use Rattle.pointers.specs.declared.layout.Layout.{Layout}
use Rattle.std.proofs.lemmas.List.{append_assoc}
use Rattle.std.proofs.lemmas.Bool.Decides.{nat_tests}
use Rattle.std.proofs.lemmas.Bool.{cases_eq, cases_Bool, cond-false, cond-true, ltb-false, ltb-true}

-- the start of a secondary area is a track of the medium
pub start_exists : (n : ℕ) (l : Layout) → n ≤ 19999 → LayoutRules n l → (l.secondary ≡ 0 → ⊥) → l.start ≤ 19999
start_exists n l high r some =
    ⊎_elim (λ (h : (l.secondary ≡ 0) × (l.start ≡ 0xFFFFFFFF)). absurd (some h.0)) (λ (h : (k : ℕ) × SecondaryTracks n l k). ⊎_elim (λ (e : l.start ≡ 3). omega arith) (λ (e : l.start + h.0 + 2 ≡ n). omega arith) h.1.place) r.area

pub start_held : (g : Pointers) → (g.layout.secondary ≡ 0 → ⊥) → g.layout.start ≤ 19999
start_held g some = start_exists (last_track g.sectors) g.layout (size_held g).most (rules_held g) some

start_before : (n : ℕ) (l : Layout) → LayoutRules n l → SecondaryBehind l → 31 * l.start ≤ 31 * (n - 2)
start_before n l r d =
    ⊎_elim (λ (h : (l.secondary ≡ 0) × (l.start ≡ 0xFFFFFFFF)). absurd (d.0 h.0)) (λ (h : (k : ℕ) × SecondaryTracks n l k). ⊎_elim (λ (e : l.start ≡ 3). absurd (d.1 e)) (λ (e : l.start + h.0 + 2 ≡ n). omega arith) h.1.place) r.area

joined_append : (a b c : ℕ) (xs ys : List Area) → Joined a b xs → Joined b c ys → Joined a c (xs ++ ys)
joined_append a b c [] ys p q = subst (λ x. Joined x c ys) (sym p) q
joined_append a b c (x ∷ xs) ys p q = (p.0, p.1, joined_append (x.last + 1) b c xs ys p.2 q)

joined_area : (u : Purpose) (a b : ℕ) → a ≤ b → Joined a b (area u a b)
joined_area u a b h = ⊎_elim some none (cases_Bool (ltb a b))
  where
    some : ltb a b ≡ true → Joined a b (area u a b)
    some t =
        let l : a < b = ltb-true _ _ t in
        subst (Joined a b) (sym (cond-true (ltb a b) _ _ t)) (refl, omega arith, omega arith)

    none : ltb a b ≡ false → Joined a b (area u a b)
    none t =
        let l : b ≤ a = ltb-false _ _ t in
        subst (Joined a b) (sym (cond-false (ltb a b) _ _ t)) (omega arith)

module _ (l : Layout) where
  joined_groups : (k : ℕ) → Joined (data_start l) (data_start l + k * width l) (areas_of_groups l k)
  joined_groups zero = omega arith
  joined_groups (suc k) =
      let s = data_start l + k * width l in
      let e : s + l.homes + l.spares ≡ data_start l + suc k * width l = omega (arith, add-mul k 1 (width l)) in
      joined_append (data_start l) s (data_start l + suc k * width l) (areas_of_groups l k) (group_areas l k) (joined_groups k) (joined_append s (s + l.homes) (data_start l + suc k * width l) (area (Homes k) s (s + l.homes)) (area (Spares k) (s + l.homes) (s + l.homes + l.spares)) (joined_area (Homes k) s (s + l.homes) (omega arith)) (subst (λ x. Joined (s + l.homes) x (area (Spares k) (s + l.homes) (s + l.homes + l.spares))) e (joined_area (Spares k) (s + l.homes) (s + l.homes + l.spares) (omega arith))))

module _ (n : ℕ) (l : Layout) (r : LayoutRules n l) where
  -- the data zone ends where its groups have room
  zone_so : (groups_end l ≤ zone_end n l) × (zone_end n l ≤ 31 * (n - 2))
  zone_so =
      let h = r.before_copies in
      let front : (l.secondary ≡ 0) ⊎ (l.start ≡ 3) → (groups_end l ≤ zone_end n l) × (zone_end n l ≤ 31 * (n - 2)) = λ e. (grind (arith, nat_tests), grind (arith, nat_tests)) in
      let behind : SecondaryBehind l → (groups_end l ≤ zone_end n l) × (zone_end n l ≤ 31 * (n - 2)) =
      λ d. let low = r.before_secondary d in let high = start_before n l r d in (grind (arith, nat_tests), grind (arith, nat_tests)) in
      ⊎_elim (λ e. front (inl e)) (λ d. ⊎_elim (λ e. front (inr e)) (λ e. behind (d, e)) (cases_eq l.start 3)) (cases_eq l.secondary 0)

  pub areas_joined : 6 ≤ n → Joined 0 (31 * (n + 1)) (areas_of n l)
  unfolding areas_of
  areas_joined low =
      let z = zone_so in
      let copies = 31 * (n - 2) in
      let end = 31 * (n + 1) in
      let zone = zone_end n l in
      let before : Joined 0 (data_start l) (areas_before l) = joined_append 0 93 (data_start l) (area Copies 0 93) (area Secondary 93 (data_start l)) (joined_area Copies 0 93 (omega arith)) (joined_area Secondary 93 (data_start l) (start_low l)) in
      let last : Joined zone end (area Secondary zone copies ++ area Copies copies end) = joined_append zone copies end (area Secondary zone copies) (area Copies copies end) (joined_area Secondary zone copies z.1) (joined_area Copies copies end (omega arith)) in
      let behind : Joined (groups_end l) end (areas_behind n l) = joined_append (groups_end l) zone end (area Unused (groups_end l) zone) (area Secondary zone copies ++ area Copies copies end) (joined_area Unused (groups_end l) zone z.0) last in
      joined_append 0 (data_start l) end (areas_before l) (areas_of_groups l l.groups ++ areas_behind n l) before (joined_append (data_start l) (groups_end l) end (areas_of_groups l l.groups) (areas_behind n l) (joined_groups l l.groups) behind)

-- the areas by their borders
abbrev pub areas_by : Layout → ℕ → ℕ → ℕ → ℕ → ℕ → ℕ → List Area
areas_by l front zone groups zone_end copies end =
    (area Copies 0 front ++ area Secondary front zone) ++ (areas_of_groups l l.groups ++ (area Unused groups zone_end ++ (area Secondary zone_end copies ++ area Copies copies end)))

-- six lists, each added to those before it
pub added : (xs x1 x2 x3 x4 x5 x6 a1 a2 a3 a4 a5 a6 : List Area) → xs ≡ [] → x1 ≡ xs ++ a1 → x2 ≡ x1 ++ a2 → x3 ≡ x2 ++ a3 → x4 ≡ x3 ++ a4 → x5 ≡ x4 ++ a5 → x6 ≡ x5 ++ a6 → x6 ≡ (a1 ++ a2) ++ (a3 ++ (a4 ++ (a5 ++ a6)))
added xs x1 x2 x3 x4 x5 x6 a1 a2 a3 a4 a5 a6 e0 e1 e2 e3 e4 e5 e6 = rw (e6, e5, e4, e3, e2, e1, e0) (simp append_assoc)
