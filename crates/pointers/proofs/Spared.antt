-- The lists of spares: how long they are, what stands where and in which order, and what a spare may stand for.
use Rattle.std.proofs.Common.{◌≡◌, ℕ, zero, suc, ◌+◌, ◌-◌, ◌*◌, ◌/◌, ◌%◌, ◌<◌, ◌≤◌, true, ◌||◌, eqb, ◌⊎◌, List, [], ◌∷◌, ◌++◌, length, get_or, sym, refl, ap, ◌∙◌, subst, ap₂, inl, inr, ⊎_elim, add-mul, arith}
use mathlib.Core.List.Memᴰ
use mathlib.Core.List.{Memᴰ}
use Rattle.format.specs.Sectors.{Apart}
use Rattle.pointers.proofs.Members.{Climbing, apart_append, climbing_append, climbing_apart, climbing_rising, climbing_run, in_run, run_bounds, split_in}
use Rattle.pointers.proofs.Geometry.{area_at, group_at, home_at, home_bounds, home_split, in_group, kinds_apart, primary_bounds, primary_split, start_low}
use Rattle.pointers.specs.Places.{Spare, blocks, data_start, groups_end, home, primaries, secondaries, width}
use Rattle.pointers.specs.Rules.{LayoutRules}
use Rattle.pointers.specs.Spares.{MayReplace, SparesListed, TriedBefore, all_spares, group_spares, is_home, is_secondary, may_replace, spares_of}
use Rattle.pointers.proofs.Ruled.{rules_held}
use Rattle.pointers.specs.Rules.{last_track}
use Rattle.pointers.specs.declared.layout.Layout.{Layout}
use Rattle.pointers.specs.declared.pointers.Pointers.{Pointers}
use Rattle.std.specs.Prelude.{Decides, Bool}
use Rattle.std.proofs.lemmas.Bool.Decides.{nat_tests, Decides-at}
use Rattle.std.proofs.lemmas.Nat.{div-add-mod', div_below, div-mul-add, mod_below, mod-mul-add, mul-add-lt, mul-le}
use Rattle.std.proofs.lemmas.List.FromFn.{get_or-range_with_len, length-range_with_len}
use Rattle.std.proofs.lemmas.List.{append_assoc, get_or_append_left, get_or-append_right, length-append}
use Rattle.std.proofs.lemmas.Bool.{and_from, and_parts, cases_eq, cond-false, cond-true, eq-eqb, eqb-true, le-leb, lt-ltb, ne_eqb, or_cases, or_left, or_right}

some_below : (a b i : ℕ) → i < a * b → 0 < b
some_below a zero i h = absurd (omega arith)
some_below a (suc b) i h = omega arith

-- lengths and places
module _ (l : Layout) where
  length_primaries : (a : ℕ) → length (primaries l a) ≡ l.spares
  unfolding primaries
  length_primaries a = length-range_with_len (data_start l + (a * width l + l.homes)) l.spares

  length_secondaries : length (secondaries l) ≡ l.secondary
  unfolding secondaries
  length_secondaries = length-range_with_len (31 * l.start) l.secondary

  pub length_spares_of : (b : ℕ) → length (spares_of l b) ≡ l.spares + l.secondary
  unfolding spares_of
  length_spares_of b = length-append (primaries l (b / l.homes)) (secondaries l) ∙ ap₂ ◌+◌ (length_primaries (b / l.homes)) length_secondaries

  length_groups : (k : ℕ) → length (group_spares l k) ≡ k * l.spares
  length_groups zero = omega arith
  length_groups (suc k) = length-append (group_spares l k) (primaries l k) ∙ ap₂ ◌+◌ (length_groups k) (length_primaries k) ∙ omega (arith, add-mul k 1 l.spares)

  -- the two orders of all spares
  all_front : l.start ≡ 3 → all_spares l ≡ secondaries l ++ group_spares l l.groups
  unfolding all_spares
  all_front e = cond-true (eqb l.start 3) _ _ (eq-eqb _ _ e)

  all_behind : (l.start ≡ 3 → ⊥) → all_spares l ≡ group_spares l l.groups ++ secondaries l
  unfolding all_spares
  all_behind d = cond-false (eqb l.start 3) _ _ (ne_eqb _ _ d)

  all_either : (P : List ℕ → Type 0) → (l.start ≡ 3 → P (secondaries l ++ group_spares l l.groups)) → ((l.start ≡ 3 → ⊥) → P (group_spares l l.groups ++ secondaries l)) → P (all_spares l)
  all_either P front behind = ⊎_elim (λ e. subst P (sym (all_front e)) (front e)) (λ d. subst P (sym (all_behind d)) (behind d)) (cases_eq l.start 3)

  pub length_all_spares : length (all_spares l) ≡ l.groups * l.spares + l.secondary
  length_all_spares =
      let groups = length_groups l.groups in
      let others = length_secondaries in
      all_either (λ xs. length xs ≡ l.groups * l.spares + l.secondary) (λ e. omega (arith, length-append (secondaries l) (group_spares l l.groups))) (λ d. omega (arith, length-append (group_spares l l.groups) (secondaries l)))

  get_or_primaries : (a i : ℕ) → i < l.spares → get_or (primaries l a) i 0 ≡ data_start l + (a * width l + l.homes) + i
  unfolding primaries
  get_or_primaries a i h = get_or-range_with_len (data_start l + (a * width l + l.homes)) l.spares i 0 h

  get_or_secondaries : (i : ℕ) → i < l.secondary → get_or (secondaries l) i 0 ≡ 31 * l.start + i
  unfolding secondaries
  get_or_secondaries i h = get_or-range_with_len (31 * l.start) l.secondary i 0 h

  -- the spare at place i of group a, among those of all groups
  get_or_groups : (k a i : ℕ) → a < k → i < l.spares → get_or (group_spares l k) (a * l.spares + i) 0 ≡ get_or (primaries l a) i 0
  get_or_groups zero a i h j = absurd (omega arith)
  get_or_groups (suc k) a i h j =
      let n = length_groups k in
      let last : a ≡ k → get_or (group_spares l (suc k)) (a * l.spares + i) 0 ≡ get_or (primaries l a) i 0 =
      λ e. let m : length (group_spares l k) ≡ a * l.spares = n ∙ ap (λ x. x * l.spares) (sym e) in
      let r : a * l.spares + i - a * l.spares ≡ i = omega arith in
      get_or-append_right (group_spares l k) (primaries l k) (a * l.spares) (a * l.spares + i) 0 m (omega arith) ∙ ap₂ (λ x y. get_or (primaries l x) y 0) (sym e) r in
      let before : (a ≡ k → ⊥) → get_or (group_spares l (suc k)) (a * l.spares + i) 0 ≡ get_or (primaries l a) i 0 =
      λ d. let b : a < k = omega arith in
      let s : a * l.spares + i < length (group_spares l k) = omega (arith, mul-add-lt a l.spares i k b j) in
      get_or_append_left (group_spares l k) (primaries l k) 0 (a * l.spares + i) s ∙ get_or_groups k a i b j in
      ⊎_elim last before (cases_eq a k)

  pub group_place : (i : ℕ) → i < l.groups * l.spares → (i / l.spares < l.groups) × (i % l.spares < l.spares)
  group_place i h = let some = some_below l.groups l.spares i h in (div_below i l.spares l.groups some h, mod_below i l.spares some)

  pub get_or_group_spares : (i : ℕ) → i < l.groups * l.spares → get_or (group_spares l l.groups) i 0 ≡ data_start l + (i / l.spares * width l + l.homes) + i % l.spares
  get_or_group_spares i h =
      let g = group_place i h in
      ap (λ x. get_or (group_spares l l.groups) x 0) (sym (div-add-mod' i l.spares)) ∙ get_or_groups l.groups (i / l.spares) (i % l.spares) g.0 g.1 ∙ get_or_primaries (i / l.spares) (i % l.spares) g.1

  -- the spares of a block: of its group first
  pub get_or_own : (b i : ℕ) → i < l.spares → get_or (spares_of l b) i 0 ≡ data_start l + (b / l.homes * width l + l.homes) + i
  unfolding spares_of
  get_or_own b i h =
      let s : i < length (primaries l (b / l.homes)) = omega (arith, length_primaries (b / l.homes)) in
      get_or_append_left (primaries l (b / l.homes)) (secondaries l) 0 i s ∙ get_or_primaries (b / l.homes) i h

  pub get_or_shared : (b i : ℕ) → l.spares ≤ i → i < l.spares + l.secondary → get_or (spares_of l b) i 0 ≡ 31 * l.start + (i - l.spares)
  unfolding spares_of
  get_or_shared b i h s =
      get_or-append_right (primaries l (b / l.homes)) (secondaries l) l.spares i 0 (length_primaries (b / l.homes)) h ∙ get_or_secondaries (i - l.spares) (omega arith)

  -- all spares, the secondary ones in front or behind
  pub get_or_front_secondary : (i : ℕ) → l.start ≡ 3 → i < l.secondary → get_or (all_spares l) i 0 ≡ 31 * l.start + i
  get_or_front_secondary i e h =
      let s : i < length (secondaries l) = omega (arith, length_secondaries) in
      ap (λ xs. get_or xs i 0) (all_front e) ∙ get_or_append_left (secondaries l) (group_spares l l.groups) 0 i s ∙ get_or_secondaries i h

  pub get_or_front_group : (i : ℕ) → l.start ≡ 3 → l.secondary ≤ i → get_or (all_spares l) i 0 ≡ get_or (group_spares l l.groups) (i - l.secondary) 0
  get_or_front_group i e h = ap (λ xs. get_or xs i 0) (all_front e) ∙ get_or-append_right (secondaries l) (group_spares l l.groups) l.secondary i 0 length_secondaries h

  pub get_or_behind_group : (i : ℕ) → (l.start ≡ 3 → ⊥) → i < l.groups * l.spares → get_or (all_spares l) i 0 ≡ get_or (group_spares l l.groups) i 0
  get_or_behind_group i d h =
      let s : i < length (group_spares l l.groups) = omega (arith, length_groups l.groups) in
      ap (λ xs. get_or xs i 0) (all_behind d) ∙ get_or_append_left (group_spares l l.groups) (secondaries l) 0 i s

  pub get_or_behind_secondary : (i : ℕ) → (l.start ≡ 3 → ⊥) → l.groups * l.spares ≤ i → i < l.groups * l.spares + l.secondary → get_or (all_spares l) i 0 ≡ 31 * l.start + (i - l.groups * l.spares)
  get_or_behind_secondary i d h s =
      ap (λ xs. get_or xs i 0) (all_behind d) ∙ get_or-append_right (group_spares l l.groups) (secondaries l) (l.groups * l.spares) i 0 (length_groups l.groups) h ∙ get_or_secondaries (i - l.groups * l.spares) (omega arith)

  -- the members of the lists
  in_groups : (k : ℕ) {p : ℕ} → Memᴰ p (group_spares l k) → (a : ℕ) × (a < k) × Memᴰ p (primaries l a)
  in_groups zero m = absurd (Memᴰ.not-nil m)
  in_groups (suc k) {p} m =
      ⊎_elim (λ (u : Memᴰ p (group_spares l k)). let r = in_groups k u in (r.0, omega arith, r.2)) (λ (u : Memᴰ p (primaries l k)). (k, omega arith, u)) (Memᴰ.append_cases (group_spares l k) m)

  group_in : (k a : ℕ) {p : ℕ} → a < k → Memᴰ p (primaries l a) → Memᴰ p (group_spares l k)
  group_in zero a h m = absurd (omega arith)
  group_in (suc k) a {p} h m =
      ⊎_elim (λ (e : a ≡ k). Memᴰ.append_right (group_spares l k) (subst (λ x. Memᴰ p (primaries l x)) e m)) (λ (d : a ≡ k → ⊥). Memᴰ.append_left (primaries l k) (group_in k a (omega arith) m)) (cases_eq a k)

  pub spare_listed : (p : ℕ) → Spare l p → Memᴰ p (all_spares l)
  spare_listed p s =
      let first : Memᴰ p (group_spares l l.groups) → Memᴰ p (all_spares l) = λ m. all_either (Memᴰ p) (λ e. Memᴰ.append_right (secondaries l) m) (λ d. Memᴰ.append_left (secondaries l) m) in
      let second : Memᴰ p (secondaries l) → Memᴰ p (all_spares l) = λ m. all_either (Memᴰ p) (λ e. Memᴰ.append_left (group_spares l l.groups) m) (λ d. Memᴰ.append_right (group_spares l l.groups) m) in
      ⊎_elim (λ u. first (group_in l.groups u.0 u.1 u.2)) second s

  pub listed_spare : (p : ℕ) → Memᴰ p (all_spares l) → Spare l p
  listed_spare p =
      let first : Memᴰ p (group_spares l l.groups) → Spare l p = λ m. inl (in_groups l.groups m) in
      all_either (λ xs. Memᴰ p xs → Spare l p) (λ e m. ⊎_elim inr first (Memᴰ.append_cases (secondaries l) m)) (λ d m. ⊎_elim first inr (Memᴰ.append_cases (group_spares l l.groups) m))

  climbing_primaries : (a : ℕ) → Climbing (primaries l a)
  unfolding primaries
  climbing_primaries a = climbing_run (data_start l + (a * width l + l.homes)) l.spares

  climbing_secondaries : Climbing (secondaries l)
  unfolding secondaries
  climbing_secondaries = climbing_run (31 * l.start) l.secondary

  secondary_bounds : (p : ℕ) → Memᴰ p (secondaries l) → (31 * l.start ≤ p) × (p < 31 * l.start + l.secondary)
  unfolding secondaries
  secondary_bounds p m = run_bounds (31 * l.start) l.secondary m

  secondary_in : (p : ℕ) → is_secondary l p ≡ true → Memᴰ p (secondaries l)
  unfolding is_secondary secondaries
  secondary_in p t =
      in_run (31 * l.start) l.secondary p (grind (arith, nat_tests)) (grind (arith, nat_tests))

module _ (n : ℕ) (l : Layout) (f : LayoutRules n l) where
  climbing_groups : (k : ℕ) → Climbing (group_spares l k)
  climbing_groups zero = tt
  climbing_groups (suc k) =
      climbing_append (group_spares l k) (primaries l k) (climbing_groups k) (climbing_primaries l k) (λ x y m o. let r = in_groups l k m in let s = primary_split n l f r.0 x r.2 in let t = primary_split n l f k y o in omega (arith, mul-le (r.0 + 1) (width l) k (width l) (omega arith) (omega arith), add-mul r.0 1 (width l)))

  -- which of the two kinds comes first
  order : (x y : ℕ) → Memᴰ x (group_spares l l.groups) → Memᴰ y (secondaries l) → ((l.start ≡ 3) × (y < x)) ⊎ ((l.start ≡ 3 → ⊥) × (x < y))
  order x y m o =
      let r = in_groups l l.groups m in
      let b = primary_bounds n l f r.0 x r.1 r.2 in
      let s = secondary_bounds l y o in
      let low = start_low l in
      let none : l.secondary ≡ 0 → ((l.start ≡ 3) × (y < x)) ⊎ ((l.start ≡ 3 → ⊥) × (x < y)) = λ e. absurd (omega arith) in
      let front : (31 * l.start ≡ 93) × (data_start l ≡ 93 + l.secondary) → ((l.start ≡ 3) × (y < x)) ⊎ ((l.start ≡ 3 → ⊥) × (x < y)) = λ e. inl (omega arith, omega arith) in
      let behind : (groups_end l ≤ 31 * l.start) × (31 * l.start + l.secondary ≡ 31 * (n - 2)) → ((l.start ≡ 3) × (y < x)) ⊎ ((l.start ≡ 3 → ⊥) × (x < y)) = λ e. inr ((λ z. omega arith), omega arith) in
      ⊎_elim none (⊎_elim front behind) (area_at n l f)

  pub climbing_all : Climbing (all_spares l)
  climbing_all =
      let groups = climbing_groups l.groups in
      let others = climbing_secondaries l in
      all_either l Climbing (λ e. climbing_append (secondaries l) (group_spares l l.groups) others groups (λ y x o m. ⊎_elim (λ h. h.1) (λ h. absurd (h.0 e)) (order x y m o))) (λ d. climbing_append (group_spares l l.groups) (secondaries l) groups others (λ x y m o. ⊎_elim (λ h. absurd (d h.0)) (λ h. h.1) (order x y m o)))

  pub all_apart : Apart (all_spares l)
  all_apart = climbing_apart (all_spares l) climbing_all

  block_kinds_apart : (b : ℕ) → b < blocks l → (x : ℕ) → Memᴰ x (primaries l (b / l.homes)) → Memᴰ x (secondaries l) → ⊥
  block_kinds_apart b h x m o = kinds_apart n l f (b / l.homes) x (in_group n l f b h) m o

  pub spares_apart : (b : ℕ) → b < blocks l → Apart (spares_of l b)
  unfolding spares_of
  spares_apart b h =
      apart_append (primaries l (b / l.homes)) (secondaries l) (climbing_apart (primaries l (b / l.homes)) (climbing_primaries l (b / l.homes))) (climbing_apart (secondaries l) (climbing_secondaries l)) (block_kinds_apart b h)

  pub block_listed : (b p : ℕ) → b < blocks l → Memᴰ p (spares_of l b) → Memᴰ p (all_spares l)
  unfolding spares_of
  block_listed b p h m = spare_listed l p (⊎_elim (λ u. inl (b / l.homes, in_group n l f b h, u)) inr (Memᴰ.append_cases (primaries l (b / l.homes)) m))

  pub spares_listed : SparesListed l
  spares_listed = record { rising = climbing_rising (all_spares l) climbing_all; each = spare_listed l; only = listed_spare l; of_block = block_listed }

  home_is : (b : ℕ) → b < blocks l → is_home l (home l b) ≡ true
  unfolding is_home
  home_is b h =
      let s = home_split n l f b in
      let i = in_group n l f b h in
      let p = home_at n l f b in
      let q : (home l b - data_start l) / width l < l.groups = omega arith in
      let r : (home l b - data_start l) % width l < l.homes = omega arith in
      let k = (home_bounds n l f b h).0 in
      grind (arith, nat_tests)

  home_of : (h : ℕ) → is_home l h ≡ true → (b : ℕ) × (b < blocks l) × (home l b ≡ h)
  unfolding is_home blocks
  home_of h t =
      let low : data_start l ≤ h = grind (arith, nat_tests) in
      let q : (h - data_start l) / width l < l.groups = grind (arith, nat_tests) in
      let r : (h - data_start l) % width l < l.homes = grind (arith, nat_tests) in
      let b : ℕ = (h - data_start l) / width l * l.homes + (h - data_start l) % width l in
      let bq : b / l.homes ≡ (h - data_start l) / width l = div-mul-add _ _ _ r in
      let br : b % l.homes ≡ (h - data_start l) % width l = mod-mul-add _ _ _ r in
      let joined : b / l.homes * width l + b % l.homes ≡ h - data_start l = ap₂ (λ u v. u * width l + v) bq br ∙ div-add-mod' (h - data_start l) (width l) in
      (b, omega (arith, mul-add-lt ((h - data_start l) / width l) l.homes ((h - data_start l) % width l) l.groups q r), (home_split n l f b).0 ∙ ap (λ u. data_start l + u) joined ∙ omega arith)

  pub may_from : (p h : ℕ) → MayReplace l p h → may_replace l p h ≡ true
  unfolding may_replace is_secondary spares_of
  may_from p h w =
      let b = w.0 in
      let first : Memᴰ p (primaries l (b / l.homes)) → may_replace l p (home l b) ≡ true =
      λ u. let s = primary_split n l f (b / l.homes) p u in
      let g = group_at n l f p (b / l.homes) s.0 s.1 s.3 in
      and_from _ _ (home_is b w.1) (or_right (is_secondary l p) _ (eq-eqb _ _ (g.0 ∙ sym (home_at n l f b).0))) in
      let second : Memᴰ p (secondaries l) → may_replace l p (home l b) ≡ true =
      λ u. let s = secondary_bounds l p u in
      and_from _ _ (home_is b w.1) (or_left _ _ (and_from _ _ (le-leb _ _ s.0) (lt-ltb _ _ s.1))) in
      subst (λ x. may_replace l p x ≡ true) w.2 (⊎_elim first second (Memᴰ.append_cases (primaries l (b / l.homes)) w.3))

  pub may_only : (p h : ℕ) → Memᴰ p (all_spares l) → may_replace l p h ≡ true → MayReplace l p h
  unfolding may_replace spares_of
  may_only p h m t =
      let same = eqb ((p - data_start l) / width l) ((h - data_start l) / width l) in
      let x = and_parts (is_home l h) (is_secondary l p || same) t in
      let r = home_of h x.0 in
      let second : Memᴰ p (secondaries l) → MayReplace l p h = λ u. (r.0, r.1, r.2, Memᴰ.append_right (primaries l (r.0 / l.homes)) u) in
      let first : (a : ℕ) × (a < l.groups) × Memᴰ p (primaries l a) → MayReplace l p h =
      λ u. let s = primary_split n l f u.0 p u.2 in
      let own : (p - data_start l) / width l ≡ (h - data_start l) / width l → MayReplace l p h =
      λ e. let k : u.0 ≡ r.0 / l.homes = sym (group_at n l f p u.0 s.0 s.1 s.3).0 ∙ e ∙ ap (λ y. (y - data_start l) / width l) (sym r.2) ∙ (home_at n l f r.0).0 in
      (r.0, r.1, r.2, Memᴰ.append_left (secondaries l) (subst (λ a. Memᴰ p (primaries l a)) k u.2)) in
      ⊎_elim (λ v. second (secondary_in l p v)) (λ v. own (eqb-true _ _ v)) (or_cases (is_secondary l p) same x.1) in
      ⊎_elim first second (listed_spare l p m)

-- the same, of a format on its medium
pub may_means : (f : Pointers) (p h : ℕ) (r : Bool) → r ≡ may_replace f.layout p h → Memᴰ p (all_spares f.layout) → Decides r (MayReplace f.layout p h)
may_means f p h r e m =
    let n = last_track f.sectors in
    let k = rules_held f in
    Decides-at _ _ e (may_only n f.layout k p h m, may_from n f.layout k p h)

-- q comes before p where two climbing lists are joined
abbrev Before : List ℕ → List ℕ → ℕ → ℕ → Type 0
Before xs ys q p = (Memᴰ q xs × Memᴰ p ys) ⊎ ((q < p) × ((Memᴰ q xs × Memᴰ p xs) ⊎ (Memᴰ q ys × Memᴰ p ys)))

pub below_next : (front back : List ℕ) (q p : ℕ) → Climbing (front ++ (p ∷ back)) → Memᴰ q front → q < p
below_next [] back q p c m = absurd (Memᴰ.not-nil m)
below_next (x ∷ front) back q p c m =
    ⊎_elim (λ (e : q ≡ x). let h = c.0 p (Memᴰ.append_right front (Memᴰ.head refl)) in omega arith) (λ (t : Memᴰ q front). below_next front back q p c.1 t) (Memᴰ.cases_cons m)

before_more : (x : ℕ) (xs ys : List ℕ) (q p : ℕ) → Before xs ys q p → Before (x ∷ xs) ys q p
before_more x xs ys q p (inl u) = inl (Memᴰ.tail u.0, u.1)
before_more x xs ys q p (inr u) = inr (u.0, ⊎_elim (λ v. inl (Memᴰ.tail v.0, Memᴰ.tail v.1)) inr u.1)

before_split : (xs ys front back : List ℕ) (q p : ℕ) → Climbing xs → Climbing ys → xs ++ ys ≡ front ++ (p ∷ back) → Memᴰ q front → Before xs ys q p
before_split [] ys front back q p c d e m =
    inr (below_next front back q p (subst Climbing e d) m, inr (subst (Memᴰ q) (sym e) (Memᴰ.append_left (p ∷ back) m), subst (Memᴰ p) (sym e) (Memᴰ.append_right front (Memᴰ.head refl))))
before_split (x ∷ xs) ys [] back q p c d e m = absurd (Memᴰ.not-nil m)
before_split (x ∷ xs) ys (y ∷ front) back q p c d e m =
    let same : x ≡ y = cc in
    let rest : xs ++ ys ≡ front ++ (p ∷ back) = cc in
    let here : q ≡ y → Before (x ∷ xs) ys q p =
    λ i. let first : Memᴰ q (x ∷ xs) = Memᴰ.head (i ∙ sym same) in
    ⊎_elim (λ u. let h = c.0 p u in inr (omega arith, inl (first, Memᴰ.tail u))) (λ u. inl (first, u)) (Memᴰ.append_cases xs (subst (Memᴰ p) (sym rest) (Memᴰ.append_right front (Memᴰ.head refl)))) in
    ⊎_elim here (λ t. before_more x xs ys q p (before_split xs ys front back q p c.1 d rest t)) (Memᴰ.cases_cons m)

module _ (xs ys : List ℕ) (kinds : (x : ℕ) → Memᴰ x xs → Memᴰ x ys → ⊥) where
  not_both : (q p : ℕ) → Before xs ys q p → Before xs ys p q → ⊥
  not_both q p (inl u) (inl v) = kinds q u.0 v.1
  not_both q p (inl u) (inr v) = ⊎_elim (λ w. kinds p w.0 u.1) (λ w. kinds q u.0 w.1) v.1
  not_both q p (inr u) (inl v) = ⊎_elim (λ w. kinds q w.0 v.1) (λ w. kinds p v.0 w.1) u.1
  not_both q p (inr u) (inr v) = omega arith

  before_in : (q p : ℕ) → Before xs ys q p → Memᴰ q (xs ++ ys)
  before_in q p (inl u) = Memᴰ.append_left ys u.0
  before_in q p (inr u) = ⊎_elim (λ v. Memᴰ.append_left ys v.0) (λ v. Memᴰ.append_right xs v.0) u.1

  split_before : (front back : List ℕ) (q p : ℕ) → Climbing xs → Climbing ys → xs ++ ys ≡ front ++ (p ∷ back) → Before xs ys q p → Memᴰ q front
  split_before front back q p c d e b =
      let itself : q ≡ p → Memᴰ q front = λ i. absurd (let o = subst (Before xs ys q) (sym i) b in not_both q q o o) in
      let later : Memᴰ q back → Memᴰ q front =
      λ m. let s = split_in back m in
      let o = before_split xs ys (front ++ (p ∷ s.0)) s.1 p q c d (e ∙ ap (λ zs. front ++ (p ∷ zs)) s.2 ∙ sym (append_assoc front (p ∷ s.0) (q ∷ s.1))) (Memᴰ.append_right front (Memᴰ.head refl)) in
      absurd (not_both q p b o) in
      ⊎_elim (λ m. m) (λ m. ⊎_elim itself later (Memᴰ.cases_cons m)) (Memᴰ.append_cases front (subst (Memᴰ q) e (before_in q p b)))

-- the order in which the spares of a block are tried: those in front of p, wherever the list is split at it
pub front_tried : (l : Layout) (b : ℕ) (front back : List ℕ) (q p : ℕ) → spares_of l b ≡ front ++ (p ∷ back) → Memᴰ q front → TriedBefore l b q p
unfolding spares_of
front_tried l b front back q p e m = before_split (primaries l (b / l.homes)) (secondaries l) front back q p (climbing_primaries l (b / l.homes)) (climbing_secondaries l) e m

pub tried_front : (n : ℕ) (l : Layout) → LayoutRules n l → (b : ℕ) → b < blocks l → (front back : List ℕ) (q p : ℕ) → spares_of l b ≡ front ++ (p ∷ back) → TriedBefore l b q p → Memᴰ q front
unfolding spares_of
tried_front n l f b h front back q p e t = split_before (primaries l (b / l.homes)) (secondaries l) (block_kinds_apart n l f b h) front back q p (climbing_primaries l (b / l.homes)) (climbing_secondaries l) e t
