-- Homes and spares lie apart, inside the data zone and the secondary area.
use Rattle.std.proofs.Common.{◌≡◌, ℕ, ◌+◌, ◌-◌, ◌*◌, ◌/◌, ◌%◌, ◌<◌, ◌≤◌, ◌⊎◌, sym, refl, ap, ◌∙◌, ap₂, inl, inr, ⊎_elim, mul-add, arith}
use mathlib.Core.List.{Memᴰ}
use Rattle.pointers.proofs.Members.{run_bounds}
use Rattle.pointers.proofs.Ruled.{rules_held, size_held}
use Rattle.pointers.specs.Places.{PlacesSound, Spare, blocks, data_start, group_start, groups_end, home, primaries, secondaries, width}
use Rattle.pointers.specs.Rules.{LayoutRules, SecondaryTracks, last_track}
use Rattle.pointers.specs.declared.layout.Layout.{Layout}
use Rattle.pointers.specs.declared.pointers.Pointers.{Pointers}
use Rattle.std.proofs.lemmas.Nat.{div-mul-add, mod-mul-add, div_below, mod_below, div-add-mod', mul-add-lt}
use Rattle.std.proofs.lemmas.Bool.Decides.{nat_tests}
use Rattle.std.proofs.lemmas.Bool.{cases_eq}

pub start_low : (l : Layout) → 93 ≤ data_start l
unfolding data_start
start_low l = grind (arith, nat_tests)

start_behind : (l : Layout) (k : ℕ) → l.start ≡ 3 → l.secondary ≡ 31 * k → data_start l ≡ 93 + 31 * k
unfolding data_start
start_behind l k e w = grind (arith, nat_tests)

module _ (n : ℕ) (l : Layout) (f : LayoutRules n l) where
  -- the secondary area is empty, or in front of the groups, or behind them
  abbrev pub Area : Type 0
  Area =
      (l.secondary ≡ 0) ⊎ (((31 * l.start ≡ 93) × (data_start l ≡ 93 + l.secondary)) ⊎ ((groups_end l ≤ 31 * l.start) × (31 * l.start + l.secondary ≡ 31 * (n - 2))))

  pub area_at : Area
  area_at =
      let some : (k : ℕ) × SecondaryTracks n l k → Area =
      λ h. let k = h.0 in
      let w : l.secondary ≡ 31 * k = h.1.whole in
      let one : 1 ≤ k = h.1.some in
      let front : l.start ≡ 3 → Area = λ e. inr (inl (omega arith, start_behind l k e w ∙ sym (ap (λ x. 93 + x) w))) in
      let behind : (l.start ≡ 3 → ⊥) → l.start + k + 2 ≡ n → Area = λ d e. inr (inr (f.before_secondary ((λ z. omega arith), d), omega arith)) in
      ⊎_elim front (λ e. ⊎_elim front (λ d. behind d e) (cases_eq l.start 3)) h.1.place in
      ⊎_elim (λ (h : (l.secondary ≡ 0) × (l.start ≡ 0xFFFFFFFF)). inl h.0) some f.area

  pub home_split : (b : ℕ) → (home l b ≡ data_start l + (b / l.homes * width l + b % l.homes)) × (b % l.homes < l.homes)
  unfolding home
  home_split b = (refl, mod_below b l.homes f.some_homes)

  pub in_group : (b : ℕ) → b < blocks l → b / l.homes < l.groups
  unfolding blocks
  in_group b h = div_below b l.homes l.groups f.some_homes h

  -- the group and the place in it of a sector of the data zone
  pub group_at : (x a r : ℕ) → x ≡ data_start l + (a * width l + r) → r < width l → ((x - data_start l) / width l ≡ a) × ((x - data_start l) % width l ≡ r)
  group_at x a r e h =
      let off : x - data_start l ≡ a * width l + r = omega arith in
      (ap (λ y. y / width l) off ∙ div-mul-add a (width l) r h, ap (λ y. y % width l) off ∙ mod-mul-add a (width l) r h)

  pub home_at : (b : ℕ) → ((home l b - data_start l) / width l ≡ b / l.homes) × ((home l b - data_start l) % width l ≡ b % l.homes)
  home_at b = let h = home_split b in group_at (home l b) (b / l.homes) (b % l.homes) h.0 (omega arith)

  pub home_bounds : (b : ℕ) → b < blocks l → (data_start l ≤ home l b) × (home l b < groups_end l)
  home_bounds b h =
      let s = home_split b in
      let i = in_group b h in
      (omega arith, omega (arith, mul-add-lt (b / l.homes) (width l) (b % l.homes) l.groups i (omega arith)))

  home_apart : (b c : ℕ) → home l b ≡ home l c → b ≡ c
  home_apart b c e =
      let q : b / l.homes ≡ c / l.homes = sym (home_at b).0 ∙ ap (λ x. (x - data_start l) / width l) e ∙ (home_at c).0 in
      let r : b % l.homes ≡ c % l.homes = sym (home_at b).1 ∙ ap (λ x. (x - data_start l) % width l) e ∙ (home_at c).1 in
      sym (div-add-mod' b l.homes) ∙ ap₂ (λ x y. x * l.homes + y) q r ∙ div-add-mod' c l.homes

  -- a spare of group a, by its place behind the homes
  pub primary_split : (a p : ℕ) → Memᴰ p (primaries l a) → (r : ℕ) × (p ≡ data_start l + (a * width l + r)) × (l.homes ≤ r) × (r < width l)
  unfolding primaries
  primary_split a p m =
      let h = run_bounds (data_start l + (a * width l + l.homes)) l.spares m in
      (p - (data_start l + a * width l), omega arith, omega arith, omega arith)

  pub primary_bounds : (a p : ℕ) → a < l.groups → Memᴰ p (primaries l a) → (data_start l ≤ p) × (p < groups_end l)
  primary_bounds a p h m =
      let s = primary_split a p m in
      (omega arith, omega (arith, mul-add-lt a (width l) s.0 l.groups h s.3))

  -- the secondary area lies outside the groups, and inside tracks 3 to n - 3
  abbrev Outside : ℕ → Type 0
  Outside p = ((p < data_start l) ⊎ (groups_end l ≤ p)) × (93 ≤ p) × (p < 31 * (n - 2))

  secondary_place : (p : ℕ) → Memᴰ p (secondaries l) → Outside p
  unfolding secondaries
  secondary_place p m =
      let h = run_bounds (31 * l.start) l.secondary m in
      let high = f.before_copies in
      let low = start_low l in
      let none : l.secondary ≡ 0 → Outside p = λ e. absurd (omega arith) in
      let front : (31 * l.start ≡ 93) × (data_start l ≡ 93 + l.secondary) → Outside p = λ e. (inl (omega arith), omega arith, omega arith) in
      let behind : (groups_end l ≤ 31 * l.start) × (31 * l.start + l.secondary ≡ 31 * (n - 2)) → Outside p = λ e. (inr (omega arith), omega arith, omega arith) in
      ⊎_elim none (⊎_elim front behind) area_at

  spare_inside : (p : ℕ) → Spare l p → (93 ≤ p) × (p < 31 * (n - 2))
  spare_inside p s =
      let low = start_low l in
      let high = f.before_copies in
      ⊎_elim (λ u. let h = primary_bounds u.0 p u.1 u.2 in (omega arith, omega arith)) (λ u. let h = secondary_place p u in (h.1, h.2)) s

  pub kinds_apart : (a p : ℕ) → a < l.groups → Memᴰ p (primaries l a) → Memᴰ p (secondaries l) → ⊥
  kinds_apart a p h m s =
      let k = primary_bounds a p h m in
      let o = secondary_place p s in
      ⊎_elim (λ e. omega arith) (λ e. omega arith) o.0

  no_spare : (b : ℕ) → b < blocks l → Spare l (home l b) → ⊥
  no_spare b h s =
      let hb = home_bounds b h in
      let hs = home_split b in
      let first : (a : ℕ) × (a < l.groups) × Memᴰ (home l b) (primaries l a) → ⊥ =
      λ u. let s = primary_split u.0 (home l b) u.2 in
      let g = group_at (home l b) u.0 s.0 s.1 s.3 in
      let k = home_at b in
      omega arith in
      let second : Memᴰ (home l b) (secondaries l) → ⊥ = λ u. ⊎_elim (λ e. omega arith) (λ e. omega arith) (secondary_place (home l b) u).0 in
      ⊎_elim first second s

  same_group : (a c p : ℕ) → Memᴰ p (primaries l a) → Memᴰ p (primaries l c) → a ≡ c
  same_group a c p m k =
      let s = primary_split a p m in
      let t = primary_split c p k in
      sym (group_at p a s.0 s.1 s.3).0 ∙ (group_at p c t.0 t.1 t.3).0

  pub places_sound : PlacesSound n l
  places_sound =
      let low = start_low l in
      let high = f.before_copies in
      record {
        home_inside = λ b h. let k = home_bounds b h in (omega arith, omega arith);
        spare_inside = spare_inside;
        homes_differ = λ a b h k e. home_apart a b e;
        no_spare = no_spare;
        spares_differ = same_group;
        kinds_differ = kinds_apart;
      }

  -- the end of a group
  pub group_end : (a : ℕ) → a < l.groups → data_start l + (a * width l + width l) ≤ 31 * (n - 2)
  group_end a h =
      let high = f.before_copies in
      let some = f.some_homes in
      omega (arith, mul-add-lt a (width l) (width l - 1) l.groups h (omega arith))

  pub few_blocks : l.groups * l.homes ≤ 31 * (n - 2)
  few_blocks = let high = f.before_copies in omega (arith, mul-add l.groups l.homes l.spares)

-- the same, of a format on its medium
pub group_below : (f : Pointers) (a : ℕ) → a < f.layout.groups → (data_start f.layout + (a * width f.layout + width f.layout) ≤ 31 * (last_track f.sectors - 2)) × (last_track f.sectors ≤ 19999)
group_below f a h = (group_end (last_track f.sectors) f.layout (rules_held f) a h, (size_held f).most)

pub group_of_block : (f : Pointers) (b : ℕ) → b < blocks f.layout → b / f.layout.homes < f.layout.groups
group_of_block f b h = in_group (last_track f.sectors) f.layout (rules_held f) b h

-- the first part of each says nothing: it shows `grind` where to look
pub some_homes : (f : Pointers) → (blocks f.layout ≡ blocks f.layout) × (0 < f.layout.homes)
some_homes f = (refl, (rules_held f).some_homes)

pub room_of_zone : (f : Pointers) → (data_start f.layout ≡ data_start f.layout) × (data_start f.layout + width f.layout ≤ 619907) × (groups_end f.layout ≤ 619907)
room_of_zone f =
    let h = group_below f 0 (rules_held f).some_groups in
    let e = (rules_held f).before_copies in
    (refl, omega arith, omega arith)

pub room_of_group : (f : Pointers) (a : ℕ) → a < f.layout.groups → (group_start f.layout a ≡ group_start f.layout a) × (group_start f.layout a + width f.layout ≤ 619907)
room_of_group f a h = let k = group_below f a h in (refl, omega arith)

pub home_below : (f : Pointers) (b : ℕ) → b < blocks f.layout → home f.layout b < 620000
home_below f b h =
    let e = home_bounds (last_track f.sectors) f.layout (rules_held f) b h in
    let high = (rules_held f).before_copies in
    let most = (size_held f).most in
    omega arith
