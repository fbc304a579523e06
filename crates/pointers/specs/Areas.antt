-- The areas of a layout on a medium with the last track n, in rising order.
use Rattle.std.specs.Prelude.{◌≡◌, ℕ, zero, suc, ◌+◌, ◌-◌, ◌*◌, ◌≤◌, cond, ◌||◌, List, [], ◌∷◌, ◌++◌, ◌==◌, nat_lt}
use Rattle.pointers.specs.Places.{data_start, group_start, groups_end}
use Rattle.pointers.specs.declared.areas.Area.{Area}
use Rattle.pointers.specs.declared.areas.Purpose.{Purpose}
use Rattle.pointers.specs.declared.areas.Purpose.TheVariants.{Copies, Secondary, Homes, Spares, Unused}
use Rattle.pointers.specs.declared.layout.Layout.{Layout}

-- the sectors from `first` up to, and without, `end`; none is no area
abbrev pub area : Purpose → ℕ → ℕ → List Area
area use_for first end = cond (nat_lt first end) (record { first = first; last = end - 1; purpose = use_for } ∷ []) []

-- the end of the data zone: a secondary area behind it, or track n - 2
abbrev pub zone_end : ℕ → Layout → ℕ
zone_end n l = cond (l.secondary == 0 || l.start == 3) (31 * (n - 2)) (31 * l.start)

-- the homes of group a, and the spares behind them
abbrev pub group_areas : Layout → ℕ → List Area
group_areas l a =
    area (Homes a) (group_start l a) (group_start l a + l.homes) ++ area (Spares a) (group_start l a + l.homes) (group_start l a + l.homes + l.spares)

-- those of the first a groups
abbrev pub areas_of_groups : Layout → ℕ → List Area
areas_of_groups l zero = []
areas_of_groups l (suc a) = areas_of_groups l a ++ group_areas l a

-- the areas before the groups
abbrev pub areas_before : Layout → List Area
areas_before l = area Copies 0 93 ++ area Secondary 93 (data_start l)

-- the areas behind the groups
abbrev pub areas_behind : ℕ → Layout → List Area
areas_behind n l =
    area Unused (groups_end l) (zone_end n l) ++ (area Secondary (zone_end n l) (31 * (n - 2)) ++ area Copies (31 * (n - 2)) (31 * (n + 1)))

-- all areas
unfoldable pub areas_of : ℕ → Layout → List Area
areas_of n l = areas_before l ++ (areas_of_groups l l.groups ++ areas_behind n l)

-- areas that follow one another without a gap, from sector a on, up to sector b
abbrev pub Joined : ℕ → ℕ → List Area → Type 0
Joined a b [] = a ≡ b
Joined a b (x ∷ xs) = (x.first ≡ a) × (x.first ≤ x.last) × Joined (x.last + 1) b xs

-- what was listed: these areas, which are the whole medium
pub record Listed (n : ℕ) (l : Layout) (xs : List Area) : Type 0 where
  pub areas : xs ≡ areas_of n l
  pub whole : Joined 0 (31 * (n + 1)) xs
