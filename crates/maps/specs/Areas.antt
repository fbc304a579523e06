-- The areas of a layout, in rising order of tracks.
use Rattle.std.specs.Prelude.{◌≡◌, ℕ, ◌+◌, ◌-◌, ◌*◌, ◌/◌, ◌<◌, ◌≤◌, cond, not, ◌&&◌, List, [], ◌∷◌, map, Some, None, Option, ◌==◌}
use Rattle.std.specs.List.{filter_map, range_with_len}
use Rattle.std.specs.Option.{option_or}
use mathlib.Core.List.{Memᴰ}
use Rattle.maps.specs.Places.{band_of, bands_of, first_home, first_of, overflow, size_of}
use Rattle.maps.specs.declared.areas.Area.{Area}
use Rattle.maps.specs.declared.bands.Band.{Band}
use Rattle.maps.specs.declared.bands.Layout.{Layout}
use Rattle.maps.specs.declared.bands.Purpose.{Purpose}
use Rattle.maps.specs.declared.bands.Purpose.TheVariants.{Map, Alternative, Prime}
use Rattle.medium.specs.Order.{Rising}

-- the area of n sectors that begins on track t
abbrev pub area_of : ℕ → Purpose → ℕ → ℕ → Area
area_of k a t n = record { first = t; last = t + (n - 1) / 32; band = k; purpose = a }

-- the area of band number k that begins on track t
abbrev pub area_from : ℕ → Band → Purpose → ℕ → Area
area_from k x a t = area_of k a t (size_of x a)

abbrev pub begun_in : ℕ → Band → ℕ → Option Area
begun_in k x t =
    cond (x.maps == 32 * (t + 2)) (Some (area_from k x Map t))
    (cond (x.spares == 32 * (t + 2)) (Some (area_from k x Alternative t))
    (cond (not (overflow x) && first_home x == 32 * (t + 2)) (Some (area_from k x Prime t)) None))

-- the area that begins on track t, of the bands from number k on
abbrev pub begun : ℕ → List Band → ℕ → Option Area
begun k [] t = None
begun k (x ∷ xs) t = option_or (begun_in k x t) (begun (k + 1) xs t)

-- all areas of a layout, track by track
abbrev pub all_areas : Layout → List Area
all_areas l = filter_map (begun 1 (bands_of l)) (range_with_len 0 (l.last + 1))

-- an area of the layout, told by its band, its use, and its first and last track
pub record AreaTold (l : Layout) (r : Area) : Type 0 where
  pub some_band : 1 ≤ r.band
  pub known_band : r.band ≤ l.count
  pub begins : first_of (band_of l (r.band - 1)) r.purpose ≡ 32 * (r.first + 2)
  pub ends : first_of (band_of l (r.band - 1)) r.purpose + size_of (band_of l (r.band - 1)) r.purpose ≡ 32 * (r.last + 3)

-- the list has the areas of the layout and no other, in rising order
pub record AreasListed (l : Layout) (rs : List Area) : Type 0 where
  pub each : (r : Area) → Memᴰ r rs → AreaTold l r
  pub every : (k : ℕ) (a : Purpose) → k < l.count → 1 ≤ size_of (band_of l k) a → (r : Area) × Memᴰ r rs × (r.band ≡ k + 1) × (r.purpose ≡ a)
  pub rising : Rising (map (λ r. r.first) rs)
