-- The rules of a layout, over the bytes of its sheet, for a medium whose last track is n.
use Rattle.std.specs.Prelude.{◌≡◌, ℕ, ◌+◌, ◌<◌, ◌≤◌, false, cond, List, slice_index_or}
use Rattle.maps.specs.Sheets.{band_count, first_track, overflow_entry, prime_tracks}
use Rattle.maps.specs.declared.bands.Purpose.{Purpose}
use Rattle.maps.specs.declared.bands.Purpose.TheVariants.{Map, Alternative, Prime}

-- how many tracks an area has; an overflow band has no prime area
abbrev pub tracks_of : List ℕ → ℕ → Purpose → ℕ
tracks_of d k Map = 4
tracks_of d k Alternative = 4
tracks_of d k Prime = cond (overflow_entry d k) 0 (prime_tracks d k)

-- track t lies in the area of band k that is used for a
pub record LiesIn (d : List ℕ) (k : ℕ) (a : Purpose) (t : ℕ) : Type 0 where
  pub band : k < band_count d
  pub from : first_track d k a ≤ t
  pub before : t < first_track d k a + tracks_of d k a

abbrev pub HasPrime : List ℕ → ℕ → Type 0
HasPrime d k = (k < band_count d) × (overflow_entry d k ≡ false)

pub record LayoutRules (n : ℕ) (d : List ℕ) : Type 0 where
  -- the sheet begins (00) (00), and has one to eight bands
  pub first_byte : slice_index_or d 0 0 ≡ 0
  pub second_byte : slice_index_or d 1 0 ≡ 0
  pub some_band : 1 ≤ band_count d
  pub few_bands : band_count d ≤ 8
  -- no area has a track behind the last; so a number (FF FF) beside another one breaks this rule, or the one on prime tracks
  pub inside : (k : ℕ) (a : Purpose) (t : ℕ) → LiesIn d k a t → t ≤ n
  -- no track lies in two areas
  pub disjoint : (k j : ℕ) (a b : Purpose) (t : ℕ) → LiesIn d k a t → LiesIn d j b t → (k ≡ j) × (a ≡ b)
  -- a prime area has a track at least, and begins behind those of the bands before
  pub some_track : (k : ℕ) → HasPrime d k → 1 ≤ prime_tracks d k
  pub rising : (k j : ℕ) → HasPrime d k → HasPrime d j → k < j → first_track d k Prime < first_track d j Prime
  -- some band has one
  pub some_prime : (k : ℕ) × HasPrime d k
