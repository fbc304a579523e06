-- The bytes of a layout sheet: the layout that they give, and those that a layout is written in.
use Rattle.std.specs.Prelude.{◌≡◌, ℕ, ◌+◌, ◌-◌, ◌*◌, ◌/◌, ◌%◌, ◌<◌, ◌≤◌, Bool, false, cond, ◌&&◌, List, [], ◌∷◌, map, Some, None, Option, ◌==◌, nat_le, nat_lt, slice_index}
use Rattle.medium.specs.Bytes.{two_at}
use Rattle.maps.specs.Places.{band_of, first_home, homes_of, no_band, overflow}
use Rattle.maps.specs.declared.bands.Band.{Band}
use Rattle.maps.specs.declared.bands.Extent.{Extent}
use Rattle.maps.specs.declared.bands.Layout.{Layout}
use Rattle.maps.specs.declared.bands.Purpose.{Purpose}
use Rattle.maps.specs.declared.bands.Purpose.TheVariants.{Map, Alternative, Prime}
use Rattle.std.specs.List.{range_with_len}

-- bytes 0 and 1 are (00)
abbrev pub identified : List ℕ → Bool
identified d = slice_index d 0 == 0 && slice_index d 1 == 0

-- byte 2 is the number of bands
abbrev pub band_count : List ℕ → ℕ
band_count d = slice_index d 2

-- eight bytes a band, from byte 3 on: the first track of each area
abbrev pub track_place : Purpose → ℕ
track_place Map = 3
track_place Alternative = 5
track_place Prime = 7

abbrev pub first_track : List ℕ → ℕ → Purpose → ℕ
first_track d k a = two_at d (8 * k + track_place a)

-- and the number of prime tracks
abbrev pub prime_tracks : List ℕ → ℕ → ℕ
prime_tracks d k = two_at d (8 * k + 9)

-- in an overflow band the last two numbers are (FF FF)
abbrev pub overflow_entry : List ℕ → ℕ → Bool
overflow_entry d k = first_track d k Prime == 65535 && prime_tracks d k == 65535

-- the first sector of a track; a track that no medium has begins behind the last sector of any
abbrev pub first_sector : ℕ → ℕ
first_sector t = cond (nat_le t 19999) (32 * (t + 2)) 640064

-- the prime area that entry k gives, and the band
abbrev pub primes_at : List ℕ → ℕ → Extent
primes_at d k = record { first = first_sector (first_track d k Prime); size = 32 * prime_tracks d k }

abbrev pub band_at : List ℕ → ℕ → Band
band_at d k =
    record {
      maps = first_sector (first_track d k Map);
      spares = first_sector (first_track d k Alternative);
      primes = cond (overflow_entry d k) None (Some (primes_at d k));
    }

-- place k of the eight: an entry's band if it is in use
abbrev pub band_or_none : List ℕ → ℕ → Band
band_or_none d k = cond (nat_lt k (band_count d)) (band_at d k) no_band

-- the layout that the bytes d give to a medium whose last track is n
abbrev pub layout_in : ℕ → List ℕ → Layout
layout_in n d = record { last = n; count = band_count d; bands = map (band_or_none d) (range_with_len 0 8) }

-- the track that begins with sector s
abbrev pub track_of : ℕ → ℕ
track_of s = s / 32 - 2

-- the four numbers of a band's entry
abbrev pub prime_numbers : Option Extent → List ℕ
prime_numbers None = 65535 ∷ 65535 ∷ []
prime_numbers (Some e) = track_of e.first ∷ e.size / 32 ∷ []

abbrev pub entry_numbers : Band → List ℕ
entry_numbers x = track_of x.maps ∷ track_of x.spares ∷ prime_numbers x.primes

-- byte j of the eight bytes of a band
abbrev pub entry_byte : Band → ℕ → ℕ
entry_byte x j = let n = slice_index (entry_numbers x) (j / 2) in cond (j % 2 == 0) (n / 256) (n % 256)

-- byte i of the sheet that a layout is written in: (00) (00), the number of bands, the bands, and then (FF)
abbrev pub sheet_byte : Layout → ℕ → ℕ
sheet_byte l i =
    cond (nat_lt i 2) 0
    (cond (i == 2) l.count
    (cond (nat_lt ((i - 3) / 8) l.count) (entry_byte (band_of l ((i - 3) / 8)) ((i - 3) % 8)) 255))

-- the sheet that a layout is written in
abbrev pub sheet_of : Layout → List ℕ
sheet_of l = map (sheet_byte l) (range_with_len 0 512)

-- what is known of a band whose entry can be written
pub record Writable (x : Band) : Type 0 where
  pub map_low : 64 ≤ x.maps
  pub map_high : x.maps < 640064
  pub spares_low : 64 ≤ x.spares
  pub spares_high : x.spares < 640064
  pub prime_low : overflow x ≡ false → 64 ≤ first_home x
  pub prime_high : overflow x ≡ false → first_home x < 640064
  pub homes_high : homes_of x ≤ 640064
