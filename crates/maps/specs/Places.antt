-- Where the homes, the alternatives and the maps of a layout lie.
use Rattle.std.specs.Prelude.{ℕ, ◌+◌, ◌-◌, ◌*◌, ◌%◌, ◌<◌, ◌≤◌, Bool, true, cond, ◌&&◌, ◌||◌, List, [], ◌∷◌, take, Some, None, Option, is_none, ◌==◌, nat_le, nat_lt, slice_index_or}
use Rattle.std.specs.List.{list_all}
use Rattle.std.specs.Option.{option_map_or}
use Rattle.maps.specs.declared.bands.Band.{Band}
use Rattle.maps.specs.declared.bands.Extent.{Extent}
use Rattle.maps.specs.declared.bands.Layout.{Layout}
use Rattle.maps.specs.declared.bands.Purpose.{Purpose}
use Rattle.maps.specs.declared.bands.Purpose.TheVariants.{Map, Alternative, Prime}

-- an overflow band has no prime area
abbrev pub overflow : Band → Bool
overflow x = is_none x.primes

-- the first sector of a prime area, and how many it has; 0 where there is none
abbrev pub first_in : Option Extent → ℕ
first_in None = 0
first_in (Some e) = e.first

abbrev pub size_in : Option Extent → ℕ
size_in None = 0
size_in (Some e) = e.size

abbrev pub first_home : Band → ℕ
first_home x = first_in x.primes

abbrev pub homes_of : Band → ℕ
homes_of x = size_in x.primes

-- the first sector of an area, and how many it has
abbrev pub first_of : Band → Purpose → ℕ
first_of x Map = x.maps
first_of x Alternative = x.spares
first_of x Prime = first_home x

abbrev pub size_of : Band → Purpose → ℕ
size_of x Map = 128
size_of x Alternative = 128
size_of x Prime = homes_of x

-- sector i lies in the area
abbrev pub InArea : Band → Purpose → ℕ → Type 0
InArea x a i = (first_of x a ≤ i) × (i < first_of x a + size_of x a)

-- what stands in the places of bands that are not in use
abbrev pub no_band : Band
no_band = record { maps = 0; spares = 0; primes = None }

-- place k of the eight
abbrev pub band_of : Layout → ℕ → Band
band_of l k = slice_index_or l.bands k no_band

-- the bands that are in use
abbrev pub bands_of : Layout → List Band
bands_of l = take l.count l.bands

-- blocks number the prime sectors, band by band
abbrev pub block_count : List Band → ℕ
block_count [] = 0
block_count (x ∷ xs) = homes_of x + block_count xs

abbrev pub home_in : List Band → ℕ → ℕ
home_in [] b = 0
home_in (x ∷ xs) b = cond (nat_lt b (homes_of x)) (first_home x + b) (home_in xs (b - homes_of x))

-- how many blocks a layout has, and the home of block b
abbrev pub blocks : Layout → ℕ
blocks l = block_count (bands_of l)

abbrev pub home : Layout → ℕ → ℕ
home l b = home_in (bands_of l) b

-- m sectors from a on and n from c on have none in common
abbrev pub apart : ℕ → ℕ → ℕ → ℕ → Bool
apart a m c n = nat_le (a + m) c || nat_le (c + n) a

-- k sectors from a on lie within the tracks 0 to the last; end is the first sector behind that
abbrev pub inside : ℕ → ℕ → ℕ → Bool
inside end a k = nat_le 64 a && nat_le (a + k) end

-- a prime area has a sector at least, and lies within the tracks and apart from the other areas of its band
abbrev pub primes_stand : ℕ → Band → Extent → Bool
primes_stand end x e =
    nat_le 1 e.size
    && (inside end e.first e.size
    && (apart x.maps 128 e.first e.size && apart x.spares 128 e.first e.size))

-- the areas of a band lie within the tracks, and apart
abbrev pub band_stands : ℕ → Band → Bool
band_stands end x =
    (inside end x.maps 128 && inside end x.spares 128)
    && (apart x.maps 128 x.spares 128 && option_map_or (primes_stand end x) x.primes true)

-- n sectors from a on have none in common with the areas of band y
abbrev pub area_apart : ℕ → ℕ → Band → Bool
area_apart a n y =
    apart a n y.maps 128
    && (apart a n y.spares 128 && option_map_or (λ e. apart a n e.first e.size) y.primes true)

-- prime areas rise from a band to a later one
abbrev pub rises_to : Band → Band → Bool
rises_to x y = overflow x || (overflow y || nat_lt (first_home x) (first_home y))

-- the areas of x and of a later band have no sector in common
abbrev pub bands_apart : Band → Band → Bool
bands_apart x y =
    rises_to x y
    && (area_apart x.maps 128 y
    && (area_apart x.spares 128 y && option_map_or (λ e. area_apart e.first e.size y) x.primes true))

abbrev pub apart_from_all : Band → List Band → Bool
apart_from_all x ys = list_all (bands_apart x) ys

-- every band stands, and is apart from those behind it
abbrev pub bands_stand : ℕ → List Band → Bool
bands_stand end [] = true
bands_stand end (x ∷ xs) = (band_stands end x && apart_from_all x xs) && bands_stand end xs

-- how many sectors a medium has whose last track is n
abbrev pub sectors_for : ℕ → ℕ
sectors_for n = 32 * (n + 3)

-- a layout of this format: the last track, the number of bands, a home at least, and the areas
abbrev pub valid : Layout → Bool
valid l =
    (nat_le 8 l.last && nat_le l.last 19999)
    && ((nat_le 1 l.count && nat_le l.count 8)
    && (nat_le 1 (block_count (bands_of l)) && bands_stand (sectors_for l.last) (bands_of l)))

-- areas are whole tracks
abbrev pub whole_tracks : Band → Bool
whole_tracks x = (x.maps % 32 == 0 && x.spares % 32 == 0) && (first_home x % 32 == 0 && homes_of x % 32 == 0)

abbrev pub unused : Band → Bool
unused x = (x.maps == 0 && x.spares == 0) && overflow x

-- what stands at place k of a layout's eight, of which the first `count` are in use
abbrev pub band_formed : ℕ → ℕ → Band → Bool
band_formed count k x = whole_tracks x && (nat_lt k count || unused x)
