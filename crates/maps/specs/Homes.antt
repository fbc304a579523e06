-- Where the homes of a layout lie.
use Rattle.std.specs.Prelude.{◌≡◌, ℕ, ◌<◌, ◌≤◌}
use Rattle.maps.specs.Places.{InArea, band_of, blocks, home, sectors_for}
use Rattle.maps.specs.declared.bands.Layout.{Layout}
use Rattle.maps.specs.declared.bands.Purpose.{Purpose}
use Rattle.maps.specs.declared.bands.Purpose.TheVariants.{Prime}

pub record HomesPlaced (l : Layout) : Type 0 where
  -- a home is a sector of the medium, from track 0 on
  pub low : (b : ℕ) → b < blocks l → 64 ≤ home l b
  pub on_medium : (b : ℕ) → b < blocks l → home l b < sectors_for l.last
  -- homes rise with the blocks, so two blocks have two homes
  pub rising : (b c : ℕ) → c < blocks l → b < c → home l b < home l c
  pub two_homes : (b c : ℕ) → b < blocks l → c < blocks l → home l b ≡ home l c → b ≡ c
  -- a home lies in a prime area and in no other, and every prime sector is one
  pub only_prime : (b k : ℕ) (a : Purpose) → b < blocks l → k < l.count → InArea (band_of l k) a (home l b) → a ≡ Prime
  pub every_prime : (k i : ℕ) → k < l.count → InArea (band_of l k) Prime i → (b : ℕ) × (b < blocks l) × (home l b ≡ i)
