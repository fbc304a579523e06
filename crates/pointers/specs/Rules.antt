-- The rules of a layout on a medium with the last track n, in words and as a test.
use Rattle.std.specs.Prelude.{◌≡◌, ℕ, ◌+◌, ◌-◌, ◌*◌, ◌/◌, ◌%◌, ◌≤◌, Bool, cond, ◌&&◌, ◌||◌, ◌⊎◌, ◌==◌, ◌≢◌, nat_le}
use Rattle.pointers.specs.Places.{groups_end}
use Rattle.pointers.specs.declared.layout.Layout.{Layout}

-- a medium of p sectors has the tracks 0 to n, as many as the format takes
pub record Sized (p n : ℕ) : Type 0 where
  pub whole : p ≡ 31 * (n + 1)
  pub least : 6 ≤ n
  pub most : n ≤ 19999

-- k tracks of spares from track 3 on, or right before track n - 2
pub record SecondaryTracks (n : ℕ) (l : Layout) (k : ℕ) : Type 0 where
  pub some : 1 ≤ k
  pub whole : l.secondary ≡ 31 * k
  pub place : (l.start ≡ 3) ⊎ (l.start + k + 2 ≡ n)

-- there is no secondary area, and then four bytes (FF) for its start, or it is some whole tracks
abbrev pub SecondaryArea : ℕ → Layout → Type 0
SecondaryArea n l = ((l.secondary ≡ 0) × (l.start ≡ 0xFFFFFFFF)) ⊎ ((k : ℕ) × SecondaryTracks n l k)

-- the secondary area lies behind the groups
abbrev pub SecondaryBehind : Layout → Type 0
SecondaryBehind l = (l.secondary ≢ 0) × (l.start ≢ 3)

-- the layout keeps the rules
pub record LayoutRules (n : ℕ) (l : Layout) : Type 0 where
  pub some_groups : 1 ≤ l.groups
  pub most_groups : l.groups ≤ 65535
  pub some_homes : 1 ≤ l.homes
  pub most_spares : l.groups * l.spares + l.secondary ≤ 1024
  pub area : SecondaryArea n l
  -- the groups end before track n - 2, and before a secondary area behind them
  pub before_copies : groups_end l ≤ 31 * (n - 2)
  pub before_secondary : SecondaryBehind l → groups_end l ≤ 31 * l.start

-- the test of the size: 7 to 20,000 whole tracks
abbrev pub fits_format : ℕ → Bool
fits_format p = p % 31 == 0 && (nat_le 217 p && nat_le p 620000)

-- the last track of a medium that passes it
abbrev pub last_track : ℕ → ℕ
last_track p = p / 31 - 1

-- the test of the counts
abbrev pub counts_valid : Layout → Bool
counts_valid l =
    (nat_le 1 l.groups && nat_le l.groups 65535) && (nat_le 1 l.homes && nat_le (l.groups * l.spares + l.secondary) 1024)

-- the test of the secondary area
abbrev pub secondary_valid : ℕ → Layout → Bool
secondary_valid n l =
    cond (l.secondary == 0) (l.start == 0xFFFFFFFF) (l.secondary % 31 == 0 && (l.start == 3 || l.start + l.secondary / 31 + 2 == n))

-- the test that the groups have room
abbrev pub groups_valid : ℕ → Layout → Bool
groups_valid n l =
    nat_le (groups_end l) (31 * (n - 2)) && ((l.secondary == 0 || l.start == 3) || nat_le (groups_end l) (31 * l.start))

-- all of them: whether the layout keeps the rules
unfoldable pub layout_valid : ℕ → Layout → Bool
layout_valid n l = counts_valid l && (secondary_valid n l && groups_valid n l)
