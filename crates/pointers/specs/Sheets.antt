-- The sheet of a layout: 512 bytes, the highest byte of each number first.
use Rattle.std.specs.Prelude.{◌≡◌, ℕ, ◌/◌, ◌%◌, Bool, ◌&&◌, List, [], ◌∷◌, ◌++◌, take, drop, replicate}
use Rattle.medium.specs.Bytes.{four_at, four_bytes, two_at}
use Rattle.pointers.specs.Places.{first_track}
use Rattle.pointers.specs.declared.layout.Layout.{Layout}
use Rattle.std.specs.Str.{bytes_eq}

-- a number in two bytes
abbrev pub two_bytes : ℕ → List ℕ
two_bytes x = (x / 256 % 256) ∷ (x % 256) ∷ []

-- the layout that the bytes give
unfoldable pub layout_in : List ℕ → Layout
layout_in d = record { groups = two_at d 4; homes = four_at d 6; spares = four_at d 10; start = four_at d 30; secondary = four_at d 34 }

-- the first four bytes, of which the third is the first track of the data zone
abbrev pub head : ℕ → List ℕ
head first = 0x0A ∷ 0x0A ∷ first ∷ 0x10 ∷ []

-- bytes 0 to 3 are those, and bytes 14 to 29 are (FF)
abbrev pub Marked : ℕ → List ℕ → Type 0
Marked first d = (take 4 d ≡ head first) × (take 16 (drop 14 d) ≡ replicate 16 0xFF)

-- the test of that
unfoldable pub marked : ℕ → List ℕ → Bool
marked first d = bytes_eq (take 4 d) (head first) && bytes_eq (take 16 (drop 14 d)) (replicate 16 0xFF)

-- the sheet of layout l, (FF) wherever it says nothing
unfoldable pub sheet_of : Layout → List ℕ
sheet_of l =
    head (first_track l)
    ++ (two_bytes l.groups ++ (four_bytes l.homes ++ (four_bytes l.spares ++ (replicate 16 0xFF ++ (four_bytes l.start ++ (four_bytes l.secondary ++ replicate 474 0xFF))))))
