-- The twelve bytes beside a block: three pointers to sectors.
use Rattle.std.specs.Prelude.{ℕ, ◌+◌, ◌*◌, ◌/◌, ◌%◌, List, [], ◌∷◌, ◌++◌, slice_index}

-- two bytes of track, one for the place on it, and (FF)
abbrev pub pointer_to : ℕ → List ℕ
pointer_to p = p / 31 / 256 ∷ p / 31 % 256 ∷ p % 31 ∷ 0xFF ∷ []

-- to the first of some spares, or four (FF) where there is none
abbrev pub pointer_to_first : List ℕ → List ℕ
pointer_to_first [] = 0xFF ∷ 0xFF ∷ 0xFF ∷ 0xFF ∷ []
pointer_to_first (p ∷ ps) = pointer_to p

-- a home points to itself, and twice to the first of its spares
unfoldable pub home_tail : ℕ → List ℕ → List ℕ
home_tail h ps = pointer_to h ++ (pointer_to_first ps ++ pointer_to_first ps)

-- a spare points to itself, and twice to the home that it stands for
unfoldable pub spare_tail : ℕ → ℕ → List ℕ
spare_tail p h = pointer_to p ++ (pointer_to h ++ pointer_to h)

-- the sector to which the second pointer of an image leads
unfoldable pub target : List ℕ → ℕ
target image = (slice_index image 516 * 256 + slice_index image 517) * 31 + slice_index image 518
