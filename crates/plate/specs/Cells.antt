-- The bytes of a plate: for each sector a cell of 525 bytes, a mark and then the sector's 524 bytes.
use Rattle.std.specs.Prelude.{ℕ, ◌+◌, ◌*◌, ◌<◌, ◌≤◌, cond, ◌&&◌, List, ◌∷◌, ◌++◌, length, take, drop, ◌==◌, slice_index}
use Rattle.medium.specs.Calls.{reaches}
use Rattle.medium.specs.Sectors.{State, blank, burnt}

-- the mark of sector i: 0 blank, 1 burnt
abbrev pub mark_at : List ℕ → ℕ → ℕ
mark_at bytes i = slice_index bytes (525 * i)

abbrev pub image_at : List ℕ → ℕ → List ℕ
image_at bytes i = take 524 (drop (525 * i + 1) bytes)

abbrev pub state_at : List ℕ → ℕ → State
state_at bytes i = cond (mark_at bytes i == 0) blank (burnt (image_at bytes i))

-- each of the p marks is 0 or 1
abbrev pub Marked : List ℕ → ℕ → Type 0
Marked bytes p = (i : ℕ) → i < p → mark_at bytes i ≤ 1

-- the bytes once cell i has the mark 1 and the image; every byte before and behind the cell is as it was
abbrev pub with_image : List ℕ → ℕ → List ℕ → List ℕ
with_image bytes i image = take (525 * i) bytes ++ ((1 ∷ image) ++ drop (525 * i + 525) bytes)

-- the bytes of a plate of p sectors once a burn was asked for
abbrev pub bytes_after : List ℕ → ℕ → ℕ → List ℕ → List ℕ
bytes_after bytes p i image = cond (reaches p i (length image) && mark_at bytes i == 0) (with_image bytes i image) bytes
