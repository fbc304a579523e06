-- Numbers in bytes, the most significant byte first, and how many bytes a medium has.
use Rattle.std.specs.Prelude.{◌≡◌, ℕ, ◌+◌, ◌*◌, ◌/◌, ◌%◌, ◌≤◌, List, [], ◌∷◌, slice_index}

-- the number in the two bytes from byte i on
abbrev pub two_at : List ℕ → ℕ → ℕ
two_at d i = slice_index d i * 256 + slice_index d (i + 1)

-- the number in the four bytes from byte i on
abbrev pub four_at : List ℕ → ℕ → ℕ
four_at d i = slice_index d i * 16777216 + slice_index d (i + 1) * 65536 + slice_index d (i + 2) * 256 + slice_index d (i + 3)

-- the four bytes of a number
abbrev pub four_bytes : ℕ → List ℕ
four_bytes n = (n / 16777216 % 256) ∷ (n / 65536 % 256) ∷ (n / 256 % 256) ∷ (n % 256) ∷ []

-- `len` bytes are as many as p sectors take, each of them `bytes`
abbrev pub HoldsSectors : ℕ → ℕ → ℕ → Type 0
HoldsSectors bytes len p = (1 ≤ p) × (p ≤ 640064) × (len ≡ bytes * p)
