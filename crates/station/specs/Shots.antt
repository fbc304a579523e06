-- The sector of one shot.
use Rattle.std.specs.Prelude.{ℕ, ◌/◌, ◌%◌, List, ◌∷◌, ◌++◌, replicate}
use Rattle.medium.specs.Bytes.{four_bytes}

-- a number in eight bytes, the most significant first
abbrev pub eight_bytes : ℕ → List ℕ
eight_bytes n =
    (n / 72057594037927936 % 256) ∷ (n / 281474976710656 % 256) ∷ (n / 1099511627776 % 256) ∷ (n / 4294967296 % 256)
    ∷ four_bytes n

-- the number of the shot, its time of flight, and (FF) to the end
abbrev pub shot_bytes : ℕ → ℕ → List ℕ
shot_bytes shot flight = four_bytes shot ++ (eight_bytes flight ++ replicate 512 255)
