-- The two ways to name a sector: by a number from 0 on, and by a track and a place on it.
use Rattle.std.specs.Prelude.{◌≡◌, ℕ, Bool, true, negsuc, ◌≤ℤ◌, ◌≤◌, int_le, List, ◌&&◌, ◌++◌, ◌==◌, codes, decimal, ◌+◌, ◌*◌, ◌/◌, ◌%◌, cond, ℤ, pos, ◌+ℤ◌, ◌-ℤ◌, Some, None, Option, int_lt, nat_le, nat_lt, unsigned_abs}
use Rattle.std.proofs.Common.{arith}
use Rattle.std.proofs.lemmas.Bool.{and_parts, leb-true}
use Rattle.std.proofs.lemmas.Int.{ints}
use Rattle.std.specs.Fmt.{signed_decimal}
use Rattle.format.specs.declared.addressing.Address.{Address}

-- the number of an address: tracks run from the first to 19,999, and the places on a track from 0 to one less than there are
abbrev pub number_at : ℕ → ℤ → Address → Option ℕ
number_at per first a =
    cond (int_lt a.track first) None
    (cond (int_lt (pos 19999) a.track) None (cond (nat_lt a.sector per) (Some (unsigned_abs (a.track -ℤ first) * per + a.sector)) None))

abbrev pub last_index : ℤ → ℕ
last_index first = unsigned_abs (pos 19999 -ℤ first)

abbrev pub address_at : ℕ → ℤ → ℕ → Option Address
address_at per first n = cond (nat_le (n / per) (last_index first)) (Some (record { track = first +ℤ pos (n / per); sector = n % per })) None

-- each way undoes the other, for every number and every address that exists
pub record UndoEachOther (per : ℕ) (first : ℤ) : Type 0 where
  pub number_back : (n : ℕ) (a : Address) → address_at per first n ≡ Some a → number_at per first a ≡ Some n
  pub address_back : (a : Address) (n : ℕ) → number_at per first a ≡ Some n → address_at per first n ≡ Some a

-- n sectors are whole tracks: `least` of them at least, and no more than there can be
abbrev pub whole_tracks : ℕ → ℤ → ℕ → ℕ → Bool
whole_tracks per first least n = (n % per == 0) && (nat_le least (n / per) && nat_le (n / per) (last_index first + 1))

-- an address as a person reads it
abbrev pub address_in_words : Address → List ℕ
address_in_words a = signed_decimal a.track ++ (codes "/" ++ decimal a.sector)

-- what an addressing has to show of its constants, where they are known numbers
pub few_sectors : (n : ℕ) → (nat_le 1 n && nat_le n 32) ≡ true → (1 ≤ n) × (n ≤ 32)
few_sectors n h = let e = and_parts (nat_le 1 n) (nat_le n 32) h in (leb-true 1 n e.0, leb-true n 32 e.1)

pub near_zero : (z : ℤ) → (int_le (negsuc 1) z && int_le z (pos 0)) ≡ true → (negsuc 1 ≤ℤ z) × (z ≤ℤ pos 0)
near_zero z h = grind (arith, ints, and_parts (int_le (negsuc 1) z) (int_le z (pos 0)) h)
