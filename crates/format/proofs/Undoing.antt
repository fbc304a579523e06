-- The two namings of a sector undo each other.
use Rattle.std.proofs.Common.{◌≡◌, ℕ, ◌+◌, ◌*◌, ◌/◌, ◌%◌, ◌<◌, ◌≤◌, Bool, true, false, cond, ltb, leb, ℤ, pos, negsuc, ◌+ℤ◌, ◌-ℤ◌, nat_abs, ◌≤ℤ◌, Some, None, sym, refl, ap, ◌∙◌, div-add-mod', arith}
use lib.Signed.{lt_z, yes_non_neg, pos-nat_abs}
use Rattle.format.specs.Addresses.{UndoEachOther, address_at, last_index, number_at}
use Rattle.format.specs.declared.addressing.Address.{Address}
use Rattle.std.proofs.lemmas.Nat.{div-mul-add, mod_below, mod-mul-add}
use Rattle.std.proofs.lemmas.Int.{ints}
use Rattle.std.proofs.lemmas.Option.{cond_some}
use Rattle.std.proofs.lemmas.Bool.{cond-true, le-leb, leb-true, lt-ltb, ltb-true}

tests : (a b c : Bool) (m n : ℕ) → cond a None (cond b None (cond c (Some m) None)) ≡ Some n → (a ≡ false) × (b ≡ false) × (c ≡ true) × (m ≡ n)
tests true b c m n e = let z : ◌≡◌ {A = ℕ} 0 1 = cc in absurd (omega arith)
tests false true c m n e = let z : ◌≡◌ {A = ℕ} 0 1 = cc in absurd (omega arith)
tests false false false m n e = let z : ◌≡◌ {A = ℕ} 0 1 = cc in absurd (omega arith)
tests false false true m n e = (refl, refl, refl, cc)

module _ (per : ℕ) (first : ℤ) (some : 1 ≤ per) (low : negsuc 1 ≤ℤ first) (high : first ≤ℤ pos 0) where
  last_is : pos (last_index first) ≡ pos 19999 -ℤ first
  last_is =
      let le : pos 0 ≤ℤ (pos 19999 -ℤ first) = grind (arith, ints) in
      pos-nat_abs (pos 19999 -ℤ first) (yes_non_neg le)

  number_back : (n : ℕ) (a : Address) → address_at per first n ≡ Some a → number_at per first a ≡ Some n
  number_back n a e =
      let h = cond_some (leb (n / per) (last_index first)) _ a e in
      let few : n / per ≤ last_index first = leb-true (n / per) (last_index first) h.0 in
      let up : lt_z (first +ℤ pos (n / per)) first ≡ false = grind (arith, ints) in
      let down : lt_z (pos 19999) (first +ℤ pos (n / per)) ≡ false = grind (arith, ints, last_is, few) in
      let on : ltb (n % per) per ≡ true = lt-ltb (n % per) per (mod_below n per some) in
      let d : (first +ℤ pos (n / per)) -ℤ first ≡ pos (n / per) = omega (arith, ints) in
      ap (number_at per first) (sym h.1) ∙ rw (up, down, on, d) (ap Some (div-add-mod' n per))

  address_back : (a : Address) (n : ℕ) → number_at per first a ≡ Some n → address_at per first n ≡ Some a
  address_back a n e =
      let w = tests (lt_z a.track first) (lt_z (pos 19999) a.track) (ltb a.sector per) _ n e in
      let up = w.0 in
      let down = w.1 in
      let on : a.sector < per = ltb-true a.sector per w.2 in
      let k : ℕ = nat_abs (a.track -ℤ first) in
      let le : pos 0 ≤ℤ (a.track -ℤ first) = grind (arith, ints) in
      let z : pos k ≡ a.track -ℤ first = pos-nat_abs (a.track -ℤ first) (yes_non_neg le) in
      let few : k ≤ last_index first = grind (arith, ints, last_is) in
      let m : k * per + a.sector ≡ n = w.3 in
      let q : n / per ≡ k = ap (λ x. x / per) (sym m) ∙ div-mul-add k per a.sector on in
      let r : n % per ≡ a.sector = ap (λ x. x % per) (sym m) ∙ mod-mul-add k per a.sector on in
      let g : first +ℤ pos k ≡ a.track = omega (arith, ints) in
      cond-true (leb (n / per) (last_index first)) _ _ (le-leb (n / per) (last_index first) (omega (arith, q, few)))
      ∙ ap Some (λ i. record { track = (ap (λ x. first +ℤ pos x) q ∙ g) i; sector = r i })

pub undo_each_other : (per : ℕ) (first : ℤ) → 1 ≤ per → (negsuc 1 ≤ℤ first) × (first ≤ℤ pos 0) → UndoEachOther per first
undo_each_other per first some near =
    record { number_back = number_back per first some near.0 near.1; address_back = address_back per first some near.0 near.1 }
