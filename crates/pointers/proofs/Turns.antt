-- What ranges and lists of spares give, turn by turn. No file that specs/ leads to imports this one.
use Rattle.std.proofs.Common.{◌≡◌, ℕ, suc, ◌+◌, ◌-◌, List, [], ◌∷◌, ◌++◌, sym, ap, ◌∙◌, ap₂, subst, refl, arith}
use mathlib.Core.List.Memᴰ
use mathlib.Core.List.{Memᴰ}
use Rattle.std.specs.List.{range_with_len}
use Rattle.pointers.specs.Ranges.{in_range}
use Rattle.std.proofs.iter.Yields.{nat_range_steps}
use Rattle.std.proofs.lemmas.List.{map-id}
use Rattle.std.proofs.lemmas.Map.Iter.{rest_so_far}
use Rattle.std.specs.Iterator.{Yields, YieldsFirst}
use Rattle.std.specs.Prelude.{Some, None}
use Rattle.std.specs.declared.ops.Range.{Range}

-- a range gives the first number that it has left
pub range_first : (s t : Range ℕ) (x : ℕ) → nat_range_steps s (Some x) t → in_range s ≡ x ∷ in_range t
range_first s t x h =
    let i = h.0 in
    let some = h.1.0 in
    let more = h.1.2 in
    let left : s.end - s.start ≡ suc (t.end - t.start) = omega arith in
    let next : s.start + 1 ≡ t.start = omega arith in
    ap (range_with_len s.start) left ∙ ap₂ (λ y a. y ∷ range_with_len a (t.end - t.start)) (sym h.1.1) next

pub range_done : (s t : Range ℕ) → nat_range_steps s None t → (in_range s ≡ []) × (in_range t ≡ [])
range_done s t h =
    let i = h.0 in
    let same = h.1.1 in
    let none = h.1.0 in
    let left : t.end - t.start ≡ 0 = omega arith in
    (ap (range_with_len s.start) none, ap (range_with_len t.start) left)

-- the numbers from a on up to b
pub in_range_run : (a b k : ℕ) → b ≡ a + k → in_range (record { start = a; end = b }) ≡ range_with_len a k
in_range_run a b k e = let left : b - a ≡ k = omega arith in ap (range_with_len a) left

-- what an iterator that shows what it has left gives next is in the list that it was made of
pub turn_within : (s t xs : List ℕ) → Yields (YieldsFirst (λ rest. rest)) s xs t → (all : List ℕ) → s ≡ all → (later : List ℕ) (x : ℕ) → t ≡ x ∷ later → Memᴰ x all
turn_within s t xs so_far all of later x more =
    let e = rest_so_far (λ y. y) xs s t so_far ∙ ap₂ ◌++◌ (map-id xs) more in
    subst (Memᴰ x) (sym e ∙ of) (Memᴰ.append_right xs (Memᴰ.head refl))
