-- Parts of lists that agree.
use Rattle.std.proofs.Common.{◌≡◌, ℕ, ◌+◌, ◌<◌, ◌≤◌, List, length, get_or, take, drop, ap, ◌∙◌, arith}
use Rattle.std.proofs.lemmas.List.{same_lists, length-take, length-drop, get_or-take, get_or-drop, take_all}

-- two lists that agree on a stretch have the same part there
pub part_same : (xs ys : List ℕ) (n a : ℕ) → length xs ≡ length ys → ((j d : ℕ) → a ≤ j → j < a + n → get_or xs j d ≡ get_or ys j d) → take n (drop a xs) ≡ take n (drop a ys)
part_same xs ys n a e h =
    same_lists
    (take n (drop a xs))
    (take n (drop a ys))
    (simp (length-take, length-drop) (omega arith))
    (λ k d l.
    let m : k < n = omega (arith, length-take n (drop a xs), length-drop a xs) in
    rw (get_or-take n (drop a xs), get_or-take n (drop a ys), get_or-drop a xs, get_or-drop a ys) (h (a + k) d (omega arith) (omega arith)))

-- the first n of the first m, where m is n
pub front_of_front : (n m : ℕ) (xs ys : List ℕ) → ys ≡ take n (take m xs) → m ≡ n → ys ≡ take n xs
front_of_front n m xs ys e h =
    e ∙ take_all n (take m xs) (omega (arith, length-take m xs)) ∙ ap (λ k. take k xs) h
