use Rattle.std.proofs.Common.{◌≡◌, ℕ, ◌<◌, ◌≤◌, get_or, rules, refl, arith}
use Rattle.std.proofs.lemmas.Iterator.{YieldsList-from_range, cases_from_all}
use Rattle.std.proofs.lemmas.Iterator.Search.{true_from_All}
use Rattle.std.proofs.lemmas.List.FromFn.{get_or-range_with_len, length-range_with_len}
use Rattle.std.specs.List.{range_with_len}
use Rattle.plate.specs.Cells.{mark_at}
use Rattle.plate.proofs.cells.are_marked.Goals as goal

number : (p k d : ℕ) → k < p → get_or (range_with_len 0 p) k d ≡ k
number p k d l = omega (arith, get_or-range_with_len 0 p k d l)

pub returns : goal.returns
returns c =
    let xs = c.args.memory.now in
    let p = c.args.count in
    let low = λ (i : ℕ). mark_at xs i ≤ 1 in
    let high = λ (i : ℕ). 1 < mark_at xs i in
    let h = cases_from_all _ _ _ low high c.all.ensures.ran (YieldsList-from_range 0 p p refl (omega arith)) (λ x q k. search rules) (λ x q k. search rules) in (
      (λ e i l. let each = rw e at h in rw (number p i 0 l) at (each i 0 (omega arith) (omega (arith, length-range_with_len 0 p)))),
      (λ m. true_from_All low high _ _ (λ i a b. omega arith) h (λ k d l. let b : k < p = omega (arith, length-range_with_len 0 p) in rw (number p k d b) (m k b))),
    )
