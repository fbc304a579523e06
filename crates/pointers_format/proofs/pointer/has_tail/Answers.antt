use Rattle.std.proofs.Common.{ℕ, ◌≤◌, List, length, take, drop, ap, ◌∙◌, arith}
use Rattle.std.proofs.lemmas.Slice.Eq.{slice_eq-Decides, bytes_eq-Decides}
use Rattle.std.proofs.lemmas.List.{length-drop, take_all}
use Rattle.std.proofs.lemmas.Bool.Decides.{same_from_decides, Decides-eqb}
use Rattle.std.specs.Str.{bytes_eq}
use Rattle.pointers_format.proofs.pointer.has_tail.Goals as goal

pub returns : goal.returns
returns c =
    let tail : List ℕ = drop 512 c.args.image.now in
    let short : length tail ≤ 12 = omega (arith, length-drop 512 c.args.image.now) in
    same_from_decides c.eq.result (bytes_eq (take 12 tail) c.args.tail) (slice_eq-Decides Decides-eqb _ _ _ c.eq.ensures) (bytes_eq-Decides (take 12 tail) c.args.tail) ∙ ap (λ xs. bytes_eq xs c.args.tail) (take_all 12 tail short)
