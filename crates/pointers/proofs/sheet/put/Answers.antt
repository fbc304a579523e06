use Rattle.std.proofs.Common.{◌≡◌, ◌+◌, ◌-◌, ◌++◌, length, take, drop, ap, ◌∙◌, ap₂, arith}
use Rattle.std.proofs.lemmas.List.{drop-drop}
use Rattle.pointers.proofs.sheet.put.Goals as goal

pub returns : goal.returns
returns c =
    let xs = c.args.sheet.now in
    let at = c.args.at in
    let k = length c.args.field.now in
    let q : at + (at + k - at) ≡ at + k = omega arith in
    ap₂ (λ ys zs. take at xs ++ (ys ++ zs)) c.copy_from_slice.ensures.after (drop-drop (at + k - at) at xs ∙ ap (λ j. drop j xs) q)
