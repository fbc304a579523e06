use Rattle.std.proofs.Common.{ℕ, List, ◌++◌, drop, replicate, ap, ◌∙◌, ap₂}
use Rattle.std.proofs.lemmas.List.{append-nil, drop_at, take_at}
use Rattle.pointers_format.proofs.pointer.image_of.Goals as goal

pub returns : goal.returns
returns c =
    let first : List ℕ = c.copy_from_slice.new.self in
    let rest : List ℕ = replicate 12 0 in
    ap₂ ◌++◌ (take_at first rest 512 c.copy_from_slice.ensures.len ∙ c.copy_from_slice.ensures.after) (ap₂ ◌++◌ c.copy_from_slice-2.ensures.after (ap (drop 12) (drop_at first rest 512 c.copy_from_slice.ensures.len)) ∙ append-nil c.args.tail)
