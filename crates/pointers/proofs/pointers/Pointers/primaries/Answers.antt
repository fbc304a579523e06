use Rattle.std.proofs.Common.{arith, ap, refl, ◌∙◌}
use Rattle.pointers.proofs.Turns.{in_range_run}
use Rattle.pointers.specs.Places.{primaries}
use Rattle.std.specs.List.{range_with_len}
use Rattle.pointers.proofs.pointers.Pointers.primaries.Goals as goal

pub returns : goal.returns
unfolding primaries
returns c =
    let l = c.args.self.now.layout in
    let e = c.group_start.ensures in
    in_range_run _ _ _ refl ∙ ap (λ a. range_with_len a l.spares) (omega arith)
