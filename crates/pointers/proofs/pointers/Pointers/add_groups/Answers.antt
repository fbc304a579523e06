use Rattle.std.proofs.Common.{◌≡◌, suc, ◌+◌, ◌++◌, vec_items, ap, ◌∙◌, arith}
use Rattle.pointers.specs.Areas.{areas_of_groups, group_areas}
use Rattle.std.proofs.lemmas.List.{append_assoc}
use Rattle.pointers.proofs.pointers.Pointers.add_groups.Goals as goal

pub loop-group-preserved : goal.loop-group-preserved
loop-group-preserved c =
    let l = c.args.self.now.layout in
    let i = c.loop-group.group in
    let xs = vec_items c.args.areas.now in
    let more = group_areas l i in
    let next : suc i ≡ i + 1 = omega arith in
    c.in_ok-add_group.ensures
    ∙ ap (λ ys. ys ++ more) c.loop-group.invariant
    ∙ append_assoc xs (areas_of_groups l i) more
    ∙ ap (λ k. xs ++ areas_of_groups l k) next
