use Rattle.std.proofs.Common.{◌∙◌, arith}
use Rattle.pointers.proofs.Turns.{turn_within}
use Rattle.pointers_format.specs.Mounted.{spare_inside}
use Rattle.pointers_format.proofs.linking.OnMedium.find_spare.Goals as goal

pub is_named-requires : goal.is_named-requires
is_named-requires g c =
    let all = c.into_iter-spare-iterator.ensures.into_iter_gives ∙ c.spares-spare-items.ensures.all in
    let k = spare_inside c.args.self.now.geometry.now _ (turn_within _ _ _ c.loop-spare.yielded_by _ all _ _ c.in-Some.ensures.steps) in
    omega arith
