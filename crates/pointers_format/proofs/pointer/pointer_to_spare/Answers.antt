use Rattle.std.proofs.Common.{◌∙◌, refl, sym, subst, arith}
use mathlib.Core.List.{Memᴰ}
use Rattle.pointers.proofs.Spared.{block_listed}
use Rattle.pointers.specs.Rules.{last_track}
use Rattle.pointers_format.specs.Mounted.{few_sectors, rules, spare_inside}
use Rattle.pointers_format.proofs.pointer.pointer_to_spare.Goals as goal

pub pointer_to-requires : goal.pointer_to-requires
pointer_to-requires c =
    let g = c.args.geometry.now in
    let b = c.args.block in
    let listed = subst (Memᴰ c.in-Some.spare) (sym c.in-Some.ensures.steps ∙ c.candidates.ensures.list) (Memᴰ.head refl) in
    let k = spare_inside g _ (block_listed (last_track g.sectors) g.layout (rules g) b _ c.requires listed) in
    let f = few_sectors g in
    omega arith
