use Rattle.std.proofs.Common.{◌+◌, ◌*◌, sym, ◌∙◌, subst}
use Rattle.pointers.proofs.Listing.{added, areas_by, areas_joined}
use Rattle.pointers.proofs.Ruled.{rules_held, size_held}
use Rattle.pointers.specs.Areas.{Joined, areas_of}
use Rattle.pointers.specs.Rules.{last_track}
use Rattle.pointers.proofs.pointers.Pointers.areas.Goals as goal

pub returns : goal.returns
unfolding areas_of
returns c =
    let p = c.args.self.now in
    let n = last_track p.sectors in
    let e =
    added _ _ _ _ _ _ _ _ _ _ _ _ _ c.new-areas.ensures.items c.in_ok-add.ensures c.in_ok-add-2.ensures c.in_ok-add_groups.ensures c.in_ok-add-3.ensures c.in_ok-add-4.ensures c.in_ok-add-5.ensures
    ∙ λ i. areas_by p.layout (c.start_of-front.ensures i) (c.data_start.ensures i) (c.groups_end.ensures i) (c.zone_end-zone_end.ensures i) (c.copies_start-copies.ensures i) ((size_held p).whole i) in
    record { areas = e; whole = subst (Joined 0 (31 * (n + 1))) (sym e) (areas_joined n p.layout (rules_held p) (size_held p).least) }
