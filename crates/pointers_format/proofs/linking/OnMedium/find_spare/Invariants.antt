use Rattle.std.proofs.Common.{◌≡◌}
use Rattle.format.specs.Blocks.{spare_of}
use Rattle.pointers_format.specs.Linking.{links, links_among}
use Rattle.pointers_format.proofs.linking.OnMedium.find_spare.Given as goal

abbrev pub invariant-loop-spare : goal.invariant-loop-spare
invariant-loop-spare g l =
    let s = g.M.Medium.sectors l.self.medium.now in
    spare_of (links_among s l.spare-iterator) l.home ≡ spare_of (links l.self.geometry.now.layout s) l.home
