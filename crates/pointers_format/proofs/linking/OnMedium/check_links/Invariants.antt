use Rattle.pointers_format.proofs.Checking.{Checking}
use Rattle.pointers_format.proofs.linking.OnMedium.check_links.Given as goal

abbrev pub invariant-loop-spare : goal.invariant-loop-spare
invariant-loop-spare g l = Checking l.self.geometry.now.layout (g.M.Medium.sectors l.self.medium.now) l.named l.spare-iterator
