use Rattle.std.proofs.Common.{arith}
use Rattle.pointers.proofs.Listing.{start_held}
use Rattle.pointers.proofs.Ruled.{rules_held}
use Rattle.pointers.proofs.pointers.Pointers.secondary_start.Goals as goal

pub start_of-requires : goal.start_of-requires
start_of-requires c = start_held c.args.self.now c.requires

pub returns-clause-low : goal.returns-clause-low
returns-clause-low c =
    let p = c.args.self.now in
    let h = start_held p c.requires in
    omega (arith, (rules_held p).most_spares)
