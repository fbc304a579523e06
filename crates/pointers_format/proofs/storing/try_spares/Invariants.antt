use Rattle.pointers_format.proofs.Trying.{Trying}
use Rattle.pointers_format.proofs.storing.try_spares.Given as goal
use Rattle.pointers.specs.Places.{home}
use Rattle.pointers.specs.Spares.{spares_of}

abbrev pub invariant-loop-spare : goal.invariant-loop-spare
invariant-loop-spare g l =
    Trying (home l.geometry.layout l.block) l.bytes (g.M.Medium.sectors l.initial.medium) (g.M.Medium.sectors l.medium) (spares_of l.geometry.layout l.block) l.spare-iterator
