use Rattle.format.proofs.Undoing.{undo_each_other}
use Rattle.format.proofs.addressing.address_of.Goals as goal

pub returns-then-tracks_before-FIRST_TRACK-clause-undone : goal.returns-then-tracks_before-FIRST_TRACK-clause-undone
returns-then-tracks_before-FIRST_TRACK-clause-undone g c = undo_each_other _ _ g.A.Addressing.few.0 g.A.Addressing.near

pub returns-clause-undone : goal.returns-clause-undone
returns-clause-undone g c = undo_each_other _ _ g.A.Addressing.few.0 g.A.Addressing.near
