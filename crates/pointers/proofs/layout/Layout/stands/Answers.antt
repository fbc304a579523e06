use Rattle.std.proofs.Common.{sym, arith}
use Rattle.pointers.proofs.Ruled.{first_track_small}
use Rattle.pointers.proofs.layout.Layout.stands.Goals as goal

pub overflow_cast-first_track : goal.overflow_cast-first_track
overflow_cast-first_track c =
    let h = first_track_small c.args.last c.args.self.now (sym c.if-is_valid.ensures) in
    let e = c.first_track.ensures in
    omega arith
