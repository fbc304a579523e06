use Rattle.std.proofs.Common.{ap, ◌∙◌, arith}
use Rattle.pointers.proofs.Ruled.{first_track_small, rules_held}
use Rattle.pointers.proofs.Written.{read_back}
use Rattle.pointers.specs.Reading.{sheet_read}
use Rattle.pointers.specs.Rules.{last_track}
use Rattle.pointers.proofs.pointers.Pointers.write.Goals as goal

pub to_sheet-requires : goal.to_sheet-requires
to_sheet-requires c =
    let p = c.args.self.now in
    let h = first_track_small (last_track p.sectors) p.layout p.valid in
    let r = rules_held p in
    (omega arith, omega arith)

pub returns : goal.returns
returns c =
    let p = c.args.self.now in
    let e = c.to_sheet.ensures in
    record { bytes = e; back = ap (sheet_read p.sectors) e ∙ read_back p }
