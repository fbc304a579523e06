use Rattle.std.proofs.Common.{◌≡◌, length, rules, arith}
use Rattle.maps.proofs.Made.{made_by}
use Rattle.maps.proofs.Written.{read_back}
use Rattle.maps.specs.Sheets.{sheet_byte, sheet_of}
use Rattle.maps.proofs.maps.Maps.write.Goals as goal

pub returns : goal.returns
returns c =
    let m = c.args.self.now in
    let eight : length m.layout.bands ≡ 8 = omega arith in
    let bytes : c.from_fn.result ≡ sheet_of m.layout = made_by _ _ (sheet_byte m.layout) (λ i y q k. search rules) c.from_fn.result 512 0 c.from_fn.ensures.items in
    record { bytes = bytes; back = read_back m.layout m.kept eight m.formed c.from_fn.result bytes }
