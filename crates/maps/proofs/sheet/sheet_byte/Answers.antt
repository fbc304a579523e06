use Rattle.std.proofs.Common.{◌≡◌, ◌-◌, ◌/◌, ◌<◌, length, sym, ap, subst, arith}
use Rattle.maps.proofs.Found.{band_found, long}
use Rattle.maps.proofs.Written.{writable}
use Rattle.maps.specs.Places.{no_band}
use Rattle.maps.specs.Sheets.{Writable}
use Rattle.maps.proofs.sheet.sheet_byte.Goals as goal

pub entry_byte-requires-clause-fitting : goal.entry_byte-requires-clause-fitting
entry_byte-requires-clause-fitting c =
    let l = c.args.layout.now in
    let eight : length l.bands ≡ 8 = omega arith in
    let many = long l c.requires eight in
    let within = c.in-Some.ensures.lookup.3.0 in
    let known : (c.args.at - 3) / 8 < l.count = omega (arith, ap length c.bands_in_use.ensures) in
    subst Writable (sym (band_found l _ _ _ c.bands_in_use.ensures known (c.in-Some.ensures.lookup.3.1 no_band))) (writable l c.requires eight _ known)
