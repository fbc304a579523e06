use Rattle.std.proofs.Common.{rules}
use Rattle.maps.proofs.Made.{made_by}
use Rattle.maps.specs.Places.{no_band}
use Rattle.maps.specs.Sheets.{band_or_none}
use Rattle.maps.proofs.sheet.layout_in.Goals as goal

pub returns : goal.returns
returns c =
    let bands = made_by _ _ (band_or_none c.args.sheet.now) (λ i y q k. search rules) c.from_fn.result 8 no_band c.from_fn.ensures.items in
    cc
