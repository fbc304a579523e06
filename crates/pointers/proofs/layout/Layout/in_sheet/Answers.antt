use Rattle.std.proofs.Common.{◌∙◌}
use Rattle.pointers.specs.Sheets.{layout_in}
use Rattle.pointers.proofs.layout.Layout.in_sheet.Goals as goal

pub returns : goal.returns
unfolding layout_in
returns c =
    λ i. record {
      groups = (c.from.ensures ∙ c.two_at.ensures) i;
      homes = c.four_at.ensures i;
      spares = c.four_at-2.ensures i;
      start = c.four_at-3.ensures i;
      secondary = c.four_at-4.ensures i;
    }
