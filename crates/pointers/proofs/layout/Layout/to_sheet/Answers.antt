use Rattle.std.proofs.Common.{replicate, ap, ◌∙◌, ap₂}
use Rattle.pointers.proofs.Written.{with_field, written}
use Rattle.pointers.specs.Sheets.{head}
use Rattle.pointers.proofs.layout.Layout.to_sheet.Goals as goal

pub returns : goal.returns
returns c =
    let first = c.put.ensures ∙ ap (with_field 0 (replicate 512 255)) (c.head.ensures ∙ ap head c.first_track.ensures) in
    let second = c.put-2.ensures ∙ ap₂ (with_field 4) first c.to_be_bytes.ensures in
    let third = c.put-3.ensures ∙ ap₂ (with_field 6) second c.to_be_bytes-2.ensures in
    let fourth = c.put-4.ensures ∙ ap₂ (with_field 10) third c.to_be_bytes-3.ensures in
    let fifth = c.put-5.ensures ∙ ap₂ (with_field 30) fourth c.to_be_bytes-4.ensures in
    c.put-6.ensures ∙ ap₂ (with_field 34) fifth c.to_be_bytes-5.ensures ∙ written c.args.self.now
