use Rattle.std.proofs.Common.{◌++◌, replicate, ap, ◌∙◌}
use borrow.Rule.Slice.PartMut.{put_mid}
use Rattle.medium.specs.Bytes.{four_bytes}
use Rattle.station.proofs.evening.shot_image.Goals as goal

pub returns : goal.returns
returns c =
    ap (λ t. put_mid 4 8 (t ++ replicate 520 255) c.copy_from_slice-2.new.self) (c.copy_from_slice.ensures.after ∙ c.to_be_bytes.ensures)
    ∙ ap (put_mid 4 8 (four_bytes c.args.shot ++ replicate 520 255)) (c.copy_from_slice-2.ensures.after ∙ c.to_be_bytes-2.ensures)
