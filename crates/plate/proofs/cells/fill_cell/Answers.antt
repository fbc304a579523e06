use Rattle.std.proofs.Common.{◌≡◌, ℕ, ◌+◌, ◌-◌, ◌*◌, ◌<◌, ◌∷◌, [], List, length, take, drop, arith}
use Rattle.std.proofs.Math.ListN.{set}
use Rattle.std.proofs.lemmas.List.{drop-drop, drop_all, append-nil, length-drop, length-take}
use borrow.Rule.Slice.PartMut.{put_mid}
use Rattle.plate.proofs.cells.fill_cell.Goals as goal

-- a cell once all behind its mark is written and then the mark
filled : (cell image : List ℕ) → 0 < length cell → set (put_mid 1 (length cell - 1) cell image) 0 1 ≡ 1 ∷ image
filled [] image h = absurd (omega arith)
filled (mark ∷ rest) image h = rw (drop_all (length (mark ∷ rest) - 1) rest (omega arith), append-nil)

pub returns : goal.returns
returns c =
    let xs = c.args.memory.now in
    let a = 525 * c.args.sector in
    let part : a + 525 - a ≡ 525 = omega arith in
    rw (part, filled (take 525 (drop a xs)) _ (omega (arith, length-take 525 (drop a xs), length-drop a xs)), c.copy_from_slice.ensures.after, drop-drop)
