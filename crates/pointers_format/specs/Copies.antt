-- The copies of the layout on a medium.
use Rattle.std.specs.Prelude.{ℕ, ◌+◌, ◌-◌, ◌*◌, List, [], ◌∷◌, ◌++◌, replicate}
use Rattle.pointers.specs.Sheets.{sheet_of}
use Rattle.pointers.specs.declared.layout.Layout.{Layout}

-- where they stand on a medium with the last track n: 0/0, 1/15, n - 2/0 and n - 1/15
unfoldable pub copies : ℕ → List ℕ
copies n = 0 ∷ 46 ∷ 31 * (n - 2) ∷ (31 * (n - 1) + 15) ∷ []

-- the sheet, and twelve bytes (FF)
abbrev pub copy_image : Layout → List ℕ
copy_image l = sheet_of l ++ replicate 12 0xFF
