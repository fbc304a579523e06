-- What an area is for, in words.
use Rattle.std.specs.Prelude.{ℕ, List, ◌++◌, codes, decimal}
use Rattle.pointers.specs.declared.areas.Purpose.{Purpose}
use Rattle.pointers.specs.declared.areas.Purpose.TheVariants.{Copies, Secondary, Homes, Spares, Unused}

abbrev pub purpose_in_words : Purpose → List ℕ
purpose_in_words Copies = codes "copies of the layout"
purpose_in_words Secondary = codes "secondary spares"
purpose_in_words (Homes group) = codes "homes of group " ++ decimal group
purpose_in_words (Spares group) = codes "spares of group " ++ decimal group
purpose_in_words Unused = codes "not used"
