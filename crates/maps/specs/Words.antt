-- What an area is used for, in words.
use Rattle.std.specs.Prelude.{ℕ, List, codes}
use Rattle.maps.specs.declared.bands.Purpose.{Purpose}
use Rattle.maps.specs.declared.bands.Purpose.TheVariants.{Map, Alternative, Prime}

abbrev pub purpose_in_words : Purpose → List ℕ
purpose_in_words Map = codes "map"
purpose_in_words Alternative = codes "alternative"
purpose_in_words Prime = codes "prime"
