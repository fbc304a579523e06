-- The number by which each refusal is known, and the name of each layer.
use Rattle.std.specs.Prelude.{ℕ, List, ◌++◌, codes, decimal}
use Rattle.medium.specs.declared.faults.Fault.{Fault}
use Rattle.medium.specs.declared.faults.Layer.{Layer}
use Rattle.medium.specs.declared.faults.Layer.TheVariants.{Medium, Format, Volume}
use Rattle.medium.specs.declared.faults.Refusal.{Refusal}
use Rattle.medium.specs.declared.faults.Refusal.TheVariants.{WrongMemory, BrokenForm, WrongLength, NoSuchSector, AlreadyBurnt, WrongSectorCount, NoSoundLayout, BrokenLayout, NotBlank, LayoutNotBurnt, FaultyLink, NoSuchBlock, BlockTaken, NoPlaceLeft, BlockUnwritten, BlockLost}

abbrev pub number_of : Refusal → ℕ
number_of WrongMemory = 1
number_of BrokenForm = 2
number_of WrongLength = 3
number_of NoSuchSector = 4
number_of AlreadyBurnt = 5
number_of WrongSectorCount = 6
number_of NoSoundLayout = 7
number_of BrokenLayout = 8
number_of NotBlank = 9
number_of LayoutNotBurnt = 10
number_of FaultyLink = 11
number_of NoSuchBlock = 12
number_of BlockTaken = 13
number_of NoPlaceLeft = 14
number_of BlockUnwritten = 15
number_of BlockLost = 16

abbrev pub layer_name : Layer → List ℕ
layer_name Medium = codes "medium"
layer_name Format = codes "format"
layer_name Volume = codes "volume"

-- a refusal that the layer finds
abbrev pub fault_of : Layer → Refusal → ℕ → Fault
fault_of layer why place = record { refusal = why; layer = layer; place = place }

abbrev pub medium_fault : Refusal → ℕ → Fault
medium_fault = fault_of Medium

-- a fault as a person reads it
abbrev pub fault_in_words : Fault → List ℕ
fault_in_words f =
    codes "refusal " ++ (decimal (number_of f.refusal) ++ (codes " of the " ++ (layer_name f.layer ++ (codes " at " ++ decimal f.place))))
