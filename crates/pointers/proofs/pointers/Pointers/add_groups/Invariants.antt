use Rattle.std.proofs.Common.{◌≡◌, ◌++◌, vec_items}
use Rattle.pointers.specs.Areas.{areas_of_groups}
use Rattle.pointers.proofs.pointers.Pointers.add_groups.Given as goal

abbrev pub invariant-loop-group : goal.invariant-loop-group
invariant-loop-group l = vec_items l.areas ≡ vec_items l.initial.areas ++ areas_of_groups l.self.layout l.group
