-- The numbers of a range.
use Rattle.std.specs.Prelude.{ℕ, ◌-◌, List}
use Rattle.std.specs.declared.ops.Range.{Range}
use Rattle.std.specs.List.{range_with_len}

-- the numbers from its start on, up to and without its end
abbrev pub in_range : Range ℕ → List ℕ
in_range r = range_with_len r.start (r.end - r.start)
