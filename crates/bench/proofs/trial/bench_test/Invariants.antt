use Rattle.std.proofs.Common.{◌≡◌, ◌≤◌, map, length, take, vec_items, vec_len, vec_capacity}
use Rattle.bench.specs.Trials.{reading_back}
use Rattle.bench.proofs.trial.bench_test.Given as goal

-- the burns so far are read back
abbrev pub invariant-loop-burn : goal.invariant-loop-burn
invariant-loop-burn g l =
    (vec_items l.read ≡ map (reading_back (g.M.Medium.sectors l.medium)) (take l.burn-index l.burns))
    × (vec_len l.read ≡ l.burn-index)
    × (length l.burns ≤ vec_capacity l.read)
