use Rattle.std.proofs.Common.{◌≡◌, ◌≤◌, ◌++◌, length, drop, vec_items, vec_len, vec_capacity}
use Rattle.medium.specs.Runs.{after_burns, burn_answers}
use Rattle.medium.proofs.runs.burn_all.Given as goal

-- the burns that are left take the medium to where all of them take it, and give the answers that are still missing
abbrev pub invariant-loop-burn : goal.invariant-loop-burn
invariant-loop-burn g l =
    (after_burns (g.M.Medium.sectors l.medium) (drop l.burn-index l.burns) ≡ after_burns (g.M.Medium.sectors l.initial.medium) l.burns)
    × (vec_items l.answers ++ burn_answers (g.M.Medium.sectors l.medium) (drop l.burn-index l.burns) ≡ burn_answers (g.M.Medium.sectors l.initial.medium) l.burns)
    × (vec_len l.answers ≡ l.burn-index)
    × (length l.burns ≤ vec_capacity l.answers)
