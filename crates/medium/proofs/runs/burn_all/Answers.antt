use Rattle.std.proofs.Common.{◌≡◌, ℕ, ◌≤◌, List, ◌++◌, length, drop, Result, sym, ap, ◌∙◌}
use Rattle.std.proofs.lemmas.List.{append-nil, at_drop_all}
use Rattle.medium.proofs.Once.{written_once}
use Rattle.medium.specs.Runs.{after_burns, burn_answers}
use Rattle.medium.specs.Sectors.{Sector}
use Rattle.medium.specs.declared.faults.Fault.{Fault}
use Rattle.medium.specs.declared.interface.Verdict.{Verdict}
use Rattle.medium.specs.declared.runs.Burn.{Burn}
use Rattle.medium.proofs.runs.burn_all.Goals as goal

-- nothing is left to ask for
module _ (t : List Sector) (bs : List Burn) (i : ℕ) (past : length bs ≤ i) where
  left_all : (end : List Sector) → after_burns t (drop i bs) ≡ end → t ≡ end
  left_all end e = sym (at_drop_all (after_burns t) bs i past) ∙ e

  answers_all : (rs all : List (Result Verdict Fault)) → rs ++ burn_answers t (drop i bs) ≡ all → rs ≡ all
  answers_all rs all e = sym (append-nil rs) ∙ ap (λ more. rs ++ more) (sym (at_drop_all (burn_answers t) bs i past)) ∙ e

pub returns : goal.returns
returns g c =
    let s = g.M.Medium.sectors c.args.medium.now in
    let t = g.M.Medium.sectors c.loop-burn.medium in
    let bs = c.args.burns.now in
    let answers = answers_all t bs c.loop-burn.burn-index c.loop-burn-test.false _ _ c.loop-burn.invariant.1 in
    let after = left_all t bs c.loop-burn.burn-index c.loop-burn-test.false _ c.loop-burn.invariant.0 in
    record {
      answered = answers;
      left = after;
      once = rw (answers, after) (written_once s bs);
    }
