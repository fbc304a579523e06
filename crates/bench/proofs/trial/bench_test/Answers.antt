use Rattle.std.proofs.Common.{map, ap, ◌∙◌}
use Rattle.bench.proofs.Agreed.{agrees}
use Rattle.bench.specs.Trials.{reading_at, reading_back}
use Rattle.medium.specs.declared.interface.Verdict.TheVariants.{Sound, Weak}
use Rattle.std.proofs.lemmas.List.{take_all}
use Rattle.bench.proofs.trial.bench_test.Goals as goal

pub returns : goal.returns
returns g c =
    let s = g.M.Medium.sectors c.args.medium.now in
    let t = g.M.Medium.sectors c.burn_all.new.medium in
    let bs = c.args.burns.now in
    let run = c.in_ok-burnt.ensures in
    let all = c.loop-burn.invariant.0 ∙ ap (map (reading_back t)) (take_all c.loop-burn.burn-index bs c.loop-burn-test.false) in
    record {
      burnt_first = run;
      then_read = all;
      sound_is_same = λ k h e. ap (λ rs. reading_at rs k) all ∙ agrees s bs _ t run.once k Sound h e;
      weak_is_spoiled = λ k h e. ap (λ rs. reading_at rs k) all ∙ agrees s bs _ t run.once k Weak h e;
    }
