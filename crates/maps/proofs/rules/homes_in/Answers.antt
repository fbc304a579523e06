use Rattle.std.proofs.Common.{◌≡◌, rules, sum_by, sym, refl, ◌∙◌}
use Rattle.std.proofs.lemmas.List.Recursion.{is_sum_by}
use Rattle.maps.specs.Places.{block_count, homes_of}
use Rattle.maps.proofs.rules.homes_in.Goals as goal

pub returns : goal.returns
returns c =
    let total : c.sum.result ≡ sum_by homes_of c.args.bands.now = search rules in
    total ∙ sym (is_sum_by block_count homes_of refl (λ _ _. refl) c.args.bands.now)
