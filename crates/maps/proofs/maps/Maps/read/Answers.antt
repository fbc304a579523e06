use Rattle.std.proofs.Common.{◌≡◌, ◌&&◌, sym, ap, ◌∙◌}
use Rattle.maps.proofs.Formed.{read_formed}
use Rattle.maps.proofs.Told.{read_as, refused_rules}
use Rattle.maps.specs.Places.{valid}
use Rattle.maps.specs.Sheets.{identified}
use Rattle.maps.proofs.maps.Maps.read.Goals as goal
use Rattle.maps.proofs.maps.Maps.read.Goals.{then-is_identified, else-is_identified}

pub returns-then-not-is_valid-clause-rules : goal.returns-then-not-is_valid-clause-rules
returns-then-not-is_valid-clause-rules c =
    let d = c.args.sheet.now in
    let tests : c.if-is_identified.value ≡ (identified d && valid c.layout_in-layout.result) = elim c.if-is_identified.branch [
      | then-is_identified w ↦ w.value-is ∙ w.is_valid.ensures ∙ ap (λ t. t && valid c.layout_in-layout.result) w.if-is_identified.ensures
      | else-is_identified w ↦ w.value-is ∙ w.if-is_identified.false ∙ ap (λ t. t && valid c.layout_in-layout.result) w.if-is_identified.ensures
    ] in
    refused_rules c.args.sectors d _ _ c.if-not-fits_format.ensures c.layout_in-layout.ensures (sym tests ∙ c.if-not-is_valid.true) c.refuses-then-not-is_valid.ensures

pub invariant_of-result-clause-formed : goal.invariant_of-result-clause-formed
invariant_of-result-clause-formed c = read_formed _ c.args.sheet.now _ c.layout_in-layout.ensures

pub returns-clause-rules : goal.returns-clause-rules
returns-clause-rules c =
    let d = c.args.sheet.now in
    let tests : c.if-is_identified.value ≡ (identified d && valid c.layout_in-layout.result) = elim c.if-is_identified.branch [
      | then-is_identified w ↦ w.value-is ∙ w.is_valid.ensures ∙ ap (λ t. t && valid c.layout_in-layout.result) w.if-is_identified.ensures
      | else-is_identified w ↦ w.value-is ∙ w.if-is_identified.false ∙ ap (λ t. t && valid c.layout_in-layout.result) w.if-is_identified.ensures
    ] in
    let parts = read_as c.args.sectors d _ c.if-not-fits_format.ensures c.layout_in-layout.ensures (sym tests ∙ c.if-not-is_valid.false) in
    record { tracks = parts.0; rules = parts.1; given = parts.2 }
