use Rattle.std.proofs.Common.{◌≡◌, ◌+◌, length, rules, IfOk, arith}
use Rattle.std.proofs.lemmas.Iterator.{YieldsList-from_range, items_from_collect}
use Rattle.std.proofs.lemmas.Iterator.Consumers.{YieldsList-from_filter_map}
use Rattle.std.proofs.lemmas.Result.{IfOk-weaker}
use Rattle.maps.proofs.Tracks.{areas_listed}
use Rattle.maps.specs.Areas.{AreasListed, all_areas, begun}
use Rattle.maps.specs.Places.{bands_of}
use Rattle.maps.proofs.maps.Maps.areas.Goals as goal

pub returns-clause-areas : goal.returns-clause-areas
returns-clause-areas c =
    let m = c.args.self.now in
    let eight : length m.layout.bands ≡ 8 = omega arith in
    let same = c.bands-bands.ensures.bands in
    let list : IfOk c.collect.result (λ v. v.items ≡ all_areas m.layout) =
    items_from_collect c.collect.result c.collect.ensures.ran (YieldsList-from_filter_map _ (begun 1 (bands_of m.layout)) (YieldsList-from_range 0 (m.layout.last + 1) (m.layout.last + 1) (cc) (omega arith)) c.filter_map.ensures.closure (λ x r q k. search (rules, same))) in
    IfOk-weaker c.collect.result (λ v. v.items ≡ all_areas m.layout) (λ v. AreasListed m.layout v.items) (λ v e. areas_listed m.layout m.kept eight m.formed v.items e) list
