use Rattle.std.proofs.Common.{rules}
use Rattle.maps.proofs.Listed.{BegunFirst, begun_first}
use Rattle.maps.proofs.areas.begun.Goals as goal

pub returns : goal.returns
returns c =
    let found : BegunFirst 1 c.args.bands.now c.args.track c.find_map.result = search rules in
    begun_first 1 c.args.bands.now c.args.track c.find_map.result found
