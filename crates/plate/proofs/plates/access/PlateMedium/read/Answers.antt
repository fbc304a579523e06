use Rattle.std.proofs.Common.{rules, true, false}
use Rattle.plate.proofs.Accessed.{read_blank, read_burnt}
use Rattle.plate.proofs.plates.access.PlateMedium.read.Goals as goal

pub returns-then-mark_of-eq-BLANK : goal.returns-then-mark_of-eq-BLANK
returns-then-mark_of-eq-BLANK c = let h = read_blank c.args.self.now c.args.sector c.args.image.now c.in_ok-reach.ensures in search (rules, h)

pub returns-then-any_covers : goal.returns-then-any_covers
returns-then-any_covers c = let h = read_burnt c.args.self.now c.args.sector c.args.image.now c.in_ok-reach.ensures true in search (rules, h)

pub returns : goal.returns
returns c = let h = read_burnt c.args.self.now c.args.sector c.args.image.now c.in_ok-reach.ensures false in search (rules, h)
