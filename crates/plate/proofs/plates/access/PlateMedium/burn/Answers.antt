use Rattle.std.proofs.Common.{rules, refl}
use Rattle.plate.proofs.Accessed.{burn_blank, burn_burnt, still_openable, written}
use Rattle.plate.specs.Sectored.{length_plate}
use Rattle.plate.proofs.plates.access.PlateMedium.burn.Goals as goal

pub returns-then-mark_of-ne-BLANK : goal.returns-then-mark_of-ne-BLANK
returns-then-mark_of-ne-BLANK c = let h = burn_burnt c.args.self.now c.args.sector c.args.image.now c.in_ok-reach.ensures _ refl in search (rules, h)

pub invariant_of-self : goal.invariant_of-self
invariant_of-self c =
    let p = c.args.self.now in
    let k = written p c.args.sector c.args.image.now c.in_ok-reach.ensures c.fill_cell.new.memory (cc) in
    let h = still_openable p c.args.sector c.args.image.now c.in_ok-reach.ensures _ k in search (rules, h, length_plate)

pub returns : goal.returns
returns c =
    let p = c.args.self.now in
    let k = written p c.args.sector c.args.image.now c.in_ok-reach.ensures c.fill_cell.new.memory (cc) in
    let h = burn_blank p c.args.sector c.args.image.now c.in_ok-reach.ensures _ refl _ (cc) k in search (rules, h)
