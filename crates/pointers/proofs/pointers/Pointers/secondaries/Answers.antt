use Rattle.std.proofs.Common.{leb, ltb, ◌&&◌, ◌+◌, ◌∙◌, arith, ap, sym, refl, ◌*◌}
use Rattle.pointers.proofs.Turns.{in_range_run}
use Rattle.pointers.specs.Places.{secondaries}
use Rattle.std.specs.List.{range_with_len}
use Rattle.pointers.specs.Spares.{is_secondary}
use Rattle.std.proofs.lemmas.Bool.Decides.{nat_tests}
use Rattle.pointers.proofs.pointers.Pointers.secondaries.Goals as goal

pub returns-then-self-eq0-clause-list : goal.returns-then-self-eq0-clause-list
unfolding secondaries
returns-then-self-eq0-clause-list c = ap (range_with_len (31 * c.args.self.now.layout.start)) (sym c.if-self-eq0.true)

pub returns-clause-list : goal.returns-clause-list
unfolding secondaries
returns-clause-list c = in_range_run _ _ _ refl ∙ ap (λ a. range_with_len a c.args.self.now.layout.secondary) c.secondary_start-start.ensures.value

pub returns-then-self-eq0-clause-tells : goal.returns-then-self-eq0-clause-tells
unfolding is_secondary
returns-then-self-eq0-clause-tells c = λ p. grind (arith, nat_tests)

pub returns-clause-tells : goal.returns-clause-tells
unfolding is_secondary
returns-clause-tells c = λ p. ap (λ a. leb a p && ltb p (a + c.args.self.now.layout.secondary)) c.secondary_start-start.ensures.value
