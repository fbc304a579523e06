use Rattle.std.proofs.Common.{◌≡◌, true, false, get_or, Ok, Err, refl, ap, ◌∙◌}
use Rattle.pointers_format.proofs.Checking.{checking_done, checking_listed, checking_next, checking_start, checking_stop}
use Rattle.pointers_format.specs.Linking.{named_by, passes_unless}
use Rattle.pointers_format.specs.Mounting.{links_checked}
use Rattle.pointers_format.proofs.linking.OnMedium.check_links.Goals as goal

pub loop-spare-init : goal.loop-spare-init
loop-spare-init g c =
    checking_start c.args.self.now.geometry.now.layout (g.M.Medium.sectors c.args.self.now.medium.now) 620000 _ refl (c.into_iter-spare-iterator.ensures.into_iter_gives ∙ c.spares-spare-items.ensures.all)

pub check_link-requires : goal.check_link-requires
check_link-requires g c = checking_listed c.args.self.now.geometry.now _ _ _ c.loop-spare.invariant _ _ c.in-Some.ensures.steps

pub returns-then-not-branch : goal.returns-then-not-branch
returns-then-not-branch g c =
    let geometry = c.args.self.now.geometry.now in
    let s = g.M.Medium.sectors c.args.self.now.medium.now in
    let unfit : passes_unless geometry.layout s (get_or c.loop-spare.named (named_by s c.in-Some.spare) false) c.in-Some.spare ≡ false = cc (c.in_ok-check_link.was, c.check_link.ensures.answer) in
    ap Err c.refuses.ensures ∙ ap links_checked (checking_stop geometry s c.loop-spare.named _ c.loop-spare.invariant _ _ c.in-Some.ensures.steps unfit)

pub loop-spare-preserved : goal.loop-spare-preserved
loop-spare-preserved g c =
    let geometry = c.args.self.now.geometry.now in
    let s = g.M.Medium.sectors c.args.self.now.medium.now in
    let ok : c.check_link.result ≡ Ok true = cc (c.in_ok-check_link.was, c.check_link.ensures.answer, c.if-not-branch.false) in
    let fit : passes_unless geometry.layout s (get_or c.loop-spare.named (named_by s c.in-Some.spare) false) c.in-Some.spare ≡ true = cc in
    checking_next geometry s c.loop-spare.named _ c.loop-spare.invariant _ _ c.in-Some.ensures.steps _ (c.check_link.ensures.marked ok) fit

pub returns : goal.returns
returns g c =
    ap links_checked (checking_done c.args.self.now.geometry.now (g.M.Medium.sectors c.args.self.now.medium.now) c.loop-spare.named _ c.loop-spare.invariant c.in-None.ensures.steps.0)
