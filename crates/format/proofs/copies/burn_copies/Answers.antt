use Rattle.std.proofs.Common.{◌≡◌, ◌<◌, not, ◌||◌, get_or, sym, refl, ap, ◌∙◌, subst}
use Rattle.format.proofs.Copying.{Copying, copying_next, mem_at, same_here}
use Rattle.medium.specs.Sectors.{is_blank, sector_at}
use Rattle.format.proofs.copies.burn_copies.Goals as goal

pub burn_copy-requires : goal.burn_copy-requires
burn_copy-requires g c =
    let i = c.loop-sector.sector-index in
    let sectors = c.args.sectors.now in
    let k = c.loop-sector.invariant in
    let h = c.requires.blank (get_or sectors i 0) (mem_at sectors i c.loop-sector-test.true) in
    record {
      inside = subst (λ n. get_or sectors i 0 < n) (sym k.as_many) h.0;
      blank = ap (λ x. is_blank x.state) (same_here _ _ _ _ _ _ k c.loop-sector-test.true) ∙ h.1;
    }

pub loop-sector-preserved : goal.loop-sector-preserved
loop-sector-preserved g c =
    let i = c.loop-sector.sector-index in
    let sectors = c.args.sectors.now in
    let h = c.requires.blank (get_or sectors i 0) (mem_at sectors i c.loop-sector-test.true) in
    let was = c.in_ok-any_sound.was in
    let answer = c.burn_copy.ensures.answer in
    let found : c.in_ok-any_sound.any_sound ≡ (c.loop-sector.any_sound || not (sector_at (g.M.Medium.sectors c.loop-sector.medium) (get_or sectors i 0)).weak) = cc in
    let next = copying_next _ _ _ _ _ _ c.loop-sector.invariant c.loop-sector-test.true _ _ c.requires.apart h.1 c.burn_copy.ensures.after refl in
    subst (Copying _ _ _ _ _) (sym found) next
