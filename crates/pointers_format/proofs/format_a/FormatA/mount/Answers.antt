use Rattle.std.proofs.Common.{sym, ap, ◌∙◌}
use Rattle.pointers_format.proofs.Judged.{mount_accepted}
use Rattle.pointers_format.specs.Mounted.{geometry_good}
use Rattle.pointers_format.specs.Mounting.{checked, mounting, unless_faulty}
use Rattle.pointers_format.proofs.format_a.FormatA.mount.Goals as goal

pub invariant_of-on_medium : goal.invariant_of-on_medium
invariant_of-on_medium g c =
    let s = g.M.Medium.sectors c.args.medium.now in
    record { sized = sym (geometry_good s c.in_ok-geometry.geometry (sym c.read_geometry.ensures ∙ c.in_ok-geometry.was)).2.size }

pub returns-clause-meaning : goal.returns-clause-meaning
unfolding mounting
returns-clause-meaning g c =
    let s = g.M.Medium.sectors c.args.medium.now in
    let laid = sym c.read_geometry.ensures ∙ c.in_ok-geometry.was in
    mount_accepted s _ (ap (checked s) laid ∙ ap (unless_faulty c.in_ok-geometry.geometry) (sym c.check_links.ensures ∙ c.in_ok-check_links.was))
