use mathlib.Core.List.{Memᴰ}
use Rattle.std.proofs.Common.{sym, ap, ◌∙◌, subst}
use Rattle.pointers.specs.Rules.{last_track}
use Rattle.pointers_format.specs.Begun.{copies_blank}
use Rattle.pointers_format.specs.Copies.{copies}
use Rattle.pointers_format.proofs.copies.burn_sheet.Goals as goal

pub burn_copies-requires-clause-blank : goal.burn_copies-requires-clause-blank
burn_copies-requires-clause-blank g c =
    let at = c.copies.ensures ∙ ap (λ p. copies (last_track p)) c.sector_count.ensures in
    λ i m. copies_blank c.args.geometry.now (g.M.Medium.sectors c.args.medium.now) (sym c.requires.sized) c.requires.blank i (subst (Memᴰ i) at m)
