use Rattle.std.proofs.Common.{◌≡◌, ℕ, List, Option, take, Some, None, sym, ap, ◌∙◌, ap₂, arith}
use Rattle.format.specs.Sectors.{first_sound, image_at, sound_copy}
use Rattle.medium.specs.Sectors.{Sector}
use Rattle.std.proofs.lemmas.Grind.{common_steps}
use Rattle.std.proofs.lemmas.Option.{none-some}
use Rattle.std.specs.Prelude.{option_map}
use Rattle.pointers.specs.Reading.{sheet_read}
use Rattle.pointers.specs.Rules.{last_track}
use Rattle.pointers_format.specs.Mounted.{by_first}
use Rattle.pointers_format.specs.Copies.{copies}
use Rattle.pointers_format.proofs.copies.read_geometry.Goals as goal

copy_found : (s : List Sector) (o : Option ℕ) (x : ℕ × List ℕ) → option_map {U = ℕ × List ℕ} (λ i. (i, image_at s i)) o ≡ Some x → (o ≡ Some x.0) × (image_at s x.0 ≡ x.1)
copy_found s None x e = absurd (none-some x e)
copy_found s (Some i) x e =
    let p : (i, image_at s i) ≡ x = cc in
    (ap (λ y. Some y.0) p, ap (λ y. image_at s y.0) (sym p) ∙ ap (λ y. y.1) p)

pub returns : goal.returns
returns g c =
    let s = g.M.Medium.sectors c.args.medium.now in
    let p = c.count-sectors.result in
    let found : sound_copy s c.copies.result ≡ Some c.in-Some.copy = cc (c.in_ok-copy.was, c.find_copy.ensures, c.in-Some.is) in
    let h = copy_found s _ _ found in
    let first : first_sound s (copies (last_track p)) ≡ Some c.in-Some.copy.0 = ap (first_sound s) (sym c.copies.ensures) ∙ h.0 in
    let chunk = c.first_chunk.ensures in
    let got = c.unwrap.ensures in
    let sheet : c.unwrap.result.now ≡ take 512 c.in-Some.copy.1 = grind (arith, common_steps, (rw got at chunk.cases)) in
    c.read.ensures.answer ∙ ap₂ sheet_read c.count-sectors.ensures (sheet ∙ ap (take 512) (sym h.1)) ∙ by_first s p c.count-sectors.ensures (sym c.if-not-fits_format.ensures) _ first
