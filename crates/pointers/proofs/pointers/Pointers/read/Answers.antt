use Rattle.std.proofs.Common.{◌≡◌, ℕ, Bool, ◌&&◌, List, Err, sym, refl, ap, ◌∙◌, subst}
use Rattle.pointers.proofs.Answered.{broken, stood, wrong}
use Rattle.pointers.specs.Places.{first_track}
use Rattle.pointers.specs.Reading.{SheetRefused}
use Rattle.pointers.specs.Rules.{layout_valid}
use Rattle.pointers.specs.Sheets.{marked}
use Rattle.pointers.specs.declared.layout.Layout.{Layout}
use Rattle.pointers.proofs.pointers.Pointers.read.Goals as goal

-- the test, of the last track by its definition
tested : (n m : ℕ) (l : Layout) (d : List ℕ) {b : Bool} → n ≡ m → (layout_valid n l && marked (first_track l) d) ≡ b → (layout_valid m l && marked (first_track l) d) ≡ b
tested n m l d e h = rw (← e) h

pub returns-then-not-fits_format : goal.returns-then-not-fits_format
returns-then-not-fits_format c =
    let e = c.refuses.ensures in
    let r = wrong c.args.sectors c.args.sheet.now (sym c.if-not-fits_format.ensures) in
    record { answer = ap Err e ∙ r.0; meaning = subst (SheetRefused c.args.sectors c.args.sheet.now) (sym e) r.1 }

pub returns-then-not-stands : goal.returns-then-not-stands
returns-then-not-stands c =
    let e = c.refuses-then-not-stands.ensures in
    let r = broken c.args.sectors c.args.sheet.now _ c.in_sheet-layout.ensures (sym c.if-not-fits_format.ensures) (tested _ _ _ _ c.last_track-last.ensures (sym c.if-not-stands.ensures)) in
    record { answer = ap Err e ∙ r.0; meaning = subst (SheetRefused c.args.sectors c.args.sheet.now) (sym e) r.1 }

pub returns : goal.returns
returns c =
    let r = stood c.args.sectors c.args.sheet.now _ c.in_sheet-layout.ensures (sym c.if-not-fits_format.ensures) (tested _ _ _ _ c.last_track-last.ensures (sym c.if-not-stands.ensures)) _ refl refl in
    record { answer = r.0; meaning = r.1 }
