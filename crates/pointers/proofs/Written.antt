-- The sheet of a layout, written field by field, and read again.
use Rattle.std.proofs.Common.{◌≡◌, ℕ, ◌+◌, ◌*◌, ◌/◌, ◌%◌, ◌≤◌, true, List, ◌++◌, length, take, drop, replicate, Ok, sym, refl, ap, ◌∙◌, ⊎_elim, arith}
use Rattle.pointers.proofs.Answered.{reads}
use Rattle.pointers.proofs.Geometry.{few_blocks}
use Rattle.pointers.proofs.Ruled.{rules_of, size_held}
use Rattle.pointers.specs.Places.{first_track}
use Rattle.pointers.specs.Reading.{sheet_read}
use Rattle.pointers.specs.Rules.{LayoutRules, SecondaryTracks, last_track, layout_valid}
use Rattle.medium.specs.Bytes.{four_bytes}
use Rattle.pointers.specs.Sheets.{head, layout_in, marked, sheet_of, two_bytes}
use Rattle.pointers.specs.declared.layout.Layout.{Layout}
use Rattle.pointers.specs.declared.pointers.Pointers.{Pointers}
use Rattle.std.proofs.lemmas.Nat.{mul-le}
use Rattle.std.proofs.lemmas.Slice.Eq.{bytes_eq-Decides}
use Rattle.std.proofs.lemmas.Bool.{and_from}

-- a field put into a sheet
abbrev pub with_field : ℕ → List ℕ → List ℕ → List ℕ
with_field at xs ys = take at xs ++ (ys ++ drop (at + length ys) xs)

pub written : (l : Layout) → with_field 34 (with_field 30 (with_field 10 (with_field 6 (with_field 4 (with_field 0 (replicate 512 255) (head (first_track l))) (two_bytes l.groups)) (four_bytes l.homes)) (four_bytes l.spares)) (four_bytes l.start)) (four_bytes l.secondary) ≡ sheet_of l
unfolding sheet_of
written l = refl

two_back : (x : ℕ) → x ≤ 65535 → x / 256 % 256 * 256 + x % 256 ≡ x
two_back x h = omega arith

joined_digits : (x a b c r s t : ℕ) → a * 256 + r ≡ x → b * 256 + s ≡ a → c * 256 + t ≡ b → c * 16777216 + t * 65536 + s * 256 + r ≡ x
joined_digits x a b c r s t e f g = omega arith

four_back : (x : ℕ) → x ≤ 4294967295 → x / 16777216 % 256 * 16777216 + x / 65536 % 256 * 65536 + x / 256 % 256 * 256 + x % 256 ≡ x
four_back x h =
    let top : x / 16777216 % 256 ≡ x / 16777216 = omega arith in
    ap (λ c. c * 16777216 + x / 65536 % 256 * 65536 + x / 256 % 256 * 256 + x % 256) top
    ∙ joined_digits x (x / 256) (x / 65536) (x / 16777216) (x % 256) (x / 256 % 256) (x / 65536 % 256) (omega arith) (omega arith) (omega arith)

module _ (n : ℕ) (l : Layout) (high : n ≤ 19999) (v : layout_valid n l ≡ true) where
  r : LayoutRules n l
  r = rules_of n l v

  homes_small : l.homes ≤ 4294967295
  homes_small = omega (arith, few_blocks n l r, mul-le 1 l.homes l.groups l.homes r.some_groups (omega arith))

  spares_small : l.spares ≤ 4294967295
  spares_small = omega (arith, r.most_spares, mul-le 1 l.spares l.groups l.spares r.some_groups (omega arith))

  start_small : l.start ≤ 4294967295
  start_small =
      let some : (k : ℕ) × SecondaryTracks n l k → l.start ≤ 4294967295 =
      λ h. ⊎_elim (λ (e : l.start ≡ 3). omega arith) (λ (e : l.start + h.0 + 2 ≡ n). omega arith) h.1.place in
      ⊎_elim (λ (h : (l.secondary ≡ 0) × (l.start ≡ 0xFFFFFFFF)). omega (arith, h.1)) some r.area

  layout_back : layout_in (sheet_of l) ≡ l
  unfolding layout_in sheet_of
  layout_back =
      λ i. record {
        groups = two_back l.groups r.most_groups i;
        homes = four_back l.homes homes_small i;
        spares = four_back l.spares spares_small i;
        start = four_back l.start start_small i;
        secondary = four_back l.secondary (omega (arith, r.most_spares)) i;
      }

  marked_back : marked (first_track l) (sheet_of l) ≡ true
  unfolding marked sheet_of
  marked_back = and_from _ _ ((bytes_eq-Decides (head (first_track l)) (head (first_track l))).1 refl) refl

-- the sheet that is written is read as it was
pub read_back : (f : Pointers) → sheet_read f.sectors (sheet_of f.layout) ≡ Ok f
read_back f =
    let n = last_track f.sectors in
    let l = f.layout in
    let back = layout_back n l (size_held f).most f.valid in
    sym (reads f.sectors (sheet_of l) f refl (sym back) (ap (λ x. marked (first_track x) (sheet_of l)) back ∙ marked_back n l (size_held f).most f.valid))
