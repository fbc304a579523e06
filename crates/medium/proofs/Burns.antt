-- A list of burns of different blank sectors: each of them is burnt, and no other sector changes.
use Rattle.std.proofs.Common.{◌≡◌, ℕ, ◌<◌, true, eqb, ltb, List, [], ◌∷◌, length, sym, refl, ap, ◌∙◌, subst, ⊎_elim}
use mathlib.Core.List.{Memᴰ}
use Rattle.std.proofs.lemmas.Bool.{and_from, eq-eqb, lt-ltb}
use Rattle.medium.proofs.Once.{changed_if, here_after, length_after, other_after}
use Rattle.medium.specs.Calls.{sectors_after}
use Rattle.medium.specs.Runs.{after_burns}
use Rattle.medium.specs.Sectors.{Sector, burnt, is_blank, sector_at}
use Rattle.medium.specs.declared.runs.Burn.{Burn}

-- the burn finds its sector blank
pub record FitsIn (s : List Sector) (b : Burn) : Type 0 where
  pub inside : b.sector < length s
  pub blank : is_blank (sector_at s b.sector).state ≡ true
  pub whole : length b.image ≡ 524

-- no sector is asked for twice
abbrev pub Distinct : List Burn → Type 0
Distinct [] = Unit {0}
Distinct (x ∷ xs) = ((b : Burn) → Memᴰ b xs → b.sector ≡ x.sector → ⊥) × Distinct xs

abbrev pub burnt_sector : List Sector → Burn → Sector
burnt_sector s b = record { weak = (sector_at s b.sector).weak; state = burnt b.image }

pub after_length : (s : List Sector) (i : ℕ) (image : List ℕ) → length (sectors_after s i image) ≡ length s
after_length s i image = length_after s i image

pub after_elsewhere : (s : List Sector) (i : ℕ) (image : List ℕ) (j : ℕ) → (j ≡ i → ⊥) → sector_at (sectors_after s i image) j ≡ sector_at s j
after_elsewhere s i image j ne = other_after s i image j ne

pub after_here : (s : List Sector) (b : Burn) → FitsIn s b → sector_at (sectors_after s b.sector b.image) b.sector ≡ burnt_sector s b
after_here s b f =
    here_after s b.sector b.image (changed_if s b.sector b.image (and_from (eqb (length b.image) 524) (ltb b.sector (length s)) (eq-eqb _ _ f.whole) (lt-ltb _ _ f.inside)) f.blank)

pub burns_length : (s : List Sector) (bs : List Burn) → length (after_burns s bs) ≡ length s
burns_length s [] = refl
burns_length s (b ∷ bs) = burns_length (sectors_after s b.sector b.image) bs ∙ length_after s b.sector b.image

pub burns_elsewhere : (s : List Sector) (bs : List Burn) (i : ℕ) → ((b : Burn) → Memᴰ b bs → i ≡ b.sector → ⊥) → sector_at (after_burns s bs) i ≡ sector_at s i
burns_elsewhere s [] i none = refl
burns_elsewhere s (b ∷ bs) i none =
    burns_elsewhere (sectors_after s b.sector b.image) bs i (λ c m. none c (mathlib.Core.List.Memᴰ.tail m)) ∙ other_after s b.sector b.image i (none b (mathlib.Core.List.Memᴰ.head refl))

-- a burn fits as well once another sector is burnt
fits_on : (s : List Sector) (x b : Burn) → (b.sector ≡ x.sector → ⊥) → FitsIn s b → FitsIn (sectors_after s x.sector x.image) b
fits_on s x b ne f =
    record {
      inside = subst (λ n. b.sector < n) (sym (length_after s x.sector x.image)) f.inside;
      blank = ap (λ y. is_blank y.state) (other_after s x.sector x.image b.sector ne) ∙ f.blank;
      whole = f.whole;
    }

pub burns_here : (s : List Sector) (bs : List Burn) → Distinct bs → (b : Burn) → Memᴰ b bs → FitsIn s b → sector_at (after_burns s bs) b.sector ≡ burnt_sector s b
burns_here s [] d b m f = absurd (mathlib.Core.List.Memᴰ.not-nil m)
burns_here s (x ∷ bs) d b m f =
    let next : List Sector = sectors_after s x.sector x.image in
    let here : b ≡ x → sector_at (after_burns next bs) b.sector ≡ burnt_sector s b =
    λ e. subst (λ c. FitsIn s c → sector_at (after_burns next bs) c.sector ≡ burnt_sector s c) (sym e) (λ g. burns_elsewhere next bs x.sector (λ c n i. d.0 c n (sym i)) ∙ after_here s x g) f in
    let later : Memᴰ b bs → sector_at (after_burns next bs) b.sector ≡ burnt_sector s b =
    λ n. let ne : b.sector ≡ x.sector → ⊥ = d.0 b n in
    burns_here next bs d.1 b n (fits_on s x b ne f) ∙ ap (λ (y : Sector). record { weak = y.weak; state = burnt b.image }) (other_after s x.sector x.image b.sector ne) in
    ⊎_elim here later (mathlib.Core.List.Memᴰ.cases_cons m)
