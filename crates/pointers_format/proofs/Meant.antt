-- From what the calls answer and leave to what that means.
use Rattle.std.proofs.Common.{◌≡◌, ℕ, ◌<◌, true, false, eqb, List, length, Ok, Err, Result, sym, ap, ◌∙◌, subst, ⊎_elim, MatchResult}
use Rattle.format.specs.Blocks.{blank_at}
use Rattle.format.specs.Laws.{on_its_medium, stored_on, storing}
use Rattle.medium.specs.Sectors.{Sector}
use Rattle.medium.specs.declared.faults.Fault.{Fault}
use Rattle.pointers_format.specs.Begun.{initialise_refused, initialised_so}
use Rattle.pointers_format.proofs.Judged.{mount_accepted, mount_refused}
use Rattle.pointers_format.specs.Stored.{left_place, place_left, stored_sectors}
use Rattle.pointers_format.specs.Initialising.{InitialiseRefused, Initialised, initialised, initialising}
use Rattle.pointers_format.specs.Meaning.{BlockStored, blocks_of, home_of, left_of, size_of, stored_of}
use Rattle.pointers_format.specs.Mounting.{MountRefused, Mounted, mounting}
use Rattle.pointers_format.specs.Storing.{Place, StoredSectors}
use Rattle.pointers_format.specs.Mounted.{size}
use Rattle.pointers_format.specs.declared.format_a.FormatA.{FormatA}
use Rattle.std.proofs.lemmas.Bool.{cases_Bool, cond-false, cond-true, eq-eqb, ne_eqb}

-- a medium that mounts has the size of its layout
pub fits : (s : List Sector) (f : FormatA) → mounting s ≡ Ok f → eqb (length s) (size_of f) ≡ true
fits s f e = eq-eqb _ _ (size s f e)

pub mount_means : (s : List Sector) (r : Result FormatA Fault) → r ≡ mounting s → MatchResult r (Mounted s) (MountRefused s)
mount_means s (Ok f) e = mount_accepted s f (sym e)
mount_means s (Err x) e = mount_refused s x (sym e)

pub initialise_means : (s : List Sector) (d : List ℕ) (t : List Sector) (r : Result FormatA Fault) → r ≡ initialising s d → t ≡ initialised s d → MatchResult r (Initialised s d t) (InitialiseRefused s d t)
initialise_means s d t (Ok f) e a = subst (λ u. Initialised s d u f) (sym a) (initialised_so s d f (sym e))
initialise_means s d t (Err x) e a = subst (λ u. InitialiseRefused s d u x) (sym a) (initialise_refused s d x (sym e))

pub block_stored : (f : FormatA) (s : List Sector) (b : ℕ) (bytes : List ℕ) (r : Result (Unit {0}) Fault) (t : List Sector) → b < blocks_of f → blank_at s (home_of f b) ≡ true → length bytes ≡ 512 → r ≡ on_its_medium (size_of f) s (storing (left_of f s b) b) → t ≡ stored_on (size_of f) s (stored_of f s b bytes) → BlockStored f s b bytes r t
block_stored f s b bytes r t known blank full a e =
    let l = f.geometry.layout in
    let answer : length s ≡ size_of f → r ≡ storing (left_of f s b) b = λ z. a ∙ cond-true (eqb (length s) (size_of f)) _ _ (eq-eqb _ _ z) in
    let none : ((p : ℕ) → Place l s b p → ⊥) → left_of f s b ≡ false = λ n. ⊎_elim (λ u. absurd (let w = left_place l s b u in n w.0 w.1)) (λ u. u) (cases_Bool (left_of f s b)) in
    record {
      sectors = λ z. subst (StoredSectors l s b bytes) (sym (e ∙ cond-true (eqb (length s) (size_of f)) _ _ (eq-eqb _ _ z))) (stored_sectors f.geometry s z b known bytes full blank);
      accepted = λ z p w. answer z ∙ ap (λ u. storing u b) (place_left l s b p w);
      refused = λ z n. answer z ∙ ap (λ u. storing u b) (none n);
      other_size = λ d. (a ∙ cond-false (eqb (length s) (size_of f)) _ _ (ne_eqb _ _ d), e ∙ cond-false (eqb (length s) (size_of f)) _ _ (ne_eqb _ _ d));
    }
