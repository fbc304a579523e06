-- A burn changes a blank sector that it reaches, and nothing else; so a whole run of burns writes once.
use Rattle.std.proofs.Common.{◌≡◌, ℕ, zero, suc, ◌<◌, Bool, true, false, cond, eqb, ltb, ◌⊎◌, List, [], ◌∷◌, length, Ok, Err, sym, refl, ap, ◌∙◌, inl, inr, ⊎_elim, arith}
use Rattle.std.proofs.lemmas.List.{length-set, get_or-set_same, get_or-set_other}
use Rattle.std.proofs.lemmas.Bool.{and_parts, cases_Bool, cases_eq, cond-true, cond-false, ltb-true}
use Rattle.medium.specs.Calls.{burning, reaches, sectors_after, verdict, with_burnt}
use Rattle.medium.specs.Runs.{Accepted, WrittenOnce, after_burns, answer_at, burn_answers, burn_at}
use Rattle.medium.specs.Sectors.{Sector, State, beyond, blank, burnt, is_blank, sector_at}
use Rattle.medium.specs.declared.faults.Fault.{Fault}
use Rattle.medium.specs.declared.interface.Verdict.{Verdict}
use Rattle.medium.specs.declared.runs.Burn.{Burn}

blank_is : (x : State) → is_blank x ≡ true → x ≡ blank
blank_is blank e = refl
blank_is (burnt image) e = cc

blank_or_burnt : (x : State) (image : List ℕ) → x ≡ blank → x ≡ burnt image → ⊥
blank_or_burnt x image e f = let z : ◌≡◌ {A = ℕ} 0 1 = cc in omega arith

module _ (s : List Sector) (i : ℕ) (image : List ℕ) where
  abbrev burnt_sector : Sector
  burnt_sector = record { weak = (sector_at s i).weak; state = burnt image }

  -- either nothing changed, or the sector was there and blank, and it alone was burnt
  abbrev Changed : Type 0
  Changed = (i < length s) × ((sector_at s i).state ≡ blank) × (sectors_after s i image ≡ with_burnt s i image)

  pub changed_if : reaches (length s) i (length image) ≡ true → is_blank (sector_at s i).state ≡ true → Changed
  changed_if r b = (
    ltb-true i (length s) (and_parts (eqb (length image) 524) (ltb i (length s)) r).1,
    blank_is (sector_at s i).state b,
    cond-true (reaches (length s) i (length image)) _ _ r ∙ cond-true (is_blank (sector_at s i).state) _ _ b,
  )

  changed_or_same : (sectors_after s i image ≡ s) ⊎ Changed
  changed_or_same =
      ⊎_elim
      (λ r.
      ⊎_elim
      (λ b. inr (changed_if r b))
      (λ b. inl (cond-true (reaches (length s) i (length image)) _ _ r ∙ cond-false (is_blank (sector_at s i).state) _ _ b))
      (cases_Bool (is_blank (sector_at s i).state)))
      (λ r. inl (cond-false (reaches (length s) i (length image)) _ _ r))
      (cases_Bool (reaches (length s) i (length image)))

  pub length_after : length (sectors_after s i image) ≡ length s
  length_after = ⊎_elim (λ e. ap length e) (λ h. ap length h.2 ∙ length-set s i _) changed_or_same

  pub here_after : Changed → sector_at (sectors_after s i image) i ≡ burnt_sector
  here_after h = ap (λ t. sector_at t i) h.2 ∙ get_or-set_same s i _ beyond h.0

  pub other_after : (j : ℕ) → (j ≡ i → ⊥) → sector_at (sectors_after s i image) j ≡ sector_at s j
  other_after j ne =
      ⊎_elim
      (λ e. ap (λ t. sector_at t j) e)
      (λ h. ap (λ t. sector_at t j) h.2 ∙ get_or-set_other s i j _ beyond ne)
      changed_or_same

  accepted_if : reaches (length s) i (length image) ≡ true → is_blank (sector_at s i).state ≡ true → burning s i (length image) ≡ Ok (verdict (sector_at s i).weak)
  accepted_if r b = cond-true (reaches (length s) i (length image)) _ _ r ∙ cond-true (is_blank (sector_at s i).state) _ _ b

  -- a burn that changes a sector is accepted
  same_or_accepted : (sectors_after s i image ≡ s) ⊎ (burning s i (length image) ≡ Ok (verdict (sector_at s i).weak))
  same_or_accepted =
      ⊎_elim
      (λ r.
      ⊎_elim
      (λ b. inr (accepted_if r b))
      (λ b. inl (cond-true (reaches (length s) i (length image)) _ _ r ∙ cond-false (is_blank (sector_at s i).state) _ _ b))
      (cases_Bool (is_blank (sector_at s i).state)))
      (λ r. inl (cond-false (reaches (length s) i (length image)) _ _ r))
      (cases_Bool (reaches (length s) i (length image)))

  unaccepted_after : (j : ℕ) → ((v : Verdict) → burning s i (length image) ≡ Ok v → i ≡ j → ⊥) → sector_at (sectors_after s i image) j ≡ sector_at s j
  unaccepted_after j h =
      ⊎_elim
      (λ e. ap (λ t. sector_at t j) e)
      (λ ok. other_after j (λ e. h _ ok (sym e)))
      same_or_accepted

  -- every sector is as it was, but the one that was changed
  after_at : (j : ℕ) → (sector_at (sectors_after s i image) j ≡ sector_at s j) ⊎ ((j ≡ i) × Changed)
  after_at j = ⊎_elim (λ e. inl (ap (λ t. sector_at t j) e)) (λ h. ⊎_elim (λ e. inr (e, h)) (λ ne. inl (other_after j ne)) (cases_eq j i)) changed_or_same

  here_at : (j : ℕ) → j ≡ i → Changed → sector_at (sectors_after s i image) j ≡ burnt_sector
  here_at j e h = ap (sector_at (sectors_after s i image)) e ∙ here_after h

  weak_after : (j : ℕ) → (sector_at (sectors_after s i image) j).weak ≡ (sector_at s j).weak
  weak_after j =
      ⊎_elim
      (λ e. ap (λ x. x.weak) e)
      (λ h. ap (λ x. x.weak) (here_at j h.0 h.1) ∙ ap (λ k. (sector_at s k).weak) (sym h.0))
      (after_at j)

  burnt_after : (j : ℕ) (old : List ℕ) → (sector_at s j).state ≡ burnt old → (sector_at (sectors_after s i image) j).state ≡ burnt old
  burnt_after j old b =
      ⊎_elim
      (λ e. ap (λ x. x.state) e ∙ b)
      (λ h. absurd (blank_or_burnt (sector_at s j).state old (ap (λ k. (sector_at s k).state) h.0 ∙ h.1.1) b))
      (after_at j)

  -- what is blank afterwards was blank before
  blank_before : (j : ℕ) → (sector_at (sectors_after s i image) j).state ≡ blank → (sector_at s j).state ≡ blank
  blank_before j b =
      ⊎_elim
      (λ e. sym (ap (λ x. x.state) e) ∙ b)
      (λ h. absurd (blank_or_burnt _ image b (ap (λ x. x.state) (here_at j h.0 h.1))))
      (after_at j)

  -- an accepted burn
  module _ (v : Verdict) (ok : burning s i (length image) ≡ Ok v) where
    reached : (a b : Bool) (w : Verdict) (x y : Fault) → cond a (cond b (Ok w) (Err x)) (Err y) ≡ Ok v → (a ≡ true) × (b ≡ true) × (w ≡ v)
    reached true true w x y e = (refl, refl, cc)
    reached true false w x y e = (refl, cc, cc)
    reached false b w x y e = (cc, cc, cc)

    changed : Changed
    changed = let h = reached (reaches (length s) i (length image)) (is_blank (sector_at s i).state) _ _ _ ok in changed_if h.0 h.1

    told_weak : verdict (sector_at s i).weak ≡ v
    told_weak = (reached (reaches (length s) i (length image)) (is_blank (sector_at s i).state) _ _ _ ok).2

-- the first burn of a run, and then the others
module _ (s : List Sector) (b : Burn) (bs : List Burn) where
  abbrev next : List Sector
  next = sectors_after s b.sector b.image

  module _ (rest : WrittenOnce next bs (burn_answers next bs) (after_burns next bs)) where
    accepted_in : (k : ℕ) (v : Verdict) → k < length (b ∷ bs) → answer_at (burn_answers s (b ∷ bs)) k ≡ Ok v → Accepted s (burn_at (b ∷ bs) k) v (after_burns next bs)
    accepted_in zero v h e =
        record {
          was_blank = (changed s b.sector b.image v e).1;
          told = told_weak s b.sector b.image v e;
          stays = rest.burnt_stays b.sector b.image (ap (λ x. x.state) (here_after s b.sector b.image (changed s b.sector b.image v e)));
        }
    accepted_in (suc k) v h e =
        let a = rest.accepted k v (omega arith) e in
        record {
          was_blank = blank_before s b.sector b.image (burn_at bs k).sector a.was_blank;
          told = ap verdict (sym (weak_after s b.sector b.image (burn_at bs k).sector)) ∙ a.told;
          stays = a.stays;
        }

    once_in : (j k : ℕ) (v w : Verdict) → j < k → k < length (b ∷ bs) → answer_at (burn_answers s (b ∷ bs)) j ≡ Ok v → answer_at (burn_answers s (b ∷ bs)) k ≡ Ok w → (burn_at (b ∷ bs) j).sector ≡ (burn_at (b ∷ bs) k).sector → ⊥
    once_in j zero v w h l e f same = absurd (omega arith)
    once_in zero (suc k) v w h l e f same =
        let a = rest.accepted k w (omega arith) f in
        blank_or_burnt _ b.image a.was_blank (ap (λ i. (sector_at next i).state) (sym same) ∙ ap (λ x. x.state) (here_after s b.sector b.image (changed s b.sector b.image v e)))
    once_in (suc j) (suc k) v w h l e f same = rest.once j k v w (omega arith) (omega arith) e f same

pub written_once : (s : List Sector) (bs : List Burn) → WrittenOnce s bs (burn_answers s bs) (after_burns s bs)
written_once s [] =
    record {
      as_many = refl;
      as_weak = λ i. refl;
      burnt_stays = λ i image e. e;
      unaccepted_stays = λ i h. refl;
      once = λ j k v w h l. absurd (omega arith);
      answers_each = refl;
      accepted = λ k v h. absurd (omega arith);
    }
written_once s (b ∷ bs) =
    let i = b.sector in
    let rest = written_once (next s b bs) bs in
    record {
      as_many = rest.as_many ∙ length_after s i b.image;
      as_weak = λ j. rest.as_weak j ∙ weak_after s i b.image j;
      burnt_stays = λ j image e. rest.burnt_stays j image (burnt_after s i b.image j image e);
      unaccepted_stays = λ j h. rest.unaccepted_stays j (λ k v l. h (suc k) v (omega arith)) ∙ unaccepted_after s i b.image j (λ v. h 0 v (omega arith));
      once = once_in s b bs rest;
      answers_each = ap suc rest.answers_each;
      accepted = accepted_in s b bs rest;
    }
