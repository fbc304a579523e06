-- What an accepted burn answered agrees with what is then read back.
use Rattle.std.proofs.Common.{◌≡◌, ℕ, ◌<◌, Bool, true, false, List, map, length, Ok, Result, sym, refl, ap, ◌∙◌, ⊎_elim, arith}
use Rattle.bench.specs.Trials.{compared, no_reading, reading_at, reading_back}
use Rattle.bench.specs.declared.compare.ReadBack.{ReadBack}
use Rattle.bench.specs.declared.compare.ReadBack.TheVariants.{Same, Spoiled}
use Rattle.medium.specs.Calls.{reaches, verdict}
use Rattle.medium.specs.Runs.{Accepted, WrittenOnce, answer_at, burn_at, no_burn}
use Rattle.medium.specs.Sectors.{Sector, State, beyond, burnt, sector_at}
use Rattle.medium.specs.declared.faults.Fault.{Fault}
use Rattle.medium.specs.declared.interface.Verdict.{Verdict}
use Rattle.medium.specs.declared.interface.Verdict.TheVariants.{Sound, Weak}
use Rattle.medium.specs.declared.runs.Burn.{Burn}
use Rattle.std.proofs.lemmas.Slice.Eq.{bytes_eq-Decides}
use Rattle.std.proofs.lemmas.List.{get_or-map, get_or_past}
use Rattle.std.proofs.lemmas.Bool.{cases_lt, cond-true, lt-ltb}
use Rattle.std.specs.Str.{bytes_eq}

-- what a verdict foretells of reading
abbrev pub foretold : Verdict → ReadBack
foretold Sound = Same
foretold Weak = Spoiled

by_verdict : (weak : Bool) (image : List ℕ) → compared weak (burnt image) image ≡ foretold (verdict weak)
by_verdict true image = refl
by_verdict false image = cond-true (bytes_eq image image) _ _ ((bytes_eq-Decides image image).1 refl)

-- a burnt sector is one of the medium's
burnt_within : (t : List Sector) (i : ℕ) (image : List ℕ) → (sector_at t i).state ≡ burnt image → i < length t
burnt_within t i image e =
    ⊎_elim
    (λ h. h)
    (λ past. let b : beyond.state ≡ burnt image = ap (λ (x : Sector). x.state) (sym (get_or_past t i beyond past)) ∙ e in let z : ◌≡◌ {A = ℕ} 0 1 = cc in absurd (omega arith))
    (cases_lt i (length t))

read_after : (s t : List Sector) (b : Burn) (v : Verdict) → ((i : ℕ) → (sector_at t i).weak ≡ (sector_at s i).weak) → Accepted s b v t → reading_back t b ≡ Ok (foretold v)
read_after s t b v as_weak a =
    cond-true (reaches (length t) b.sector 524) _ _ (lt-ltb b.sector (length t) (burnt_within t b.sector b.image a.stays))
    ∙ ap (λ (x : State). Ok (compared (sector_at t b.sector).weak x b.image)) a.stays
    ∙ ap (λ w. Ok (compared w (burnt b.image) b.image)) (as_weak b.sector)
    ∙ ap Ok (by_verdict (sector_at s b.sector).weak b.image)
    ∙ ap (λ w. Ok (foretold w)) a.told

pub agrees : (s : List Sector) (bs : List Burn) (rs : List (Result Verdict Fault)) (t : List Sector) → WrittenOnce s bs rs t → (k : ℕ) (v : Verdict) → k < length bs → answer_at rs k ≡ Ok v → reading_at (map (reading_back t) bs) k ≡ Ok (foretold v)
agrees s bs rs t once k v h e =
    get_or-map (reading_back t) bs k no_burn no_reading h ∙ read_after s t (burn_at bs k) v once.as_weak (once.accepted k v h e)
