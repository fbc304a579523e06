-- What a whole run of burns answers and leaves, whatever is asked for.
use Rattle.std.specs.Prelude.{◌≡◌, ℕ, ◌<◌, List, [], ◌∷◌, length, Ok, Err, Result, ◌≢◌, slice_index_or}
use Rattle.medium.specs.Calls.{burning, sectors_after, verdict}
use Rattle.medium.specs.Faults.{medium_fault}
use Rattle.medium.specs.Sectors.{Sector, blank, burnt, sector_at}
use Rattle.medium.specs.declared.faults.Fault.{Fault}
use Rattle.medium.specs.declared.faults.Refusal.TheVariants.{NoSuchSector}
use Rattle.medium.specs.declared.interface.Verdict.{Verdict}
use Rattle.medium.specs.declared.runs.Burn.{Burn}

-- the sectors once the burns were asked for, in order
abbrev pub after_burns : List Sector → List Burn → List Sector
after_burns s [] = s
after_burns s (b ∷ bs) = after_burns (sectors_after s b.sector b.image) bs

-- what each of them answered
abbrev pub burn_answers : List Sector → List Burn → List (Result Verdict Fault)
burn_answers s [] = []
burn_answers s (b ∷ bs) = burning s b.sector (length b.image) ∷ burn_answers (sectors_after s b.sector b.image) bs

-- what a place past the last burn reads as; no promise speaks of it
abbrev pub no_burn : Burn
no_burn = record { sector = 0; image = [] }

abbrev pub burn_at : List Burn → ℕ → Burn
burn_at bs k = slice_index_or bs k no_burn

abbrev pub no_answer : Result Verdict Fault
no_answer = Err (medium_fault NoSuchSector 0)

abbrev pub answer_at : List (Result Verdict Fault) → ℕ → Result Verdict Fault
answer_at rs k = slice_index_or rs k no_answer

-- burn b was accepted with the verdict v in a run that took the sectors s to t
pub record Accepted (s : List Sector) (b : Burn) (v : Verdict) (t : List Sector) : Type 0 where
  pub was_blank : (sector_at s b.sector).state ≡ blank
  pub told : verdict (sector_at s b.sector).weak ≡ v
  pub stays : (sector_at t b.sector).state ≡ burnt b.image

-- burns bs, answered rs, took the sectors s to t, and every sector was written once at most
pub record WrittenOnce (s : List Sector) (bs : List Burn) (rs : List (Result Verdict Fault)) (t : List Sector) : Type 0 where
  -- no sector comes or goes, and none turns weak or sound
  pub as_many : length t ≡ length s
  pub as_weak : (i : ℕ) → (sector_at t i).weak ≡ (sector_at s i).weak
  -- what was burnt before the run is as it was
  pub burnt_stays : (i : ℕ) (image : List ℕ) → (sector_at s i).state ≡ burnt image → (sector_at t i).state ≡ burnt image
  -- a sector that no accepted burn asked for is as it was
  pub unaccepted_stays : (i : ℕ) → ((k : ℕ) (v : Verdict) → k < length bs → answer_at rs k ≡ Ok v → (burn_at bs k).sector ≢ i) → sector_at t i ≡ sector_at s i
  -- no two burns of one sector are accepted
  pub once : (j k : ℕ) (v w : Verdict) → j < k → k < length bs → answer_at rs j ≡ Ok v → answer_at rs k ≡ Ok w → (burn_at bs j).sector ≢ (burn_at bs k).sector
  -- an accepted burn found its sector blank, told whether it is weak, and its bytes stand there when the run has ended
  pub answers_each : length rs ≡ length bs
  pub accepted : (k : ℕ) (v : Verdict) → k < length bs → answer_at rs k ≡ Ok v → Accepted s (burn_at bs k) v t

-- the burns bs were asked for in order, of the sectors s: rs is what they answered, and t what they left
pub record BurntInOrder (s : List Sector) (bs : List Burn) (rs : List (Result Verdict Fault)) (t : List Sector) : Type 0 where
  pub answered : rs ≡ burn_answers s bs
  pub left : t ≡ after_burns s bs
  pub once : WrittenOnce s bs rs t
