-- What a bench test finds, on any medium and for any list of burns.
use Rattle.std.specs.Prelude.{◌≡◌, ℕ, ◌<◌, Bool, true, false, cond, List, map, count_by, length, Ok, Err, vec_items, Result, slice_index_or}
use Rattle.bench.specs.declared.compare.ReadBack.{ReadBack}
use Rattle.bench.specs.declared.compare.ReadBack.TheVariants.{Blank, Spoiled, Same, Different}
use Rattle.bench.specs.declared.trial.Account.{Account}
use Rattle.medium.specs.Calls.{reach_or}
use Rattle.medium.specs.Runs.{BurntInOrder, answer_at}
use Rattle.medium.specs.Sectors.{Sector, State, blank, burnt, sector_at}
use Rattle.medium.specs.declared.faults.Fault.{Fault}
use Rattle.medium.specs.declared.interface.Verdict.TheVariants.{Sound, Weak}
use Rattle.medium.specs.declared.runs.Burn.{Burn}
use Rattle.std.specs.Str.{bytes_eq}

-- what a sector shows to one who knows which bytes were asked for
abbrev pub compared : Bool → State → List ℕ → ReadBack
compared weak blank wanted = Blank
compared true (burnt image) wanted = Spoiled
compared false (burnt image) wanted = cond (bytes_eq image wanted) Same Different

-- what is read where a burn was asked for
abbrev pub reading_back : List Sector → Burn → Result ReadBack Fault
reading_back s b = reach_or (length s) b.sector 524 (Ok (compared (sector_at s b.sector).weak (sector_at s b.sector).state b.image))

-- what a place past the last reading reads as; no promise speaks of it
abbrev pub no_reading : Result ReadBack Fault
no_reading = Ok Blank

abbrev pub reading_at : List (Result ReadBack Fault) → ℕ → Result ReadBack Fault
reading_at rs k = slice_index_or rs k no_reading

-- how many readings found the bytes that were asked for
abbrev pub found_same : Result ReadBack Fault → Bool
found_same (Ok Same) = true
found_same (Ok Blank) = false
found_same (Ok Spoiled) = false
found_same (Ok Different) = false
found_same (Err f) = false

abbrev pub alike : List (Result ReadBack Fault) → ℕ
alike rs = count_by found_same rs

-- burns bs took the sectors s to t, and a is the account of it
pub record Tested (s : List Sector) (bs : List Burn) (a : Account) (t : List Sector) : Type 0 where
  pub burnt_first : BurntInOrder s bs (vec_items a.burnt) t
  pub then_read : vec_items a.read ≡ map (reading_back t) bs
  -- what was burnt soundly reads back the same, and what proved weak reads back as spoiled
  pub sound_is_same : (k : ℕ) → k < length bs → answer_at (vec_items a.burnt) k ≡ Ok Sound → reading_at (vec_items a.read) k ≡ Ok Same
  pub weak_is_spoiled : (k : ℕ) → k < length bs → answer_at (vec_items a.burnt) k ≡ Ok Weak → reading_at (vec_items a.read) k ≡ Ok Spoiled
