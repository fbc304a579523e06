-- What the cells of a plate hold once one of them is written.
use Rattle.std.specs.Prelude.{◌≡◌, ℕ, ◌+◌, ◌*◌, ◌<◌, ◌≤◌, List, ◌∷◌, [], ◌++◌, length, take, drop, ◌≢◌, slice_index, slice_index_or, slice_set}
use Rattle.std.proofs.Common.{ap, ◌∙◌, set, ⊎_elim, arith, rules}
use Rattle.std.proofs.lemmas.List.{length-take-le, set_at, take_more, append_assoc, drop_at, take_at, places, length-take, length-drop, length-append}
use Rattle.std.proofs.lemmas.Bool.{cases_lt}
use Rattle.plate.specs.Cells.{image_at, mark_at, state_at, with_image}
use Rattle.medium.proofs.Parts.{part_same}
use Rattle.medium.specs.Sectors.{burnt}

module _ (xs : List ℕ) (i : ℕ) (image : List ℕ) (fits : 525 * i + 525 ≤ length xs) (whole : length image ≡ 524) where
  pub length_with_image : length (with_image xs i image) ≡ length xs
  length_with_image = simp (length-append, length-take, length-drop) (omega arith)

  pub mark_with_image : mark_at (with_image xs i image) i ≡ 1
  mark_with_image = search (rules, places)

  pub image_with_image : image_at (with_image xs i image) i ≡ image
  image_with_image =
      let rest = drop (525 * i + 525) xs in
      let front : length (take (525 * i) xs ++ 1 ∷ []) ≡ 525 * i + 1 = simp (length-append, length-take) (omega arith) in
      rw (← append_assoc (take (525 * i) xs) (1 ∷ []) (image ++ rest), drop_at (take (525 * i) xs ++ 1 ∷ []) (image ++ rest) (525 * i + 1) front, take_at image rest 524 whole)

  pub state_with_image : state_at (with_image xs i image) i ≡ burnt image
  state_with_image = rw (mark_with_image, image_with_image)

  pub before_with_image : (j d : ℕ) → j < 525 * i → slice_index_or (with_image xs i image) j d ≡ slice_index_or xs j d
  before_with_image j d h = grind (arith, places)

  pub in_with_image : (j d : ℕ) → j < 524 → slice_index_or (with_image xs i image) (525 * i + 1 + j) d ≡ slice_index_or image j d
  in_with_image j d h = grind (arith, places)

  pub past_with_image : (j d : ℕ) → 525 * i + 525 ≤ j → slice_index_or (with_image xs i image) j d ≡ slice_index_or xs j d
  past_with_image j d h = grind (arith, places)

  -- a byte of another cell
  pub other_byte : (k j d : ℕ) → (k ≢ i) → 525 * k ≤ j → j < 525 * k + 525 → slice_index_or (with_image xs i image) j d ≡ slice_index_or xs j d
  other_byte k j d ne low high = ⊎_elim (λ l. before_with_image j d (omega arith)) (λ l. past_with_image j d (omega arith)) (cases_lt k i)

  pub other_mark : (k : ℕ) → (k ≢ i) → mark_at (with_image xs i image) k ≡ mark_at xs k
  other_mark k ne = other_byte k (525 * k) 0 ne (omega arith) (omega arith)

  pub other_state : (k : ℕ) → (k ≢ i) → state_at (with_image xs i image) k ≡ state_at xs k
  other_state k ne =
      let e = part_same _ _ 524 (525 * k + 1) length_with_image (λ j d low high. other_byte k j d ne (omega arith) (omega arith)) in
      rw (other_mark k ne, e)

-- a byte is written just before what was pasted
pub stored : (xs zs : List ℕ) (a : ℕ) → a < length xs → slice_set (take (a + 1) xs ++ zs) a 1 ≡ take a xs ++ 1 ∷ zs
stored xs zs a h =
    ap (λ t. set (t ++ zs) a 1) (take_more xs a 0 h)
    ∙ ap (λ t. set t a 1) (append_assoc (take a xs) (slice_index xs a ∷ []) zs)
    ∙ set_at (take a xs) (slice_index xs a) zs 1 a (length-take-le a xs (omega arith))
