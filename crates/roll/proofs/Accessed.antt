-- What reading and burning a sector of an open roll come to, way by way.
use Rattle.std.proofs.Common.{◌≡◌, ℕ, ◌+◌, ◌*◌, ◌<◌, Bool, false, cond, eqb, List, length, set, Some, None, Ok, Err, vec_items, Option, Vec, is_some, get_or, refl, sym, ap, ◌∙◌, subst, arith}
use Rattle.medium.proofs.Reached.{burning_as, image_as, reading_as, sectors_as, whole_image, within}
use Rattle.medium.specs.Calls.{burning, filled, image_after, reaching, reading, sectors_after, shown, verdict, with_burnt}
use Rattle.medium.specs.Faults.{medium_fault}
use Rattle.medium.specs.Sectors.{Sector, is_blank, sector_at}
use Rattle.medium.specs.declared.faults.Refusal.TheVariants.{AlreadyBurnt}
use Rattle.roll.specs.Slotted.{Told, told}
use Rattle.roll.specs.Wound.{filled_burnt, length_with_slot, no_slot, roll_at, roll_burnt, room_left, verdicts_kept}
use Rattle.roll.specs.Access.{sectors_of}
use Rattle.roll.specs.Rolls.{roll_sectors}
use Rattle.roll.specs.Slots.{Filled, Verdicts, held, slot_of, verdict_at, with_slot}
use Rattle.roll.specs.declared.rolls.Roll.{Roll}
use Rattle.std.proofs.lemmas.List.{get_or_read, with_items_is}
use Rattle.std.specs.Vec.{with_items}
use Rattle.std.specs.declared.alloc.Global.{Global}

-- a sector is burnt exactly if it has a slot
turned : {X : Type 0} (xs : List ℕ) (p : ℕ) (o : Option ℕ) (b : Bool) → b ≡ is_some o → (r t : X) → cond b r t ≡ cond (is_blank (held xs p o)) t r
turned xs p None b e r t = ap (λ d. cond d r t) e
turned xs p (Some k) b e r t = ap (λ d. cond d r t) e

module _ (m : Roll) (i : ℕ) (image : List ℕ) where
  abbrev s : List Sector
  s = sectors_of m

  abbrev xs : List ℕ
  xs = vec_items m.memory

  abbrev index : List (Option ℕ)
  index = vec_items m.index

  abbrev p : ℕ
  p = m.count

  abbrev u : ℕ
  u = m.used

  abbrev new : List ℕ
  new = with_slot xs (p + 528 * u) i image

  -- the index has o for the sector
  module _ (e : Ok tt ≡ reaching p i (length image)) (o : Option ℕ) (read : o ≡ get_or index i o) where
    inside : i < p
    inside = within p i (length image) e

    whole : length image ≡ 524
    whole = whole_image p i (length image) e

    here : o ≡ get_or index i None
    here = get_or_read index i o (omega (arith, m.filled.long, inside)) read None

    slot : slot_of xs p p i ≡ o
    slot = sym (here ∙ m.filled.indexed i inside)

    module _ (w : Bool) (judged : w ≡ eqb (verdict_at xs i) 1) where
      at : (q : Option ℕ) → o ≡ q → sector_at s i ≡ record { weak = w; state = held xs p q }
      at q is = roll_at xs p i inside w q (sym judged) (slot ∙ is)

      pub read_as : (q : Option ℕ) → o ≡ q → (Ok (shown w (held xs p q)) ≡ reading s i (length image)) × (filled w (held xs p q) image ≡ image_after s i image)
      read_as q is = (reading_as s p i image m.row e _ (at q is), image_as s p i image m.row e _ (at q is))

      -- b tells whether the index has a slot
      module _ (b : Bool) (has : b ≡ is_some o) where
        pub burn_as : cond b (Err (medium_fault AlreadyBurnt i)) (Ok (verdict w)) ≡ burning s i (length image)
        burn_as = turned xs p o b has _ _ ∙ burning_as s p i image m.row e _ (at o refl)

        pub after_as : cond b s (with_burnt s i image) ≡ sectors_after s i image
        after_as = turned xs p o b has _ _ ∙ sectors_as s p i image m.row e _ (at o refl)

    pub slot_within : (k : ℕ) → o ≡ Some k → k < p
    slot_within k is = (subst (Told xs p p i) (slot ∙ is) (told xs p p i)).0

    -- it has no slot, and the first unused one is written
    module _ (free_now : false ≡ is_some o) where
      free_here : false ≡ is_some (get_or index i None)
      free_here = free_now ∙ ap is_some here

      room : u < p
      room = room_left xs p u i index m.filled inside free_here

      none : slot_of xs p p i ≡ None
      none = no_slot xs p u i index m.filled inside free_here

      -- the memory once it was lent and the slot written
      module _ (ws ys : List ℕ) (at : ℕ) (lent : ys ≡ xs) (begins : at ≡ p + 528 * u) (written : ws ≡ with_slot ys at i image) where
        abbrev v : Vec ℕ Global
        v = with_items m.memory ws

        sized_new : length new ≡ length xs
        sized_new = length_with_slot xs (p + 528 * u) i image (omega (arith, m.sized, room)) whole

        same : ws ≡ new
        same = written ∙ ap (λ zs. with_slot zs at i image) lent ∙ ap (λ n. with_slot xs n i image) begins

        stored : vec_items v ≡ new
        stored = with_items_is m.memory ws (ap length same ∙ sized_new ∙ sym m.memory.ok.0) ∙ same

        abbrev Kept : List ℕ → Type 0
        Kept zs = (length zs ≡ 529 * p) × Verdicts zs p × Filled zs p p (set index i (Some u)) (u + 1)

        pub kept : Kept (vec_items v)
        kept =
            subst Kept (sym stored) (
              sized_new ∙ m.sized,
              verdicts_kept xs p u i image m.few m.sized m.filled.slots room inside none whole m.judged,
              filled_burnt xs p u i index m.filled inside free_here image m.few m.sized whole,
            )

        pub burnt_as : roll_sectors (vec_items v) p ≡ with_burnt s i image
        burnt_as = ap (λ zs. roll_sectors zs p) stored ∙ roll_burnt xs p u i image m.few m.sized m.filled.slots room inside none whole
