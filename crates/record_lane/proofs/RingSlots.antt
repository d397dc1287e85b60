-- The slots of a ring, as the tokens take them and give them back.
use Rattle.std.proofs.Common.{◌≡◌, ◌≢◌, ℕ, ◌+◌, ◌%◌, ◌<◌, ◌≤◌, Bool, true, false, true≢false, List, [], ◌∷◌, ◌++◌, length, set, Option, Some, None, sym, refl, ap, ◌∙◌, ⊎_elim, mod-lt, arith, length-append}
use Rattle.std.proofs.Math.Nat.{add-mod_right}
use Rattle.std.proofs.Math.Decide.{dec_lt}
use mathlib.Core.Option.{Option as Maybe, some, none}
use mathlib.Core.Logic.{dite}
use lib.ListN.{get_elem?}
use Rattle.atomic_table.proofs.Lists.{one_turn, set_here, set_else}
use Rattle.record_lane.specs.RingRule.{HasSlots}
use Rattle.record_lane.proofs.Seats.{at_below, at_more}

-- two places less than n apart have slots of their own
apart : (a b n : ℕ) → a < b → b < a + n → a % n ≢ b % n
apart a b n less near e = let same : a ≡ b = one_turn a b n (omega arith) near e in omega arith

module _ {T : Type 0} (n : ℕ) (homes : List (Maybe (Option T))) (sent taken : List T) where
  -- another place's slot is as it was
  elsewhere : (place at : ℕ) (now : Maybe (Option T)) (is : Maybe (Maybe (Option T))) → place % n ≢ at % n → get_elem? homes (place % n) ≡ is → get_elem? (set homes (at % n) now) (place % n) ≡ is
  elsewhere place at now is ne was = set_else homes (at % n) (place % n) now ne ∙ was

  -- the sender takes the slot of the next place
  pub slot_to_fill : (gets : Option T) → length taken ≤ length sent → length sent < length taken + n → HasSlots n homes sent taken false gets → HasSlots n (set homes (length sent % n) none) sent taken true gets
  slot_to_fill gets some_order room h =
      record {
        full = λ place x low at_place out.
            let below = at_below sent x place at_place in
            elsewhere place (length sent) none (some (some (Some x))) (apart place (length sent) n below (omega arith)) (h.full place x low at_place out);
        free = λ place high near out.
            let past : length sent ≢ place = λ e. true≢false (out (sym e)) in
            elsewhere place (length sent) none (some (some None)) (λ e. apart (length sent) place n (omega arith) (omega arith) (sym e)) (h.free place high near (λ _. refl));
      }

  -- and gives it back with the item
  pub slot_filled : (gets : Option T) (x : T) → 0 < n → length homes ≡ n → length taken ≤ length sent → length sent < length taken + n → HasSlots n homes sent taken true gets
      → HasSlots n (set homes (length sent % n) (some (Some x))) (sent ++ x ∷ []) taken false gets
  slot_filled gets x some_slot wide order room h =
      let longer : length (sent ++ x ∷ []) ≡ length sent + 1 = length-append sent (x ∷ []) in
      let index : length sent % n < n = mod-lt (length sent) some_slot in
      record {
        full = λ place y low at_place out.
            ⊎_elim
            (λ (old : get_elem? sent place ≡ some y).
            let below = at_below sent y place old in
            elsewhere place (length sent) (some (Some x)) (some (some (Some y))) (apart place (length sent) n below (omega arith)) (h.full place y low old out))
            (λ (new : (place ≡ length sent) × (x ≡ y)).
            ap (λ (p : ℕ). get_elem? (set homes (length sent % n) (some (Some x))) (p % n)) new.0 ∙ set_here homes (length sent % n) (some (Some x)) (omega arith)
            ∙ ap (λ (z : T). some (some (Some z))) new.1)
            (at_more sent x y place at_place);
        free = λ place high near _.
            elsewhere place (length sent) (some (Some x)) (some (some None)) (λ e. apart (length sent) place n (omega arith) (omega arith) (sym e))
            (h.free place (omega arith) near (λ e. absurd (omega arith)));
      }

  -- the taker takes the slot of the oldest item
  pub slot_to_empty : (puts : Bool) (x : T) → length taken < length sent → length sent ≤ length taken + n → HasSlots n homes sent taken puts None
      → HasSlots n (set homes (length taken % n) none) sent taken puts (Some x)
  slot_to_empty puts x order room h =
      record {
        full = λ place y low at_place out.
            let below = at_below sent y place at_place in
            let past : place ≢ length taken = λ e. (let never = out e in cc) in
            elsewhere place (length taken) none (some (some (Some y))) (λ e. apart (length taken) place n (omega arith) (omega arith) (sym e)) (h.full place y low at_place (λ _. refl));
        free = λ place high near out.
            elsewhere place (length taken) none (some (some None)) (λ e. apart (length taken) place n (omega arith) (omega arith) (sym e)) (h.free place high near out);
      }

  -- and gives it back free
  pub slot_emptied : (puts : Bool) (x : T) → 0 < n → length homes ≡ n → length taken < length sent → length sent ≤ length taken + n → HasSlots n homes sent taken puts (Some x)
      → HasSlots n (set homes (length taken % n) (some None)) sent (taken ++ x ∷ []) puts None
  slot_emptied puts x some_slot wide order room h =
      let longer : length (taken ++ x ∷ []) ≡ length taken + 1 = length-append taken (x ∷ []) in
      let index : length taken % n < n = mod-lt (length taken) some_slot in
      record {
        full = λ place y low at_place _.
            let below = at_below sent y place at_place in
            elsewhere place (length taken) (some None) (some (some (Some y))) (λ e. apart (length taken) place n (omega arith) (omega arith) (sym e))
            (h.full place y (omega arith) at_place (λ e. absurd (omega arith)));
        free = λ place high near out.
            dite (dec_lt place (length taken + n))
            (λ within. elsewhere place (length taken) (some None) (some (some None)) (λ e. apart (length taken) place n (omega arith) within (sym e)) (h.free place high within out))
            (λ past.
            let is : place ≡ length taken + n = omega arith in
            ap (λ (p : ℕ). get_elem? (set homes (length taken % n) (some None)) (p % n)) is
            ∙ ap (λ (i : ℕ). get_elem? (set homes (length taken % n) (some None)) i) (add-mod_right (length taken) n)
            ∙ set_here homes (length taken % n) (some None) (omega arith));
      }
