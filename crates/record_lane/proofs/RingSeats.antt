-- The steps of a ring, by a seat that has the slots which it should have.
use Rattle.std.proofs.Common.{◌≡◌, ℕ, ◌+◌, ◌%◌, ◌^◌, ◌<◌, true, false, List, [], ◌∷◌, ◌++◌, length, Option, Some, None, refl, sym, ap, ◌∙◌, subst, arith, length-append}
use mathlib.Core.Option.{none}
use Rattle.atomic_table.specs.Table.{Me, step, Allows}
use Rattle.record_lane.specs.declared.ring_rule.End.{End}
use Rattle.record_lane.specs.Histories.{IsPrefix}
use Rattle.record_lane.specs.RingRule.{at_head, put, at_tail, got, IsClaim, HasItem, FoundItem, IsRingSend, IsRingTake, IsRingState, SawHead, SawRoom, RaisedTail, SawTail, SawItem, RaisedHead, SawAll}
use Rattle.record_lane.proofs.RingSends.{loads_head, sees_room, raises_tail}
use Rattle.record_lane.proofs.RingTakes.{loads_tail, sees_item, raises_head}
use Rattle.record_lane.proofs.RingShares.{sees_all}

module _ {T : Type 0} (sound : ℕ → ℕ → T → Type 0) (words top n slots : ℕ) (is : slots ≡ n) (id : ℕ) (me : Me (Option T) (End T)) where
  pub seat_loads_head : me.1 ≡ [] → me.0.sends ≡ true → me.0.puts ≡ false → Allows (IsRingState sound words top n) slots id me 16 (λ k. k) (SawHead (step slots 16 0 0 none) me)
  seat_loads_head home may idle =
      let P : ℕ × List (ℕ × Option T) → Type 0 = λ y. Allows (IsRingState sound words top n) y.0 id (me.0, y.1) 16 (λ k. k) (SawHead (step y.0 16 0 0 none) (me.0, y.1)) in
      subst P (λ k. (sym is k, sym home k)) (loads_head sound words top n id me.0 may idle)

  pub seat_sees_room : me.1 ≡ [] → me.0.sends ≡ true → me.0.puts ≡ false → length me.0.sent < me.0.gone + n
      → Allows (IsRingState sound words top n) slots id me 0 (λ k. k) (SawRoom (step slots 0 0 0 none) me)
  seat_sees_room home may idle less =
      let P : ℕ × List (ℕ × Option T) → Type 0 = λ y. Allows (IsRingState sound words top n) y.0 id (me.0, y.1) 0 (λ k. k) (SawRoom (step y.0 0 0 0 none) (me.0, y.1)) in
      subst P (λ k. (sym is k, sym home k)) (sees_room sound words top n id me.0 may idle less)

  pub seat_loads_tail : me.1 ≡ [] → me.0.takes ≡ true → me.0.gets ≡ None → Allows (IsRingState sound words top n) slots id me 0 (λ k. k) (SawTail sound (step slots 0 0 0 none) me)
  seat_loads_tail home may idle =
      let P : ℕ × List (ℕ × Option T) → Type 0 = λ y. Allows (IsRingState sound words top n) y.0 id (me.0, y.1) 0 (λ k. k) (SawTail sound (step y.0 0 0 0 none) (me.0, y.1)) in
      subst P (λ k. (sym is k, sym home k)) (loads_tail sound words top n id me.0 may idle)

  pub seat_sees_item : me.1 ≡ [] → me.0.takes ≡ true → me.0.gets ≡ None → length me.0.taken < length me.0.seen
      → Allows (IsRingState sound words top n) slots id me 16 (λ k. k) (SawItem sound (step slots 16 0 0 none) me)
  seat_sees_item home may idle more =
      let P : ℕ × List (ℕ × Option T) → Type 0 = λ y. Allows (IsRingState sound words top n) y.0 id (me.0, y.1) 16 (λ k. k) (SawItem sound (step y.0 16 0 0 none) (me.0, y.1)) in
      subst P (λ k. (sym is k, sym home k)) (sees_item sound words top n id me.0 may idle more)

  pub seat_sees_all : me.1 ≡ [] → me.0.sends ≡ true → me.0.takes ≡ true → Allows (IsRingState sound words top n) slots id me 0 (λ k. k) (SawAll (step slots 0 0 0 none) me)
  seat_sees_all home a b =
      let P : ℕ × List (ℕ × Option T) → Type 0 = λ y. Allows (IsRingState sound words top n) y.0 id (me.0, y.1) 0 (λ k. k) (SawAll (step y.0 0 0 0 none) (me.0, y.1)) in
      subst P (λ k. (sym is k, sym home k)) (sees_all sound words top n id me.0 a b)

-- a send, from its claim of the slot to its raise of the tail
module _ {T : Type 0} (n slot : ℕ) (x : T) (first looked filled : Me (Option T) (End T)) (claim : IsClaim n first looked) (into : filled ≡ (looked.0, (slot, Some x) ∷ [])) where
  -- what the seat is before the raise
  full_seat : filled ≡ (at_head first.0 true looked.0.gone, (slot, Some x) ∷ [])
  full_seat = into ∙ ap (λ (m : Me (Option T) (End T)). (m.0, (slot, Some x) ∷ [])) claim.0

  pub raises_after_claim : (sound : ℕ → ℕ → T → Type 0) (words top slots : ℕ) → 0 < n → slots ≡ n → (id : ℕ) → slot ≡ length first.0.sent % n → first.0.sends ≡ true
      → sound first.0.words first.0.top x → length first.0.sent < 2 ^ 61
      → Allows (IsRingState sound words top n) slots id filled 0 (λ k. (k + 1) % 2 ^ 64) (RaisedTail (step slots 0 1 0 none) filled)
  raises_after_claim sound words top slots some_slot is id place may good few =
      let seat : filled ≡ (at_head first.0 true looked.0.gone, (length first.0.sent % n, Some x) ∷ []) =
      full_seat ∙ ap (λ (i : ℕ). (at_head first.0 true looked.0.gone, (i, Some x) ∷ [])) place in
      let P : ℕ × Me (Option T) (End T) → Type 0 = λ y. Allows (IsRingState sound words top n) y.0 id y.1 0 (λ k. (k + 1) % 2 ^ 64) (RaisedTail (step y.0 0 1 0 none) y.1) in
      subst P (λ k. (sym is k, sym seat k)) (raises_tail sound words top n some_slot id (at_head first.0 true looked.0.gone) x may refl good few)

  -- what it is after it
  sent_seat : (slots k : ℕ) (last : Me (Option T) (End T)) → RaisedTail (step slots 0 1 0 none) filled k last → last ≡ (put (at_head first.0 true looked.0.gone) x, [])
  sent_seat slots k last raise =
      raise slot x (ap (λ (m : Me (Option T) (End T)). m.1) full_seat) ∙ ap (λ (m : Me (Option T) (End T)). (put m.0 x, [])) full_seat

  pub sent_in_all : (slots k : ℕ) (last : Me (Option T) (End T)) → RaisedTail (step slots 0 1 0 none) filled k last → IsRingSend n first.0 x last.0 × (last.1 ≡ []) × (last.0.gone ≡ looked.0.gone)
  sent_in_all slots k last raise =
      let seat = sent_seat slots k last raise in
      let now : last.0 ≡ put (at_head first.0 true looked.0.gone) x = ap (λ (m : Me (Option T) (End T)). m.0) seat in
      let gone : last.0.gone ≡ looked.0.gone = ap (λ (v : End T). v.gone) now in
      let less = claim.1 in (
        record {
          after = now ∙ ap (λ (g : ℕ). put (at_head first.0 false g) x) (sym gone);
          room = omega (arith, length-append first.0.sent (x ∷ []));
        },
        ap (λ (m : Me (Option T) (End T)). m.1) seat,
        gone,
      )

-- the slot that a claim of an item has
pub claimed_slot : {T : Type 0} (sound : ℕ → ℕ → T → Type 0) (n slot : ℕ) (first looked : Me (Option T) (End T)) → HasItem sound n first looked → slot ≡ length first.0.taken % n
    → (x : T) × (looked.1 ≡ (slot, Some x) ∷ [])
claimed_slot {T = T} sound n slot first looked item place =
    (item.0, ap (λ (m : Me (Option T) (End T)). m.1) item.1.seat ∙ ap (λ i. (i, Some item.0) ∷ []) (sym place))

-- a take, from its claim of the item to its raise of the head
module _ {T : Type 0} (sound : ℕ → ℕ → T → Type 0) (n slot : ℕ) (x : T) (first looked emptied : Me (Option T) (End T)) (claim : HasItem sound n first looked)
    (held : looked.1 ≡ (slot, Some x) ∷ []) (out : emptied ≡ (looked.0, (slot, None) ∷ [])) where
  -- the item is the one that was claimed
  same_item : claim.0 ≡ x
  same_item =
      let e : ◌≡◌ {A = List (ℕ × Option T)} ((length first.0.taken % n, Some claim.0) ∷ []) ((slot, Some x) ∷ []) = sym (ap (λ (m : Me (Option T) (End T)). m.1) claim.1.seat) ∙ held in
      let pair : ◌≡◌ {A = ℕ × Option T} (length first.0.taken % n, Some claim.0) (slot, Some x) = cc in
      let inner : Some claim.0 ≡ Some x = ap (λ t. t.1) pair in
      cc

  found_item : FoundItem sound n first x looked
  found_item = subst (λ y. FoundItem sound n first y looked) same_item claim.1

  free_seat : emptied ≡ (at_tail first.0 (Some x) looked.0.seen, (slot, None) ∷ [])
  free_seat = out ∙ ap (λ (m : Me (Option T) (End T)). (m.0, (slot, None) ∷ [])) found_item.seat

  pub raises_after_take : (words top slots : ℕ) → 0 < n → slots ≡ n → (id : ℕ) → slot ≡ length first.0.taken % n → first.0.takes ≡ true
      → Allows (IsRingState sound words top n) slots id emptied 16 (λ k. (k + 1) % 2 ^ 64) (RaisedHead (step slots 16 1 0 none) emptied)
  raises_after_take words top slots some_slot is id place may =
      let seat : emptied ≡ (at_tail first.0 (Some x) looked.0.seen, (length first.0.taken % n, None) ∷ []) =
      free_seat ∙ ap (λ (i : ℕ). (at_tail first.0 (Some x) looked.0.seen, (i, None) ∷ [])) place in
      let P : ℕ × Me (Option T) (End T) → Type 0 = λ y. Allows (IsRingState sound words top n) y.0 id y.1 16 (λ k. (k + 1) % 2 ^ 64) (RaisedHead (step y.0 16 1 0 none) y.1) in
      subst P (λ k. (sym is k, sym seat k)) (raises_head sound words top n some_slot id (at_tail first.0 (Some x) looked.0.seen) x may refl)

  taken_seat : (slots k : ℕ) (last : Me (Option T) (End T)) → RaisedHead (step slots 16 1 0 none) emptied k last → last ≡ (got (at_tail first.0 (Some x) looked.0.seen) x, [])
  taken_seat slots k last raise =
      raise x (ap (λ (m : Me (Option T) (End T)). m.0.gets) free_seat) ∙ ap (λ (m : Me (Option T) (End T)). (got m.0 x, [])) free_seat

  pub taken_in_all : (slots k : ℕ) (last : Me (Option T) (End T)) → RaisedHead (step slots 16 1 0 none) emptied k last → IsRingTake sound first.0 x last.0 × (last.1 ≡ []) × (last.0.seen ≡ looked.0.seen)
  taken_in_all slots k last raise =
      let seat = taken_seat slots k last raise in
      let now : last.0 ≡ got (at_tail first.0 (Some x) looked.0.seen) x = ap (λ (m : Me (Option T) (End T)). m.0) seat in
      let seen : last.0.seen ≡ looked.0.seen = ap (λ (v : End T). v.seen) now in (
        record {
          after = now ∙ ap (λ (l : List T). got (at_tail first.0 None l) x) (sym seen);
          good = found_item.good;
          short = found_item.short;
          seen = subst (λ l. IsPrefix (first.0.taken ++ x ∷ []) l) (sym seen) found_item.seen;
          all = λ p. seen ∙ found_item.all p;
        },
        ap (λ (m : Me (Option T) (End T)). m.1) seat,
        seen,
      )
