-- The sender's steps keep the rule of a ring.
use Rattle.std.proofs.Common.{◌≡◌, ℕ, ◌+◌, ◌%◌, ◌^◌, ◌<◌, ◌≤◌, Bool, true, false, true≢false, List, [], ◌∷◌, ◌++◌, length, get_or, set, Option, Some, None, sym, refl, ap, ◌∙◌, subst, append_assoc, arith, length-append}
use Rattle.std.proofs.Math.Decide.{dec_lt}
use Rattle.std.proofs.lemmas.List.{set-get_or}
use Rattle.std.proofs.lemmas.List.Elements.{All-push}
use mathlib.Core.Option.{none, some}
use mathlib.Core.Logic.{dite}
use lib.ListN.{get_elem?}
use Rattle.atomic_table.specs.Table.{State, step, keeps, takes, gives, stepped, Allows}
use Rattle.record_lane.specs.declared.ring_rule.End.{End}
use Rattle.record_lane.specs.RingRule.{ring_words, at_head, put, IsEndOf, HasSlots, IsRingState, SawHead, RaisedTail, SawRoom}
use Rattle.record_lane.proofs.Seats.{Each, each_set}
use Rattle.record_lane.proofs.Prefixes.{prefix_more}
use Rattle.record_lane.proofs.RingSlots.{slot_to_fill, slot_filled}
use Rattle.record_lane.proofs.RingEnds.{end_of_sent, end_of_slot, raised, held_count}

module _ {T : Type 0} (sound : ℕ → ℕ → T → Type 0) (words top n : ℕ) where
  -- the ends after the sender's look at any word
  ends_at_head : (id : ℕ) (v : End T) → v.sends ≡ true → (s : State (Option T) (End T)) → (h : IsRingState sound words top n s) → get_elem? s.views id ≡ some v
      → (now : Bool) → Each (IsEndOf h.writer h.reader h.sent h.taken now h.gets words top) (set s.views id (at_head v now (length h.taken)))
  ends_at_head id v may s h at now =
      let mine = h.ends id v at in
      let me = mine.0 may in
      each_set (IsEndOf h.writer h.reader h.sent h.taken now h.gets words top) s.views id (at_head v now (length h.taken)) (
        (λ _. record { seat = me.seat; list = me.list; slot = refl; gone = omega arith; numbers = me.numbers }),
        λ p. let t = mine.1 p in record { seat = t.seat; list = t.list; slot = t.slot; seen = t.seen; numbers = t.numbers },
      )
      (λ j u ne e. end_of_slot h.writer h.reader h.sent h.taken h.puts h.gets words top now j u (λ is. ne (is ∙ sym me.seat)) (h.ends j u e))

  -- after a look at any word, while there is room, the sender may have the next slot
  claims : (place id : ℕ) (v : End T) → v.sends ≡ true → v.puts ≡ false → (s : State (Option T) (End T)) → (h : IsRingState sound words top n s) → get_elem? s.views id ≡ some v
      → length v.sent < length h.taken + n
      → (get_elem? s.homes (length v.sent % n) ≡ some (some None))
      × IsRingState sound words top n (stepped s place (get_or s.words place 0) id [] (at_head v true (length h.taken)) (takes (length v.sent % n) None))
  claims place id v may idle s h at less =
      let me = (h.ends id v at).0 may in
      let count : length h.sent ≡ length h.taken + length h.held = held_count sound words top n s h in
      let same : length v.sent ≡ length h.sent = ap length me.list in
      let fewer : length h.held < n = omega arith in
      let free_now : h.puts ≡ false = sym me.slot ∙ idle in
      let slots : HasSlots n s.homes h.sent h.taken false h.gets = subst (λ b. HasSlots n s.homes h.sent h.taken b h.gets) free_now h.slots in
      let P : ℕ → Type 0 = λ k. HasSlots n (set s.homes (k % n) none) h.sent h.taken true h.gets in
      let Q : ℕ → Type 0 = λ k. get_elem? s.homes (k % n) ≡ some (some None) in (
        subst Q (sym same) (slots.free (length h.sent) (omega arith) (omega arith) (λ _. refl)),
        record {
          writer = h.writer;
          reader = h.reader;
          sent = h.sent;
          taken = h.taken;
          held = h.held;
          puts = true;
          gets = h.gets;
          counts = set-get_or s.words place 0 ∙ h.counts;
          whole = h.whole;
          each = h.each;
          room = h.room;
          short = h.short;
          slots = subst P (sym same) (slot_to_fill n s.homes h.sent h.taken h.gets (omega arith) (omega arith) slots);
          putting = λ _. fewer;
          getting = h.getting;
          ends = ends_at_head id v may s h at true;
        },
      )

  pub loads_head : (id : ℕ) (v : End T) → v.sends ≡ true → v.puts ≡ false → Allows (IsRingState sound words top n) n id (v, []) 16 (λ k. k) (SawHead (step n 16 0 0 none) (v, []))
  loads_head id v may idle s h wide at small =
      let me = (h.ends id v at).0 may in
      let found : ℕ = get_or s.words 16 0 in
      let is_found : found ≡ length h.taken = ap (λ ws. get_or ws 16 0) h.counts in
      let count : length h.sent ≡ length h.taken + length h.held = held_count sound words top n s h in
      let same : length v.sent ≡ length h.sent = ap length me.list in
      let room : length h.held ≤ n = h.room in
      let before : v.gone ≤ length h.taken = me.gone in
      let free_now : h.puts ≡ false = sym me.slot ∙ idle in
      dite (dec_lt (length v.sent) (found + n))
      (λ less.
      let slot = claims 16 id v may idle s h at (omega arith) in (
        at_head v true (length h.taken),
        takes (length v.sent % n) None,
        slot.0,
        slot.1,
        ((λ _. (refl, omega arith)), (λ over. absurd (omega arith)), is_found, omega arith, omega arith),
      ))
      (λ more. (
        at_head v false (length h.taken),
        keeps,
        tt,
        record {
          writer = h.writer;
          reader = h.reader;
          sent = h.sent;
          taken = h.taken;
          held = h.held;
          puts = false;
          gets = h.gets;
          counts = set-get_or s.words 16 0 ∙ h.counts;
          whole = h.whole;
          each = h.each;
          room = h.room;
          short = h.short;
          slots = subst (λ b. HasSlots n s.homes h.sent h.taken b h.gets) free_now h.slots;
          putting = λ p. absurd (true≢false (sym p));
          getting = h.getting;
          ends = ends_at_head id v may s h at false;
        },
        ((λ under. absurd (more under)), (λ _. (ap (λ k. (at_head v false k, [])) (sym is_found), omega arith)), is_found, omega arith, omega arith),
      ))

  pub sees_room : (id : ℕ) (v : End T) → v.sends ≡ true → v.puts ≡ false → length v.sent < v.gone + n
      → Allows (IsRingState sound words top n) n id (v, []) 0 (λ k. k) (SawRoom (step n 0 0 0 none) (v, []))
  sees_room id v may idle less s h wide at small =
      let me = (h.ends id v at).0 may in
      let before : v.gone ≤ length h.taken = me.gone in
      let slot = claims 0 id v may idle s h at (omega arith) in
      (at_head v true (length h.taken), takes (length v.sent % n) None, slot.0, slot.1, ((refl, omega arith), before))

module _ {T : Type 0} (sound : ℕ → ℕ → T → Type 0) (words top n : ℕ) (some_slot : 0 < n) where
  pub raises_tail : (id : ℕ) (v : End T) (x : T) → v.sends ≡ true → v.puts ≡ true → sound v.words v.top x → length v.sent < 2 ^ 61
      → Allows (IsRingState sound words top n) n id (v, (length v.sent % n, Some x) ∷ []) 0 (λ k. (k + 1) % 2 ^ 64) (RaisedTail (step n 0 1 0 none) (v, (length v.sent % n, Some x) ∷ []))
  raises_tail id v x may busy good few s h wide at small =
      let mine = h.ends id v at in
      let me = mine.0 may in
      let count : length h.sent ≡ length h.taken + length h.held = held_count sound words top n s h in
      let same : length v.sent ≡ length h.sent = ap length me.list in
      let out : h.puts ≡ true = sym me.slot ∙ busy in
      let fewer : length h.held < n = h.putting out in
      let sent : List T = h.sent ++ x ∷ [] in
      let longer : length sent ≡ length h.sent + 1 = length-append h.sent (x ∷ []) in
      let raise : (length h.sent + 1) % 2 ^ 64 ≡ length sent = raised (length h.sent) (omega arith) ∙ sym longer in
      let fits : sound words top x = subst (λ (y : ℕ × ℕ). sound y.0 y.1 x) (λ k. (me.numbers.0 k, me.numbers.1 k)) good in
      let slots : HasSlots n s.homes h.sent h.taken true h.gets = subst (λ b. HasSlots n s.homes h.sent h.taken b h.gets) out h.slots in
      let P : ℕ → Type 0 = λ k. HasSlots n (set s.homes (k % n) (some (Some x))) sent h.taken false h.gets in (
        put v x,
        gives,
        tt,
        record {
          writer = h.writer;
          reader = h.reader;
          sent = sent;
          taken = h.taken;
          held = h.held ++ x ∷ [];
          puts = false;
          gets = h.gets;
          counts = ap (λ ws. set ws 0 ((get_or ws 0 0 + 1) % 2 ^ 64)) h.counts ∙ ap (λ k. ring_words k (length h.taken)) raise;
          whole = ap (λ l. l ++ x ∷ []) h.whole ∙ append_assoc h.taken h.held (x ∷ []);
          each = All-push (sound words top) h.held x h.each fits;
          room = omega (arith, length-append h.held (x ∷ []));
          short = omega arith;
          slots = subst P (sym same) (slot_filled n s.homes h.sent h.taken h.gets x some_slot wide (omega arith) (omega arith) slots);
          putting = λ p. absurd (true≢false (sym p));
          getting = λ y is. let old = h.getting y is in (old.0 ++ x ∷ [], ap (λ l. l ++ x ∷ []) old.1);
          ends =
              each_set (IsEndOf h.writer h.reader sent h.taken false h.gets words top) s.views id (put v x) (
                (λ _. record { seat = me.seat; list = ap (λ l. l ++ x ∷ []) me.list; slot = refl; gone = me.gone; numbers = me.numbers }),
                λ p. let t = mine.1 p in record { seat = t.seat; list = t.list; slot = t.slot; seen = prefix_more v.seen h.sent (x ∷ []) t.seen; numbers = t.numbers },
              )
              (λ j u ne e. end_of_sent h.writer h.reader h.sent h.taken h.puts h.gets words top (x ∷ []) false j u (λ is. ne (is ∙ sym me.seat)) (h.ends j u e));
        },
        λ slot y is.
            let pair : ◌≡◌ {A = ℕ × Option T} (length v.sent % n, Some x) (slot, Some y) = cc in
            let inner : Some x ≡ Some y = ap (λ t. t.1) pair in
            let e : x ≡ y = cc in ap (λ z. (put v z, [])) e,
      )
