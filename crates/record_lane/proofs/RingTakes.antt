-- The taker's steps keep the rule of a ring.
use Rattle.std.proofs.Common.{◌≡◌, ℕ, ◌+◌, ◌%◌, ◌^◌, ◌<◌, ◌≤◌, true, List, [], ◌∷◌, ◌++◌, length, get_or, set, Option, Some, None, sym, refl, ap, ◌∙◌, subst, append_assoc, arith, length-append}
use Rattle.std.proofs.Math.Decide.{dec_lt}
use Rattle.std.specs.List.{All}
use Rattle.std.proofs.lemmas.List.{set-get_or, append-nil}
use Rattle.std.proofs.lemmas.List.Elements.{All-head, All-tail}
use mathlib.Core.Option.{none, some}
use mathlib.Core.Logic.{dite}
use lib.ListN.{get_elem?}
use Rattle.atomic_table.specs.Table.{State, step, keeps, takes, gives, stepped, Allows}
use Rattle.atomic_table.proofs.Lists.{at_last, at_longer}
use Rattle.record_lane.specs.declared.ring_rule.End.{End}
use Rattle.record_lane.specs.Histories.{IsPrefix}
use Rattle.record_lane.specs.RingRule.{ring_words, at_tail, got, IsEndOf, HasSlots, IsRingState, SawTail, RaisedHead, SawItem, FoundItem}
use Rattle.record_lane.proofs.Seats.{Each, each_set}
use Rattle.record_lane.proofs.Prefixes.{prefix_self, nothing_when}
use Rattle.record_lane.proofs.RingSlots.{slot_to_empty, slot_emptied}
use Rattle.record_lane.proofs.RingEnds.{end_of_taken, end_of_item, raised, first_held, add_one, held_count}

module _ {T : Type 0} (sound : ℕ → ℕ → T → Type 0) (words top n : ℕ) where
  -- the ends after the taker's look at any word
  ends_at_tail : (id : ℕ) (v : End T) → v.takes ≡ true → (s : State (Option T) (End T)) → (h : IsRingState sound words top n s) → get_elem? s.views id ≡ some v
      → (now : Option T) (seen : List T) → IsPrefix seen h.sent → Each (IsEndOf h.writer h.reader h.sent h.taken h.puts now words top) (set s.views id (at_tail v now seen))
  ends_at_tail id v may s h at now seen begin =
      let mine = h.ends id v at in
      let me = mine.1 may in
      each_set (IsEndOf h.writer h.reader h.sent h.taken h.puts now words top) s.views id (at_tail v now seen) (
        (λ p. let t = mine.0 p in record { seat = t.seat; list = t.list; slot = t.slot; gone = t.gone; numbers = t.numbers }),
        λ _. record { seat = me.seat; list = me.list; slot = refl; seen = begin; numbers = me.numbers },
      )
      (λ j u ne e. end_of_item h.writer h.reader h.sent h.taken h.puts h.gets words top now j u (λ is. ne (is ∙ sym me.seat)) (h.ends j u e))

  -- after a look at any word, while an item is held, the taker may have its slot
  finds : (place id : ℕ) (v : End T) → v.takes ≡ true → v.gets ≡ None → (s : State (Option T) (End T)) → (h : IsRingState sound words top n s) → get_elem? s.views id ≡ some v
      → length v.taken < length h.sent
      → (x : T) × (get_elem? s.homes (length v.taken % n) ≡ some (some (Some x)))
      × IsRingState sound words top n (stepped s place (get_or s.words place 0) id [] (at_tail v (Some x) h.sent) (takes (length v.taken % n) (Some x)))
      × FoundItem sound n (v, []) x (at_tail v (Some x) h.sent, (length v.taken % n, Some x) ∷ [])
  finds place id v may idle s h at more =
      let mine = h.ends id v at in
      let me = mine.1 may in
      let count : length h.sent ≡ length h.taken + length h.held = held_count sound words top n s h in
      let same : length v.taken ≡ length h.taken = ap length me.list in
      let room : length h.held ≤ n = h.room in
      let home_now : h.gets ≡ None = sym me.slot ∙ idle in
      let slots : HasSlots n s.homes h.sent h.taken h.puts None = subst (λ o. HasSlots n s.homes h.sent h.taken h.puts o) home_now h.slots in
      let next = first_held h.held (omega arith) in
      let x : T = next.0 in
      let rest : List T = next.1 in
      let whole : h.sent ≡ (h.taken ++ x ∷ []) ++ rest = h.whole ∙ ap (λ l. h.taken ++ l) next.2 ∙ sym (append_assoc h.taken (x ∷ []) rest) in
      let mine_whole : h.sent ≡ (v.taken ++ x ∷ []) ++ rest = whole ∙ ap (λ l. (l ++ x ∷ []) ++ rest) (sym me.list) in
      let longer : length h.sent ≡ length (v.taken ++ x ∷ []) + length rest = ap length mine_whole ∙ length-append (v.taken ++ x ∷ []) rest in
      let short : length h.sent ≤ 2 ^ 61 = h.short in
      let there : get_elem? h.sent (length h.taken) ≡ some x =
      ap (λ l. get_elem? l (length h.taken)) whole ∙ at_longer (h.taken ++ x ∷ []) rest (length h.taken) x (at_last h.taken x (length h.taken) refl) in
      let held_sound : All (sound words top) (x ∷ rest) = subst (λ l. All (sound words top) l) next.2 h.each in
      let good : sound v.words v.top x =
      subst (λ (y : ℕ × ℕ). sound y.0 y.1 x) (λ k. (sym me.numbers.0 k, sym me.numbers.1 k)) (All-head (sound words top) x rest held_sound) in
      let P : ℕ → Type 0 = λ k. HasSlots n (set s.homes (k % n) none) h.sent h.taken h.puts (Some x) in
      let Q : ℕ → Type 0 = λ k. get_elem? s.homes (k % n) ≡ some (some (Some x)) in (
        x,
        subst Q (sym same) (slots.full (length h.taken) x (omega arith) there (λ _. refl)),
        record {
          writer = h.writer;
          reader = h.reader;
          sent = h.sent;
          taken = h.taken;
          held = h.held;
          puts = h.puts;
          gets = Some x;
          counts = set-get_or s.words place 0 ∙ h.counts;
          whole = h.whole;
          each = h.each;
          room = h.room;
          short = h.short;
          slots = subst P (sym same) (slot_to_empty n s.homes h.sent h.taken h.puts x (omega arith) (omega arith) slots);
          putting = h.putting;
          getting = λ y is. (rest, next.2 ∙ ap (λ z. z ∷ rest) (let e : x ≡ y = cc in e));
          ends = ends_at_tail id v may s h at (Some x) h.sent (prefix_self h.sent);
        },
        record { seat = refl; good = good; short = omega arith; seen = (rest, mine_whole); all = λ p. sym (mine.0 p).list },
      )

  pub loads_tail : (id : ℕ) (v : End T) → v.takes ≡ true → v.gets ≡ None → Allows (IsRingState sound words top n) n id (v, []) 0 (λ k. k) (SawTail sound (step n 0 0 0 none) (v, []))
  loads_tail id v may idle s h wide at small =
      let mine = h.ends id v at in
      let me = mine.1 may in
      let found : ℕ = get_or s.words 0 0 in
      let is_found : found ≡ length h.sent = ap (λ ws. get_or ws 0 0) h.counts in
      let count : length h.sent ≡ length h.taken + length h.held = held_count sound words top n s h in
      let same : length v.taken ≡ length h.taken = ap length me.list in
      let home_now : h.gets ≡ None = sym me.slot ∙ idle in
      let slots : HasSlots n s.homes h.sent h.taken h.puts None = subst (λ o. HasSlots n s.homes h.sent h.taken h.puts o) home_now h.slots in
      dite (dec_lt (length v.taken) found)
      (λ more.
      let item = finds 0 id v may idle s h at (omega arith) in (
        at_tail v (Some item.0) h.sent,
        takes (length v.taken % n) (Some item.0),
        item.1,
        item.2,
        ((λ under. absurd (omega arith)), (λ _. (item.0, item.3)), is_found),
      ))
      (λ less.
      let none_held : h.held ≡ [] = nothing_when h.held (omega arith) in
      let all : h.sent ≡ v.taken = h.whole ∙ ap (λ l. h.taken ++ l) none_held ∙ append-nil h.taken ∙ sym me.list in (
        at_tail v None v.taken,
        keeps,
        tt,
        record {
          writer = h.writer;
          reader = h.reader;
          sent = h.sent;
          taken = h.taken;
          held = h.held;
          puts = h.puts;
          gets = None;
          counts = set-get_or s.words 0 0 ∙ h.counts;
          whole = h.whole;
          each = h.each;
          room = h.room;
          short = h.short;
          slots = slots;
          putting = h.putting;
          getting = λ y is. cc;
          ends = ends_at_tail id v may s h at None v.taken ([], all ∙ sym (append-nil v.taken));
        },
        ((λ _. (refl, λ p. (mine.0 p).list ∙ all)), (λ over. absurd (less over)), is_found ∙ ap length all),
      ))

  pub sees_item : (id : ℕ) (v : End T) → v.takes ≡ true → v.gets ≡ None → length v.taken < length v.seen
      → Allows (IsRingState sound words top n) n id (v, []) 16 (λ k. k) (SawItem sound (step n 16 0 0 none) (v, []))
  sees_item id v may idle more s h wide at small =
      let me = (h.ends id v at).1 may in
      let longer : length h.sent ≡ length v.seen + length me.seen.0 = ap length me.seen.1 ∙ length-append v.seen me.seen.0 in
      let item = finds 16 id v may idle s h at (omega arith) in
      (at_tail v (Some item.0) h.sent, takes (length v.taken % n) (Some item.0), item.1, item.2, ((item.0, item.3), omega arith))

module _ {T : Type 0} (sound : ℕ → ℕ → T → Type 0) (words top n : ℕ) (some_slot : 0 < n) where
  pub raises_head : (id : ℕ) (v : End T) (x : T) → v.takes ≡ true → v.gets ≡ Some x
      → Allows (IsRingState sound words top n) n id (v, (length v.taken % n, None) ∷ []) 16 (λ k. (k + 1) % 2 ^ 64) (RaisedHead (step n 16 1 0 none) (v, (length v.taken % n, None) ∷ []))
  raises_head id v x may busy s h wide at small =
      let mine = h.ends id v at in
      let me = mine.1 may in
      let count : length h.sent ≡ length h.taken + length h.held = held_count sound words top n s h in
      let same : length v.taken ≡ length h.taken = ap length me.list in
      let out : h.gets ≡ Some x = sym me.slot ∙ busy in
      let next = h.getting x out in
      let more : List T = next.0 in
      let one_more : length h.held ≡ length more + 1 = ap length next.1 ∙ add_one (length more) in
      let room : length h.held ≤ n = h.room in
      let short : length h.sent ≤ 2 ^ 61 = h.short in
      let taken : List T = h.taken ++ x ∷ [] in
      let longer : length taken ≡ length h.taken + 1 = length-append h.taken (x ∷ []) in
      let raise : (length h.taken + 1) % 2 ^ 64 ≡ length taken = raised (length h.taken) (omega arith) ∙ sym longer in
      let slots : HasSlots n s.homes h.sent h.taken h.puts (Some x) = subst (λ o. HasSlots n s.homes h.sent h.taken h.puts o) out h.slots in
      let P : ℕ → Type 0 = λ k. HasSlots n (set s.homes (k % n) (some None)) h.sent taken h.puts None in (
        got v x,
        gives,
        tt,
        record {
          writer = h.writer;
          reader = h.reader;
          sent = h.sent;
          taken = taken;
          held = more;
          puts = h.puts;
          gets = None;
          counts = ap (λ ws. set ws 16 ((get_or ws 16 0 + 1) % 2 ^ 64)) h.counts ∙ ap (λ k. ring_words (length h.sent) k) raise;
          whole = h.whole ∙ ap (λ l. h.taken ++ l) next.1 ∙ sym (append_assoc h.taken (x ∷ []) more);
          each = All-tail (sound words top) x more (subst (λ l. All (sound words top) l) next.1 h.each);
          room = omega arith;
          short = h.short;
          slots = subst P (sym same) (slot_emptied n s.homes h.sent h.taken h.puts x some_slot wide (omega arith) (omega arith) slots);
          putting = λ p. let before = h.putting p in omega arith;
          getting = λ y is. cc;
          ends =
              each_set (IsEndOf h.writer h.reader h.sent taken h.puts None words top) s.views id (got v x) (
                (λ p. let t = mine.0 p in record { seat = t.seat; list = t.list; slot = t.slot; gone = (let g = t.gone in omega arith); numbers = t.numbers }),
                λ _. record { seat = me.seat; list = ap (λ l. l ++ x ∷ []) me.list; slot = refl; seen = me.seen; numbers = me.numbers },
              )
              (λ j u ne e. end_of_taken h.writer h.reader h.sent h.taken h.puts h.gets words top (x ∷ []) None j u (λ is. ne (is ∙ sym me.seat)) (h.ends j u e));
        },
        λ y is. (let e : x ≡ y = cc in ap (λ z. (got v z, [])) e),
      )
