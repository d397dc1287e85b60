-- A new ring, its cut into two ends, and their join keep its rule.
use Rattle.std.proofs.Common.{◌≡◌, ◌≢◌, ℕ, ◌%◌, ◌<◌, true, false, true≢false, List, [], ◌++◌, length, get_or, set, replicate, None, sym, refl, ap, ◌∙◌, subst, mod-lt, arith}
use Rattle.std.proofs.lemmas.List.{set-get_or}
use mathlib.Core.Option.{none, some, some-ne-none}
use Rattle.atomic_table.specs.Table.{step, keeps, opening, Allows, Splits, Joins}
use Rattle.atomic_table.proofs.Lists.{at_map, set_again}
use Rattle.record_lane.specs.declared.ring_rule.End.{End}
use Rattle.record_lane.specs.RingRule.{ring_words, whole_end, sender_end, taker_end, joined_end, spent_end, IsEndOf, IsRingState, SawAll}
use Rattle.record_lane.proofs.Seats.{Each, each_set, at_other, at_replicate, each_snoc, each_one}

module _ {T : Type 0} (sound : ℕ → ℕ → T → Type 0) (words top n : ℕ) (some_slot : 0 < n) where
  pub opens : IsRingState sound words top n (opening (ring_words 0 0) (replicate n None) (whole_end words top))
  opens =
      record {
        writer = 0;
        reader = 0;
        sent = [];
        taken = [];
        held = [];
        puts = false;
        gets = None;
        counts = refl;
        whole = refl;
        each = λ k d out. absurd (omega arith);
        room = omega arith;
        short = omega arith;
        slots =
            record {
              full = λ place x low at_place out. absurd (some-ne-none x (sym at_place));
              free = λ place high near out. at_map some (replicate n None) (place % n) None (at_replicate n None (place % n) (mod-lt place some_slot));
            };
        putting = λ p. absurd (true≢false (sym p));
        getting = λ x e. cc;
        ends =
            each_one (IsEndOf 0 0 [] [] false None words top) (whole_end words top) (
              (λ _. record { seat = refl; list = refl; slot = refl; gone = omega arith; numbers = (refl, refl) }),
              λ _. record { seat = refl; list = refl; slot = refl; seen = ([], refl); numbers = (refl, refl) },
            );
      }

module _ {T : Type 0} (sound : ℕ → ℕ → T → Type 0) (words top n : ℕ) where
  pub splits : (id : ℕ) (v : End T) → v.sends ≡ true → v.takes ≡ true → Splits (IsRingState sound words top n) id v (sender_end v) (taker_end v)
  splits id v a b s h at =
      let out = (h.ends id v at).0 a in
      let into = (h.ends id v at).1 b in
      let vs : List (End T) = set s.views id (sender_end v) in
      let F : ℕ → End T → Type 0 = IsEndOf id (length vs) h.sent h.taken h.puts h.gets words top in
      record {
        writer = id;
        reader = length vs;
        sent = h.sent;
        taken = h.taken;
        held = h.held;
        puts = h.puts;
        gets = h.gets;
        counts = h.counts;
        whole = h.whole;
        each = h.each;
        room = h.room;
        short = h.short;
        slots = h.slots;
        putting = h.putting;
        getting = h.getting;
        ends =
            each_snoc F vs (taker_end v)
            (each_set F s.views id (sender_end v)
            ((λ _. record { seat = refl; list = out.list; slot = out.slot; gone = out.gone; numbers = out.numbers }), λ p. absurd (true≢false (sym p)))
            (λ j u ne e. ((λ p. absurd (ne (((h.ends j u e).0 p).seat ∙ sym out.seat))), λ p. absurd (ne (((h.ends j u e).1 p).seat ∙ sym into.seat)))))
            ((λ p. absurd (true≢false (sym p))), λ _. record { seat = refl; list = into.list; slot = into.slot; seen = into.seen; numbers = into.numbers });
      }

  pub joins : (id : ℕ) (v : End T) (other : ℕ) (u : End T) → v.sends ≡ true → u.takes ≡ true → Joins (IsRingState sound words top n) id v other u (joined_end v u) spent_end
  joins id v other u a b s h at two at_u =
      let out = (h.ends id v at).0 a in
      let both : End T = joined_end v u in
      let into = (h.ends other u (at_other s.views id other both u two at_u)).1 b in
      let F : ℕ → End T → Type 0 = IsEndOf id id h.sent h.taken h.puts h.gets words top in
      record {
        writer = id;
        reader = id;
        sent = h.sent;
        taken = h.taken;
        held = h.held;
        puts = h.puts;
        gets = h.gets;
        counts = h.counts;
        whole = h.whole;
        each = h.each;
        room = h.room;
        short = h.short;
        slots = h.slots;
        putting = h.putting;
        getting = h.getting;
        ends =
            each_set F (set s.views id both) other spent_end ((λ p. absurd (true≢false (sym p))), λ p. absurd (true≢false (sym p)))
            (λ j y far e. each_set (λ i z. i ≢ other → F i z) s.views id both
            (λ _. (
              (λ _. record { seat = refl; list = out.list; slot = out.slot; gone = out.gone; numbers = out.numbers }),
              λ _. record { seat = refl; list = into.list; slot = into.slot; seen = into.seen; numbers = out.numbers },
            ))
            (λ i z ne e_z away. (
              (λ p. absurd (ne (((h.ends i z e_z).0 p).seat ∙ sym out.seat))),
              λ p. absurd (away (((h.ends i z e_z).1 p).seat ∙ sym into.seat)),
            )) j y e far);
      }

  pub sees_all : (id : ℕ) (v : End T) → v.sends ≡ true → v.takes ≡ true → Allows (IsRingState sound words top n) n id (v, []) 0 (λ k. k) (SawAll (step n 0 0 0 none) (v, []))
  sees_all id v a b s h wide at small =
      let out = (h.ends id v at).0 a in
      let into = (h.ends id v at).1 b in
      let words_same : set s.words 0 (get_or s.words 0 0) ≡ ring_words (length h.sent) (length h.taken) = set-get_or s.words 0 0 ∙ h.counts in (
        v,
        keeps,
        tt,
        record {
          writer = h.writer;
          reader = h.reader;
          sent = h.sent;
          taken = h.taken;
          held = h.held;
          puts = h.puts;
          gets = h.gets;
          counts = words_same;
          whole = h.whole;
          each = h.each;
          room = h.room;
          short = h.short;
          slots = h.slots;
          putting = h.putting;
          getting = h.getting;
          ends = subst (λ vs. Each (IsEndOf h.writer h.reader h.sent h.taken h.puts h.gets words top) vs) (sym (set_again s.views id v at)) h.ends;
        },
        (refl, (h.held, out.list ∙ h.whole ∙ ap (λ l. l ++ h.held) (sym into.list), h.room)),
      )
