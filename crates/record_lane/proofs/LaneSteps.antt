-- Each step on a lane's queue keeps its rule.
use Rattle.std.proofs.Common.{◌≡◌, ◌≢◌, ℕ, suc, ◌+◌, ◌^◌, ◌<◌, ◌≤◌, true, false, true≢false, List, [], ◌∷◌, ◌++◌, length, set, sym, refl, ap, ◌∙◌, subst, append_assoc, arith, length-append}
use Rattle.std.specs.List.{All}
use Rattle.std.proofs.lemmas.List.Elements.{All-push, All-head, All-tail}
use Rattle.crossbeam_queue.specs.Fifo.{Pushes, Pops, Forks, Merges, Learns}
use Rattle.record_lane.specs.declared.lane_rule.Side.{Side}
use Rattle.record_lane.specs.LaneRule.{side, sender_side, taker_side, whole_side, spent_side, IsSideOf, IsLaneState, IsSend, IsTake, FollowsSent, FollowsTaken, HoldsRest}
use Rattle.record_lane.proofs.Seats.{each_set, at_other, each_snoc, each_one}
use Rattle.record_lane.proofs.Prefixes.{prefix_more, prefix_self, nothing_when}

-- a side of the old lists is one of the lists after a send, unless it is the sender's
side_sent : {T : Type 0} (writer reader : ℕ) (sent taken more : List T) (words top bound port : ℕ) (v : Side T) → port ≢ writer → IsSideOf writer reader sent taken words top bound port v
    → IsSideOf writer reader (sent ++ more) taken words top bound port v
side_sent writer reader sent taken more words top bound port v ne old =
    ((λ p. absurd (ne (old.0 p).seat)), λ p. let t = old.1 p in record { seat = t.seat; list = t.list; seen = prefix_more v.seen sent more t.seen; numbers = t.numbers })

-- and after a take, unless it is the taker's
side_taken : {T : Type 0} (writer reader : ℕ) (sent taken more : List T) (words top bound port : ℕ) (v : Side T) → port ≢ reader → IsSideOf writer reader sent taken words top bound port v
    → IsSideOf writer reader sent (taken ++ more) words top bound port v
side_taken writer reader sent taken more words top bound port v ne old = (
  (λ p. let t = old.0 p in record { seat = t.seat; list = t.list; gone = (let g = t.gone in omega (arith, length-append taken more)); numbers = t.numbers }),
  λ p. absurd (ne (old.1 p).seat),
)

module _ {T : Type 0} (sound : ℕ → ℕ → T → Type 0) where
  pub begins : IsLaneState sound [] (side true true [] [] [] 0 0 0 0 ∷ [])
  begins =
      let v : Side T = side true true [] [] [] 0 0 0 0 in
      record {
        writer = 0;
        reader = 0;
        sent = [];
        taken = [];
        words = 0;
        top = 0;
        bound = 0;
        whole = refl;
        each = λ k d out. absurd (omega arith);
        room = omega arith;
        short = omega arith;
        sides =
            each_one (IsSideOf 0 0 [] [] 0 0 0) v
            ((λ _. record { seat = refl; list = refl; gone = omega arith; numbers = (refl, refl, refl) }), λ _. record { seat = refl; list = refl; seen = ([], refl); numbers = (refl, refl, refl) });
      }

  pub sends : (n port : ℕ) (v : Side T) (x : T) → v.sends ≡ true → n ≡ v.bound → sound v.words v.top x → length v.sent < 2 ^ 61 → Pushes (IsLaneState sound) n port v x (IsSend v x)
  sends n port v x may is_bound good few items views space h at =
      let mine = h.sides port v at in
      let me = mine.0 may in
      let w : Side T = side v.sends v.takes (v.sent ++ x ∷ []) v.taken v.seen (length h.taken) v.words v.top v.bound in
      let sent : List T = h.sent ++ x ∷ [] in
      let counted : length h.sent ≡ length h.taken + length items = ap length h.whole ∙ length-append h.taken items in
      let same : length v.sent ≡ length h.sent = ap length me.list in
      let limit : v.bound ≡ h.bound = me.numbers.2 in
      let fits : sound h.words h.top x = subst (λ (y : ℕ × ℕ). sound y.0 y.1 x) (λ k. (me.numbers.0 k, me.numbers.1 k)) good in (
        w,
        record {
          writer = h.writer;
          reader = h.reader;
          sent = sent;
          taken = h.taken;
          words = h.words;
          top = h.top;
          bound = h.bound;
          whole = ap (λ l. l ++ x ∷ []) h.whole ∙ append_assoc h.taken items (x ∷ []);
          each = All-push (sound h.words h.top) items x h.each fits;
          room = omega (arith, length-append items (x ∷ []));
          short = omega (arith, length-append h.sent (x ∷ []));
          sides =
              each_set (IsSideOf h.writer h.reader sent h.taken h.words h.top h.bound) views port w (
                (λ _. record { seat = me.seat; list = ap (λ l. l ++ x ∷ []) me.list; gone = omega arith; numbers = me.numbers }),
                λ p. let t = mine.1 p in record { seat = t.seat; list = t.list; seen = prefix_more v.seen h.sent (x ∷ []) t.seen; numbers = t.numbers },
              )
              (λ j u ne e. side_sent h.writer h.reader h.sent h.taken (x ∷ []) h.words h.top h.bound j u (λ is. ne (is ∙ sym me.seat)) (h.sides j u e));
        },
        (refl, omega (arith, length-append v.sent (x ∷ []))),
      )

  -- the same of a sender's side, by the lane's numbers
  pub sender_sends : (n port : ℕ) (v : Side T) (x : T) (sent : List T) (gone words top bound : ℕ) → v ≡ side true false sent [] [] gone words top bound → n ≡ bound → sound words top x
      → length v.sent < 2 ^ 61 → Pushes (IsLaneState sound) n port v x (IsSend v x)
  sender_sends n port v x sent gone words top bound is is_bound good few =
      sends n port v x (ap (λ (u : Side T). u.sends) is) (is_bound ∙ sym (ap (λ (u : Side T). u.bound) is))
      (subst (λ (u : Side T). sound u.words u.top x) (sym is) good) few

  pub takes : (port : ℕ) (v : Side T) → v.takes ≡ true → Pops (IsLaneState sound) port v (IsTake sound v)
  takes port v may x items views h at =
      let mine = h.sides port v at in
      let me = mine.1 may in
      let w : Side T = side v.sends v.takes v.sent (v.taken ++ x ∷ []) h.sent v.gone v.words v.top v.bound in
      let taken : List T = h.taken ++ x ∷ [] in
      let whole : h.sent ≡ taken ++ items = h.whole ∙ sym (append_assoc h.taken (x ∷ []) items) in
      let mine_whole : h.sent ≡ (v.taken ++ x ∷ []) ++ items = whole ∙ ap (λ l. (l ++ x ∷ []) ++ items) (sym me.list) in
      let counted : length h.sent ≡ length (v.taken ++ x ∷ []) + length items = ap length mine_whole ∙ length-append (v.taken ++ x ∷ []) items in
      let room : suc (length items) ≤ h.bound = h.room in
      let short : length h.sent ≤ 2 ^ 61 = h.short in
      let good : sound v.words v.top x = subst (λ (y : ℕ × ℕ). sound y.0 y.1 x) (λ k. (sym me.numbers.0 k, sym me.numbers.1 k)) (All-head (sound h.words h.top) x items h.each) in (
        w,
        record {
          writer = h.writer;
          reader = h.reader;
          sent = h.sent;
          taken = taken;
          words = h.words;
          top = h.top;
          bound = h.bound;
          whole = whole;
          each = All-tail (sound h.words h.top) x items h.each;
          room = omega arith;
          short = h.short;
          sides =
              each_set (IsSideOf h.writer h.reader h.sent taken h.words h.top h.bound) views port w (
                (λ p. let t = mine.0 p in record { seat = t.seat; list = t.list; gone = (let g = t.gone in omega (arith, length-append h.taken (x ∷ []))); numbers = t.numbers }),
                λ _. record { seat = me.seat; list = ap (λ l. l ++ x ∷ []) me.list; seen = prefix_self h.sent; numbers = me.numbers },
              )
              (λ j u ne e. side_taken h.writer h.reader h.sent h.taken (x ∷ []) h.words h.top h.bound j u (λ is. ne (is ∙ sym me.seat)) (h.sides j u e));
        },
        (refl, good, omega arith, (items, mine_whole), λ p. sym (mine.0 p).list),
      )

  pub forks : (words top bound port : ℕ) (v : Side T) → v.sends ≡ true → v.takes ≡ true → v.sent ≡ [] → Forks (IsLaneState sound) port v (sender_side v words top bound) (taker_side v words top bound)
  forks words top bound port v a b none items views h at =
      let mine = h.sides port v at in
      let out = mine.0 a in
      let into = mine.1 b in
      let l : Side T = sender_side v words top bound in
      let r : Side T = taker_side v words top bound in
      let empty : length h.sent ≡ 0 = ap length (sym out.list ∙ none) in
      let counted : length h.sent ≡ length h.taken + length items = ap length h.whole ∙ length-append h.taken items in
      let no_items : items ≡ [] = nothing_when items (omega arith) in
      let F : ℕ → Side T → Type 0 = IsSideOf port (length (set views port l)) h.sent h.taken words top bound in
      record {
        writer = port;
        reader = length (set views port l);
        sent = h.sent;
        taken = h.taken;
        words = words;
        top = top;
        bound = bound;
        whole = h.whole;
        each = subst (λ xs. All (sound words top) xs) (sym no_items) (λ k d out. absurd (omega arith));
        room = omega arith;
        short = h.short;
        sides =
            each_snoc F (set views port l) r
            (each_set F views port l ((λ _. record { seat = refl; list = out.list; gone = out.gone; numbers = (refl, refl, refl) }), λ p. absurd (true≢false (sym p)))
            (λ j u ne e. ((λ p. absurd (ne (((h.sides j u e).0 p).seat ∙ sym out.seat))), λ p. absurd (ne (((h.sides j u e).1 p).seat ∙ sym into.seat)))))
            ((λ p. absurd (true≢false (sym p))), λ _. record { seat = refl; list = into.list; seen = into.seen; numbers = (refl, refl, refl) });
      }

  pub merges : (port : ℕ) (v : Side T) (other : ℕ) (u : Side T) → v.sends ≡ true → u.takes ≡ true → Merges (IsLaneState sound) port v other u (whole_side v u) spent_side
  merges port v other u a b items views h at two at_u =
      let out = (h.sides port v at).0 a in
      let both : Side T = whole_side v u in
      let into = (h.sides other u (at_other views port other both u two at_u)).1 b in
      let vs : List (Side T) = set views port both in
      let F : ℕ → Side T → Type 0 = IsSideOf port port h.sent h.taken h.words h.top h.bound in
      record {
        writer = port;
        reader = port;
        sent = h.sent;
        taken = h.taken;
        words = h.words;
        top = h.top;
        bound = h.bound;
        whole = h.whole;
        each = h.each;
        room = h.room;
        short = h.short;
        sides =
            each_set F vs other spent_side ((λ p. absurd (true≢false (sym p))), λ p. absurd (true≢false (sym p)))
            (λ j y apart e. each_set (λ i z. i ≢ other → F i z) views port both
            (λ _. (
              (λ _. record { seat = refl; list = out.list; gone = out.gone; numbers = out.numbers }),
              λ _. record { seat = refl; list = into.list; seen = into.seen; numbers = out.numbers },
            ))
            (λ i z ne e_z far. (
              (λ p. absurd (ne (((h.sides i z e_z).0 p).seat ∙ sym out.seat))),
              λ p. absurd (far (((h.sides i z e_z).1 p).seat ∙ sym into.seat)),
            )) j y e apart);
      }

  pub sees_sent : (port : ℕ) (v : Side T) → v.sends ≡ true → Learns (IsLaneState sound) port v (FollowsSent v)
  sees_sent port v may items views h at = let mine = (h.sides port v at).0 may in (h.taken, mine.list ∙ h.whole, mine.gone)

  pub sees_taken : (port : ℕ) (v : Side T) → v.takes ≡ true → Learns (IsLaneState sound) port v (FollowsTaken v)
  sees_taken port v may items views h at =
      let mine = (h.sides port v at).1 may in (h.sent, h.whole ∙ ap (λ l. l ++ items) (sym mine.list), mine.seen, λ p. ((h.sides port v at).0 p).list)

  pub sees_rest : (port : ℕ) (v : Side T) → v.sends ≡ true → v.takes ≡ true → Learns (IsLaneState sound) port v (HoldsRest v)
  sees_rest port v a b items views h at =
      let mine = (h.sides port v at).0 a in let theirs = (h.sides port v at).1 b in
      (mine.list ∙ h.whole ∙ ap (λ l. l ++ items) (sym theirs.list), (let P : ℕ → Type 0 = λ n. length items ≤ n in subst P (sym mine.numbers.2) h.room))
