-- How the moves of a tag actor keep where it stands.
use Rattle.std.proofs.Common.{◌≡◌, ℕ, ◌-◌, ◌^◌, ◌≤◌, Bool, true, false, Option, Some, None, option_to_list, List, [], ◌∷◌, ◌++◌, length, refl, sym, ◌∙◌, ap, ap₂, subst, map, append-nil, length-append, min, ◌+◌, arith, rules}
use Rattle.record_lane.specs.declared.record.Record.{Record}
use Rattle.record_lane.specs.declared.record.Record.TheVariants.{Quiet, Blank, Touch, Meet, Back, End}
use Rattle.record_lane.specs.declared.reply.Reply.{Reply}
use Rattle.record_lane.specs.declared.ring_token.RingTaker.{RingTaker}
use Rattle.record_lane.specs.declared.lane_token.Sender.{Sender}
use Rattle.record_lane.specs.Rings.{taken_by}
use Rattle.record_lane.specs.Lanes.{sent_by}
use Rattle.tag_policy.specs.Rules.{PolicySeen}
use Rattle.tag_registers.specs.Tags.{tags_after}
use Rattle.tag_registers.specs.Files.{is_touch}
use Rattle.tag_registers.specs.Folds.{tags_fold, folded, access_of, reply_to}
use Rattle.tag_registers.proofs.Consumed.{consumed_after}
use Rattle.ticket_table.specs.Passes.{PassSeen}
use Rattle.actor_lists.specs.Folded.{change_by, IsFolded}
use Rattle.actor_lists.proofs.Folded.{fold_more}
use Rattle.tag_actor.specs.Seen.{TagActorSeen, begins, is_end, consumed_by, shown}
use Rattle.tag_actor.specs.Standing.{last_record, HasRecords, IsTagActor}
use Rattle.tag_actor.specs.Moves.{HasTaken, HasConsumed}

pub begins_standing : (policy : PolicySeen) (pass : PassSeen) (taker : RingTaker Record) (sender : Sender Reply)
    → pass.changes ≡ [] → taken_by taker ≡ [] → sent_by sender ≡ [] → IsTagActor (begins policy pass taker sender)
unfolding tags_fold folded
begins_standing policy pass taker sender changes taken sent = record {
  consumed = record {
    givens = [];
    items = [];
    folded = record { stands = refl; items_are = refl; found = search rules; changes_are = changes; replies_are = sent };
    taken = taken;
    few = omega (arith, ap length taken);
  };
  rest = λ e. refl;
  waits = λ item e. absurd (cc);
  sound = λ item e. absurd (cc);
  done_is = sym (ap (λ (xs : List Record). shown (length xs - 0)) taken);
}

-- a record that comes into the hand
pub takes_record : (a b : TagActorSeen) (item : Record) → HasRecords a → HasTaken a item b → length (taken_by b.taker) ≤ 2 ^ 61 → HasRecords b
takes_record a b item h takes few = record {
  givens = h.givens;
  items = h.items;
  folded = subst (λ (t : TagActorSeen). IsFolded t.policy (t.pass).terms (t.pass).caller t.tags h.items (t.pass).changes (sent_by t.sender) h.givens) (sym takes.after) h.folded;
  taken =
      takes.taken
      ∙ ap (λ (xs : List Record). xs ++ item ∷ []) (h.taken ∙ ap₂ (λ (hand : Option Record) (ended : Bool). h.items ++ (option_to_list hand ++ last_record ended)) takes.free takes.going ∙ append-nil h.items)
      ∙ sym (ap₂ (λ (hand : Option Record) (ended : Bool). h.items ++ (option_to_list hand ++ last_record ended)) (ap (λ (t : TagActorSeen). t.hand) takes.after) (ap (λ (t : TagActorSeen). t.ended) takes.after ∙ takes.going));
  few = few;
}

end_is : (item : Record) → is_end item ≡ true → item ≡ End
end_is (Quiet step pc insn faulted) h = cc
end_is (Blank step pc) h = cc
end_is (Touch step pc word number why) h = cc
end_is (Meet step pc call kind) h = cc
end_is (Back step pc) h = cc
end_is End h = refl

-- the last record leaves the tags
last_keeps : (a b : TagActorSeen) (item : Record) (found : ℕ) → HasRecords a → HasConsumed a item found b → is_end item ≡ true → HasRecords b
last_keeps a b item found h consumes last =
    let is : item ≡ End = end_is item last in
    let none : found ≡ 0 = consumes.none_found (ap is_touch is) in
    let tags : b.tags ≡ a.tags = consumes.tags ∙ ap₂ (tags_after a.policy a.tags) is none ∙ sym (consumed_after a.policy a.tags End refl) in
    let changes : (b.pass).changes ≡ (a.pass).changes =
    consumes.changes
    ∙ ap (λ (r : Record). (a.pass).changes ++ map (change_by (a.pass).terms (a.pass).caller) (access_of a.policy a.tags r found)) is
    ∙ append-nil (a.pass).changes in
    let sent : sent_by b.sender ≡ sent_by a.sender =
    consumes.replies ∙ ap (λ (r : Record). sent_by a.sender ++ reply_to a.policy a.tags r found) is ∙ append-nil (sent_by a.sender) in
    record {
      givens = h.givens;
      items = h.items;
      folded = rw (consumes.policy, (consumes.pass).terms, (consumes.pass).caller, tags, changes, sent) h.folded;
      taken =
          ap taken_by consumes.taker
          ∙ h.taken
          ∙ ap₂ (λ (hand : Option Record) (ended : Bool). h.items ++ (option_to_list hand ++ last_record ended)) (consumes.held ∙ ap (λ (r : Record). Some r) is) consumes.going
          ∙ sym (ap₂ (λ (hand : Option Record) (ended : Bool). h.items ++ (option_to_list hand ++ last_record ended)) consumes.hand (consumes.ended ∙ last));
      few = subst (λ (taker : RingTaker Record). length (taken_by taker) ≤ 2 ^ 61) (sym consumes.taker) h.few;
    }

-- any other record is one more of the fold
more_keeps : (a b : TagActorSeen) (item : Record) (found : ℕ) → HasRecords a → HasConsumed a item found b → is_end item ≡ false → HasRecords b
more_keeps a b item found h consumes more = record {
  givens = h.givens ++ record { item = item; found = found } ∷ [];
  items = h.items ++ item ∷ [];
  folded =
      rw (consumes.policy, (consumes.pass).terms, (consumes.pass).caller)
      (fold_more a.policy (a.pass).terms (a.pass).caller a.tags b.tags h.items (a.pass).changes (b.pass).changes (sent_by a.sender) (sent_by b.sender) h.givens (record { item = item; found = found })
      h.folded consumes.tags consumes.none_found consumes.changes consumes.replies);
  taken =
      ap taken_by consumes.taker
      ∙ h.taken
      ∙ ap₂ (λ (hand : Option Record) (ended : Bool). h.items ++ (option_to_list hand ++ last_record ended)) consumes.held consumes.going
      ∙ sym (append-nil (h.items ++ item ∷ []))
      ∙ sym (ap₂ (λ (hand : Option Record) (ended : Bool). (h.items ++ item ∷ []) ++ (option_to_list hand ++ last_record ended)) consumes.hand (consumes.ended ∙ more));
  few = subst (λ (taker : RingTaker Record). length (taken_by taker) ≤ 2 ^ 61) (sym consumes.taker) h.few;
}

pub consumes_record : (a b : TagActorSeen) (item : Record) (found : ℕ) → HasRecords a → HasConsumed a item found b → HasRecords b
consumes_record a b item found h consumes = by_end (is_end item) refl
  where
    by_end : (e : Bool) → is_end item ≡ e → HasRecords b
    by_end true is = last_keeps a b item found h consumes is
    by_end false is = more_keeps a b item found h consumes is

-- ---- the invariant

-- all that was taken is what was consumed, what is in the hand, and the end
pub count_taken : (t : TagActorSeen) (h : HasRecords t) → length (taken_by t.taker) ≡ length h.items + (length (option_to_list t.hand) + length (last_record t.ended))
count_taken t h =
    ap length h.taken ∙ length-append h.items (option_to_list t.hand ++ last_record t.ended)
    ∙ ap (λ n. length h.items + n) (length-append (option_to_list t.hand) (last_record t.ended))

-- how many records were consumed, where one is in the hand and where none is
count_held : (t : TagActorSeen) (item : Record) → HasRecords t → t.hand ≡ Some item → consumed_by t + 1 ≡ length (taken_by t.taker)
count_held t item h held =
    let one : length (option_to_list t.hand) ≡ 1 = ap (λ (hand : Option Record). length (option_to_list hand)) held in
    omega (arith, count_taken t h)

count_free : (t : TagActorSeen) → t.hand ≡ None → consumed_by t ≡ length (taken_by t.taker)
count_free t free =
    let none : length (option_to_list t.hand) ≡ 0 = ap (λ (hand : Option Record). length (option_to_list hand)) free in
    omega arith

pub consumed_keeps : (a b : TagActorSeen) (item : Record) (found : ℕ) → IsTagActor a → HasConsumed a item found b → b.done ≡ min (a.done + 1) 4294967295 → IsTagActor b
consumed_keeps a b item found h consumes done = record {
  consumed = consumes_record a b item found h.consumed consumes;
  rest = λ e. consumes.hand;
  waits = λ other e. absurd (cc (consumes.hand, e));
  sound = λ other e. absurd (cc (consumes.hand, e));
  done_is =
      let before : consumed_by a + 1 ≡ length (taken_by a.taker) = count_held a item h.consumed consumes.held in
      let after : consumed_by b ≡ length (taken_by b.taker) = count_free b consumes.hand in
      let same : length (taken_by b.taker) ≡ length (taken_by a.taker) = ap (λ (taker : RingTaker Record). length (taken_by taker)) consumes.taker in
      let old : a.done ≡ min (consumed_by a) 4294967295 = h.done_is in
      omega arith;
}

pub passed_keeps : (a m b : TagActorSeen) (item : Record) → IsTagActor a → HasTaken a item m → HasConsumed m item 0 b
    → length (taken_by m.taker) ≤ 2 ^ 61 → b.done ≡ min (a.done + 1) 4294967295 → IsTagActor b
passed_keeps a m b item h takes consumes few done =
    let taken : HasRecords m = takes_record a m item h.consumed takes few in
    record {
      consumed = consumes_record m b item 0 taken consumes;
      rest = λ e. consumes.hand;
      waits = λ other e. absurd (cc (consumes.hand, e));
      sound = λ other e. absurd (cc (consumes.hand, e));
      done_is =
          let before : consumed_by a ≡ length (taken_by a.taker) = count_free a takes.free in
          let after : consumed_by b ≡ length (taken_by b.taker) = count_free b consumes.hand in
          let same : length (taken_by b.taker) ≡ length (taken_by m.taker) = ap (λ (taker : RingTaker Record). length (taken_by taker)) consumes.taker in
          let more : length (taken_by m.taker) ≡ length (taken_by a.taker) + 1 = ap length takes.taken ∙ length-append (taken_by a.taker) (item ∷ []) in
          let old : a.done ≡ min (consumed_by a) 4294967295 = h.done_is in
          omega arith;
    }
