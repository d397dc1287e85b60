-- What the calls of an actor do are its moves.
use Rattle.std.proofs.Common.{◌≡◌, ℕ, ◌+◌, ◌^◌, ◌≤◌, min, length, subst, Bool, true, false, Some, None, List, [], ◌∷◌, ◌++◌, map, refl, sym, ◌∙◌, ap, append-nil}
use Rattle.record_lane.specs.declared.record.Why.{Why}
use Rattle.record_lane.specs.declared.record.Record.{Record}
use Rattle.record_lane.specs.declared.record.Record.TheVariants.{Quiet, Blank, Touch, Meet, Back, End}
use Rattle.record_lane.specs.declared.reply.Reply.{Reply}
use Rattle.record_lane.specs.declared.ring_token.RingTaker.{RingTaker}
use Rattle.record_lane.specs.declared.lane_token.Sender.{Sender}
use Rattle.record_lane.specs.Rings.{taken_by, taker_looks}
use Rattle.record_lane.specs.Lanes.{sent_by}
use Rattle.tag_policy.specs.Rules.{PolicySeen}
use Rattle.tag_registers.specs.declared.ask.TagAsk.TheVariants.{Answer}
use Rattle.tag_registers.specs.Tags.{Tags}
use Rattle.tag_registers.specs.Files.{is_touch, tag_ask, consumed}
use Rattle.tag_registers.specs.Folds.{TagAccess, access_of, reply_to}
use Rattle.tag_registers.proofs.Consumed.{consumed_after}
use Rattle.actor_lists.specs.Folded.{change_by}
use Rattle.tag_actor.specs.Seen.{TagActorSeen, is_meet, is_end, must_wait}
use Rattle.tag_actor.specs.Moves.{HasTaken, HasConsumed, HasPassed, HasSettled}
use Rattle.tag_actor.specs.Standing.{IsTagActor}
use Rattle.tag_actor.proofs.Standing.{consumed_keeps, passed_keeps}

-- a meeting changes no tag word, and has the reply that its file gives
pub record IsReplied (policy : PolicySeen) (tags : Tags) (item : Record) (reply : Reply) : Type 0 where
  pub touch : is_touch item ≡ false
  pub last : is_end item ≡ false
  pub access : access_of policy tags item 0 ≡ []
  pub reply_is : reply_to policy tags item 0 ≡ reply ∷ []

replied : (policy : PolicySeen) (tags : Tags) (item : Record) (reply : Reply) → is_meet item ≡ true → tag_ask policy tags item ≡ Answer reply → IsReplied policy tags item reply
replied policy tags (Meet step pc call kind) reply meet asks = record { touch = refl; last = refl; access = refl; reply_is = ap (λ (r : Reply). r ∷ []) (cc asks) }
replied policy tags (Quiet step pc insn faulted) reply meet asks = absurd (cc)
replied policy tags (Blank step pc) reply meet asks = absurd (cc)
replied policy tags (Touch step pc word number why) reply meet asks = absurd (cc)
replied policy tags (Back step pc) reply meet asks = absurd (cc)
replied policy tags End reply meet asks = absurd (cc)

-- nor has a record that does not wait
pub record IsPassing (policy : PolicySeen) (tags : Tags) (item : Record) : Type 0 where
  pub touch : is_touch item ≡ false
  pub access : access_of policy tags item 0 ≡ []
  pub reply : reply_to policy tags item 0 ≡ []

passing : (policy : PolicySeen) (tags : Tags) (item : Record) → must_wait item ≡ false → IsPassing policy tags item
passing policy tags (Quiet step pc insn faulted) h = record { touch = refl; access = refl; reply = refl }
passing policy tags (Blank step pc) h = record { touch = refl; access = refl; reply = refl }
passing policy tags (Touch step pc word number why) h = absurd (cc)
passing policy tags (Meet step pc call kind) h = absurd (cc)
passing policy tags (Back step pc) h = record { touch = refl; access = refl; reply = refl }
passing policy tags End h = record { touch = refl; access = refl; reply = refl }

same_changes : (a : TagActorSeen) (accesses : List TagAccess) → accesses ≡ [] → (a.pass).changes ≡ (a.pass).changes ++ map (change_by (a.pass).terms (a.pass).caller) accesses
same_changes a accesses none =
    sym (ap (λ (xs : List TagAccess). (a.pass).changes ++ map (change_by (a.pass).terms (a.pass).caller) xs) none ∙ append-nil (a.pass).changes)

reply_consumes : (a : TagActorSeen) (item : Record) (reply : Reply) (tags : Tags) (sender : Sender Reply) (done : ℕ)
    → a.ended ≡ false → a.hand ≡ Some item → is_meet item ≡ true → tag_ask a.policy a.tags item ≡ Answer reply → tags ≡ consumed a.policy a.tags item
    → sent_by sender ≡ sent_by a.sender ++ reply ∷ []
    → HasConsumed a item 0 (record a { tags = tags; sender = sender; hand = None; done = done })
reply_consumes a item reply tags sender done going held meet asks after sent =
    let is : IsReplied a.policy a.tags item reply = replied a.policy a.tags item reply meet asks in
    record {
      going = going;
      held = held;
      none_found = λ e. refl;
      hand = refl;
      ended = going ∙ sym is.last;
      tags = after ∙ consumed_after a.policy a.tags item is.touch;
      changes = same_changes a _ is.access;
      replies = sent ∙ ap (λ (xs : List Reply). sent_by a.sender ++ xs) (sym is.reply_is);
      policy = refl;
      pass = record { table = refl; terms = refl; caller = refl };
      taker = refl;
    }

takes_past : (a : TagActorSeen) (item : Record) (tags : Tags) (taker : RingTaker Record) (ended : Bool) (done : ℕ)
    → a.ended ≡ false → a.hand ≡ None → taken_by taker ≡ taken_by a.taker ++ item ∷ []
    → must_wait item ≡ false → tags ≡ consumed a.policy a.tags item → ended ≡ is_end item
    → HasConsumed (record a { hand = Some item; taker = taker }) item 0 (record a { tags = tags; taker = taker; ended = ended; done = done })
takes_past a item tags taker ended done going free took pass after last =
    let is : IsPassing a.policy a.tags item = passing a.policy a.tags item pass in
    record {
      going = going;
      held = refl;
      none_found = λ e. refl;
      hand = free;
      ended = last;
      tags = after ∙ consumed_after a.policy a.tags item is.touch;
      changes = same_changes a _ is.access;
      replies = sym (ap (λ (xs : List Reply). sent_by a.sender ++ xs) is.reply ∙ append-nil (sent_by a.sender));
      policy = refl;
      pass = record { table = refl; terms = refl; caller = refl };
      taker = refl;
    }

taken_past : (a : TagActorSeen) (item : Record) (taker : RingTaker Record)
    → a.ended ≡ false → a.hand ≡ None → taken_by taker ≡ taken_by a.taker ++ item ∷ [] → taker_looks taker ≡ taker_looks a.taker + 1
    → HasTaken a item (record a { hand = Some item; taker = taker })
taken_past a item taker going free took looked = record { going = going; free = free; after = refl; taken = took; look = looked }

-- ---- the same of an actor and of what its fields show

pub has_replied : (v a : TagActorSeen) (item : Record) (reply : Reply) (tags : Tags) (sender : Sender Reply) (done : ℕ) → v ≡ a
    → a.ended ≡ false → a.hand ≡ Some item → is_meet item ≡ true → tag_ask v.policy v.tags item ≡ Answer reply → tags ≡ consumed v.policy v.tags item
    → sent_by sender ≡ sent_by v.sender ++ reply ∷ []
    → HasSettled a (record v { tags = tags; sender = sender; hand = None; done = done })
has_replied v a item reply tags sender done is going held meet asks after sent =
    subst (λ (t : TagActorSeen). HasSettled t (record v { tags = tags; sender = sender; hand = None; done = done })) is
    (record {
      item = item;
      found = 0;
      consumes = reply_consumes v item reply tags sender done (ap (λ (t : TagActorSeen). t.ended) is ∙ going) (ap (λ (t : TagActorSeen). t.hand) is ∙ held) meet asks after sent;
    })

pub replied_keeps : (v a : TagActorSeen) (item : Record) (reply : Reply) (tags : Tags) (sender : Sender Reply) (done : ℕ) → v ≡ a → IsTagActor v
    → a.ended ≡ false → a.hand ≡ Some item → is_meet item ≡ true → tag_ask v.policy v.tags item ≡ Answer reply → tags ≡ consumed v.policy v.tags item
    → sent_by sender ≡ sent_by v.sender ++ reply ∷ [] → done ≡ min (v.done + 1) 4294967295
    → IsTagActor (record v { tags = tags; sender = sender; hand = None; done = done })
replied_keeps v a item reply tags sender done is h going held meet asks after sent counted =
    consumed_keeps v (record v { tags = tags; sender = sender; hand = None; done = done }) item 0 h
    (reply_consumes v item reply tags sender done (ap (λ (t : TagActorSeen). t.ended) is ∙ going) (ap (λ (t : TagActorSeen). t.hand) is ∙ held) meet asks after sent) counted

pub has_passed : (v a : TagActorSeen) (item : Record) (tags : Tags) (taker : RingTaker Record) (ended : Bool) (done : ℕ) → v ≡ a
    → a.ended ≡ false → a.hand ≡ None → taken_by taker ≡ taken_by v.taker ++ item ∷ [] → taker_looks taker ≡ taker_looks v.taker + 1
    → must_wait item ≡ false → tags ≡ consumed v.policy v.tags item → ended ≡ is_end item
    → HasPassed a (record v { tags = tags; taker = taker; ended = ended; done = done })
has_passed v a item tags taker ended done is going free took looked pass after last =
    let v_going : v.ended ≡ false = ap (λ (t : TagActorSeen). t.ended) is ∙ going in
    let v_free : v.hand ≡ None = ap (λ (t : TagActorSeen). t.hand) is ∙ free in
    subst (λ (t : TagActorSeen). HasPassed t (record v { tags = tags; taker = taker; ended = ended; done = done })) is
    (record {
      item = item;
      between = record v { hand = Some item; taker = taker };
      takes = taken_past v item taker v_going v_free took looked;
      consumes = takes_past v item tags taker ended done v_going v_free took pass after last;
    })

pub past_keeps : (v a : TagActorSeen) (item : Record) (tags : Tags) (taker : RingTaker Record) (ended : Bool) (done : ℕ) → v ≡ a → IsTagActor v
    → a.ended ≡ false → a.hand ≡ None → taken_by taker ≡ taken_by v.taker ++ item ∷ [] → taker_looks taker ≡ taker_looks v.taker + 1
    → must_wait item ≡ false → tags ≡ consumed v.policy v.tags item → ended ≡ is_end item
    → length (taken_by taker) ≤ 2 ^ 61 → done ≡ min (v.done + 1) 4294967295
    → IsTagActor (record v { tags = tags; taker = taker; ended = ended; done = done })
past_keeps v a item tags taker ended done is h going free took looked pass after last few counted =
    let v_going : v.ended ≡ false = ap (λ (t : TagActorSeen). t.ended) is ∙ going in
    let v_free : v.hand ≡ None = ap (λ (t : TagActorSeen). t.hand) is ∙ free in
    passed_keeps v (record v { hand = Some item; taker = taker }) (record v { tags = tags; taker = taker; ended = ended; done = done }) item h
    (taken_past v item taker v_going v_free took looked)
    (takes_past v item tags taker ended done v_going v_free took pass after last) few counted

-- what waits and is no touch is a meeting
pub meets : (item : Record) → must_wait item ≡ true → ((step pc word number : ℕ) (why : Why) → item ≡ Touch step pc word number why → ⊥) → is_meet item ≡ true
meets (Quiet step pc insn faulted) waits other = absurd (cc)
meets (Blank step pc) waits other = absurd (cc)
meets (Touch step pc word number why) waits other = absurd (other step pc word number why refl)
meets (Meet step pc call kind) waits other = refl
meets (Back step pc) waits other = absurd (cc)
meets End waits other = absurd (cc)
