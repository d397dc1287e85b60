-- One unit of a core over the two histories of a run: from what it drew, its record and what its tag actor did with the record.
use Rattle.std.proofs.Common.{◌≡◌, ℕ, Bool, false, nat_le, nat_lt, if◌then◌else◌, List, [], ◌∷◌, ◌++◌, map, refl, sym, ap, subst, ◌∙◌, arith}
use Rattle.std.specs.Prelude.{All}
use Rattle.std.proofs.lemmas.Bool.Decides.{nat_tests}
use Rattle.std.proofs.lemmas.List.Elements.{All-head}
use Rattle.rv_execute.specs.declared.op.Op.{Op}
use Rattle.rv_execute.specs.declared.op.Taken.{Taken}
use Rattle.rv_execute.specs.Payloads.{changed}
use Rattle.record_lane.specs.declared.record.MeetKind.{MeetKind}
use Rattle.record_lane.specs.declared.record.Record.{Record}
use Rattle.record_lane.specs.declared.record.Record.TheVariants.{Quiet as QuietRecord, Blank as BlankRecord, Touch as TouchRecord, Meet as MeetRecord, Back, End as EndRecord}
use Rattle.record_lane.specs.declared.reply.Reply.{Reply}
use Rattle.tag_policy.specs.Rules.{PolicySeen}
use Rattle.tag_registers.specs.Files.{is_touch}
use Rattle.tag_registers.specs.Tags.{Tags, tags_after, word_op, word_tag, reply_of}
use Rattle.tag_registers.specs.Folds.{Given, access_of, reply_to}
use Rattle.tag_registers.proofs.WordOperation.{operation_leaves}
use Rattle.ticket_table.specs.declared.change.Change.{Change}
use Rattle.ticket_table.specs.History.{made}
use Rattle.syscall_drain.specs.Arguments.{call_number}
use Rattle.syscall_drain.specs.Units.{FitsAsk, next_ask, placed}
use Rattle.syscall_drain.specs.Records.{unit_record, IsStill}
use Rattle.syscall_drain.specs.Pieces.{piece_at}
use Rattle.syscall_drain.specs.declared.ask.CoreAsk.{CoreAsk}
use Rattle.syscall_drain.specs.declared.ask.CoreAsk.TheVariants.{Quiet as AsksNothing, Touch as Touches, Meet as Meets, Ended}
use Rattle.syscall_drain.specs.declared.ask.Answer.{Answer}
use Rattle.syscall_drain.specs.declared.ask.Answer.TheVariants.{Nothing, Taken as Took, Reply as Replied}
use Rattle.syscall_drain.proofs.RecordKinds.{still_record, meeting_record, meeting_is, touch_record, IsTouchOf}
use Rattle.actor_lists.specs.Walked.{access_by, draw_by, reply_in, note_by, SaysSpent}
use Rattle.actor_lists.specs.Folded.{change_by, FoundNone}
use Rattle.machine.specs.Setups.{Setup}
use Rattle.machine.specs.States.{Core}
use Rattle.machine.specs.Steps.{note_of}
use Rattle.machine.proofs.Parts.{AgreesWith, StandsInBoth, StandsBy, IsPartedUnit}
use Rattle.machine.proofs.Joining.{IsPieceOf}
use Rattle.live_run.proofs.WordHistories.{draw_terms, serve_terms, words_along, IsDrawn, IsServed}

-- ---- the kinds of records

still_untouched : (item : Record) → IsStill item → is_touch item ≡ false
still_untouched (QuietRecord step pc insn faulted) still = refl
still_untouched (BlankRecord step pc) still = refl
still_untouched (TouchRecord step pc word number why) still = absurd still
still_untouched (MeetRecord step pc call kind) still = absurd still
still_untouched (Back step pc) still = refl
still_untouched EndRecord still = absurd still

still_unanswered : (policy : PolicySeen) (tags : Tags) (item : Record) (found : ℕ) → IsStill item → reply_to policy tags item found ≡ []
still_unanswered policy tags (QuietRecord step pc insn faulted) found still = refl
still_unanswered policy tags (BlankRecord step pc) found still = refl
still_unanswered policy tags (TouchRecord step pc word number why) found still = absurd still
still_unanswered policy tags (MeetRecord step pc call kind) found still = absurd still
still_unanswered policy tags (Back step pc) found still = refl
still_unanswered policy tags EndRecord found still = absurd still

still_unnoted : (item : Record) (after : Tags) → IsStill item → note_of item after ≡ []
still_unnoted (QuietRecord step pc insn faulted) after still = refl
still_unnoted (BlankRecord step pc) after still = refl
still_unnoted (TouchRecord step pc word number why) after still = absurd still
still_unnoted (MeetRecord step pc call kind) after still = absurd still
still_unnoted (Back step pc) after still = refl
still_unnoted EndRecord after still = absurd still

-- a record that is replied to touched no word, and its reply is of the tags after it
answered_untouched : (policy : PolicySeen) (tags : Tags) (item : Record) (found : ℕ) (reply : Reply) → reply_to policy tags item found ≡ reply ∷ []
    → (is_touch item ≡ false) × (reply ≡ reply_of (tags_after policy tags item found))
answered_untouched policy tags (QuietRecord step pc insn faulted) found reply e = absurd (cc)
answered_untouched policy tags (BlankRecord step pc) found reply e = absurd (cc)
answered_untouched policy tags (TouchRecord step pc word number why) found reply e = absurd (cc)
answered_untouched policy tags (MeetRecord step pc call kind) found reply e = (refl, cc)
answered_untouched policy tags (Back step pc) found reply e = absurd (cc)
answered_untouched policy tags EndRecord found reply e = absurd (cc)

same_note : (item : Record) (reply : Reply) (after : Tags) → reply ≡ reply_of after → note_by (Meets item) (Replied reply) ≡ note_of item after
same_note (QuietRecord step pc insn faulted) reply after e = refl
same_note (BlankRecord step pc) reply after e = refl
same_note (TouchRecord step pc word number why) reply after e = refl
same_note (MeetRecord step pc call kind) reply after e =
    ap (λ (r : Reply). record { step = step; pc = pc; call = call; kind = kind; tags = r.tags; buffer = r.buffer; stop = r.stop } ∷ []) e
same_note (Back step pc) reply after e = refl
same_note EndRecord reply after e = refl

-- a number drawn at or above the limit leaves the payload, as one that is told so
left_as_told : (limit number payload old : ℕ) (spent : Bool) → spent ≡ nat_le limit number
    → (if nat_lt number limit then payload else old) ≡ (if spent then old else payload)
left_as_told limit number payload old spent told = rw told (grind (arith, nat_tests))

-- ---- the unit

module _ (s : Setup) (drawn served : List Change) (out : List ℕ) (c : ℕ) where
  -- the answer to a unit of core c, with its record, and what both did
  pub record IsUnit (core : Core) (answer : Answer) (given : Given) : Type 0 where
    pub fits : FitsAsk (next_ask s.program core.local) answer
    pub told : SaysSpent s.limit answer
    pub item : given.item ≡ unit_record s.program core.local answer
    pub none : FoundNone given
    pub draws : All (IsDrawn s drawn) (draw_by (draw_terms s) c (next_ask s.program core.local) answer)
    pub serves : All (IsServed s served) (map (change_by (serve_terms s) c) (access_of s.policy core.tags given.item given.found))
    pub replies : reply_to s.policy core.tags given.item given.found ≡ reply_in answer
    pub claims : All (IsPieceOf out) (piece_at (placed s.program core.local answer) core.local.gathered)

  -- the replies of a unit and of those after it are told apart
  pub replies_apart : (core : Core) (given : Given) (ask : CoreAsk) (answer : Answer) → next_ask s.program core.local ≡ ask → FitsAsk ask answer
      → given.item ≡ unit_record s.program core.local answer → (sent taken : List Reply)
      → reply_to s.policy core.tags given.item given.found ++ sent ≡ reply_in answer ++ taken
      → (reply_to s.policy core.tags given.item given.found ≡ reply_in answer) × (sent ≡ taken)
  replies_apart core given AsksNothing Nothing asks fits item sent taken e =
      let none : reply_to s.policy core.tags given.item given.found ≡ [] =
      still_unanswered s.policy core.tags given.item given.found (subst IsStill (sym item) (still_record s.program core.local Nothing asks)) in
      (none, sym (ap (λ (xs : List Reply). xs ++ sent) none) ∙ e)
  replies_apart core given (Touches word op) (Took t) asks fits item sent taken e =
      let none : reply_to s.policy core.tags given.item given.found ≡ [] =
      ap (λ (r : Record). reply_to s.policy core.tags r given.found) (item ∙ (touch_record s.program core.local t word op asks).is) in
      (none, sym (ap (λ (xs : List Reply). xs ++ sent) none) ∙ e)
  replies_apart core given (Meets met) (Replied reply) asks fits item sent taken e = one (meeting_is s.program core.local met asks)
    where
      one : (kind : MeetKind) × (met ≡ MeetRecord core.local.units core.local.hart.pc (call_number core.local.hart) kind)
          → (reply_to s.policy core.tags given.item given.found ≡ reply ∷ []) × (sent ≡ taken)
      one meets =
          let reply_is : reply_to s.policy core.tags given.item given.found ≡ reply_of (tags_after s.policy core.tags (MeetRecord core.local.units core.local.hart.pc (call_number core.local.hart) meets.0) given.found) ∷ [] =
          ap (λ (r : Record). reply_to s.policy core.tags r given.found) (item ∙ meeting_record s.program core.local (Replied reply) met asks ∙ meets.1) in
          let both : reply_of (tags_after s.policy core.tags (MeetRecord core.local.units core.local.hart.pc (call_number core.local.hart) meets.0) given.found) ∷ sent ≡ reply ∷ taken =
          sym (ap (λ (xs : List Reply). xs ++ sent) reply_is) ∙ e in
          (reply_is ∙ ap (λ (r : Reply). r ∷ []) (cc), cc)
  replies_apart core given AsksNothing (Took t) asks fits item sent taken e = absurd fits
  replies_apart core given AsksNothing (Replied reply) asks fits item sent taken e = absurd fits
  replies_apart core given (Touches word op) Nothing asks fits item sent taken e = absurd fits
  replies_apart core given (Touches word op) (Replied reply) asks fits item sent taken e = absurd fits
  replies_apart core given (Meets met) Nothing asks fits item sent taken e = absurd fits
  replies_apart core given (Meets met) (Took t) asks fits item sent taken e = absurd fits
  replies_apart core given Ended Nothing asks fits item sent taken e = absurd fits
  replies_apart core given Ended (Took t) asks fits item sent taken e = absurd fits
  replies_apart core given Ended (Replied reply) asks fits item sent taken e = absurd fits

  agrees_at : (core : Core) (given : Given) (ask : CoreAsk) (answer : Answer) → next_ask s.program core.local ≡ ask → FitsAsk ask answer → IsUnit core answer given
      → AgreesWith answer given.found (tags_after s.policy core.tags given.item given.found)
  agrees_at core given ask (Took t) asks fits unit = tt
  agrees_at core given ask (Replied reply) asks fits unit =
      let answered = answered_untouched s.policy core.tags given.item given.found reply unit.replies in
      (unit.none answered.0, answered.1)
  agrees_at core given AsksNothing Nothing asks fits unit =
      unit.none (still_untouched given.item (subst IsStill (sym unit.item) (still_record s.program core.local Nothing asks)))
  agrees_at core given (Touches word op) Nothing asks fits unit = absurd fits
  agrees_at core given (Meets met) Nothing asks fits unit = absurd fits
  agrees_at core given Ended Nothing asks fits unit = absurd fits

  -- an access stands in both histories
  access_stands : (core : Core) (given : Given) (word : ℕ) (op : Op) (t : Taken) → next_ask s.program core.local ≡ Touches word op → IsUnit core (Took t) given
      → StandsInBoth s (words_along s drawn served) (IsPieceOf out) core given word op t
  access_stands core given word op t asks unit =
      let touch : IsTouchOf core.local word t (unit_record s.program core.local (Took t)) = touch_record s.program core.local t word op asks in
      let item : Record = TouchRecord core.local.units core.local.hart.pc word t.number touch.why in
      let same : given.item ≡ item = unit.item ∙ touch.is in
      let change : Change = made (draw_terms s) c word t.number op t.old in
      let draw : IsDrawn s drawn change =
      All-head (IsDrawn s drawn) change [] (subst (λ (ask : CoreAsk). All (IsDrawn s drawn) (draw_by (draw_terms s) c ask (Took t))) asks unit.draws) in
      let tag_op : Op = word_op s.policy core.tags item in
      let tag_change : Change = made (serve_terms s) c word t.number tag_op given.found in
      let serve : IsServed s served tag_change =
      All-head (IsServed s served) tag_change []
      (subst (λ (r : Record). All (IsServed s served) (map (change_by (serve_terms s) c) (access_of s.policy core.tags r given.found))) same unit.serves) in
      record {
        spent = unit.told;
        payload = (draw.step).old;
        payload_left = (draw.step).new ∙ left_as_told s.limit t.number (changed op t.number t.old) t.old t.spent unit.told;
        tag = (serve.step).old;
        tag_left = (serve.step).new ∙ operation_leaves s.policy core.tags item t.number given.found serve.below
            ∙ ap (λ (r : Record). word_tag s.policy core.tags r given.found) (sym same);
        pieces = unit.claims;
      }

  stands_at : (core : Core) (given : Given) (ask : CoreAsk) (answer : Answer) → next_ask s.program core.local ≡ ask → IsUnit core answer given
      → StandsBy s (words_along s drawn served) (IsPieceOf out) core given ask answer
  stands_at core given (Touches word op) (Took t) asks unit = access_stands core given word op t asks unit
  stands_at core given AsksNothing answer asks unit = tt
  stands_at core given (Touches word op) Nothing asks unit = tt
  stands_at core given (Touches word op) (Replied reply) asks unit = tt
  stands_at core given (Meets met) answer asks unit = tt
  stands_at core given Ended answer asks unit = tt

  pub unit_parted : (core : Core) (answer : Answer) (given : Given) → IsUnit core answer given
      → IsPartedUnit s (words_along s drawn served) (IsPieceOf out) core answer given (record { touch = access_by (next_ask s.program core.local) answer })
  unit_parted core answer given unit = record {
    parts = record {
      fits = unit.fits;
      item = unit.item;
      agrees = agrees_at core given (next_ask s.program core.local) answer refl unit.fits unit;
    };
    stands = stands_at core given (next_ask s.program core.local) answer refl unit;
    touch = refl;
  }

  notes_at : (core : Core) (given : Given) (ask : CoreAsk) (answer : Answer) → next_ask s.program core.local ≡ ask → FitsAsk ask answer → IsUnit core answer given
      → note_by ask answer ≡ note_of given.item (tags_after s.policy core.tags given.item given.found)
  notes_at core given AsksNothing Nothing asks fits unit =
      sym (still_unnoted given.item (tags_after s.policy core.tags given.item given.found) (subst IsStill (sym unit.item) (still_record s.program core.local Nothing asks)))
  notes_at core given (Touches word op) (Took t) asks fits unit =
      sym (ap (λ (r : Record). note_of r (tags_after s.policy core.tags given.item given.found)) (unit.item ∙ (touch_record s.program core.local t word op asks).is))
  notes_at core given (Meets met) (Replied reply) asks fits unit =
      same_note met reply (tags_after s.policy core.tags given.item given.found) (answered_untouched s.policy core.tags given.item given.found reply unit.replies).1
      ∙ ap (λ (r : Record). note_of r (tags_after s.policy core.tags given.item given.found)) (sym (unit.item ∙ meeting_record s.program core.local (Replied reply) met asks))
  notes_at core given AsksNothing (Took t) asks fits unit = absurd fits
  notes_at core given AsksNothing (Replied reply) asks fits unit = absurd fits
  notes_at core given (Touches word op) Nothing asks fits unit = absurd fits
  notes_at core given (Touches word op) (Replied reply) asks fits unit = absurd fits
  notes_at core given (Meets met) Nothing asks fits unit = absurd fits
  notes_at core given (Meets met) (Took t) asks fits unit = absurd fits
  notes_at core given Ended Nothing asks fits unit = absurd fits
  notes_at core given Ended (Took t) asks fits unit = absurd fits
  notes_at core given Ended (Replied reply) asks fits unit = absurd fits

  -- its note is that of its record
  pub unit_note : (core : Core) (answer : Answer) (given : Given) → IsUnit core answer given
      → note_by (next_ask s.program core.local) answer ≡ note_of given.item (tags_after s.policy core.tags given.item given.found)
  unit_note core answer given unit = notes_at core given (next_ask s.program core.local) answer refl unit.fits unit
