-- What the moves of a hart actor do to the protocol's side of it.
use Rattle.std.proofs.Common.{◌≡◌, ℕ, ◌+◌, Bool, true, false, List, [], ◌∷◌, ◌++◌, Some, None, length, refl, sym, ap, ◌∙◌, subst, inl, inr, arith, append-nil, length-append}
use Rattle.std.specs.Prelude.{IsSome}
use Rattle.bounded_list.specs.Bounded.{Bounded}
use Rattle.record_lane.specs.declared.record.MeetKind.{MeetKind}
use Rattle.record_lane.specs.declared.record.Record.{Record}
use Rattle.record_lane.specs.declared.record.Record.TheVariants.{Quiet as QuietRecord, Blank as BlankRecord, Touch as TouchRecord, Meet as MeetRecord, Back, End as EndRecord}
use Rattle.record_lane.specs.declared.reply.Reply.{Reply}
use Rattle.record_lane.specs.declared.ring.Ring.{Ring}
use Rattle.record_lane.specs.declared.ring_token.RingSender.{RingSender}
use Rattle.record_lane.specs.declared.lane.Lane.{Lane}
use Rattle.record_lane.specs.declared.lane_token.Taker.{Taker}
use Rattle.record_lane.specs.Rings.{sent_by, WasFull}
use Rattle.record_lane.specs.Lanes.{taken_by, seen_by, WasEmpty}
use Rattle.record_lane.specs.Histories.{IsPrefix}
use Rattle.ticket_table.specs.declared.change.Change.{Change}
use Rattle.syscall_drain.specs.Units.{next_ask}
use Rattle.syscall_drain.specs.declared.ask.CoreAsk.TheVariants.{Meet as Meets}
use Rattle.syscall_drain.proofs.RecordKinds.{meeting_is}
use Rattle.order_core.specs.declared.entry.Entry.{Entry}
use Rattle.order_core.specs.declared.shape.Queued.{Queued}
use Rattle.order_core.specs.Protocol.{committed}
use Rattle.hart_actor.specs.declared.stage.Stage.{Stage}
use Rattle.hart_actor.specs.declared.stage.Stage.TheVariants.{Going, Meeting, Closed}
use Rattle.hart_actor.specs.Harts.{Hart}
use Rattle.actor_lists.specs.Queued.{queued_of}
use Rattle.hart_actor.specs.Moves.{Commit, Resume, Side, side_of, drawn_as, numbers_in, is_meeting, is_closed, Commits}
use Rattle.hart_actor.specs.Turns.{HasMoved, HasStepped}
use Rattle.hart_actor.specs.declared.turn.Step.TheVariants.{Full as IsBlocked, Waits as IsWaiting}

-- where a record leaves its core: at a meeting, at its end, or as it was
abbrev pub stage_with : Record → Stage
stage_with (QuietRecord step pc insn faulted) = Going
stage_with (BlankRecord step pc) = Going
stage_with (TouchRecord step pc word number why) = Going
stage_with (MeetRecord step pc call kind) = Meeting (MeetRecord step pc call kind)
stage_with (Back step pc) = Going
stage_with EndRecord = Closed

commits_core : (item : Record) (lane : Bounded Queued) (reply : Bool)
    → record { unsent = Some (queued_of item); meeting = is_meeting (stage_with item); ended = is_closed (stage_with item); lane = lane; reply = reply }
    ≡ committed (record { unsent = None; meeting = false; ended = false; lane = lane; reply = reply }) (queued_of item).shape (queued_of item).number
commits_core (QuietRecord step pc insn faulted) lane reply = refl
commits_core (BlankRecord step pc) lane reply = refl
commits_core (TouchRecord step pc word number why) lane reply = refl
commits_core (MeetRecord step pc call kind) lane reply = refl
commits_core (Back step pc) lane reply = refl
commits_core EndRecord lane reply = refl

-- a record made ready by a core that has none unsent, is at no meeting and goes on
pub commits : (s t : Side) (item : Record) (changes : List Change) → s.unsent ≡ None → s.stage ≡ Going → t.unsent ≡ Some item → t.stage ≡ stage_with item
    → t.drawn ≡ s.drawn ++ changes → numbers_in changes ≡ drawn_as (queued_of item).shape (queued_of item).number → t.sent ≡ s.sent → t.taken ≡ s.taken → Commits (queued_of item) s t
commits s t item changes none going some stage drawn numbers sent taken = record {
  free = λ lane reply. rw (none, going) refl;
  core = λ lane reply. rw (going, some, stage) (commits_core item lane reply);
  changes = changes;
  drawn = drawn;
  numbers = numbers;
  sent = sent;
  taken = taken;
}

-- as a unit
pub unit_step : (h g : Hart) (item : Record) (changes : List Change) (entry : Entry) → h.unsent ≡ None → h.stage ≡ Going → g.unsent ≡ Some item → stage_with item ≡ Going → g.stage ≡ Going
    → g.pass.changes ≡ h.pass.changes ++ changes → numbers_in changes ≡ drawn_as (queued_of item).shape (queued_of item).number → g.sender ≡ h.sender → g.taker ≡ h.taker
    → g.local.units ≡ h.local.units + 1 → g.log.items ≡ h.log.items ++ entry ∷ [] → HasMoved 1 true h g
unit_step h g item changes entry none going some still stays drawn numbers sender taker units log = (
  record {
    move = Commit (queued_of item);
    is = commits (side_of h) (side_of g) item changes none going some (stays ∙ sym still) drawn numbers (ap sent_by sender) (ap taken_by taker);
    sender = inl sender;
    taker = inl taker;
    units_are = units;
  },
  let logged : length g.log.items ≡ length h.log.items + 1 = ap length log ∙ length-append h.log.items (entry ∷ []) in
      let sent : length (sent_by g.sender) ≡ length (sent_by h.sender) = ap (λ s. length (sent_by s)) sender in
      let took : length (taken_by g.taker) ≡ length (taken_by h.taker) = ap (λ t. length (taken_by t)) taker in
      omega (arith, logged, sent, took),
  omega arith,
  λ one. (refl, stays),
)

-- as no unit
pub ready_step : (h : Hart) (item : Record) → h.unsent ≡ None → h.stage ≡ Going → [] ≡ drawn_as (queued_of item).shape (queued_of item).number
    → HasMoved 0 false h (record h { unsent = Some item; stage = stage_with item })
ready_step h item none going numbers = (
  record {
    move = Commit (queued_of item);
    is = commits (side_of h) (side_of (record h { unsent = Some item; stage = stage_with item })) item [] none going refl refl (sym (append-nil h.pass.changes)) numbers refl refl;
    sender = inl refl;
    taker = inl refl;
    units_are = omega arith;
  },
  refl,
  omega arith,
  λ one. absurd (omega arith),
)

pub meet_step : (h : Hart) (item : Record) (step pc call : ℕ) (kind : MeetKind) → item ≡ MeetRecord step pc call kind → h.unsent ≡ None → h.stage ≡ Going
    → HasMoved 0 false h (record h { unsent = Some item; stage = Meeting item })
meet_step h item step pc call kind is none going =
    subst (λ (r : Record). HasMoved 0 false h (record h { unsent = Some r; stage = Meeting r })) (sym is) (ready_step h (MeetRecord step pc call kind) none going refl)

-- the reply to a meeting, whose record is sent, ends it as a unit
pub resume_step : (h g : Hart) (item : Record) (reply : Reply) (entry : Entry) → h.unsent ≡ None → h.stage ≡ Meeting item → g.unsent ≡ None → g.stage ≡ Going
    → g.pass.changes ≡ h.pass.changes → g.sender ≡ h.sender → taken_by g.taker ≡ taken_by h.taker ++ reply ∷ [] → IsPrefix (taken_by g.taker) (seen_by g.taker)
    → g.local.units ≡ h.local.units + 1 → g.log.items ≡ h.log.items ++ entry ∷ [] → HasMoved 1 true h g
resume_step h g item reply entry none meeting still going drawn sender taken seen units log =
    let logged : length g.log.items ≡ length h.log.items + 1 = ap length log ∙ length-append h.log.items (entry ∷ []) in
    let sent : length (sent_by g.sender) ≡ length (sent_by h.sender) = ap (λ s. length (sent_by s)) sender in
    let took : length (taken_by g.taker) ≡ length (taken_by h.taker) + 1 = ap length taken ∙ length-append (taken_by h.taker) (reply ∷ []) in (
      record {
        move = Resume;
        is = record {
          waiting = (none, ap is_meeting meeting);
          core = λ lane. rw (none, meeting, still, going) refl;
          reply = reply;
          taken = taken;
          sent = ap sent_by sender;
          drawn = drawn;
        };
        sender = inl sender;
        taker = inr (omega (arith, took), seen);
        units_are = units;
      },
      omega (arith, logged, sent, took),
      omega arith,
      λ one. (refl, going),
    )

-- a ring that was found full keeps the unsent record
pub send_full : (h : Hart) (items : Ring Record) (sender : RingSender Record) (item : Record) (replies : Lane Reply) → h.unsent ≡ Some item → sent_by sender ≡ sent_by h.sender → WasFull items h.sender sender
    → HasStepped items replies h (record h { sender = sender }) IsBlocked
send_full h items sender item replies some same full = (
  ap (λ (sent : List Record). record (side_of h) { sent = sent }) same,
  refl,
  ap (λ (sent : List Record). length h.log.items + (length sent + length (taken_by h.taker))) same,
  (subst IsSome (sym some) refl, (h.sender, inl refl, same, full)),
)

-- and a lane that was found empty keeps the meeting
pub resume_waits : (h : Hart) (items : Ring Record) (replies : Lane Reply) (taker : Taker Reply) (item : Record) → h.unsent ≡ None → h.stage ≡ Meeting item → taken_by taker ≡ taken_by h.taker → WasEmpty replies h.taker taker
    → HasStepped items replies h (record h { taker = taker }) IsWaiting
resume_waits h items replies taker item none meeting same empty = (
  ap (λ (taken : List Reply). record (side_of h) { taken = taken }) same,
  refl,
  ap (λ (taken : List Reply). length h.log.items + (length (sent_by h.sender) + length taken)) same,
  (none, ap is_meeting meeting, (h.taker, inl refl, same, empty)),
)

-- ---- the same of an actor as its callers see it

pub end_at : (v now : Hart) → v ≡ now → now.unsent ≡ None → now.stage ≡ Going → HasMoved 0 false now (record v { unsent = Some EndRecord; stage = Closed })
end_at v now is = subst (λ (w : Hart). w.unsent ≡ None → w.stage ≡ Going → HasMoved 0 false w (record v { unsent = Some EndRecord; stage = Closed })) is
    (λ none going. ready_step v EndRecord none going refl)

pub meet_at : (v now : Hart) (item : Record) → v ≡ now → now.unsent ≡ None → now.stage ≡ Going → next_ask now.program now.local ≡ Meets item
    → HasMoved 0 false now (record v { unsent = Some item; stage = Meeting item })
meet_at v now item is = subst (λ (w : Hart). w.unsent ≡ None → w.stage ≡ Going → next_ask w.program w.local ≡ Meets item → HasMoved 0 false w (record v { unsent = Some item; stage = Meeting item })) is
    (λ none going asks. let meeting = meeting_is v.program v.local item asks in meet_step v item _ _ _ meeting.0 meeting.1 none going)

pub full_at : (v now : Hart) (items : Ring Record) (sender : RingSender Record) (item : Record) (replies : Lane Reply) → v ≡ now → now.unsent ≡ Some item → sent_by sender ≡ sent_by v.sender → WasFull items v.sender sender
    → HasStepped items replies now (record v { sender = sender }) IsBlocked
full_at v now items sender item replies is some same full = subst (λ (w : Hart). w.unsent ≡ Some item → HasStepped items replies w (record v { sender = sender }) IsBlocked) is
    (λ some. send_full v items sender item replies some same full) some

pub waits_at : (v now : Hart) (items : Ring Record) (replies : Lane Reply) (taker : Taker Reply) (item : Record) → v ≡ now → now.stage ≡ Meeting item → now.unsent ≡ None → taken_by taker ≡ taken_by v.taker → WasEmpty replies v.taker taker
    → HasStepped items replies now (record v { taker = taker }) IsWaiting
waits_at v now items replies taker item is meeting none same empty =
    subst (λ (w : Hart). w.stage ≡ Meeting item → w.unsent ≡ None → HasStepped items replies w (record v { taker = taker }) IsWaiting) is
    (λ meeting none. resume_waits v items replies taker item none meeting same empty) meeting none

pub unit_at : (v now g : Hart) (item : Record) (changes : List Change) (entry : Entry) → v ≡ now → now.unsent ≡ None → now.stage ≡ Going → g.unsent ≡ Some item → stage_with item ≡ Going → g.stage ≡ v.stage
    → g.pass.changes ≡ v.pass.changes ++ changes → numbers_in changes ≡ drawn_as (queued_of item).shape (queued_of item).number → g.sender ≡ v.sender → g.taker ≡ v.taker
    → g.local.units ≡ v.local.units + 1 → g.log.items ≡ v.log.items ++ entry ∷ [] → HasMoved 1 true now g
unit_at v now g item changes entry is none going some still stays drawn numbers sender taker units log =
    subst (λ (w : Hart). w.unsent ≡ None → w.stage ≡ Going → HasMoved 1 true w g) is
    (λ none going. unit_step v g item changes entry none going some still (stays ∙ going) drawn numbers sender taker units log) none going

pub resume_at : (v now g : Hart) (item : Record) (reply : Reply) (entry : Entry) → v ≡ now → now.stage ≡ Meeting item → now.unsent ≡ None → g.unsent ≡ v.unsent → g.stage ≡ Going
    → g.pass.changes ≡ v.pass.changes → g.sender ≡ v.sender → taken_by g.taker ≡ taken_by v.taker ++ reply ∷ [] → IsPrefix (taken_by g.taker) (seen_by g.taker)
    → g.local.units ≡ v.local.units + 1 → g.log.items ≡ v.log.items ++ entry ∷ [] → HasMoved 1 true now g
resume_at v now g item reply entry is meeting none still going drawn sender taken seen units log =
    subst (λ (w : Hart). w.stage ≡ Meeting item → w.unsent ≡ None → HasMoved 1 true w g) is
    (λ meeting none. resume_step v g item reply entry none meeting (still ∙ none) going drawn sender taken seen units log) meeting none
