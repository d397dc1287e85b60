-- A record made ready without a unit keeps what holds of a hart actor.
use Rattle.std.proofs.Common.{◌≡◌, ℕ, List, [], ◌∷◌, ◌++◌, Option, Some, None, refl, sym, ap, ◌∙◌, subst, append-nil}
use Rattle.std.specs.Prelude.{IsSome, option_to_list}
use Rattle.elf_image.specs.Layout.{words_of}
use Rattle.record_lane.specs.declared.record.MeetKind.{MeetKind}
use Rattle.record_lane.specs.declared.record.Record.{Record}
use Rattle.record_lane.specs.declared.record.Record.TheVariants.{Meet as MeetRecord}
use Rattle.record_lane.specs.Sound.{IsSoundRecord}
use Rattle.record_lane.specs.Rings.{sent_by}
use Rattle.syscall_drain.specs.Units.{next_ask}
use Rattle.syscall_drain.specs.declared.ask.CoreAsk.TheVariants.{Meet as Meets, Ended as AsksNoMore}
use Rattle.syscall_drain.specs.declared.ask.CoreAsk.{CoreAsk}
use Rattle.syscall_drain.specs.declared.end.End.{End}
use Rattle.syscall_drain.specs.Programs.{Program}
use Rattle.syscall_drain.specs.Locals.{Local}
use Rattle.syscall_drain.specs.Sound.{IsSound}
use Rattle.syscall_drain.proofs.Units.{running_asks}
use Rattle.syscall_drain.proofs.RecordKinds.{meeting_is}
use Rattle.hart_actor.specs.declared.stage.Stage.{Stage}
use Rattle.hart_actor.specs.declared.stage.Stage.TheVariants.{Going, Meeting}
use Rattle.hart_actor.specs.Harts.{Hart, ahead}
use Rattle.hart_actor.specs.Standing.{AtStage, IsHart, top_of}

-- with nothing unsent and nothing ahead, what was sent are the records
pub sent_all : (sent records : List Record) (unsent : Option Record) → unsent ≡ None → sent ++ option_to_list unsent ≡ records ++ [] → sent ≡ records
sent_all sent records unsent none is = sym (append-nil sent) ∙ ap (λ (o : Option Record). sent ++ option_to_list o) (sym none) ∙ is ∙ append-nil records

meet_sound : (words top : ℕ) (item : Record) (step pc call : ℕ) (kind : MeetKind) → item ≡ MeetRecord step pc call kind → IsSoundRecord words top item
meet_sound words top item step pc call kind is = rw is tt

pub meet_keeps : (h : Hart) (item : Record) → IsHart h → h.unsent ≡ None → h.stage ≡ Going → next_ask h.program h.local ≡ Meets item
    → IsHart (record h { unsent = Some item; stage = Meeting item })
meet_keeps h item is none going asks =
    let meeting = meeting_is h.program h.local item asks in record {
      answers = is.answers;
      records = is.records;
      has_run = is.has_run;
      count = is.count;
      sent_is = ap (λ xs. xs ++ item ∷ []) (sent_all (sent_by h.sender) is.records h.unsent none (is.sent_is ∙ ap (λ stage. is.records ++ ahead stage) going));
      at_stage = asks;
      caller = is.caller;
      unspent = is.unspent;
      sound = meet_sound (words_of h.program.layout) (top_of h) item _ _ _ meeting.0 meeting.1;
      some_number = is.some_number;
      whole = is.whole;
      room = record { spent = is.room.spent; most = is.room.most; log = is.room.log; notes = is.room.notes; pieces = is.room.pieces; output = is.room.output };
    }

-- a core that asks for no more has ended
pub over_ended : (program : Program) (l : Local) (ask : CoreAsk) → IsSound l → ask ≡ next_ask program l → ask ≡ AsksNoMore → IsSome l.ending
over_ended program l ask sound is over = by_ending l.ending refl
  where
    by_ending : (ending : Option End) → l.ending ≡ ending → IsSome ending
    by_ending None e = absurd (running_asks program l e sound (sym is ∙ over))
    by_ending (Some end) e = refl

-- a core at a meeting has asked for it
pub stage_asks : (program : Program) (l : Local) (stage : Stage) (item : Record) → AtStage program l stage → stage ≡ Meeting item → next_ask program l ≡ Meets item
stage_asks program l stage item at meeting = subst (λ (s : Stage). AtStage program l s) meeting at
