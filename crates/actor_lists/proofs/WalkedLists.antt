-- The lists of a local run grow by what one more unit gives.
use Rattle.std.proofs.Common.{◌≡◌, ◌≢◌, ℕ, All, List, [], ◌∷◌, ◌++◌, refl, sym, ap, ap₂, ◌∙◌, subst, append_assoc, append-nil}
use Rattle.std.proofs.lemmas.List.Elements.{All-push, All-nil, All-cons}
use Rattle.record_lane.specs.declared.record.Record.{Record}
use Rattle.record_lane.specs.declared.record.Record.TheVariants.{End as EndRecord}
use Rattle.rv_execute.specs.declared.op.Taken.{Taken}
use Rattle.record_lane.specs.declared.reply.Reply.{Reply}
use Rattle.record_lane.specs.declared.note.CallNote.{CallNote}
use Rattle.ticket_table.specs.declared.change.Terms.{Terms}
use Rattle.ticket_table.specs.declared.change.Change.{Change}
use Rattle.syscall_drain.specs.Programs.{Program}
use Rattle.syscall_drain.specs.Locals.{Local, opening_local}
use Rattle.syscall_drain.specs.Tasks.{task_of}
use Rattle.syscall_drain.specs.Units.{FitsAsk, next_ask, task_ask, taken_of, answered, placed}
use Rattle.syscall_drain.specs.Records.{task_record, unit_record}
use Rattle.syscall_drain.specs.Runs.{local_after, IsLocalRun}
use Rattle.syscall_drain.specs.Pieces.{Piece, piece_at}
use Rattle.syscall_drain.specs.declared.task.Task.{Task}
use Rattle.syscall_drain.specs.declared.task.Task.TheVariants.{Over, Quiet, Access, Meeting}
use Rattle.syscall_drain.specs.declared.task.QuietReason.TheVariants.{Blank, Faulted, Plain, Return}
use Rattle.syscall_drain.specs.declared.ask.Answer.{Answer}
use Rattle.syscall_drain.specs.declared.ask.Answer.TheVariants.{Nothing, Taken as Took, Reply as Replied}
use Rattle.syscall_drain.proofs.Standing.{local_after_more, local_run_more}
use Rattle.order_core.specs.declared.entry.Entry.{Entry}
use Rattle.actor_lists.specs.Walked.{records_by, access_by, draw_by, reply_in, note_by, SaysSpent, walked, HasRun}

pub walked_more : {A : Type 0} (each : Program → Local → Answer → List A) (program : Program) (budget : ℕ) (l : Local) (answers : List Answer) (last : Answer)
    → walked each program budget l (answers ++ last ∷ []) ≡ walked each program budget l answers ++ each program (local_after program budget l answers) last
unfolding walked local_after
walked_more each program budget l [] last = append-nil (each program l last)
walked_more each program budget l (answer ∷ rest) last =
    ap (λ xs. each program l answer ++ xs) (walked_more each program budget (answered program budget l answer) rest last)
    ∙ sym (append_assoc (each program l answer) (walked each program budget (answered program budget l answer) rest) (each program (local_after program budget (answered program budget l answer) rest) last))

-- one list, at the core where the run stands
list_more : {A : Type 0} (each : Program → Local → Answer → List A) (program : Program) (budget : ℕ) (l now : Local) (answers : List Answer) (last : Answer) (xs : List A)
    → now ≡ local_after program budget l answers → xs ≡ walked each program budget l answers
    → xs ++ each program now last ≡ walked each program budget l (answers ++ last ∷ [])
list_more each program budget l now answers last xs at is =
    ap₂ (λ ys (m : Local). ys ++ each program m last) is at ∙ sym (walked_more each program budget l answers last)

-- no unit yet
pub run_begins : (program : Program) (budget core : ℕ) (terms : Terms) → HasRun program budget core terms (opening_local program core) [] [] [] [] [] [] []
unfolding IsLocalRun local_after walked
run_begins program budget core terms = record {
  run = tt;
  told = All-nil (SaysSpent terms.limit);
  local_is = refl;
  log_is = refl;
  drawn_is = refl;
  records_are = refl;
  replies_are = refl;
  notes_are = refl;
  claims_are = refl;
}

-- one unit more
pub run_grows : (program : Program) (budget core : ℕ) (terms : Terms) (local : Local) (log : List Entry) (drawn : List Change) (records : List Record) (replies : List Reply) (notes : List CallNote) (claims : List Piece) (answers : List Answer) (last : Answer)
    → HasRun program budget core terms local log drawn records replies notes claims answers → FitsAsk (next_ask program local) last → SaysSpent terms.limit last
    → HasRun program budget core terms (answered program budget local last) (log ++ record { touch = access_by (next_ask program local) last } ∷ []) (drawn ++ draw_by terms core (next_ask program local) last)
    (records ++ unit_record program local last ∷ []) (replies ++ reply_in last) (notes ++ note_by (next_ask program local) last) (claims ++ piece_at (placed program local last) local.gathered) (answers ++ last ∷ [])
run_grows program budget core terms local log drawn records replies notes claims answers last has fits told =
    let l : Local = opening_local program core in record {
      run = local_run_more program budget l answers last has.run (subst (λ (m : Local). FitsAsk (next_ask program m) last) has.local_is fits);
      told = All-push (SaysSpent terms.limit) answers last has.told told;
      local_is = ap (λ (m : Local). answered program budget m last) has.local_is ∙ sym (local_after_more program budget l answers last);
      log_is = list_more _ program budget l local answers last log has.local_is has.log_is;
      drawn_is = list_more _ program budget l local answers last drawn has.local_is has.drawn_is;
      records_are = list_more _ program budget l local answers last records has.local_is has.records_are;
      replies_are = list_more _ program budget l local answers last replies has.local_is has.replies_are;
      notes_are = list_more _ program budget l local answers last notes has.local_is has.notes_are;
      claims_are = list_more _ program budget l local answers last claims has.local_is has.claims_are;
    }

-- no record of a unit is the last record
task_not_end : (l : Local) (task : Task) (t : Taken) (answer : Answer) → FitsAsk (task_ask l task) answer → task_record l task t ≡ EndRecord → ⊥
task_not_end l Over t Nothing fits is = fits
task_not_end l Over t (Took u) fits is = fits
task_not_end l Over t (Replied reply) fits is = fits
task_not_end l (Quiet (Blank fault)) t answer fits is = cc
task_not_end l (Quiet (Faulted fault insn)) t answer fits is = cc
task_not_end l (Quiet (Plain insn)) t answer fits is = cc
task_not_end l (Quiet (Return result)) t answer fits is = cc
task_not_end l (Access word op reason) t answer fits is = cc
task_not_end l (Meeting kind) t answer fits is = cc

unit_not_end : (program : Program) (l : Local) (answer : Answer) → FitsAsk (next_ask program l) answer → unit_record program l answer ≡ EndRecord → ⊥
unfolding next_ask unit_record
unit_not_end program l answer fits is = task_not_end l (task_of program l) (taken_of answer) answer fits is

abbrev IsOfUnit : Record → Type 0
IsOfUnit item = item ≢ EndRecord

pub records_not_end : (program : Program) (budget : ℕ) (l : Local) (answers : List Answer) → IsLocalRun program budget l answers → All (λ (item : Record). item ≢ EndRecord) (records_by program budget l answers)
unfolding IsLocalRun walked
records_not_end program budget l [] run = All-nil IsOfUnit
records_not_end program budget l (answer ∷ rest) run =
    All-cons IsOfUnit (unit_record program l answer) (records_by program budget (answered program budget l answer) rest) (unit_not_end program l answer run.0)
    (records_not_end program budget (answered program budget l answer) rest run.1)
