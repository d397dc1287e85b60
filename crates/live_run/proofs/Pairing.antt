-- The actors of a core that have ended have the same records and the same replies, and nothing is left between them.
use Rattle.std.proofs.Common.{◌≡◌, ℕ, ◌+◌, List, [], ◌∷◌, ◌++◌, map, length, refl, ap, ap₂, ◌∙◌, arith, append-nil, length-append}
use Rattle.record_lane.specs.declared.record.Record.{Record}
use Rattle.record_lane.specs.declared.record.Record.TheVariants.{Quiet, Blank, Touch, Meet, Back, End}
use Rattle.record_lane.specs.declared.reply.Reply.{Reply}
use Rattle.tag_policy.specs.Rules.{PolicySeen}
use Rattle.tag_registers.specs.Tags.{Tags, tags_after}
use Rattle.tag_registers.specs.Folds.{Given, folded, reply_to, replies}
use Rattle.syscall_drain.specs.Programs.{Program}
use Rattle.syscall_drain.specs.Locals.{Local}
use Rattle.syscall_drain.specs.Tasks.{task_of}
use Rattle.syscall_drain.specs.Units.{FitsAsk, task_ask, next_ask, answered, taken_of}
use Rattle.syscall_drain.specs.Records.{task_record, unit_record}
use Rattle.syscall_drain.specs.Runs.{IsLocalRun}
use Rattle.syscall_drain.specs.declared.task.Task.{Task}
use Rattle.syscall_drain.specs.declared.task.Task.TheVariants.{Over, Quiet as QuietTask, Access, Meeting}
use Rattle.syscall_drain.specs.declared.task.QuietReason.TheVariants.{Blank as BlankReason, Faulted, Plain, Return}
use Rattle.syscall_drain.specs.declared.ask.Answer.{Answer}
use Rattle.syscall_drain.specs.declared.ask.Answer.TheVariants.{Nothing, Taken as Took, Reply as Replied}
use Rattle.actor_lists.specs.Walked.{reply_in, walked, records_by, replies_by}

-- ---- records up to the end

-- none of them is the last record of a core
abbrev pub HaveNoEnd : List Record → Type 0
HaveNoEnd [] = Unit {0}
HaveNoEnd (item ∷ items) = (item ≡ End → ⊥) × HaveNoEnd items

-- the record of a unit is not, and is a meeting exactly where a reply is taken
abbrev pub meets : Record → ℕ
meets (Meet step pc call kind) = 1
meets _ = 0

abbrev pub meets_in : List Record → ℕ
meets_in [] = 0
meets_in (item ∷ items) = meets item + meets_in items

record IsUnitRecord (item : Record) (answer : Answer) : Type 0 where
  going : item ≡ End → ⊥
  heard : length (reply_in answer) ≡ meets item

task_made : (l : Local) (task : Task) (answer : Answer) → FitsAsk (task_ask l task) answer → IsUnitRecord (task_record l task (taken_of answer)) answer
task_made l Over answer fits = absurd fits
task_made l (QuietTask (BlankReason fault)) Nothing fits = record { going = λ e. cc; heard = refl }
task_made l (QuietTask (Faulted fault insn)) Nothing fits = record { going = λ e. cc; heard = refl }
task_made l (QuietTask (Plain insn)) Nothing fits = record { going = λ e. cc; heard = refl }
task_made l (QuietTask (Return result)) Nothing fits = record { going = λ e. cc; heard = refl }
task_made l (QuietTask reason) (Took t) fits = absurd fits
task_made l (QuietTask reason) (Replied reply) fits = absurd fits
task_made l (Access word op reason) Nothing fits = absurd fits
task_made l (Access word op reason) (Took t) fits = record { going = λ e. cc; heard = refl }
task_made l (Access word op reason) (Replied reply) fits = absurd fits
task_made l (Meeting kind) Nothing fits = absurd fits
task_made l (Meeting kind) (Took t) fits = absurd fits
task_made l (Meeting kind) (Replied reply) fits = record { going = λ e. cc; heard = refl }

unit_made : (program : Program) (l : Local) (answer : Answer) → FitsAsk (next_ask program l) answer → IsUnitRecord (unit_record program l answer) answer
unfolding next_ask unit_record
unit_made program l answer fits = task_made l (task_of program l) answer fits

-- the records of a local run
pub record AreUnitRecords (records : List Record) (replies : List Reply) : Type 0 where
  pub going : HaveNoEnd records
  pub heard : length replies ≡ meets_in records

pub run_made : (program : Program) (budget : ℕ) (l : Local) (answers : List Answer) → IsLocalRun program budget l answers
    → AreUnitRecords (records_by program budget l answers) (replies_by program budget l answers)
unfolding walked IsLocalRun
run_made program budget l [] run = record { going = tt; heard = refl }
run_made program budget l (answer ∷ rest) run =
    let first : IsUnitRecord (unit_record program l answer) answer = unit_made program l answer run.0 in
    let next = run_made program budget (answered program budget l answer) rest run.1 in
    record {
      going = (first.going, next.going);
      heard = length-append (reply_in answer) (replies_by program budget (answered program budget l answer) rest) ∙ ap₂ (λ (a b : ℕ). a + b) first.heard next.heard;
    }

-- the same records go in and come out before the end
pub split_end : (records items left : List Record) → HaveNoEnd records → records ++ End ∷ [] ≡ (items ++ End ∷ []) ++ left → items ≡ records
split_end [] [] left none same = refl
split_end [] (item ∷ items) left none same = absurd (past items (cc))
  where
    past : (items : List Record) → [] ≡ (items ++ End ∷ []) ++ left → ⊥
    past [] e = cc
    past (i ∷ is) e = cc
split_end (r ∷ records) [] left none same = absurd (none.0 (cc))
split_end (r ∷ records) (item ∷ items) left none same =
    let head : item ≡ r = cc in
    let tail : records ++ End ∷ [] ≡ (items ++ End ∷ []) ++ left = cc in
    ap₂ (λ (x : Record) (xs : List Record). x ∷ xs) head (split_end records items left none.1 tail)

-- ---- replies

reply_said : (policy : PolicySeen) (tags : Tags) (item : Record) (found : ℕ) → length (reply_to policy tags item found) ≡ meets item
reply_said policy tags (Quiet step pc insn faulted) found = refl
reply_said policy tags (Blank step pc) found = refl
reply_said policy tags (Touch step pc word number why) found = refl
reply_said policy tags (Meet step pc call kind) found = refl
reply_said policy tags (Back step pc) found = refl
reply_said policy tags End found = refl

pub replies_said : (policy : PolicySeen) (tags : Tags) (givens : List Given) → length (replies policy tags givens) ≡ meets_in (map (λ given. given.item) givens)
unfolding folded
replies_said policy tags [] = refl
replies_said policy tags (given ∷ rest) =
    length-append (reply_to policy tags given.item given.found) (replies policy (tags_after policy tags given.item given.found) rest)
    ∙ ap₂ (λ (a b : ℕ). a + b) (reply_said policy tags given.item given.found) (replies_said policy (tags_after policy tags given.item given.found) rest)

-- what was sent was taken, where as many were taken
pub nothing_more : {A : Type 0} (sent taken left : List A) → sent ≡ taken ++ left → length sent ≡ length taken → sent ≡ taken
nothing_more sent taken [] same count = same ∙ append-nil taken
nothing_more sent taken (x ∷ left) same count = absurd (omega (arith, ap length same, length-append taken (x ∷ left), count))
