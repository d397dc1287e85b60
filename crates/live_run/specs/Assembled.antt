-- What the ended actors of a run leave together: the part of each core, and the output (this project's own).
use Rattle.std.specs.Prelude.{◌≡◌, ℕ, ◌+◌, ◌<◌, IsSome, List, length, map, slice_get, slice_index, Some, All}
use Rattle.record_lane.specs.declared.record.Record.{Record}
use Rattle.record_lane.specs.declared.reply.Reply.{Reply}
use Rattle.ticket_table.specs.declared.change.Change.{Change}
use Rattle.ticket_table.specs.History.{IsHistory, of_caller, left_at}
use Rattle.ticket_table.specs.Passes.{TableSeen}
use Rattle.elf_image.specs.declared.device.TheConstants.{OUTPUT_WORD}
use Rattle.tag_registers.specs.Folds.{Given}
use Rattle.tag_registers.specs.Tags.{Tags}
use Rattle.syscall_drain.specs.declared.ask.Answer.{Answer}
use Rattle.syscall_drain.specs.Locals.{Local}
use Rattle.syscall_drain.specs.Pieces.{Piece}
use Rattle.order_core.specs.declared.entry.Entry.{Entry}
use Rattle.order_core.specs.CanonicalMerge.{canonical}
use Rattle.actor_lists.specs.Walked.{HasRun}
use Rattle.actor_lists.specs.Folded.{IsFolded}
use Rattle.machine.specs.Setups.{Setup, IsSetup, core_count}
use Rattle.machine.specs.Outcomes.{Summary}
use Rattle.machine.specs.FinishedRuns.{FinishedRun}
use Rattle.live_run.specs.Seats.{AreTables}

-- what one core leaves: its log, its summary, and the pieces of output that it claimed
pub record CoreLeft : Type 0 where
  pub log : List Entry
  pub summary : Summary
  pub claims : List Piece

-- a core's local run to its end, and the fold of its records; drawn and served are its parts of the two histories
pub record IsCoreLeft (s : Setup) (memory tags : TableSeen) (core : ℕ) (drawn served : List Change) (left : CoreLeft) : Type 0 where
  pub answers : List Answer
  pub givens : List Given
  pub records : List Record
  pub replies : List Reply
  pub local : Local
  pub file : Tags
  pub run : HasRun s.program s.budget core memory.basis.terms local left.log drawn records replies left.summary.notes left.claims answers
  pub fold : IsFolded s.policy tags.basis.terms core file records served replies givens
  pub ended : IsSome local.ending
  pub ending : left.summary.ending ≡ local.ending
  pub units : left.summary.units ≡ local.units
  pub trap : left.summary.trap ≡ file.trap

-- the bytes of a piece stand in the output at its place
abbrev pub StandsIn : List ℕ → Piece → Type 0
StandsIn out piece = (k : ℕ) → k < length piece.bytes → slice_index out (piece.place + k) ≡ slice_index piece.bytes k

-- every core's part, over two histories of the tables, and an output as long as its word says, in which each piece stands
pub record AreAssembled (s : Setup) (memory tags : TableSeen) (drawn served : List Change) (parts : List CoreLeft) (out : List ℕ) : Type 0 where
  pub setup : IsSetup s
  pub tables : AreTables s memory tags
  pub memory_history : IsHistory memory.basis drawn
  pub tags_history : IsHistory tags.basis served
  pub count : length parts ≡ core_count s
  pub cores : (core : ℕ) (left : CoreLeft) → slice_get parts core ≡ Some left
      → IsCoreLeft s memory tags core (of_caller core drawn) (of_caller core served) left × All (StandsIn out) left.claims
  pub size : length out ≡ left_at (slice_index memory.basis.first OUTPUT_WORD) OUTPUT_WORD drawn

-- the finished run of these parts, in the order of the canonical merge of their logs
abbrev pub finished_of : List CoreLeft → List ℕ → FinishedRun
finished_of cores out = record {
  order = canonical (map (λ left. left.log) cores);
  logs = map (λ left. left.log) cores;
  cores = map (λ left. left.summary) cores;
  output = out;
}
