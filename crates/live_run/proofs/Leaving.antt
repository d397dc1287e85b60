-- What the actors of a core leave, once both have ended, is the core's part of a run.
use Rattle.std.proofs.Common.{◌≡◌, ℕ, List, ◌++◌, length, refl, sym, ap, ◌∙◌}
use Rattle.record_lane.specs.declared.record.Record.{Record}
use Rattle.record_lane.specs.declared.reply.Reply.{Reply}
use Rattle.record_lane.specs.declared.ring.Ring.{Ring}
use Rattle.record_lane.specs.declared.lane.Lane.{Lane}
use Rattle.record_lane.specs.Rings.{sent_by as items_sent, taken_by as items_taken}
use Rattle.record_lane.specs.Lanes.{sent_by as replies_sent, taken_by as replies_taken}
use Rattle.ticket_table.specs.declared.change.Terms.{Terms}
use Rattle.ticket_table.specs.declared.change.Change.{Change}
use Rattle.ticket_table.specs.Passes.{TableSeen}
use Rattle.tag_registers.specs.Tags.{no_tags}
use Rattle.tag_registers.specs.Folds.{replies}
use Rattle.syscall_drain.specs.Programs.{Program}
use Rattle.syscall_drain.specs.Locals.{Local, opening_local}
use Rattle.syscall_drain.specs.Pieces.{Piece}
use Rattle.syscall_drain.specs.declared.ask.Answer.{Answer}
use Rattle.record_lane.specs.declared.note.CallNote.{CallNote}
use Rattle.order_core.specs.declared.entry.Entry.{Entry}
use Rattle.actor_lists.specs.Walked.{HasRun}
use Rattle.machine.specs.Setups.{Setup}
use Rattle.hart_actor.specs.declared.parts.HartParts.{HartParts}
use Rattle.hart_actor.specs.Harts.{Hart, HartLeaves, cut}
use Rattle.tag_actor.specs.declared.actor.TagParts.{TagParts}
use Rattle.tag_actor.specs.Seen.{TagActorSeen}
use Rattle.tag_actor.specs.Leaving.{HasLeft}
use Rattle.live_run.specs.declared.pair.Pair.{Pair}
use Rattle.live_run.specs.Seats.{IsSeat}
use Rattle.live_run.specs.Pairs.{IsPairLeft, left_in_pair, left_by}
use Rattle.live_run.proofs.Pairing.{meets_in, AreUnitRecords, run_made, split_end, replies_said, nothing_more}

-- the records and the replies of a run
run_records : (program : Program) (budget core : ℕ) (terms : Terms) (local : Local) (log : List Entry) (drawn : List Change) (records : List Record) (replies : List Reply) (notes : List CallNote) (claims : List Piece) (answers : List Answer)
    → HasRun program budget core terms local log drawn records replies notes claims answers → AreUnitRecords records replies
run_records program budget core terms local log drawn records replies notes claims answers run =
    let made = run_made program budget (opening_local program core) answers run.run in
    record {
      going = rw (run.records_are) made.going;
      heard = ap length run.replies_are ∙ made.heard ∙ sym (ap meets_in run.records_are);
    }

-- both ends of the ring and of the lane have had the same
pub record HaveMet (made items : List Record) (heard said : List Reply) : Type 0 where
  pub records : items ≡ made
  pub replies : said ≡ heard

met : (h : Hart) (t : TagActorSeen) (hart : HartParts) (tagger : TagParts) (items_left : List Record) (replies_left : List Reply) (leaves : HartLeaves h hart) (left : HasLeft t tagger)
    → items_sent hart.sender ≡ items_taken tagger.taker ++ items_left → replies_sent tagger.sender ≡ replies_taken hart.taker ++ replies_left
    → HaveMet leaves.records left.items (replies_taken hart.taker) (replies_sent tagger.sender)
met h t hart tagger items_left replies_left leaves left items replies_all =
    let run = leaves.has_run in
    let made : AreUnitRecords leaves.records (replies_taken hart.taker) = run_records h.program h.budget h.core h.pass.terms h.local hart.entries.items hart.pass.changes leaves.records (replies_taken hart.taker) hart.notes.items (cut hart.pieces.items hart.output.items) leaves.answers run in
    let same : left.items ≡ leaves.records = split_end leaves.records left.items items_left made.going (sym leaves.sent ∙ items ∙ ap (λ (xs : List Record). xs ++ items_left) left.taken) in
    let said : length (replies_sent tagger.sender) ≡ meets_in left.items =
    ap length (left.folded).replies_are ∙ replies_said t.policy no_tags left.givens ∙ sym (ap meets_in (left.folded).items_are) in
    record {
      records = same;
      replies = nothing_more (replies_sent tagger.sender) (replies_taken hart.taker) replies_left replies_all (said ∙ ap meets_in same ∙ sym made.heard);
    }

-- the parts of a pair, as its function puts them together
abbrev pub pair_of : HartParts → TagParts → Pair
pair_of hart tagger = record {
  entries = hart.entries;
  outcome = record { end = hart.end; units = hart.units; trap = tagger.trap; notes = hart.notes };
  claims = record { output = hart.output; pieces = hart.pieces };
  drawn = hart.pass;
  served = tagger.pass;
}

pub pair_kept : (h : Hart) (t : TagActorSeen) (hart : HartParts) (tagger : TagParts) → HartLeaves h hart → HasLeft t tagger → left_in_pair (pair_of hart tagger) ≡ left_by h t
pair_kept h t hart tagger leaves left =
    let kept = leaves.kept in
    rw (kept.0, kept.1, kept.2, kept.3, ← leaves.ending, leaves.units, left.trap) refl

pub pair_left : (s : Setup) (memory tags : TableSeen) (core : ℕ) (h : Hart) (t : TagActorSeen) (ring : Ring Record) (lane : Lane Reply) (hart : HartParts) (tagger : TagParts) (items_left : List Record) (replies_left : List Reply)
    → IsSeat s memory tags core h t ring lane → HartLeaves h hart → HasLeft t tagger
    → items_sent hart.sender ≡ items_taken tagger.taker ++ items_left → replies_sent tagger.sender ≡ replies_taken hart.taker ++ replies_left
    → IsPairLeft s memory tags core (pair_of hart tagger)
pair_left s memory tags core h t ring lane hart tagger items_left replies_left seat leaves left items replies_all =
    let both : HaveMet leaves.records left.items (replies_taken hart.taker) (replies_sent tagger.sender) = met h t hart tagger items_left replies_left leaves left items replies_all in
    let of_hart = seat.hart_of in
    let of_tagger = seat.follower_of in
    let tokens = leaves.tokens in
    record {
      left = record {
        answers = leaves.answers;
        givens = left.givens;
        records = leaves.records;
        replies = replies_taken hart.taker;
        local = h.local;
        file = t.tags;
        run = rw (← of_hart.guest, ← seat.budget, ← seat.core, ← of_hart.pass.1) leaves.has_run;
        fold = rw (← seat.policy, ← of_tagger.pass.1, ← seat.caller, ← both.records, ← both.replies) left.folded;
        ended = rw leaves.ending refl;
        ending = sym leaves.ending;
        units = leaves.units;
        trap = left.trap;
      };
      drawn = record {
        of_table = rw tokens.0 of_hart.pass;
        caller = leaves.caller ∙ seat.core;
      };
      served = record {
        of_table = rw left.pass of_tagger.pass;
        caller = ap (λ p. p.caller) left.pass ∙ seat.caller;
      };
      whole = leaves.whole;
    }
