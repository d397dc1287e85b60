use Rattle.std.proofs.Common.{◌≡◌, vec_len}
use Rattle.ticket_table.proofs.JoinedPasses.{SoFar}
use Rattle.ticket_table.proofs.gathering.gather.Given as goal

abbrev pub invariant-loop-pass : goal.invariant-loop-pass
invariant-loop-pass l =
    record {
      table : l.seat.table_id ≡ l.shared.table_id;
      so_far : SoFar l.fn.passes.items l.passes.items l.seat.me.0;
    }

abbrev pub decreases-loop-pass : goal.decreases-loop-pass
decreases-loop-pass l = vec_len l.passes
