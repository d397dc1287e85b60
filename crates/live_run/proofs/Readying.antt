-- The parts of a run whose actors have ended are ready for its end.
use Rattle.std.proofs.Common.{◌≡◌, ℕ, map, sym, ◌∙◌, subst}
use Rattle.machine.specs.Setups.{IsSetup}
use Rattle.live_run.specs.declared.ends.Ends.{Ends}
use Rattle.live_run.specs.Pairs.{left_in_pair}
use Rattle.live_run.specs.Ends.{AreAllLinked, ends_of, lefts_by, HaveFinished}
use Rattle.live_run.specs.Closing.{AreReady}
use Rattle.live_run.specs.Parts.{LiveSeen, AreLive}
use Rattle.live_run.proofs.Keepsakes.{lefts_are}

module _ (live : LiveSeen) (are : AreLive live) where
  -- for `finish_all`
  pub all_linked : AreAllLinked live.harts live.followers live.items live.replies
  all_linked = record {
    follower_count = are.seats.follower_count ∙ sym are.seats.hart_count;
    item_count = are.seats.item_count ∙ sym are.seats.hart_count;
    reply_count = are.seats.reply_count ∙ sym are.seats.hart_count;
    links = λ core hart follower ring lane at followed sent answered.
        let seat = are.seats.seats core hart follower ring lane at followed sent answered in
        record {
          item_sender = (seat.hart_of).sender;
          item_taker = (seat.follower_of).taker;
          reply_sender = (seat.follower_of).sender;
          reply_taker = (seat.hart_of).taker;
        };
  }

  -- for `close_run`, of what `finish_all` ensures
  pub all_ready : IsSetup live.setup → (ends : Ends) (finished : HaveFinished live.harts live.followers live.items live.replies ends)
      → AreReady live.setup finished.pairs live.memory live.tags ends live.room.output
  all_ready setup ends finished = record {
    setup = setup;
    tables = are.tables;
    ends_are = subst (λ (n : ℕ). ends ≡ ends_of n finished.pairs) are.seats.hart_count finished.ends_are;
    count = finished.count ∙ are.seats.hart_count;
    left = finished.left live.setup live.memory live.tags are.seats;
    room = are.room.output;
  }

  -- and what its pairs have is what the actors have kept
  pub all_kept : (ends : Ends) (finished : HaveFinished live.harts live.followers live.items live.replies ends)
      → map left_in_pair finished.pairs ≡ lefts_by live.harts live.followers
  all_kept ends finished =
      lefts_are live.harts live.followers finished.pairs (are.seats.follower_count ∙ sym are.seats.hart_count) finished.count finished.kept
