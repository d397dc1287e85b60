-- What is left once both tables are closed are the parts of a run and its output.
use Rattle.std.proofs.Common.{◌≡◌, ℕ, Some, List, [], ◌∷◌, All, map, length, slice_get, slice_index, replicate, sym, ap, ◌∙◌, subst}
use Rattle.std.specs.List.{AllByRecursion}
use Rattle.std.proofs.lemmas.List.{length-map, length-replicate}
use Rattle.std.proofs.lemmas.List.Elements.{All-from_recursion}
use Rattle.elf_image.specs.declared.device.TheConstants.{OUTPUT_WORD}
use Rattle.bounded_list.specs.Bounded.{Bounded}
use Rattle.ticket_table.specs.declared.change.Change.{Change}
use Rattle.ticket_table.specs.Words.{payload_of}
use Rattle.ticket_table.specs.History.{of_caller}
use Rattle.ticket_table.specs.Passes.{TableSeen, Closes}
use Rattle.machine.specs.Setups.{Setup}
use Rattle.inline_tracker.specs.Outcomes.{outcome_summary}
use Rattle.inline_tracker.proofs.Lists.{map_twice}
use Rattle.live_run.specs.declared.pair.Pair.{Pair}
use Rattle.live_run.specs.declared.ends.Ends.{Ends}
use Rattle.live_run.specs.declared.pair.Claims.{Claims}
use Rattle.live_run.specs.declared.closing.Closed.{Closed}
use Rattle.live_run.specs.Assembled.{CoreLeft, IsCoreLeft, StandsIn, AreAssembled}
use Rattle.live_run.specs.Pairs.{left_in_pair}
use Rattle.live_run.specs.Laying.{laid, LiesWithin, pieces_in, pieces_of, AreLayable}
use Rattle.live_run.specs.Closing.{AreReady, IsClosedRun}
use Rattle.live_run.proofs.Spans.{all_append}
use Rattle.live_run.proofs.Laying.{laid_length, laid_stands}
use Rattle.live_run.proofs.PiecesApart.{of_core}
use Rattle.live_run.proofs.RunClaims.{found_map, here_map, changes_at, of_pair, size_is, are_layable, are_apart}

all_within : (size : ℕ) (all : List Claims) → AllByRecursion (AreLayable size) all → AllByRecursion (LiesWithin size) (pieces_of all)
all_within size [] layable = tt
all_within size (claims ∷ all) layable = all_append (LiesWithin size) (pieces_in claims) (pieces_of all) (layable.0).within (all_within size all layable.1)

module _ (s : Setup) (pairs : List Pair) (memory tags : TableSeen) (ends : Ends) (output : Bounded ℕ) (ready : AreReady s pairs memory tags ends output)
    (words : List ℕ) (history : List Change) (closes : Closes memory.basis (map (λ pair. pair.drawn) pairs) words history)
    (tag_words : List ℕ) (tag_history : List Change) (tags_closes : Closes tags.basis (map (λ pair. pair.served) pairs) tag_words tag_history) where
  abbrev pub bytes : List ℕ
  bytes = laid (replicate (payload_of (slice_index words OUTPUT_WORD)) 0) (pieces_of (map (λ pair. pair.claims) pairs))

  within : AllByRecursion (LiesWithin (length (replicate {A = ℕ} (payload_of (slice_index words OUTPUT_WORD)) 0))) (pieces_of (map (λ pair. pair.claims) pairs))
  within =
      rw (length-replicate {A = ℕ} (payload_of (slice_index words OUTPUT_WORD)) 0)
      (all_within (payload_of (slice_index words OUTPUT_WORD)) (map (λ pair. pair.claims) pairs) (are_layable s pairs memory tags ends output ready words history closes))

  stand : AllByRecursion (StandsIn bytes) (pieces_of (map (λ pair. pair.claims) pairs))
  stand =
      laid_stands (replicate (payload_of (slice_index words OUTPUT_WORD)) 0) (pieces_of (map (λ pair. pair.claims) pairs)) within (are_apart s pairs memory tags ends output ready words history closes)

  pair_stands : (core : ℕ) (pair : Pair) → slice_get pairs core ≡ Some pair
      → IsCoreLeft s memory tags core (of_caller core history) (of_caller core tag_history) (left_in_pair pair) × All (StandsIn bytes) (left_in_pair pair).claims
  pair_stands core pair here = (
    rw (
      of_pair s pairs memory tags ends output ready words history closes core pair here,
      changes_at tags (λ p. p.served) pairs tag_words tag_history (λ c p at. (ready.left c p at).served) tags_closes core pair here,
    ) (ready.left core pair here).left,
    All-from_recursion (StandsIn bytes) (pieces_in pair.claims)
        (of_core (StandsIn bytes) (map (λ pair. pair.claims) pairs) core pair.claims (here_map (λ (pair : Pair). pair.claims) pairs core pair here) stand),
  )

  core_stands : (core : ℕ) (part : CoreLeft) → slice_get (map left_in_pair pairs) core ≡ Some part
      → IsCoreLeft s memory tags core (of_caller core history) (of_caller core tag_history) part × All (StandsIn bytes) part.claims
  core_stands core part at =
      let found = found_map left_in_pair pairs core part at in
      subst (λ (p : CoreLeft). IsCoreLeft s memory tags core (of_caller core history) (of_caller core tag_history) p × All (StandsIn bytes) p.claims) (sym found.made) (pair_stands core found.item found.here)

  pub assembled : AreAssembled s memory tags history tag_history (map left_in_pair pairs) bytes
  assembled = record {
    setup = ready.setup;
    tables = ready.tables;
    memory_history = closes.history;
    tags_history = tags_closes.history;
    count = length-map pairs left_in_pair ∙ ready.count;
    cores = core_stands;
    size =
        laid_length (replicate (payload_of (slice_index words OUTPUT_WORD)) 0) (pieces_of (map (λ pair. pair.claims) pairs)) within
        ∙ length-replicate (payload_of (slice_index words OUTPUT_WORD)) 0 ∙ size_is s pairs memory tags ends output ready words history closes;
  }

  pub closed_run : (closed : Closed) → closed.logs ≡ ends.logs → closed.outcomes ≡ ends.outcomes → closed.output.items ≡ bytes → IsClosedRun s (map left_in_pair pairs) memory tags closed
  closed_run closed logs outcomes out = record {
    drawn = history;
    served = tag_history;
    logs = ap (λ list. map (λ log. log.items) list.items) logs ∙ ap (λ (e : Ends). map (λ log. log.items) e.logs.items) ready.ends_are
        ∙ map_twice (λ log. log.items) (λ (pair : Pair). pair.entries) pairs ∙ sym (map_twice (λ (part : CoreLeft). part.log) left_in_pair pairs);
    outcomes = ap (λ list. map outcome_summary list.items) outcomes ∙ ap (λ (e : Ends). map outcome_summary e.outcomes.items) ready.ends_are
        ∙ map_twice outcome_summary (λ (pair : Pair). pair.outcome) pairs ∙ sym (map_twice (λ (part : CoreLeft). part.summary) left_in_pair pairs);
    assembled = rw out assembled;
  }
