-- A finished run in the order of the canonical merge of its logs: there is one of each finished run, and it has as many units as the logs
-- have entries, which are not many.
use Rattle.std.proofs.Common.{◌≡◌, ◌<◌, ◌^◌, List, length, sym, ap, ◌∙◌, subst, arith}
use Rattle.std.proofs.lemmas.List.FromFn.{length-map-range_with_len}
use Rattle.order_core.specs.declared.entry.Entry.{Entry}
use Rattle.order_core.specs.Logs.{entry_count}
use Rattle.order_core.specs.LegalMerge.{HasLegalMerge}
use Rattle.order_core.specs.CanonicalMerge.{canonical}
use Rattle.order_core.proofs.Stepping.{legal_length}
use Rattle.machine.specs.Setups.{Setup, IsSetup, core_count}
use Rattle.machine.specs.Runs.{along, entries, log_along, logs_along}
use Rattle.machine.specs.Outcomes.{summaries, output}
use Rattle.machine.specs.TraceLaws.{IsSameRun}
use Rattle.machine.specs.FinishedRuns.{FinishedRun, IsFinishedRun}
use Rattle.machine.proofs.Along.{playable_short}
use Rattle.machine.proofs.Tracing.{own_merge, canonical_trace}

logs_are : (s : Setup) (run : FinishedRun) → IsFinishedRun s run → logs_along s run.order ≡ run.logs
logs_are s run finished = sym (ap (λ (r : FinishedRun). r.logs) finished.run)

pub log_count : (s : Setup) (run : FinishedRun) → IsFinishedRun s run → length run.logs ≡ core_count s
log_count s run finished =
    ap length (sym (logs_are s run finished)) ∙ length-map-range_with_len (log_along s run.order) 0 (core_count s)

pub in_merge_order : (s : Setup) (run : FinishedRun) → IsFinishedRun s run → IsFinishedRun s (record run { order = canonical run.logs })
in_merge_order s run finished =
    let own = logs_are s run finished in
    let same : IsSameRun s run.order (canonical run.logs) = subst (λ (l : List (List Entry)). IsSameRun s run.order (canonical l)) own (canonical_trace s run.order (finished.complete).playable) in
    let logs : run.logs ≡ logs_along s (canonical run.logs) = sym (same.logs ∙ own) in
    let cores : run.cores ≡ summaries s (along s (canonical run.logs)) = ap (λ (r : FinishedRun). r.cores) finished.run ∙ ap (summaries s) (sym same.state) in
    let out : run.output ≡ output (along s (canonical run.logs)) = ap (λ (r : FinishedRun). r.output) finished.run ∙ ap output (sym same.state) in
    record {
      complete = same.complete finished.complete;
      run = λ i. record { order = canonical run.logs; logs = logs i; cores = cores i; output = out i };
    }

-- its logs have a legal merge
has_merge : (s : Setup) (run : FinishedRun) → IsFinishedRun s run → HasLegalMerge run.logs
has_merge s run finished =
    let own : HasLegalMerge (logs_along s run.order) = (entries s run.order, own_merge s run.order (finished.complete).playable) in
    subst HasLegalMerge (logs_are s run finished) own

pub units_are : (s : Setup) (run : FinishedRun) → IsFinishedRun s run → length (canonical run.logs) ≡ entry_count run.logs
units_are s run finished = legal_length run.logs (has_merge s run finished)

pub units_small : (s : Setup) → IsSetup s → (run : FinishedRun) → IsFinishedRun s run → length run.order < 2 ^ 32
units_small s setup run finished =
    let short = playable_short s setup run.order (finished.complete).playable in
    omega (arith, short, setup.most_units)
