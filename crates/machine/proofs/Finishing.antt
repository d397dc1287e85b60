-- Parts of all cores whose cores have ended make a finished run, in the order of the canonical merge of their logs.
use Rattle.std.proofs.Common.{◌≡◌, ℕ, zero, suc, ◌+◌, ◌<◌, IsSome, List, [], ◌∷◌, map, length, refl, sym, ap, ap₂, ◌∙◌, subst, arith}
use Rattle.std.specs.List.{range_with_len}
use Rattle.std.proofs.lemmas.List.{get_or_past}
use Rattle.std.proofs.lemmas.List.FromFn.{fill_by_all}
use Rattle.elf_image.specs.Layout.{first_word}
use Rattle.order_core.specs.Logs.{log_of}
use Rattle.order_core.specs.declared.entry.Entry.{Entry}
use Rattle.order_core.specs.Marked.{Marked, marks_of, part_of, numbers_of}
use Rattle.order_core.specs.LegalMerge.{IsLegalMerge}
use Rattle.order_core.specs.CanonicalMerge.{canonical}
use Rattle.machine.specs.Setups.{Setup, IsSetup, core_count}
use Rattle.machine.specs.States.{Core, State, opening, opening_core}
use Rattle.machine.specs.Runs.{along, entries, log_along, logs_along, IsComplete}
use Rattle.machine.specs.Outcomes.{Summary, summary_of, summaries, output}
use Rattle.machine.specs.FinishedRuns.{FinishedRun, IsFinishedRun}
use Rattle.machine.specs.TraceLaws.{IsSameRun}
use Rattle.machine.proofs.Decomposing.{count_along}
use Rattle.machine.proofs.Parts.{WordParts, IsPartedRun, core_of_lists}
use Rattle.machine.proofs.Joining.{CoreParts, AreParted, AreRun, parts_run, IsPieceOf, output_is}
use Rattle.machine.proofs.Tracing.{canonical_trace}

-- the core that its lists lead to
abbrev pub last_core : Setup → CoreParts → ℕ → Core
last_core s cores c = core_of_lists s (opening_core s c) (cores.answers c) (cores.givens c)

-- logs with a legal merge, along each of which its core goes over both histories to its end;
-- and bytes as long as the last payload of the output's word, in which each claimed piece stands
pub record AreFinished (s : Setup) (words : WordParts) (cores : CoreParts) (logs : List (List Entry)) (out : List ℕ) : Type 0 where
  pub count : length logs ≡ core_count s
  pub first : (n : ℕ) → words.payloads n 0 ≡ first_word s.program.layout n
  pub untagged : (n : ℕ) → words.tags n 0 ≡ 0
  pub runs : (c : ℕ) → c < core_count s → IsPartedRun s words (IsPieceOf out) (opening_core s c) (cores.answers c) (cores.givens c) (log_of logs c)
  pub ended : (c : ℕ) → c < core_count s → IsSome (last_core s cores c).local.ending
  pub marked : List Marked
  pub merge : IsLegalMerge logs marked
  pub size : length out ≡ words.payloads 1 (length (numbers_of 1 marked))

-- the finished run
abbrev pub run_of_parts : Setup → CoreParts → List (List Entry) → List ℕ → FinishedRun
run_of_parts s cores logs out = record {
  order = canonical logs;
  logs = logs;
  cores = map (λ c. summary_of (last_core s cores c)) (range_with_len 0 (core_count s));
  output = out;
}

map_below : {A : Type 0} (f g : ℕ → A) (first n : ℕ) → ((c : ℕ) → c < first + n → f c ≡ g c) → map f (range_with_len first n) ≡ map g (range_with_len first n)
map_below f g first zero same = refl
map_below f g first (suc n) same = ap₂ (λ x xs. x ∷ xs) (same first (omega arith)) (map_below f g (first + 1) n (λ c below. same c (omega arith)))

are_parted : (s : Setup) (words : WordParts) (cores : CoreParts) (logs : List (List Entry)) (out : List ℕ) (parts : AreFinished s words cores logs out)
    → AreParted s words (IsPieceOf out) cores parts.marked
are_parted s words cores logs out parts = record {
  first = parts.first;
  untagged = parts.untagged;
  numbers = (parts.merge).numbers;
  runs = λ c below. rw ((parts.merge).parts c) (parts.runs c below);
  others = λ c past. (parts.merge).parts c ∙ get_or_past logs c [] (rw parts.count past);
}

finished_complete : (s : Setup) (words : WordParts) (cores : CoreParts) (logs : List (List Entry)) (out : List ℕ) (parts : AreFinished s words cores logs out)
    → AreRun s words (IsPieceOf out) cores parts.marked → IsComplete s (marks_of parts.marked)
finished_complete s words cores logs out parts run = record {
  playable = run.playable;
  ended = λ c below. subst (λ (core : Core). IsSome core.local.ending) (sym (run.cores_are c below)) (parts.ended c below);
}

-- the logs of the run are the given ones, and its output the given bytes
logs_are : (s : Setup) (words : WordParts) (cores : CoreParts) (logs : List (List Entry)) (out : List ℕ) (parts : AreFinished s words cores logs out)
    → AreRun s words (IsPieceOf out) cores parts.marked → logs_along s (marks_of parts.marked) ≡ logs
logs_are s words cores logs out parts run =
    sym (fill_by_all (log_along s (marks_of parts.marked)) logs (core_count s) [] parts.count
    (λ c below. sym ((parts.merge).parts c) ∙ sym (ap (part_of c) run.entries_are)))

out_is : (s : Setup) → IsSetup s → (words : WordParts) (cores : CoreParts) (logs : List (List Entry)) (out : List ℕ) (parts : AreFinished s words cores logs out)
    → AreRun s words (IsPieceOf out) cores parts.marked → output (along s (marks_of parts.marked)) ≡ out
out_is s setup words cores logs out parts run =
    let order : List ℕ = marks_of parts.marked in
    let numbers : length (numbers_of 1 (entries s order)) ≡ length (numbers_of 1 parts.marked) =
    ap (λ (marked : List Marked). length (numbers_of 1 marked)) run.entries_are in
    let count : ((along s order).words 1).count ≡ length (numbers_of 1 parts.marked) = omega (arith, count_along s (opening s) order 1, numbers) in
    let size : length out ≡ ((along s order).words 1).payload = parts.size ∙ ap (words.payloads 1) (sym count) ∙ sym ((run.words_are 1).alike).payload in
    output_is s setup order run.playable out (run.words_are 1).pieces size

pub finished_run : (s : Setup) → IsSetup s → (words : WordParts) (cores : CoreParts) (logs : List (List Entry)) (out : List ℕ) → AreFinished s words cores logs out
    → IsFinishedRun s (run_of_parts s cores logs out)
finished_run s setup words cores logs out parts =
    let order : List ℕ = marks_of parts.marked in
    let run : AreRun s words (IsPieceOf out) cores parts.marked = parts_run s words (IsPieceOf out) cores parts.marked (are_parted s words cores logs out parts) in
    let own : logs_along s order ≡ logs = logs_are s words cores logs out parts run in
    let same : IsSameRun s order (canonical logs) = subst (λ (l : List (List Entry)). IsSameRun s order (canonical l)) own (canonical_trace s order run.playable) in
    let ends : map (λ c. summary_of (last_core s cores c)) (range_with_len 0 (core_count s)) ≡ summaries s (along s (canonical logs)) =
    map_below (λ c. summary_of (last_core s cores c)) (λ c. summary_of ((along s (canonical logs)).cores c)) 0 (core_count s)
    (λ c below. ap summary_of (sym (ap (λ (t : State). t.cores c) same.state ∙ run.cores_are c (omega (arith, below))))) in
    record {
      complete = same.complete (finished_complete s words cores logs out parts run);
      run =
          ap₂ (λ (l : List (List Entry)) (summaries : List Summary). record { order = canonical logs; logs = l; cores = summaries; output = out }) (sym (same.logs ∙ own)) ends
          ∙ ap (λ (bytes : List ℕ). record { order = canonical logs; logs = logs_along s (canonical logs); cores = summaries s (along s (canonical logs)); output = bytes })
          (sym (ap output same.state ∙ out_is s setup words cores logs out parts run));
    }
