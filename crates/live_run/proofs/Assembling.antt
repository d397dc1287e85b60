-- The parts that the ended actors of a run leave together are a finished run of its setup.
use Rattle.std.proofs.Common.{◌≡◌, ◌⊎◌, ℕ, ◌<◌, ◌≤◌, List, [], ◌∷◌, length, map, IsSome, Option, Some, refl, sym, ap, ap₂, subst, ◌∙◌, inl, inr, arith, append-nil, eqb}
use Rattle.std.specs.Prelude.{All, slice_get, slice_index, slice_index_or}
use Rattle.std.specs.List.{range_with_len}
use Rattle.std.proofs.lemmas.Bool.{cases_lt}
use Rattle.std.proofs.lemmas.List.{length-map, get_or_past, get_or-map}
use Rattle.std.proofs.lemmas.List.FromFn.{fill_by_all}
use Rattle.std.proofs.lemmas.List.Elements.{All-filter, All-weaker}
use Rattle.std.proofs.lemmas.Option.{slice_get-get_or, slice_get_within, get_or_from_slice_get}
use Rattle.elf_image.specs.Layout.{Layout, first_word, words_of, count_below, is_mapped, all_pages}
use Rattle.record_lane.specs.declared.note.CallNote.{CallNote}
use Rattle.record_lane.specs.declared.reply.Trap.{Trap}
use Rattle.tag_policy.specs.Memory.{tags_below}
use Rattle.tag_registers.specs.Tags.{Tags, no_tags}
use Rattle.tag_registers.specs.Folds.{Given, tag_accesses}
use Rattle.ticket_table.specs.declared.change.Terms.{Terms}
use Rattle.ticket_table.specs.declared.change.Change.{Change}
use Rattle.ticket_table.specs.History.{Basis, of_caller, count_at, left_at}
use Rattle.ticket_table.specs.Passes.{TableSeen}
use Rattle.syscall_drain.specs.Locals.{Local, opening_local}
use Rattle.syscall_drain.specs.Runs.{local_after}
use Rattle.syscall_drain.specs.declared.end.End.{End}
use Rattle.syscall_drain.specs.declared.ask.Answer.{Answer}
use Rattle.order_core.specs.declared.entry.Entry.{Entry}
use Rattle.order_core.specs.Logs.{log_of, TouchesBelow}
use Rattle.order_core.specs.Marked.{numbers_of}
use Rattle.order_core.specs.History.{touches_of, ExtendsToMerge}
use Rattle.order_core.specs.CanonicalMerge.{canonical}
use Rattle.actor_lists.specs.Walked.{SaysSpent, draws_by, log_by}
use Rattle.actor_lists.specs.Folded.{change_by}
use Rattle.machine.specs.Setups.{Setup, core_count}
use Rattle.machine.specs.States.{Core, opening_core}
use Rattle.machine.specs.Outcomes.{Summary, summary_of}
use Rattle.machine.specs.FinishedRuns.{IsFinishedRun}
use Rattle.machine.proofs.Parts.{WordParts, IsPartedRun, core_of_lists}
use Rattle.machine.proofs.Joining.{CoreParts, IsPieceOf}
use Rattle.machine.proofs.Finishing.{last_core, AreFinished, finished_run}
use Rattle.live_run.specs.Assembled.{CoreLeft, IsCoreLeft, AreAssembled, StandsIn, finished_of}
use Rattle.live_run.specs.AssembledLaws.{AssembledRun, AssembledMerge, CanBeMerged}
use Rattle.live_run.proofs.WordValues.{value_after, value_at_front, KeepsBelow, IsChangeIn, all_changes}
use Rattle.live_run.proofs.WordHistories.{draw_terms, serve_terms, words_along, IsDrawn, IsServed, first_at, all_drawn, all_served, fold_keeps, all_by_callers}
use Rattle.live_run.proofs.Merged.{access_in, core_access, caller_past, draws_are, log_below, merged, merged_count}
use Rattle.live_run.proofs.CoreUnits.{AreUnits, GoAlong, units_along}

same_summary : (summary : Summary) (core : Core) → summary.ending ≡ core.local.ending → summary.units ≡ core.local.units → summary.trap ≡ core.tags.trap → summary.notes ≡ core.notes
    → summary ≡ summary_of core
same_summary summary core ending units trap notes =
    ap₂ (λ (e : Option End) (u : ℕ). record { ending = e; units = u; trap = summary.trap; notes = summary.notes }) ending units
    ∙ ap₂ (λ (t : Option Trap) (n : List CallNote). record { ending = core.local.ending; units = core.local.units; trap = t; notes = n }) trap notes

output_within : (layout : Layout) → 1 < words_of layout
unfolding words_of
output_within layout = let pages : ℕ = count_below (is_mapped layout) all_pages in omega arith

module _ (s : Setup) (memory tags : TableSeen) (drawn served : List Change) (cores : List CoreLeft) (out : List ℕ) (parts : AreAssembled s memory tags drawn served cores out) where
  abbrev words : WordParts
  words = words_along s drawn served

  abbrev logs : List (List Entry)
  logs = map (λ left. left.log) cores

  memory_terms : memory.basis.terms ≡ draw_terms s
  memory_terms = ap (λ (b : Basis). b.terms) (parts.tables).memory

  tags_terms : tags.basis.terms ≡ serve_terms s
  tags_terms = ap (λ (b : Basis). b.terms) (parts.tables).tags

  -- ---- one core

  -- what core c left
  record LeftBy (c : ℕ) : Type 0 where
    left : CoreLeft
    found : slice_get cores c ≡ Some left
    is : IsCoreLeft s memory tags c (of_caller c drawn) (of_caller c served) left
    claims : All (StandsIn out) left.claims

  some_at : (lefts : List CoreLeft) (c : ℕ) → c < length lefts → (left : CoreLeft) × (slice_get lefts c ≡ Some left)
  some_at [] c within = absurd (omega arith)
  some_at (first ∷ rest) c within = (slice_index_or (first ∷ rest) c first, slice_get-get_or (first ∷ rest) c first within)

  left_by : (c : ℕ) → c < core_count s → LeftBy c
  left_by c below =
      let some = some_at cores c (omega (arith, parts.count)) in
      record { left = some.0; found = some.1; is = (parts.cores c some.0 some.1).0; claims = (parts.cores c some.0 some.1).1 }

  -- what each core left of one kind, at place c
  kind_at : {A : Type 0} (kind : CoreLeft → A) (c : ℕ) (by : LeftBy c) (d : A) → slice_index_or (map kind cores) c d ≡ kind by.left
  kind_at kind c by d = get_or-map kind cores c by.left d (slice_get_within cores c by.left by.found) ∙ ap kind (get_or_from_slice_get cores c by.left by.left by.found)

  log_at : (c : ℕ) (by : LeftBy c) (d : List Entry) → slice_index_or logs c d ≡ log_by s.program s.budget (opening_local s.program c) (by.is).answers
  log_at c by d = kind_at (λ (left : CoreLeft). left.log) c by d ∙ ((by.is).run).log_is

  drawn_by : (c : ℕ) (by : LeftBy c) → of_caller c drawn ≡ draws_by (draw_terms s) c s.program s.budget (opening_local s.program c) (by.is).answers
  drawn_by c by =
      ((by.is).run).drawn_is ∙ ap (λ (terms : Terms). draws_by terms c s.program s.budget (opening_local s.program c) (by.is).answers) memory_terms

  served_by : (c : ℕ) (by : LeftBy c) → of_caller c served ≡ map (change_by (serve_terms s) c) (tag_accesses s.policy no_tags (by.is).givens)
  served_by c by =
      ((by.is).fold).changes_are ∙ ap (λ (terms : Terms). map (change_by terms c) (tag_accesses s.policy no_tags (by.is).givens)) tags_terms

  -- ---- both histories

  drawn_all : All (IsDrawn s drawn) drawn
  drawn_all = all_drawn s memory tags drawn parts.tables parts.memory_history

  served_callers : All (λ e. e.caller < core_count s) served
  served_callers =
      All-weaker (IsChangeIn tags.basis served) (λ e. e.caller < core_count s)
      (λ e stands. subst (λ (terms : Terms). e.caller < terms.callers) tags_terms stands.caller) served (all_changes tags.basis served parts.tags_history)

  served_all : All (IsServed s served) served
  served_all =
      all_served s memory tags served parts.tables parts.tags_history
      (all_by_callers (KeepsBelow (tags_below s.policy.version)) (core_count s) served served_callers
      (λ c below.
      subst (All (KeepsBelow (tags_below s.policy.version))) (sym (served_by c (left_by c below)))
      (fold_keeps s.policy (serve_terms s) c no_tags ((left_by c below).is).givens)))

  -- ---- each core along them

  units_of : (c : ℕ) (by : LeftBy c) → AreUnits s drawn served out c (opening_core s c) (by.is).answers (by.is).givens
  units_of c by = record {
    run = ((by.is).run).run;
    told = subst (λ (terms : Terms). All (SaysSpent terms.limit) (by.is).answers) memory_terms ((by.is).run).told;
    items = sym ((by.is).fold).items_are ∙ ((by.is).run).records_are;
    found = ((by.is).fold).found;
    draws = subst (All (IsDrawn s drawn)) (drawn_by c by) (All-filter (λ (e : Change). eqb e.caller c) (IsDrawn s drawn) drawn drawn_all);
    serves = subst (All (IsServed s served)) (served_by c by) (All-filter (λ (e : Change). eqb e.caller c) (IsServed s served) served served_all);
    replied = sym ((by.is).fold).replies_are ∙ ((by.is).run).replies_are;
    claims = subst (All (IsPieceOf out)) ((by.is).run).claims_are by.claims;
  }

  -- core c goes along its log to its end, and its summary is that of the core where it ends
  record EndsAlong (c : ℕ) (answers : List Answer) (givens : List Given) : Type 0 where
    run : IsPartedRun s words (IsPieceOf out) (opening_core s c) answers givens (log_of logs c)
    ended : IsSome (core_of_lists s (opening_core s c) answers givens).local.ending
    summary : (d : Summary) → slice_index_or (map (λ (left : CoreLeft). left.summary) cores) c d ≡ summary_of (core_of_lists s (opening_core s c) answers givens)

  ends_along : (c : ℕ) (by : LeftBy c) → EndsAlong c (by.is).answers (by.is).givens
  ends_along c by =
      let answers : List Answer = (by.is).answers in
      let givens : List Given = (by.is).givens in
      let along : GoAlong s drawn served out c (opening_core s c) answers givens = units_along s drawn served out c (opening_core s c) answers givens (units_of c by) in
      let local : (by.is).local ≡ local_after s.program s.budget (opening_local s.program c) answers = ((by.is).run).local_is in
      record {
        run = subst (IsPartedRun s words (IsPieceOf out) (opening_core s c) answers givens) (sym (log_at c by [])) along.run;
        ended = subst (λ (l : Local). IsSome l.ending) local (by.is).ended;
        summary = λ d.
            kind_at (λ (left : CoreLeft). left.summary) c by d
            ∙ same_summary (by.left).summary (core_of_lists s (opening_core s c) answers givens)
            ((by.is).ending ∙ ap (λ (l : Local). l.ending) local)
            ((by.is).units ∙ ap (λ (l : Local). l.units) local)
            ((by.is).trap ∙ ap (λ (t : Tags). t.trap) ((by.is).fold).stands)
            (((by.is).run).notes_are ∙ along.notes);
      }

  -- ---- all cores

  answers_at : (c : ℕ) → (c < core_count s) ⊎ (core_count s ≤ c) → List Answer
  answers_at c (inl below) = ((left_by c below).is).answers
  answers_at c (inr past) = []

  givens_at : (c : ℕ) → (c < core_count s) ⊎ (core_count s ≤ c) → List Given
  givens_at c (inl below) = ((left_by c below).is).givens
  givens_at c (inr past) = []

  abbrev lists : CoreParts
  lists = record { answers = λ c. answers_at c (cases_lt c (core_count s)); givens = λ c. givens_at c (cases_lt c (core_count s)) }

  ends_at : (c : ℕ) → c < core_count s → (side : (c < core_count s) ⊎ (core_count s ≤ c)) → EndsAlong c (answers_at c side) (givens_at c side)
  unfolding answers_at givens_at
  ends_at c within (inl below) = ends_along c (left_by c below)
  ends_at c within (inr past) = absurd (omega arith)

  ends : (c : ℕ) → c < core_count s → EndsAlong c (lists.answers c) (lists.givens c)
  ends c below = ends_at c below (cases_lt c (core_count s))

  touches_at : (c : ℕ) → (c < core_count s) ⊎ (core_count s ≤ c) → map access_in (of_caller c drawn) ≡ touches_of (log_of logs c)
  touches_at c (inl below) =
      let by : LeftBy c = left_by c below in
      ap (map access_in) (drawn_by c by)
      ∙ draws_are (draw_terms s) c s.program s.budget (opening_local s.program c) (by.is).answers
      ∙ ap touches_of (sym (log_at c by []))
  touches_at c (inr past) =
      ap (map access_in)
      (caller_past (core_count s) c drawn (All-weaker (IsDrawn s drawn) (λ e. e.caller < core_count s) (λ e draw. draw.caller) drawn drawn_all) past)
      ∙ ap touches_of (sym (get_or_past logs c [] (omega (arith, parts.count, length-map cores (λ (left : CoreLeft). left.log)))))

  merge : ExtendsToMerge logs (map core_access drawn)
  merge = merged memory.basis drawn logs parts.memory_history (λ c. touches_at c (cases_lt c (core_count s)))

  -- ---- the output

  output_size : length out ≡ words.payloads 1 (length (numbers_of 1 merge.marked))
  output_size =
      let first : slice_index memory.basis.first 1 ≡ first_word s.program.layout 1 =
      ap (λ (b : Basis). slice_index b.first 1) (parts.tables).memory ∙ first_at s.program.layout 1 (output_within s.program.layout) in
      parts.size
      ∙ ap (λ (payload : ℕ). left_at payload 1 drawn) first
      ∙ sym (value_at_front (first_word s.program.layout 1) 1 drawn [])
      ∙ ap (value_after (first_word s.program.layout 1) 1 (count_at 1 drawn)) (append-nil drawn)
      ∙ ap (λ (k : ℕ). value_after (first_word s.program.layout 1) 1 k drawn) (sym (merged_count memory.basis drawn logs parts.memory_history merge 1))

  are_finished : AreFinished s words lists logs out
  unfolding value_after
  are_finished = record {
    count = length-map cores (λ (left : CoreLeft). left.log) ∙ parts.count;
    first = λ n. refl;
    untagged = λ n. refl;
    runs = λ c below. (ends c below).run;
    ended = λ c below. (ends c below).ended;
    marked = merge.marked;
    merge = merge.legal;
    size = output_size;
  }

  summaries_are : map (λ (left : CoreLeft). left.summary) cores ≡ map (λ c. summary_of (last_core s lists c)) (range_with_len 0 (core_count s))
  summaries_are =
      let d : Summary = summary_of (last_core s lists 0) in
      fill_by_all (λ c. summary_of (last_core s lists c)) (map (λ (left : CoreLeft). left.summary) cores) (core_count s) d
      (length-map cores (λ (left : CoreLeft). left.summary) ∙ parts.count) (λ c below. (ends c below).summary d)

  finished : IsFinishedRun s (finished_of cores out)
  finished =
      subst (λ (summaries : List Summary). IsFinishedRun s (record { order = canonical logs; logs = logs; cores = summaries; output = out }))
      (sym summaries_are) (finished_run s parts.setup words lists logs out are_finished)

  log_touches : (c : ℕ) (d : List Entry) → c < core_count s → All (TouchesBelow (words_of s.program.layout)) (slice_index_or logs c d)
  log_touches c d below =
      let by : LeftBy c = left_by c below in
      subst (All (TouchesBelow (words_of s.program.layout))) (sym (log_at c by d))
      (log_below (words_of s.program.layout) (draw_terms s) c s.program s.budget (opening_local s.program c) (by.is).answers
      (All-weaker (IsDrawn s drawn) (λ e. e.word < words_of s.program.layout) (λ e draw. draw.within)
      (draws_by (draw_terms s) c s.program s.budget (opening_local s.program c) (by.is).answers) (units_of c by).draws))

  can_be_merged : CanBeMerged s (map (λ left. left.log) cores)
  can_be_merged = record {
    count = length-map cores (λ (left : CoreLeft). left.log) ∙ parts.count;
    merge = (merge.marked, merge.legal);
    words = λ c d within. log_touches c d (omega (arith, parts.count, length-map cores (λ (left : CoreLeft). left.log)));
  }

pub assembled_run : AssembledRun
assembled_run s memory tags drawn served cores out parts = finished s memory tags drawn served cores out parts

pub assembled_merge : AssembledMerge
assembled_merge s memory tags drawn served cores out parts = can_be_merged s memory tags drawn served cores out parts
