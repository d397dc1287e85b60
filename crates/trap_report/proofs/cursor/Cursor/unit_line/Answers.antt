use Rattle.std.proofs.Common.{◌≡◌, ℕ, ◌+◌, List, Some, sym, ap, ◌∙◌, subst, length, arith}
use Rattle.std.specs.Prelude.{slice_get, sum_by}
use Rattle.order_core.specs.Marked.{Marked}
use Rattle.machine.specs.Outcomes.{Summary}
use Rattle.inline_tracker.specs.Seen.{FinishedSeen}
use Rattle.trap_report.specs.Text.{report_of}
use Rattle.trap_report.specs.Left.{IsTakenTo}
use Rattle.trap_report.specs.declared.report_line.Section.TheVariants.{Calls}
use Rattle.trap_report.specs.declared.report_line.ReportLine.TheVariants.{Count}
use Rattle.trap_report.proofs.LeftLemmas.{given, unit_next, units_told}
use Rattle.trap_report.proofs.RunLemmas.{at_given, more_left, unit_told, taken_on, none_left}
use Rattle.trap_report.proofs.cursor.Cursor.unit_line.Goals as goal

pub take_entry-entry-requires-clause-known : goal.take_entry-entry-requires-clause-known
take_entry-entry-requires-clause-known c =
    let at = at_given c.args.finished.now c.args.place c.next_core.result (Some c.in-Some.core) c.requires.taken.given c.next_core.ensures.core c.in-Some.is in
    rw c.in-Some.ensures.more (c.requires.told.known c.args.place c.in-Some.core at)

pub take_entry-entry-requires-clause-more : goal.take_entry-entry-requires-clause-more
take_entry-entry-requires-clause-more c =
    let at = at_given c.args.finished.now c.args.place c.next_core.result (Some c.in-Some.core) c.requires.taken.given c.next_core.ensures.core c.in-Some.is in
    rw c.in-Some.ensures.more (more_left c.args.setup.now c.args.finished.now c.args.place c.args.self.now.taken c.in-Some.core c.requires.told c.requires.taken at)

pub overflow_add-self : goal.overflow_add-self
overflow_add-self c =
    let given = ap (λ (f : FinishedSeen). f.given) c.in-Some.ensures.more in
    omega (arith, given, c.next_core.ensures.small, c.requires.taken.given)

pub returns-in-Some-clause-line : goal.returns-in-Some-clause-line
returns-in-Some-clause-line c =
    let report = report_of c.args.setup.now c.args.finished.now.run.order in
    let unit : Marked = (c.in-Some.core, c.take_entry-entry.result) in
    let at = at_given c.args.finished.now c.args.place c.next_core.result (Some c.in-Some.core) c.requires.taken.given c.next_core.ensures.core c.in-Some.is in
    unit_next report c.args.place unit (unit_told c.args.setup.now c.args.finished.now c.args.place c.args.self.now.taken c.in-Some.core c.requires.told c.requires.taken at c.take_entry-entry.result (rw c.in-Some.ensures.more at c.take_entry-entry.ensures.entry))

pub returns-in-Some-clause-taken : goal.returns-in-Some-clause-taken
returns-in-Some-clause-taken c =
    let old = c.args.finished.now in
    let at = at_given old c.args.place c.next_core.result (Some c.in-Some.core) c.requires.taken.given c.next_core.ensures.core c.in-Some.is in
    let after : FinishedSeen = record { run = old.run; given = c.args.place + 1 } in
    let is : c.next_core.new.self ≡ after = c.in-Some.ensures.more ∙ ap (λ (n : ℕ). let f : FinishedSeen = record { run = old.run; given = n + 1 } in f) c.requires.taken.given in
    subst (λ (f : FinishedSeen). IsTakenTo c.args.setup.now f (c.args.place + 1) c.take_entry-entry.new.taken) (sym is)
    (taken_on c.args.setup.now old c.args.place c.args.self.now.taken c.in-Some.core c.requires.told c.requires.taken at
    c.take_entry-entry.result c.take_entry-entry.new.taken c.take_entry-entry.ensures.within (rw c.in-Some.ensures.more at c.take_entry-entry.ensures.entry) c.take_entry-entry.ensures.taken)

pub returns-in-None-clause-line : goal.returns-in-None-clause-line
returns-in-None-clause-line c =
    let report = report_of c.args.setup.now c.args.finished.now.run.order in
    let notes = λ (cores : List Summary). sum_by (λ core. length core.notes) cores in
    let at = at_given c.args.finished.now c.args.place c.next_core.result _ c.requires.taken.given c.next_core.ensures.core c.in-None.is in
    given _ _ _ _
    (units_told report c.args.place (none_left report.units c.args.place (ap (λ (order : List ℕ). slice_get order c.args.place) c.requires.told.order ∙ at)))
    (ap (Count Calls) (c.count_notes.ensures ∙ rw c.in-None.ensures.same (ap notes (sym c.requires.told.cores))))
