use Rattle.trap_report.specs.declared.report_line.Section.TheVariants.{Units, Calls, Traps, Ends}
use Rattle.trap_report.proofs.KindLemmas.{core_read}
use Rattle.trap_report.proofs.kinds.line_core.Goals as goal

pub returns-in-Units-clause-read : goal.returns-in-Units-clause-read
returns-in-Units-clause-read c = λ numbers h. core_read numbers c.args.section Units c.args.last _ _ c.in-Units.is h c.unit_core.ensures.read

pub returns-in-Calls-clause-read : goal.returns-in-Calls-clause-read
returns-in-Calls-clause-read c = λ numbers h. core_read numbers c.args.section Calls c.args.last _ _ c.in-Calls.is h c.note_core.ensures.read

pub returns-in-Traps-clause-read : goal.returns-in-Traps-clause-read
returns-in-Traps-clause-read c = λ numbers h. core_read numbers c.args.section Traps c.args.last _ _ c.in-Traps.is h c.trap_core.ensures.read

pub returns-in-Ends-clause-read : goal.returns-in-Ends-clause-read
returns-in-Ends-clause-read c = λ numbers h. core_read numbers c.args.section Ends c.args.last _ _ c.in-Ends.is h c.end_core.ensures.read
