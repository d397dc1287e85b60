use Rattle.std.proofs.Common.{◌≡◌, ◌^◌, ◌<◌, drop}
use Rattle.trap_report.specs.Forms.{number, number_after}
use Rattle.trap_report.proofs.form.number.Given as goal

abbrev pub invariant-loop-c : goal.invariant-loop-c
invariant-loop-c l = record {
  number : number_after l.number (drop l.c-index l.text) ≡ number l.text;
  small : l.number < 10 ^ l.c-index;
}
