use Rattle.std.proofs.Common.{◌≡◌, ◌≤◌, length, take}
use Rattle.trap_report.proofs.difference.difference_in.Given as goal

-- before this place both have the same
abbrev pub invariant-loop-place : goal.invariant-loop-place
invariant-loop-place l = record {
  within : l.place ≤ length l.bytes;
  same : take l.place l.text ≡ take l.place l.bytes;
}
