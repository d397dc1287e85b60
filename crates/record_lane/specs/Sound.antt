-- Which records and replies are sound for a count of words and a bound on the numbers of accesses (this project's own).
use Rattle.std.specs.Prelude.{◌≡◌, ℕ, ◌<◌, true}
use Rattle.rv_decode.specs.declared.insn.Insn.{Insn}
use Rattle.rv_decode.specs.Rows.{Fits, IsSystem, IsTouching}
use Rattle.record_lane.specs.declared.record.Why.{Why}
use Rattle.record_lane.specs.declared.record.Why.TheVariants.{Insn as ByInsn, Fill, Gather, Claim, Spent}
use Rattle.record_lane.specs.declared.record.Record.{Record}
use Rattle.record_lane.specs.declared.record.Record.TheVariants.{Quiet, Blank, Touch, Meet, Back, End}
use Rattle.record_lane.specs.declared.reply.Reply.{Reply}

-- an instruction of a unit fits, and does not ask the environment
abbrev pub IsUnit : Insn → Type 0
IsUnit insn = Fits insn × (¬ IsSystem insn)

-- each touched byte is one of the four of its word
abbrev pub IsSoundWhy : Why → Type 0
IsSoundWhy (ByInsn insn hit bytes) = IsUnit insn × IsTouching insn × (bytes < 16)
IsSoundWhy (Fill bytes) = bytes < 16
IsSoundWhy (Gather bytes) = bytes < 16
IsSoundWhy Claim = Unit {0}
IsSoundWhy Spent = Unit {0}

-- an instruction that touches memory is quiet only where it faulted
abbrev pub IsSoundRecord : ℕ → ℕ → Record → Type 0
IsSoundRecord words top (Quiet step pc insn faulted) = IsUnit insn × (IsTouching insn → faulted ≡ true)
IsSoundRecord words top (Blank step pc) = Unit {0}
IsSoundRecord words top (Touch step pc word number why) = (word < words) × (number < top) × IsSoundWhy why
IsSoundRecord words top (Meet step pc call kind) = Unit {0}
IsSoundRecord words top (Back step pc) = Unit {0}
IsSoundRecord words top End = Unit {0}

-- every reply is
abbrev pub IsSoundReply : ℕ → ℕ → Reply → Type 0
IsSoundReply words top reply = Unit {0}
