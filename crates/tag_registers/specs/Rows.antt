-- What each unit does to tags: a row says what becomes of the destination register, of the word and of the buffer, and which checks look where
-- (after Dalton, Kannan and Kozyrakis, "Raksha", ISCA 2007; the rows of calls are this project's own).
use Rattle.std.specs.Prelude.{ℕ, Bool, true, false, ◌||◌, ◌==◌, List, [], ◌∷◌, if◌then◌else◌}
use Rattle.rv_decode.specs.declared.insn.Insn.{Insn}
use Rattle.rv_decode.specs.declared.insn.Insn.TheVariants.{Lui, Auipc, Jal, Jalr, Branch, Load, Store, Imm, Reg, Fence, Ecall, Ebreak, Lr, Sc, Amo}
use Rattle.rv_decode.specs.declared.insn.RegKind.{RegKind}
use Rattle.rv_decode.specs.declared.insn.RegKind.TheVariants.{Sub, Xor}
use Rattle.rv_decode.specs.declared.insn.AmoKind.{AmoKind}
use Rattle.rv_decode.specs.declared.insn.AmoKind.TheVariants.{Swap}
use Rattle.rv_decode.specs.declared.insn.Class.{Class}
use Rattle.rv_decode.specs.Classes.{class_of_imm, class_of_reg}
use Rattle.record_lane.specs.declared.record.Why.{Why}
use Rattle.record_lane.specs.declared.record.Why.TheVariants.{Insn as ByInsn, Fill, Gather, Claim, Spent}
use Rattle.record_lane.specs.declared.record.MeetKind.{MeetKind}
use Rattle.record_lane.specs.declared.record.MeetKind.TheVariants.{Call, Verdict}
use Rattle.record_lane.specs.declared.record.Record.{Record}
use Rattle.record_lane.specs.declared.record.Record.TheVariants.{Quiet, Blank, Touch, Meet, Back, End}
use Rattle.tag_policy.specs.declared.rules.Change.{Change}
use Rattle.tag_policy.specs.declared.rules.Change.TheVariants.{Replace, Join}
use Rattle.tag_policy.specs.declared.rules.Check.{Check}
use Rattle.tag_policy.specs.declared.rules.Check.TheVariants.{Jump, LoadAddress, StoreAddress, BranchCondition, CallNumber, CallArgument, Sink}

-- what becomes of the tags of the registers: they are kept, or that of the first register is cleared, or is set
-- by the mode of the class, of two registers, or of one and an immediate, which has no tag, or as that of a load, of the register of its address
pub data RegisterRule : Type 0 where
  KeepTags : RegisterRule
  ClearTag : ℕ → RegisterRule
  OfOperands : ℕ → Class → ℕ → ℕ → RegisterRule
  OfOperand : ℕ → Class → ℕ → RegisterRule
  OfLoad : ℕ → ℕ → RegisterRule

-- where the tag that a store brings comes from: the registers of the value and of the address, or input
pub data Origin : Type 0 where
  OfStore : ℕ → ℕ → Origin
  OfSource : Origin

-- what becomes of the tag of the word
pub data WordRule : Type 0 where
  KeepWord : WordRule
  Put : Change → Origin → WordRule

-- what becomes of the tag of the buffer
pub data BufferRule : Type 0 where
  KeepBuffer : BufferRule
  ClearBuffer : BufferRule
  JoinFound : BufferRule

-- where a check looks
pub data Place : Type 0 where
  Registers : List ℕ → Place
  Buffer : Place

pub record Look : Type 0 where
  pub check : Check
  pub at : Place

pub record Row : Type 0 where
  pub registers : RegisterRule
  pub word : WordRule
  pub buffer : BufferRule
  pub looks : List Look

abbrev pub look : Check → List ℕ → Look
look check registers = record { check = check; at = Registers registers }

abbrev pub row : RegisterRule → WordRule → List Look → Row
row registers word looks = record { registers = registers; word = word; buffer = KeepBuffer; looks = looks }

-- keeps all tags and checks nothing
abbrev pub plain_row : Row
plain_row = row KeepTags KeepWord []

-- an exclusive or, or a difference, of a register with itself does not depend on it
abbrev pub cancels : RegKind → ℕ → ℕ → Bool
cancels Xor a b = a == b
cancels Sub a b = a == b
cancels _ a b = false

abbrev pub reg_rule : RegKind → ℕ → ℕ → ℕ → RegisterRule
reg_rule kind rd rs1 rs2 = if cancels kind rs1 rs2 then ClearTag rd else OfOperands rd (class_of_reg kind) rs1 rs2

-- a swap stores its operand; every other atomic operation stores a result of the old word too
abbrev pub amo_change : AmoKind → Change
amo_change Swap = Replace
amo_change _ = Join

-- a store-conditional that did not store leaves its word
abbrev pub sc_rule : ℕ → ℕ → Bool → WordRule
sc_rule rs1 rs2 hit = if hit then Put Replace (OfStore rs2 rs1) else KeepWord

-- the row of an instruction; `hit` is whether a store-conditional stored
abbrev pub insn_row : Insn → Bool → Row
insn_row (Lui rd imm) hit = row (ClearTag rd) KeepWord []
insn_row (Auipc rd imm) hit = row (ClearTag rd) KeepWord []
insn_row (Jal rd imm) hit = row (ClearTag rd) KeepWord []
insn_row (Jalr rd rs1 imm) hit = row (ClearTag rd) KeepWord (look Jump (rs1 ∷ []) ∷ [])
insn_row (Branch kind rs1 rs2 imm) hit = row KeepTags KeepWord (look BranchCondition (rs1 ∷ rs2 ∷ []) ∷ [])
insn_row (Load kind rd rs1 imm) hit = row (OfLoad rd rs1) KeepWord (look LoadAddress (rs1 ∷ []) ∷ [])
insn_row (Store kind rs1 rs2 imm) hit = row KeepTags (Put Replace (OfStore rs2 rs1)) (look StoreAddress (rs1 ∷ []) ∷ [])
insn_row (Imm kind rd rs1 imm) hit = row (OfOperand rd (class_of_imm kind) rs1) KeepWord []
insn_row (Reg kind rd rs1 rs2) hit = row (reg_rule kind rd rs1 rs2) KeepWord []
insn_row Fence hit = plain_row
insn_row Ecall hit = plain_row
insn_row Ebreak hit = plain_row
insn_row (Lr rd rs1) hit = row (OfLoad rd rs1) KeepWord (look LoadAddress (rs1 ∷ []) ∷ [])
insn_row (Sc rd rs1 rs2) hit = row (ClearTag rd) (sc_rule rs1 rs2 hit) (look StoreAddress (rs1 ∷ []) ∷ [])
insn_row (Amo kind rd rs1 rs2) hit = row (OfLoad rd rs1) (Put (amo_change kind) (OfStore rs2 rs1)) (look LoadAddress (rs1 ∷ []) ∷ look StoreAddress (rs1 ∷ []) ∷ [])

-- an instruction that faulted keeps all tags, and makes its checks
abbrev pub quiet_row : Insn → Bool → Row
quiet_row insn true = row KeepTags KeepWord (insn_row insn true).looks
quiet_row insn false = insn_row insn true

abbrev pub touch_row : Why → Row
touch_row (ByInsn insn hit bytes) = insn_row insn hit
touch_row (Fill bytes) = row KeepTags (Put Replace OfSource) []
touch_row (Gather bytes) = record plain_row { buffer = JoinFound }
touch_row Claim = plain_row
touch_row Spent = plain_row

-- the registers that hold the arguments of a call
abbrev pub arguments : ℕ → List ℕ
arguments call =
    if (call == 63) || (call == 64) then 10 ∷ 11 ∷ 12 ∷ [] else
    if (call == 93) || (call == 94) || (call == 214) then 10 ∷ [] else
    []

abbrev pub meet_row : ℕ → MeetKind → Row
meet_row call Call = record plain_row { buffer = ClearBuffer; looks = look CallNumber (17 ∷ []) ∷ look CallArgument (arguments call) ∷ [] }
meet_row call Verdict = record plain_row { looks = record { check = Sink; at = Buffer } ∷ [] }

-- the row of a unit, by its record
abbrev pub row_of : Record → Row
row_of (Quiet step pc insn faulted) = quiet_row insn faulted
row_of (Blank step pc) = plain_row
row_of (Touch step pc word number why) = touch_row why
row_of (Meet step pc call kind) = meet_row call kind
row_of (Back step pc) = row (ClearTag 10) KeepWord []
row_of End = plain_row

-- the bytes of its word that a unit touches: those that its record names, else all four
abbrev pub bytes_of_touch : Why → ℕ
bytes_of_touch (ByInsn insn hit bytes) = bytes
bytes_of_touch (Fill bytes) = bytes
bytes_of_touch (Gather bytes) = bytes
bytes_of_touch Claim = 15
bytes_of_touch Spent = 15

abbrev pub touched_bytes : Record → ℕ
touched_bytes (Touch step pc word number why) = bytes_of_touch why
touched_bytes _ = 15
