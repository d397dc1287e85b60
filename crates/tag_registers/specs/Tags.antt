-- The tags of a core and of a word after a unit: each policy bit by its own rules (after "Raksha", ISCA 2007).
use Rattle.std.specs.Prelude.{ℕ, ◌+◌, ◌*◌, Bool, false, ◌==◌, Option, Some, None, is_some, List, [], ◌∷◌, slice_index, slice_set, replicate, if◌then◌else◌}
use Rattle.std.specs.List.{list_any}
use Rattle.rv_decode.specs.Four.{four, bit_of}
use Rattle.rv_decode.specs.declared.insn.AmoKind.TheVariants.{Or as ByOr}
use Rattle.rv_execute.specs.declared.op.Op.{Op}
use Rattle.rv_execute.specs.declared.op.Op.TheVariants.{Read, Write, Amo}
use Rattle.record_lane.specs.declared.record.Record.{Record}
use Rattle.record_lane.specs.declared.record.Record.TheVariants.{Quiet, Blank, Touch, Meet, Back, End}
use Rattle.record_lane.specs.declared.reply.Trap.{Trap}
use Rattle.record_lane.specs.declared.reply.Reply.{Reply}
use Rattle.tag_policy.specs.Rules.{PolicySeen, rules_at, kind_of, result_bit, load_bit, store_bit, check_bit, source_tag}
use Rattle.tag_policy.specs.Memory.{found_tag, joined, joins, tags_left, spread, spread_mask}
use Rattle.tag_registers.specs.Rows.{RegisterRule, KeepTags, ClearTag, OfOperands, OfOperand, OfLoad, Origin, OfStore, OfSource, WordRule, KeepWord, Put}
use Rattle.tag_registers.specs.Rows.{BufferRule, KeepBuffer, ClearBuffer, JoinFound, Place, Registers, Buffer, Look, Row, row_of, touched_bytes}

-- the 32 register tags, the buffer tag and the first trap
pub record Tags : Type 0 where
  pub registers : List ℕ
  pub buffer : ℕ
  pub trap : Option Trap

abbrev pub no_tags : Tags
no_tags = record { registers = replicate 32 0; buffer = 0; trap = None }

-- bit i of the tag of register r
abbrev pub register_bit : List ℕ → ℕ → ℕ → Bool
register_bit registers r i = bit_of (slice_index registers r) i

-- the tag of x0 is always 0
abbrev pub tagged : ℕ → ℕ → List ℕ → List ℕ
tagged r tag registers = if r == 0 then registers else slice_set registers r tag

abbrev pub registers_after : PolicySeen → List ℕ → ℕ → RegisterRule → List ℕ
registers_after policy registers found KeepTags = registers
registers_after policy registers found (ClearTag rd) = tagged rd 0 registers
registers_after policy registers found (OfOperands rd class rs1 rs2) =
    tagged rd (four (λ i. result_bit (rules_at policy i) class (register_bit registers rs1 i) (register_bit registers rs2 i))) registers
registers_after policy registers found (OfOperand rd class rs1) =
    tagged rd (four (λ i. result_bit (rules_at policy i) class (register_bit registers rs1 i) false)) registers
registers_after policy registers found (OfLoad rd rs1) =
    tagged rd (four (λ i. load_bit (rules_at policy i) (bit_of found i) (register_bit registers rs1 i))) registers

-- the tag that a store brings
abbrev pub stored_tag : PolicySeen → List ℕ → ℕ → ℕ → ℕ
stored_tag policy registers value address =
    four (λ i. store_bit (rules_at policy i) (register_bit registers value i) (register_bit registers address i))

abbrev pub origin_tag : PolicySeen → List ℕ → Origin → ℕ
origin_tag policy registers (OfStore value address) = stored_tag policy registers value address
origin_tag policy registers OfSource = source_tag policy

-- the tag word
abbrev pub word_after : PolicySeen → List ℕ → ℕ → ℕ → WordRule → ℕ
word_after policy registers bytes old KeepWord = old
word_after policy registers bytes old (Put change origin) = tags_left policy.version change bytes old (origin_tag policy registers origin)

-- the operation on the tag word that leaves it so, whatever it was
abbrev pub put_operation : Bool → ℕ → ℕ → Op
put_operation join mask value = if join then Amo ByOr value else Write mask value

abbrev pub word_operation : PolicySeen → List ℕ → ℕ → WordRule → Op
word_operation policy registers bytes KeepWord = Read
word_operation policy registers bytes (Put change origin) =
    put_operation (joins policy.version change bytes) (spread_mask policy.version bytes) (spread policy.version (origin_tag policy registers origin) bytes)

abbrev pub buffer_after : ℕ → ℕ → BufferRule → ℕ
buffer_after buffer found KeepBuffer = buffer
buffer_after buffer found ClearBuffer = 0
buffer_after buffer found JoinFound = joined buffer found

-- bit i of the tags that a check looks at, joined
abbrev pub looked_bit : Tags → Place → ℕ → Bool
looked_bit tags (Registers rs) i = list_any (λ r. register_bit tags.registers r i) rs
looked_bit tags Buffer i = bit_of tags.buffer i

-- the policy bits that fire a check
abbrev pub fired : PolicySeen → Tags → Look → ℕ
fired policy tags look = four (λ i. check_bit (rules_at policy i) look.check (looked_bit tags look.at i))

-- the first of the looks that fires, as a trap of the unit with this number and address
abbrev pub first_trap : PolicySeen → Tags → ℕ → ℕ → List Look → Option Trap
first_trap policy tags step pc [] = None
first_trap policy tags step pc (look ∷ looks) =
    if fired policy tags look == 0
    then first_trap policy tags step pc looks
    else Some (record { step = step; pc = pc; kind = kind_of look.check; bits = fired policy tags look })

-- a core keeps its first trap
abbrev pub kept_trap : Option Trap → Option Trap → Option Trap
kept_trap (Some trap) new = Some trap
kept_trap None new = new

-- the tags of a core after a unit of this number, address and row that found this tag; all checks use the tags before it
abbrev pub unit_after : PolicySeen → Tags → ℕ → ℕ → ℕ → Row → Tags
unit_after policy tags step pc found row = record {
  registers = registers_after policy tags.registers found row.registers;
  buffer = buffer_after tags.buffer found row.buffer;
  trap = kept_trap tags.trap (first_trap policy tags step pc row.looks);
}

-- the number and the address of the unit of a record
abbrev pub step_of : Record → ℕ
step_of (Quiet step pc insn faulted) = step
step_of (Blank step pc) = step
step_of (Touch step pc word number why) = step
step_of (Meet step pc call kind) = step
step_of (Back step pc) = step
step_of End = 0

abbrev pub pc_of : Record → ℕ
pc_of (Quiet step pc insn faulted) = pc
pc_of (Blank step pc) = pc
pc_of (Touch step pc word number why) = pc
pc_of (Meet step pc call kind) = pc
pc_of (Back step pc) = pc
pc_of End = 0

-- the tag that a unit finds in the tag word of its word
abbrev pub seen_tag : PolicySeen → Record → ℕ → ℕ
seen_tag policy item old = found_tag policy.version old (touched_bytes item)

-- the tags of a core after the unit of a record, which found this tag word
unfoldable pub tags_after : PolicySeen → Tags → Record → ℕ → Tags
tags_after policy tags item old = unit_after policy tags (step_of item) (pc_of item) (seen_tag policy item old) (row_of item)

-- the tag word after it
unfoldable pub word_tag : PolicySeen → Tags → Record → ℕ → ℕ
word_tag policy tags item old = word_after policy tags.registers (touched_bytes item) old (row_of item).word

unfoldable pub word_op : PolicySeen → Tags → Record → Op
word_op policy tags item = word_operation policy tags.registers (touched_bytes item) (row_of item).word

-- register r has the bits 4r to 4r + 3
abbrev pub packed : List ℕ → ℕ
packed [] = 0
packed (tag ∷ tags) = tag + 16 * packed tags

-- the answer at a meeting, of the tags after its unit
unfoldable pub reply_of : Tags → Reply
reply_of tags = record { stop = is_some tags.trap; trap = tags.trap; tags = packed tags.registers; buffer = tags.buffer }
