-- The rules of one policy bit: how tags propagate, by the class of operation, and which checks look at them
-- (after Dalton, Kannan and Kozyrakis, "Raksha: A Flexible Information Flow Architecture for Software Security", ISCA 2007; the classes, modes and checks are this project's own).
use Rattle.std.specs.Prelude.{ℕ, Bool, false, ◌&&◌, ◌||◌, List, slice_index_or}
use Rattle.rv_decode.specs.declared.insn.Class.{Class}
use Rattle.rv_decode.specs.declared.insn.Class.TheVariants.{Arith, Logic, Shift, Compare, MulDiv}
use Rattle.rv_decode.specs.Four.{four}
use Rattle.tag_policy.specs.declared.rules.Version.{Version}
use Rattle.tag_policy.specs.declared.rules.Version.TheVariants.{WordTags, ByteTags}
use Rattle.tag_policy.specs.declared.rules.Mode.{Mode}
use Rattle.tag_policy.specs.declared.rules.Mode.TheVariants.{Clear, Or, And}
use Rattle.tag_policy.specs.declared.rules.Check.{Check}
use Rattle.tag_policy.specs.declared.rules.Check.TheVariants.{Jump, LoadAddress, StoreAddress, BranchCondition, CallNumber, CallArgument, Sink}
use Rattle.tag_policy.specs.declared.rules.Rules.{Rules}

-- a policy: its version, and the rules of its bits, of which it has at most four
pub record PolicySeen : Type 0 where
  pub version : Version
  pub rules : List Rules

-- the number of a version, as policy texts write it
abbrev pub version_number : Version → ℕ
version_number WordTags = 1
version_number ByteTags = 2

-- a bit that no policy governs
abbrev pub no_rules : Rules
no_rules = record {
  source = false;
  arith = Clear;
  logic = Clear;
  shift = Clear;
  compare = Clear;
  muldiv = Clear;
  load_data = false;
  load_address = false;
  store_data = false;
  store_address = false;
  check_jump = false;
  check_load_address = false;
  check_store_address = false;
  check_branch = false;
  check_call_number = false;
  check_call_argument = false;
  check_sink = false;
}

-- the mode of a class, and whether a check is one of the policy's
abbrev pub mode_of : Rules → Class → Mode
mode_of rules Arith = rules.arith
mode_of rules Logic = rules.logic
mode_of rules Shift = rules.shift
mode_of rules Compare = rules.compare
mode_of rules MulDiv = rules.muldiv

abbrev pub has_check : Rules → Check → Bool
has_check rules Jump = rules.check_jump
has_check rules LoadAddress = rules.check_load_address
has_check rules StoreAddress = rules.check_store_address
has_check rules BranchCondition = rules.check_branch
has_check rules CallNumber = rules.check_call_number
has_check rules CallArgument = rules.check_call_argument
has_check rules Sink = rules.check_sink

-- the rules of bit i of a policy
abbrev pub rules_at : PolicySeen → ℕ → Rules
rules_at policy i = slice_index_or policy.rules i no_rules

-- the kinds of check, as traps number them
abbrev pub kind_of : Check → ℕ
kind_of Jump = 1
kind_of LoadAddress = 2
kind_of StoreAddress = 3
kind_of BranchCondition = 4
kind_of CallNumber = 5
kind_of CallArgument = 6
kind_of Sink = 7

-- the bit of a result, of the bits of its operands
abbrev pub mode_bit : Mode → Bool → Bool → Bool
mode_bit Clear a b = false
mode_bit Or a b = a || b
mode_bit And a b = a && b

abbrev pub result_bit : Rules → Class → Bool → Bool → Bool
result_bit rules class a b = mode_bit (mode_of rules class) a b

-- the bit of a register that is loaded, of the bits of the word and of the address
abbrev pub load_bit : Rules → Bool → Bool → Bool
load_bit rules word address = (rules.load_data && word) || (rules.load_address && address)

-- the bit that a store brings to its word, of the bits of the value and of the address
abbrev pub store_bit : Rules → Bool → Bool → Bool
store_bit rules value address = (rules.store_data && value) || (rules.store_address && address)

-- whether a check fires, of the bit that it looks at
abbrev pub check_bit : Rules → Check → Bool → Bool
check_bit rules check looked = has_check rules check && looked

-- the bits that count as sources
abbrev pub source_tag : PolicySeen → ℕ
source_tag policy = four (λ i. (rules_at policy i).source)
