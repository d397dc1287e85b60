-- Proof form: a policy as its code keeps it, one mask for each yes or no that the rules of its bits answer (this project's own).
use Rattle.std.specs.Prelude.{Bool, true, false, ℕ, List, [], ◌∷◌, slice_index_or}
use Rattle.rv_decode.specs.declared.insn.Class.{Class}
use Rattle.rv_decode.specs.declared.insn.Class.TheVariants.{Arith, Logic, Shift, Compare, MulDiv}
use Rattle.rv_decode.specs.Four.{four}
use Rattle.tag_policy.specs.declared.rules.Mode.{Mode}
use Rattle.tag_policy.specs.declared.rules.Mode.TheVariants.{Or, And}
use Rattle.tag_policy.specs.declared.rules.Check.TheVariants.{Jump, LoadAddress, StoreAddress, BranchCondition, CallNumber, CallArgument, Sink}
use Rattle.tag_policy.specs.declared.rules.Rules.{Rules}
use Rattle.tag_policy.specs.declared.masks.Flag.{Flag}
use Rattle.tag_policy.specs.declared.masks.Flag.TheVariants.{Source, Either, Both, LoadData, LoadByAddress, StoreData, StoreByAddress, Checks}
use Rattle.tag_policy.specs.declared.masks.Modes.{Modes}
use Rattle.tag_policy.specs.declared.masks.Masks.{Masks}
use Rattle.tag_policy.specs.Rules.{no_rules, mode_of, has_check}

abbrev pub is_or : Mode → Bool
is_or Or = true
is_or _ = false

abbrev pub is_and : Mode → Bool
is_and And = true
is_and _ = false

-- what the rules of a bit answer
abbrev pub has_flag : Rules → Flag → Bool
has_flag rules Source = rules.source
has_flag rules (Either class) = is_or (mode_of rules class)
has_flag rules (Both class) = is_and (mode_of rules class)
has_flag rules LoadData = rules.load_data
has_flag rules LoadByAddress = rules.load_address
has_flag rules StoreData = rules.store_data
has_flag rules StoreByAddress = rules.store_address
has_flag rules (Checks check) = has_check rules check

-- the bits whose rules answer yes
abbrev pub mask_of : List Rules → Flag → ℕ
mask_of rules flag = four (λ i. has_flag (slice_index_or rules i no_rules) flag)

abbrev pub modes_of : List Rules → Class → Modes
modes_of rules class = record { either = mask_of rules (Either class); both = mask_of rules (Both class) }

unfoldable pub masks_of : List Rules → Masks
masks_of rules = record {
  source = mask_of rules Source;
  arith = modes_of rules Arith;
  logic = modes_of rules Logic;
  shift = modes_of rules Shift;
  compare = modes_of rules Compare;
  muldiv = modes_of rules MulDiv;
  load_data = mask_of rules LoadData;
  load_address = mask_of rules LoadByAddress;
  store_data = mask_of rules StoreData;
  store_address = mask_of rules StoreByAddress;
  checks = mask_of rules (Checks Jump) ∷ mask_of rules (Checks LoadAddress) ∷ mask_of rules (Checks StoreAddress)
      ∷ mask_of rules (Checks BranchCondition) ∷ mask_of rules (Checks CallNumber) ∷ mask_of rules (Checks CallArgument)
      ∷ mask_of rules (Checks Sink) ∷ [];
}

-- the masks of a class
abbrev pub modes_in : Masks → Class → Modes
modes_in masks Arith = masks.arith
modes_in masks Logic = masks.logic
modes_in masks Shift = masks.shift
modes_in masks Compare = masks.compare
modes_in masks MulDiv = masks.muldiv
