-- The packed forms of a policy's rules give each bit by its own rules.
use Rattle.std.proofs.Common.{◌≡◌, ℕ, ◌<◌, Bool, true, false, ◌&&◌, ◌||◌, List, slice_index_or, slice_index, ◌-◌, refl, ap, ◌∙◌, bit_or, bit_and}
use Rattle.rv_decode.specs.declared.insn.Class.{Class}
use Rattle.rv_decode.specs.declared.insn.Class.TheVariants.{Arith, Logic, Shift, Compare, MulDiv}
use Rattle.rv_decode.specs.Four.{bit_of}
use Rattle.tag_policy.specs.declared.rules.Mode.{Mode}
use Rattle.tag_policy.specs.declared.rules.Mode.TheVariants.{Clear, Or, And}
use Rattle.tag_policy.specs.declared.rules.Check.{Check}
use Rattle.tag_policy.specs.declared.rules.Check.TheVariants.{Jump, LoadAddress, StoreAddress, BranchCondition, CallNumber, CallArgument, Sink}
use Rattle.tag_policy.specs.declared.rules.Rules.{Rules}
use Rattle.tag_policy.specs.declared.masks.Flag.{Flag}
use Rattle.tag_policy.specs.declared.masks.Flag.TheVariants.{Source, Either, Both, LoadData, LoadByAddress, StoreData, StoreByAddress, Checks}
use Rattle.tag_policy.specs.declared.masks.Modes.{Modes}
use Rattle.tag_policy.specs.Rules.{no_rules, rules_at, mode_of, result_bit, mode_bit, load_bit, store_bit, check_bit, kind_of}
use Rattle.tag_policy.specs.declared.policy.Policy.{Policy}
use Rattle.tag_policy.specs.Policies.{policy_in}
use Rattle.tag_policy.specs.Masks.{is_or, is_and, has_flag, mask_of, masks_of, modes_of, modes_in}
use Rattle.tag_policy.proofs.Bits.{IsBits, bits_of, bits_of_four, bits_or, bits_and}

modes_are : (rules : List Rules) (class : Class) → modes_in (masks_of rules) class ≡ modes_of rules class
unfolding masks_of
modes_are rules Arith = refl
modes_are rules Logic = refl
modes_are rules Shift = refl
modes_are rules Compare = refl
modes_are rules MulDiv = refl

mask_bits : (rules : List Rules) (flag : Flag) → IsBits (mask_of rules flag) (λ i. has_flag (slice_index_or rules i no_rules) flag)
mask_bits rules flag = bits_of_four (λ i. has_flag (slice_index_or rules i no_rules) flag)

by_mode : (mode : Mode) (a b : Bool) → (((a || b) && is_or mode) || ((a && b) && is_and mode)) ≡ mode_bit mode a b
by_mode Clear true true = refl
by_mode Clear true false = refl
by_mode Clear false true = refl
by_mode Clear false false = refl
by_mode Or true true = refl
by_mode Or true false = refl
by_mode Or false true = refl
by_mode Or false false = refl
by_mode And true true = refl
by_mode And true false = refl
by_mode And false true = refl
by_mode And false false = refl

pub result_bits : (p : Policy) (class : Class) (a b : ℕ) (modes : Modes) → modes ≡ modes_in p.masks class → a < 16 → b < 16
    → IsBits (bit_or (bit_and (bit_or a b) modes.either) (bit_and (bit_and a b) modes.both)) (λ i. result_bit (rules_at (policy_in p) i) class (bit_of a i) (bit_of b i))
result_bits p class a b modes e ha hb =
    let rules = (policy_in p).rules in
    let whole = bits_or (bits_and (bits_or (bits_of a ha) (bits_of b hb)) (mask_bits rules (Either class)))
    (bits_and (bits_and (bits_of a ha) (bits_of b hb)) (mask_bits rules (Both class))) in
    let is : modes ≡ modes_of rules class = e ∙ ap (λ masks. modes_in masks class) p.packed ∙ modes_are rules class in
    rw is (record {
      small = whole.small;
      same = λ i lt. whole.same i lt ∙ by_mode (mode_of (rules_at (policy_in p) i) class) (bit_of a i) (bit_of b i);
    })

pub load_bits : (p : Policy) (word address : ℕ) → word < 16 → address < 16
    → IsBits (bit_or (bit_and p.masks.load_data word) (bit_and p.masks.load_address address)) (λ i. load_bit (rules_at (policy_in p) i) (bit_of word i) (bit_of address i))
unfolding masks_of
load_bits p word address hw ha =
    let rules = (policy_in p).rules in
    rw p.packed (bits_or (bits_and (mask_bits rules LoadData) (bits_of word hw)) (bits_and (mask_bits rules LoadByAddress) (bits_of address ha)))

pub store_bits : (p : Policy) (value address : ℕ) → value < 16 → address < 16
    → IsBits (bit_or (bit_and p.masks.store_data value) (bit_and p.masks.store_address address)) (λ i. store_bit (rules_at (policy_in p) i) (bit_of value i) (bit_of address i))
unfolding masks_of
store_bits p value address hv ha =
    let rules = (policy_in p).rules in
    rw p.packed (bits_or (bits_and (mask_bits rules StoreData) (bits_of value hv)) (bits_and (mask_bits rules StoreByAddress) (bits_of address ha)))

pub source_bits : (p : Policy) → IsBits p.masks.source (λ i. (rules_at (policy_in p) i).source)
unfolding masks_of
source_bits p = rw p.packed (mask_bits (policy_in p).rules Source)

-- the mask of a check stands at its number
pub check_bits : (p : Policy) (check : Check) (tag : ℕ) → tag < 16
    → IsBits (bit_and (slice_index p.masks.checks (kind_of check - 1)) tag) (λ i. check_bit (rules_at (policy_in p) i) check (bit_of tag i))
unfolding masks_of
check_bits p Jump tag h = rw p.packed (bits_and (mask_bits (policy_in p).rules (Checks Jump)) (bits_of tag h))
check_bits p LoadAddress tag h = rw p.packed (bits_and (mask_bits (policy_in p).rules (Checks LoadAddress)) (bits_of tag h))
check_bits p StoreAddress tag h = rw p.packed (bits_and (mask_bits (policy_in p).rules (Checks StoreAddress)) (bits_of tag h))
check_bits p BranchCondition tag h = rw p.packed (bits_and (mask_bits (policy_in p).rules (Checks BranchCondition)) (bits_of tag h))
check_bits p CallNumber tag h = rw p.packed (bits_and (mask_bits (policy_in p).rules (Checks CallNumber)) (bits_of tag h))
check_bits p CallArgument tag h = rw p.packed (bits_and (mask_bits (policy_in p).rules (Checks CallArgument)) (bits_of tag h))
check_bits p Sink tag h = rw p.packed (bits_and (mask_bits (policy_in p).rules (Checks Sink)) (bits_of tag h))
