-- The set of the checks of a bit, by a table of the 128 sets.
use Rattle.std.proofs.Common.{◌≡◌, ℕ, ◌-◌, ◌<◌, Bool, true, false, ◌&&◌, nat_lt, if◌then◌else◌, refl, sym, ◌∙◌, ap, bit_or}
use Rattle.std.proofs.lemmas.Bool.{and_parts, ltb-true}
use Rattle.std.proofs.Math.Bool.{beq}
use Rattle.bitflags.specs.Sets.{without}
use Rattle.rv_decode.specs.Four.{bit_of}
use Rattle.tag_policy.specs.declared.rules.Check.{Check}
use Rattle.tag_policy.specs.declared.rules.Check.TheVariants.{Jump, LoadAddress, StoreAddress, BranchCondition, CallNumber, CallArgument, Sink}
use Rattle.tag_policy.specs.declared.rules.Rules.{Rules}
use Rattle.tag_policy.specs.Rules.{has_check, kind_of}

-- ---- a test of all sets

every : (Bool → Bool) → Bool
every p = p true && p false

every_holds : (p : Bool → Bool) → every p ≡ true → (b : Bool) → p b ≡ true
unfolding every
every_holds p h true = (and_parts (p true) (p false) h).0
every_holds p h false = (and_parts (p true) (p false) h).1

abbrev seven : (Bool → Bool → Bool → Bool → Bool → Bool → Bool → Bool) → Bool
seven p = every (λ a. every (λ b. every (λ c. every (λ d. every (λ e. every (λ f. every (λ g. p a b c d e f g)))))))

seven_holds : (p : Bool → Bool → Bool → Bool → Bool → Bool → Bool → Bool) → seven p ≡ true → (a b c d e f g : Bool) → p a b c d e f g ≡ true
seven_holds p h a b c d e f g =
    let ha = every_holds (λ a. every (λ b. every (λ c. every (λ d. every (λ e. every (λ f. every (λ g. p a b c d e f g))))))) h a in
    let hb = every_holds (λ b. every (λ c. every (λ d. every (λ e. every (λ f. every (λ g. p a b c d e f g)))))) ha b in
    let hc = every_holds (λ c. every (λ d. every (λ e. every (λ f. every (λ g. p a b c d e f g))))) hb c in
    let hd = every_holds (λ d. every (λ e. every (λ f. every (λ g. p a b c d e f g)))) hc d in
    let he = every_holds (λ e. every (λ f. every (λ g. p a b c d e f g))) hd e in
    let hf = every_holds (λ f. every (λ g. p a b c d e f g)) he f in
    every_holds (λ g. p a b c d e f g) hf g

-- ---- the set

abbrev pub put_in : Bool → ℕ → ℕ → ℕ
put_in present mask old = if present then bit_or old mask else without 8 old mask

set_of : Bool → Bool → Bool → Bool → Bool → Bool → Bool → ℕ
set_of a b c d e f g = put_in g 64 (put_in f 32 (put_in e 16 (put_in d 8 (put_in c 4 (put_in b 2 (put_in a 1 0))))))

pub set_of_rules : Rules → ℕ
set_of_rules rules =
    set_of rules.check_jump rules.check_load_address rules.check_store_address rules.check_branch rules.check_call_number rules.check_call_argument rules.check_sink

same_beq : (x y : Bool) → beq x y ≡ true → x ≡ y
same_beq true true h = refl
same_beq true false h = sym h
same_beq false true h = h
same_beq false false h = refl

pub set_has : (rules : Rules) (check : Check) → bit_of (set_of_rules rules) (kind_of check - 1) ≡ has_check rules check
unfolding every set_of set_of_rules
set_has rules Jump = same_beq _ _ (seven_holds (λ a b c d e f g. beq (bit_of (set_of a b c d e f g) 0) a) refl _ _ _ _ _ _ _)
set_has rules LoadAddress = same_beq _ _ (seven_holds (λ a b c d e f g. beq (bit_of (set_of a b c d e f g) 1) b) refl _ _ _ _ _ _ _)
set_has rules StoreAddress = same_beq _ _ (seven_holds (λ a b c d e f g. beq (bit_of (set_of a b c d e f g) 2) c) refl _ _ _ _ _ _ _)
set_has rules BranchCondition = same_beq _ _ (seven_holds (λ a b c d e f g. beq (bit_of (set_of a b c d e f g) 3) d) refl _ _ _ _ _ _ _)
set_has rules CallNumber = same_beq _ _ (seven_holds (λ a b c d e f g. beq (bit_of (set_of a b c d e f g) 4) e) refl _ _ _ _ _ _ _)
set_has rules CallArgument = same_beq _ _ (seven_holds (λ a b c d e f g. beq (bit_of (set_of a b c d e f g) 5) f) refl _ _ _ _ _ _ _)
set_has rules Sink = same_beq _ _ (seven_holds (λ a b c d e f g. beq (bit_of (set_of a b c d e f g) 6) g) refl _ _ _ _ _ _ _)

pub set_known : (rules : Rules) → set_of_rules rules < 128
unfolding every set_of set_of_rules
set_known rules = ltb-true (set_of_rules rules) 128 (seven_holds (λ a b c d e f g. nat_lt (set_of a b c d e f g) 128) refl _ _ _ _ _ _ _)

pub set_chain : (rules : Rules) (k0 k1 k2 k3 k4 k5 k6 k7 : ℕ) → k0 ≡ 0
    → k1 ≡ put_in rules.check_jump 1 k0 → k2 ≡ put_in rules.check_load_address 2 k1 → k3 ≡ put_in rules.check_store_address 4 k2
    → k4 ≡ put_in rules.check_branch 8 k3 → k5 ≡ put_in rules.check_call_number 16 k4 → k6 ≡ put_in rules.check_call_argument 32 k5
    → k7 ≡ put_in rules.check_sink 64 k6 → k7 ≡ set_of_rules rules
unfolding set_of set_of_rules
set_chain rules k0 k1 k2 k3 k4 k5 k6 k7 e0 e1 e2 e3 e4 e5 e6 e7 =
    e7 ∙ ap (put_in rules.check_sink 64) (e6 ∙ ap (put_in rules.check_call_argument 32) (e5 ∙ ap (put_in rules.check_call_number 16)
    (e4 ∙ ap (put_in rules.check_branch 8) (e3 ∙ ap (put_in rules.check_store_address 4) (e2 ∙ ap (put_in rules.check_load_address 2)
    (e1 ∙ ap (put_in rules.check_jump 1) e0))))))
