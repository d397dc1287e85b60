-- What the files of a setup say is one thing alone, where it is told, and then no reading of them is refused.
use Rattle.std.proofs.Common.{◌≡◌, ℕ, ◌<◌, ◌≤◌, inl, inr, List, length, Option, None, Some, IsSome, IfSome, true, false, Result, Ok, Err, sym, ap, subst, ◌∙◌, arith}
use Rattle.outside.specs.Files.{IsTold}
use Rattle.elf_image.specs.Layout.{Layout}
use Rattle.elf_image.specs.ImageFault.{image_fault}
use Rattle.elf_image.specs.declared.fault.ImageFault.{ImageFault}
use Rattle.tag_policy.specs.Rules.{PolicySeen}
use Rattle.tag_policy.specs.Grammar.{policy_of}
use Rattle.tag_policy.specs.declared.fault.PolicyKind.{PolicyKind}
use Rattle.tag_policy.specs.declared.fault.PolicyFault.TheVariants.{Bad}
use Rattle.machine.specs.Setups.{Setup}
use Rattle.trap_report.specs.Reading.{Reported, saved_of}
use Rattle.run_cli.specs.Seen.{FilesSeen}
use Rattle.run_cli.specs.Asked.{ImageAsked, SetupAsked, Asked, Inspect}
use Rattle.run_cli.specs.Work.{IsContents, IsImage, IsPolicy, IsInput, SaysPolicy, IsSetupOf, SaysReport, AsksForSetup, AsksForImage, layout_with, setup_of}
use Rattle.run_cli.specs.Causes.{HasImageFault, HasPolicyFault, IsLong}
use Rattle.run_cli.specs.Completeness.{IsToldOf, AreToldOf}
use Rattle.run_cli.specs.declared.files.FileKind.TheVariants.{Image as ImageFile, Policy as PolicyFile, Input as InputFile, Report as ReportFile}

-- ---- what is told is one thing alone

told_once : (held : Option (List ℕ)) (a b : List ℕ) → IsSome held → IsTold held a → IsTold held b → a ≡ b
told_once None a b some one other = let clash : false ≡ true = some in cc
told_once (Some contents) a b some one other = one ∙ sym other

one_value : {A E : Type 0} (r : Result A E) (a b : A) → r ≡ Ok a → r ≡ Ok b → a ≡ b
one_value r a b one other = let same : Ok a ≡ Ok b = sym one ∙ other in cc

pub no_both : {A E : Type 0} (r : Result A E) (a : A) (e : E) → r ≡ Ok a → r ≡ Err e → ⊥
no_both r a e one other = let clash : Ok a ≡ Err e = sym one ∙ other in cc

pub not_long : (held : Option (List ℕ)) (bytes : List ℕ) (most : ℕ) → IsSome held → IsTold held bytes → length bytes ≤ most → IfSome held (λ contents. most < length contents) → ⊥
not_long None bytes most some told within long = let clash : false ≡ true = some in cc
not_long (Some contents) bytes most some told within long = let same = ap (λ (b : List ℕ). length b) told in omega (arith, same, within, long)

image_once : (files : FilesSeen) (asked : ImageAsked) (one other : Layout) → IsSome (files.held asked.name) → IsImage files asked one → IsImage files asked other → one ≡ other
image_once files asked one other some a b =
    a.numbers ∙ ap (layout_with asked) (told_once (files.held asked.name) one.bytes other.bytes some a.contents.told b.contents.told) ∙ sym b.numbers

policy_once : (files : FilesSeen) (name : Option (List ℕ)) (one other : PolicySeen) → IsToldOf files name → IsPolicy files name one → IsPolicy files name other → one ≡ other
policy_once files None one other told a b = a ∙ sym b
policy_once files (Some name) one other told a b =
    let same : a.text ≡ b.text = told_once (files.held name) a.text b.text told a.contents.told b.contents.told in
    one_value (policy_of b.text) one other (subst (λ (text : List ℕ). policy_of text ≡ Ok one) same a.means) b.means

input_once : (files : FilesSeen) (name : Option (List ℕ)) (one other : List ℕ) → IsToldOf files name → IsInput files name one → IsInput files name other → one ≡ other
input_once files None one other told a b = a ∙ sym b
input_once files (Some name) one other told a b = told_once (files.held name) one other told a.told b.told

pub setup_once : (files : FilesSeen) (o : SetupAsked) (s other : Setup) → AreToldOf files o s → IsSetupOf files o other → other ≡ s
setup_once files o s other told is =
    is.setup_is
    ∙ ap (λ (l : Layout). setup_of o l other.policy other.program.input) (image_once files o.image other.program.layout s.program.layout told.image is.image_is told.setup_is.image_is)
    ∙ ap (λ (p : PolicySeen). setup_of o s.program.layout p other.program.input) (policy_once files o.policy other.policy s.policy told.policy is.policy_is told.setup_is.policy_is)
    ∙ ap (λ (i : List ℕ). setup_of o s.program.layout s.policy i) (input_once files o.input other.program.input s.program.input told.input is.input_is told.setup_is.input_is)
    ∙ sym told.setup_is.setup_is

-- what a report says
pub bytes_once : (files : FilesSeen) (name one other : List ℕ) → IsSome (files.held name) → IsContents files ReportFile name one → IsContents files ReportFile name other → one ≡ other
bytes_once files name one other some a b = told_once (files.held name) one other some a.told b.told

pub report_once : (files : FilesSeen) (name one other : List ℕ) (told also : Reported) → IsSome (files.held name) → SaysReport files name one told → SaysReport files name other also → told ≡ also
report_once files name one other told also some a b =
    one_value (saved_of other) told also (subst (λ (bytes : List ℕ). saved_of bytes ≡ Ok told) (bytes_once files name one other some a.contents b.contents) a.says) b.says

-- ---- what is told is not refused

-- one image alone is asked for, and it is accepted
pub record HasAccepted (asked : Asked) (files : FilesSeen) (image : Layout) : Type 0 where
  pub named : ImageAsked
  pub once : (other : ImageAsked) → AsksForImage files asked other → other ≡ named
  pub image_is : IsImage files named image
  pub told : IsSome (files.held named.name)

pub no_image_fault : (asked : Asked) (old new : FilesSeen) (image : Layout) (fault : ImageFault) → HasAccepted asked old image → HasImageFault asked old new fault → ⊥
no_image_fault asked old new image fault can refused =
    let named : ImageAsked = can.named in
    let same : refused.image ≡ named = can.once refused.image refused.asks in
    let told : IsTold (old.held named.name) refused.bytes = subst (λ (a : ImageAsked). IsTold (old.held a.name) refused.bytes) same refused.contents.told in
    let bytes : refused.bytes ≡ image.bytes = told_once (old.held named.name) refused.bytes image.bytes can.told told can.image_is.contents.told in
    let has : image_fault image.bytes named.cores named.stack named.heap ≡ Some fault =
    subst (λ (b : List ℕ). image_fault b named.cores named.stack named.heap ≡ Some fault) bytes
    (subst (λ (a : ImageAsked). image_fault refused.bytes a.cores a.stack a.heap ≡ Some fault) same refused.has) in
    let sound : image_fault image.bytes named.cores named.stack named.heap ≡ None =
    sym (ap (λ (l : Layout). image_fault l.bytes l.cores l.stack l.heap) can.image_is.numbers) ∙ can.image_is.accepted.sound in
    let clash : None ≡ Some fault = sym sound ∙ has in cc

pub no_long_image : (asked : Asked) (old new : FilesSeen) (image : Layout) → HasAccepted asked old image → IsLong asked old new ImageFile → ⊥
no_long_image asked old new image can long =
    let named : can.named.name ≡ long.name = sym (ap (λ (a : ImageAsked). a.name) (can.once long.comes.image long.comes.asks)) ∙ long.comes.named in
    not_long (old.held can.named.name) image.bytes 33554432 can.told can.image_is.contents.told can.image_is.contents.within
    (subst (λ (name : List ℕ). IfSome (old.held name) (λ bytes. 33554432 < length bytes)) (sym named) long.told)

-- one setup alone is asked for, and its files are told
pub record HasTold (asked : Asked) (files : FilesSeen) (s : Setup) : Type 0 where
  pub options : SetupAsked
  pub once : (other : SetupAsked) → AsksForSetup files asked other → other ≡ options
  pub no_map : (image : ImageAsked) → asked ≡ Inspect image → ⊥
  pub told : AreToldOf files options s

pub accepted_of : (asked : Asked) (files : FilesSeen) (s : Setup) → HasTold asked files s → HasAccepted asked files s.program.layout
accepted_of asked files s can = record {
  named = can.options.image;
  once = λ other asks. elim asks [
    | inl setup ↦ sym setup.image_is ∙ ap (λ (o : SetupAsked). o.image) (can.once setup.setup setup.asks)
    | inr map ↦ absurd (can.no_map other map)
  ];
  image_is = can.told.setup_is.image_is;
  told = can.told.image;
}

pub no_policy_fault : (asked : Asked) (old new : FilesSeen) (s : Setup) (kind : PolicyKind) (table key : ℕ) → HasTold asked old s → HasPolicyFault asked old new kind table key → ⊥
no_policy_fault asked old new s kind table key can refused =
    let same : refused.options ≡ can.options = can.once refused.options refused.before.asks in
    let named : can.options.policy ≡ Some refused.name = sym (ap (λ (p : SetupAsked). p.policy) same) ∙ refused.named in
    let says : SaysPolicy old refused.name s.policy = subst (λ (name : Option (List ℕ)). IsPolicy old name s.policy) named can.told.setup_is.policy_is in
    let some : IsSome (old.held refused.name) = subst (IsToldOf old) named can.told.policy in
    let text : says.text ≡ refused.bytes = told_once (old.held refused.name) says.text refused.bytes some says.contents.told refused.contents.told in
    no_both (policy_of refused.bytes) s.policy (Bad kind table key) (subst (λ (b : List ℕ). policy_of b ≡ Ok s.policy) text says.means) refused.has

pub no_long_policy : (asked : Asked) (old new : FilesSeen) (s : Setup) → HasTold asked old s → IsLong asked old new PolicyFile → ⊥
no_long_policy asked old new s can long =
    let same : long.comes.options ≡ can.options = can.once long.comes.options long.comes.before.asks in
    let named : can.options.policy ≡ Some long.name = sym (ap (λ (p : SetupAsked). p.policy) same) ∙ long.comes.named in
    let says : SaysPolicy old long.name s.policy = subst (λ (name : Option (List ℕ)). IsPolicy old name s.policy) named can.told.setup_is.policy_is in
    not_long (old.held long.name) says.text 65536 (subst (IsToldOf old) named can.told.policy) says.contents.told says.contents.within long.told

pub no_long_input : (asked : Asked) (old new : FilesSeen) (s : Setup) → HasTold asked old s → IsLong asked old new InputFile → ⊥
no_long_input asked old new s can long =
    let same : long.comes.options ≡ can.options = can.once long.comes.options long.comes.before.before.asks in
    let named : can.options.input ≡ Some long.name = sym (ap (λ (p : SetupAsked). p.input) same) ∙ long.comes.named in
    let contents : IsContents old InputFile long.name s.program.input = subst (λ (name : Option (List ℕ)). IsInput old name s.program.input) named can.told.setup_is.input_is in
    not_long (old.held long.name) s.program.input 16777216 (subst (IsToldOf old) named can.told.input) contents.told contents.within long.told
