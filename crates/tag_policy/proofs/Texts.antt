-- What the bytes of a policy text mean, by whether they are text and a document.
use Rattle.std.proofs.Common.{◌≡◌, ◌≢◌, ℕ, true, ◌==◌, List, length, Option, Result, Ok, Err, refl, sym, ◌∙◌, ap, arith}
use Rattle.std.specs.Result.{IfOk, IfErr}
use Rattle.std.specs.Str.{IsUtf8, IsValidUpTo}
use Rattle.std.specs.Str.Lossy.{utf8_valid_len}
use Rattle.std.proofs.lemmas.Bool.{eq-eqb, ne_eqb}
use Rattle.std.proofs.lemmas.Str.{utf8_valid_len-IsUtf8, utf8_valid_len-IsValidUpTo}
use Rattle.toml.specs.Data.{Members}
use Rattle.toml.specs.Parse.{parse_document}
use Rattle.tag_policy.specs.declared.fault.PolicyFault.{PolicyFault}
use Rattle.tag_policy.specs.declared.fault.PolicyFault.TheVariants.{Bad, NoMemory}
use Rattle.tag_policy.specs.declared.fault.PolicyKind.TheVariants.{Text}
use Rattle.tag_policy.specs.declared.policy.Policy.{Policy}
use Rattle.tag_policy.specs.Rules.{PolicySeen}
use Rattle.tag_policy.specs.Policies.{policy_in}
use Rattle.tag_policy.specs.Grammar.{policy_in_document, policy_of}
use Rattle.tag_policy.specs.ReadForms.{policy_result}

pub of_text : (bytes text : List ℕ) → text ≡ bytes → IsUtf8 bytes → (document : Option Members) → parse_document text ≡ document
    → policy_of bytes ≡ policy_in_document document
unfolding policy_of
of_text bytes text same is document e =
    let whole : (utf8_valid_len bytes == length bytes) ≡ true = eq-eqb (utf8_valid_len bytes) (length bytes) (utf8_valid_len-IsUtf8 bytes is) in
    let read : parse_document bytes ≡ document = ap parse_document (sym same) ∙ e in
    rw (whole, read) refl

pub of_no_text : (bytes : List ℕ) (n : ℕ) → IsValidUpTo bytes n → policy_of bytes ≡ Err (Bad Text 0 0)
unfolding policy_of
of_no_text bytes n valid =
    let short : utf8_valid_len bytes ≢ length bytes = (λ e. omega (arith, e, utf8_valid_len-IsValidUpTo bytes n valid, valid.short)) in
    rw (ne_eqb (utf8_valid_len bytes) (length bytes) short) refl

pub if_read : (r : Result Policy PolicyFault) (meant : Result PolicySeen PolicyFault) → meant ≡ policy_result r → IfOk r (λ policy. meant ≡ Ok (policy_in policy))
if_read (Ok policy) meant e = e
if_read (Err fault) meant e = tt

pub if_refused : (r : Result Policy PolicyFault) (meant : Result PolicySeen PolicyFault) → meant ≡ policy_result r → IfErr r (λ fault. fault ≢ NoMemory → meant ≡ Err fault)
if_refused (Ok policy) meant e = tt
if_refused (Err fault) meant e = λ other. e
