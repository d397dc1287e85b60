-- The operation on the tag word of a unit's word leaves what the unit's row gives.
use Rattle.std.proofs.Common.{◌≡◌, ℕ, ◌<◌, List, refl}
use Rattle.rv_execute.specs.Payloads.{changed}
use Rattle.tag_policy.specs.Rules.{PolicySeen, rules_at, store_bit}
use Rattle.tag_policy.specs.Memory.{tags_below}
use Rattle.tag_policy.proofs.Bits.{four_below}
use Rattle.tag_registers.specs.Rows.{Origin, OfStore, OfSource, WordRule, KeepWord, Put, row_of, touched_bytes}
use Rattle.tag_registers.specs.Tags.{register_bit, origin_tag, word_after, word_operation, word_tag, word_op}
use Rattle.tag_registers.specs.WordOperation.{OperationLeavesTheTag, TagsStayBelow}
use Rattle.tag_registers.proofs.TagWords.{put_leaves, left_below}

origin_below : (policy : PolicySeen) (registers : List ℕ) (origin : Origin) → origin_tag policy registers origin < 16
origin_below policy registers (OfStore value address) =
    four_below (λ i. store_bit (rules_at policy i) (register_bit registers value i) (register_bit registers address i))
origin_below policy registers OfSource = four_below (λ i. (rules_at policy i).source)

by_rule : (policy : PolicySeen) (registers : List ℕ) (bytes : ℕ) (rule : WordRule) (number old : ℕ) → old < tags_below policy.version
    → changed (word_operation policy registers bytes rule) number old ≡ word_after policy registers bytes old rule
by_rule policy registers bytes KeepWord number old h = refl
by_rule policy registers bytes (Put change origin) number old h =
    put_leaves policy.version change bytes old (origin_tag policy registers origin) number h (origin_below policy registers origin)

below_by_rule : (policy : PolicySeen) (registers : List ℕ) (bytes : ℕ) (rule : WordRule) (old : ℕ) → old < tags_below policy.version
    → word_after policy registers bytes old rule < tags_below policy.version
below_by_rule policy registers bytes KeepWord old h = h
below_by_rule policy registers bytes (Put change origin) old h =
    left_below policy.version change bytes old (origin_tag policy registers origin) (origin_below policy registers origin)

pub operation_leaves : OperationLeavesTheTag
unfolding word_op word_tag
operation_leaves policy tags item number old h = by_rule policy tags.registers (touched_bytes item) (row_of item).word number old h

pub stays_below : TagsStayBelow
unfolding word_tag
stays_below policy tags item old h = below_by_rule policy tags.registers (touched_bytes item) (row_of item).word old h
