-- Operations on the tag word of a word, byte by byte.
use Rattle.std.proofs.Common.{◌≡◌, ℕ, ◌+◌, ◌-◌, ◌*◌, ◌^◌, ◌<◌, Bool, true, false, ◌||◌, if◌then◌else◌, refl, sym, ◌∙◌, ap, arith, lit<, bit_or, bit_and}
use Rattle.std.specs.Int.Bits.{or_zero_l, or_zero_r, and_zero_l, and_zero_r}
use Rattle.std.proofs.lemmas.Nat.{or_block, and_block, and_mask, and_le_l}
use Rattle.std.proofs.Math.Nat.{mod-eq_of_lt}
use Rattle.rv_decode.specs.Four.{bit_of}
use Rattle.rv_execute.specs.Payloads.{changed, masked}
use Rattle.tag_policy.specs.declared.rules.Version.{Version}
use Rattle.tag_policy.specs.declared.rules.Version.TheVariants.{WordTags, ByteTags}
use Rattle.tag_policy.specs.declared.rules.Change.{Change}
use Rattle.tag_policy.specs.declared.rules.Change.TheVariants.{Replace, Join}
use Rattle.tag_policy.specs.Memory.{tag_word, byte_tag, tags_below, joined, joins, merged, tags_left, spread, spread_mask}
use Rattle.tag_policy.proofs.Bits.{four_below}
use Rattle.tag_policy.proofs.Words.{joined_is_or}
use Rattle.tag_registers.specs.Tags.{put_operation}

-- ---- one tag

joined_at : (touched : Bool) (old new : ℕ) → old < 16 → new < 16 → bit_or old (if touched then new else 0) ≡ (if touched then joined old new else old)
joined_at true old new ho hn = sym (joined_is_or old new ho hn)
joined_at false old new ho hn = or_zero_r old

all_bits : (tag : ℕ) → tag < 16 → bit_and tag 15 ≡ tag
all_bits tag h = and_mask tag 4 ∙ mod-eq_of_lt h

replaced_at : (touched : Bool) (old new : ℕ) → old < 16 → new < 16
    → bit_or (bit_and old (15 - (if touched then 15 else 0))) (bit_and (if touched then new else 0) (if touched then 15 else 0)) ≡ (if touched then new else old)
replaced_at true old new ho hn = rw (and_zero_r old, or_zero_l (bit_and new 15)) (all_bits new hn)
replaced_at false old new ho hn = rw (and_zero_l 0, or_zero_r (bit_and old 15)) (all_bits old ho)

-- ---- four tags

abbrev quad : ℕ → ℕ → ℕ → ℕ → ℕ
quad a b c d = a + 16 * b + 256 * c + 4096 * d

nested : (top a b c d : ℕ) → ℕ
nested top a b c d = (((top * 16 + d) * 16 + c) * 16 + b) * 16 + a

quad_nested : (a b c d : ℕ) → quad a b c d ≡ nested 0 a b c d
unfolding nested
quad_nested a b c d = omega arith

or_nested : (t u a b c d e f g h : ℕ) → a < 16 → b < 16 → c < 16 → d < 16 → e < 16 → f < 16 → g < 16 → h < 16
    → bit_or (nested t a b c d) (nested u e f g h) ≡ nested (bit_or t u) (bit_or a e) (bit_or b f) (bit_or c g) (bit_or d h)
unfolding nested
or_nested t u a b c d e f g h ha hb hc hd he hf hg hh =
    or_block 4 _ _ a e ha he
    ∙ ap (λ n. n * 16 + bit_or a e) (or_block 4 _ _ b f hb hf
    ∙ ap (λ n. n * 16 + bit_or b f) (or_block 4 _ _ c g hc hg
    ∙ ap (λ n. n * 16 + bit_or c g) (or_block 4 t u d h hd hh)))

and_nested : (t u a b c d e f g h : ℕ) → a < 16 → b < 16 → c < 16 → d < 16 → e < 16 → f < 16 → g < 16 → h < 16
    → bit_and (nested t a b c d) (nested u e f g h) ≡ nested (bit_and t u) (bit_and a e) (bit_and b f) (bit_and c g) (bit_and d h)
unfolding nested
and_nested t u a b c d e f g h ha hb hc hd he hf hg hh =
    and_block 4 _ _ a e ha he
    ∙ ap (λ n. n * 16 + bit_and a e) (and_block 4 _ _ b f hb hf
    ∙ ap (λ n. n * 16 + bit_and b f) (and_block 4 _ _ c g hc hg
    ∙ ap (λ n. n * 16 + bit_and c g) (and_block 4 t u d h hd hh)))

nested_same : (t a b c d e f g h : ℕ) → a ≡ e → b ≡ f → c ≡ g → d ≡ h → nested t a b c d ≡ nested t e f g h
nested_same t a b c d e f g h p q r s = cc

split : (old : ℕ) → old < 65536 → old ≡ nested 0 (byte_tag old 0) (byte_tag old 1) (byte_tag old 2) (byte_tag old 3)
unfolding nested
split old h = omega arith

outside : (a b c d : ℕ) → a < 16 → b < 16 → c < 16 → d < 16 → 4294967295 - quad a b c d ≡ nested 65535 (15 - a) (15 - b) (15 - c) (15 - d)
unfolding nested
outside a b c d ha hb hc hd = omega arith

chosen_below : (touched : Bool) (x y : ℕ) → x < 16 → y < 16 → (if touched then x else y) < 16
chosen_below true x y hx hy = hx
chosen_below false x y hx hy = hy

zero_below : 0 < 16
zero_below = lit< tt

full_below : 15 < 16
full_below = lit< tt

byte_below : (old j : ℕ) → byte_tag old j < 16
byte_below old j = omega arith

joined_bytes : (old new bytes : ℕ) → old < 65536 → new < 16
    → bit_or old (spread ByteTags new bytes) ≡ tag_word (λ j. if bit_of bytes j then joined (byte_tag old j) new else byte_tag old j)
joined_bytes old new bytes ho hn =
    let old_at : ℕ → ℕ = λ j. byte_tag old j in
    let new_at : ℕ → ℕ = λ j. if bit_of bytes j then new else 0 in
    let lies : (j : ℕ) → new_at j < 16 = λ j. chosen_below (bit_of bytes j) new 0 hn zero_below in
    let same : (j : ℕ) → bit_or (old_at j) (new_at j) ≡ (if bit_of bytes j then joined (old_at j) new else old_at j) =
    λ j. joined_at (bit_of bytes j) (old_at j) new (byte_below old j) hn in
    ap (λ n. bit_or n (spread ByteTags new bytes)) (split old ho)
    ∙ ap (λ n. bit_or (nested 0 (old_at 0) (old_at 1) (old_at 2) (old_at 3)) n) (quad_nested (new_at 0) (new_at 1) (new_at 2) (new_at 3))
    ∙ or_nested 0 0 (old_at 0) (old_at 1) (old_at 2) (old_at 3) (new_at 0) (new_at 1) (new_at 2) (new_at 3)
    (byte_below old 0) (byte_below old 1) (byte_below old 2) (byte_below old 3) (lies 0) (lies 1) (lies 2) (lies 3)
    ∙ nested_same 0 _ _ _ _ _ _ _ _ (same 0) (same 1) (same 2) (same 3)
    ∙ sym (quad_nested _ _ _ _)

replaced_bytes : (old new bytes : ℕ) → old < 65536 → new < 16
    → masked (spread_mask ByteTags bytes) (spread ByteTags new bytes) old ≡ tag_word (λ j. if bit_of bytes j then new else byte_tag old j)
replaced_bytes old new bytes ho hn =
    let old_at : ℕ → ℕ = λ j. byte_tag old j in
    let new_at : ℕ → ℕ = λ j. if bit_of bytes j then new else 0 in
    let full_at : ℕ → ℕ = λ j. if bit_of bytes j then 15 else 0 in
    let lies : (j : ℕ) → new_at j < 16 = λ j. chosen_below (bit_of bytes j) new 0 hn zero_below in
    let fits : (j : ℕ) → full_at j < 16 = λ j. chosen_below (bit_of bytes j) 15 0 full_below zero_below in
    let less : (n : ℕ) → 15 - n < 16 = λ n. omega arith in
    let kept_below : (j : ℕ) → bit_and (old_at j) (15 - full_at j) < 16 = λ j. omega (arith, and_le_l (old_at j) (15 - full_at j), byte_below old j) in
    let put_below : (j : ℕ) → bit_and (new_at j) (full_at j) < 16 = λ j. omega (arith, and_le_l (new_at j) (full_at j), lies j) in
    let same : (j : ℕ) → bit_or (bit_and (old_at j) (15 - full_at j)) (bit_and (new_at j) (full_at j)) ≡ (if bit_of bytes j then new else old_at j) =
    λ j. replaced_at (bit_of bytes j) (old_at j) new (byte_below old j) hn in
    let kept : bit_and old (4294967295 - quad (full_at 0) (full_at 1) (full_at 2) (full_at 3))
    ≡ nested 0 (bit_and (old_at 0) (15 - full_at 0)) (bit_and (old_at 1) (15 - full_at 1)) (bit_and (old_at 2) (15 - full_at 2)) (bit_and (old_at 3) (15 - full_at 3)) =
    ap (λ n. bit_and n (4294967295 - quad (full_at 0) (full_at 1) (full_at 2) (full_at 3))) (split old ho)
    ∙ ap (λ n. bit_and (nested 0 (old_at 0) (old_at 1) (old_at 2) (old_at 3)) n) (outside (full_at 0) (full_at 1) (full_at 2) (full_at 3) (fits 0) (fits 1) (fits 2) (fits 3))
    ∙ and_nested 0 65535 (old_at 0) (old_at 1) (old_at 2) (old_at 3) (15 - full_at 0) (15 - full_at 1) (15 - full_at 2) (15 - full_at 3)
    (byte_below old 0) (byte_below old 1) (byte_below old 2) (byte_below old 3) (less (full_at 0)) (less (full_at 1)) (less (full_at 2)) (less (full_at 3)) in
    let put : bit_and (quad (new_at 0) (new_at 1) (new_at 2) (new_at 3)) (quad (full_at 0) (full_at 1) (full_at 2) (full_at 3))
    ≡ nested 0 (bit_and (new_at 0) (full_at 0)) (bit_and (new_at 1) (full_at 1)) (bit_and (new_at 2) (full_at 2)) (bit_and (new_at 3) (full_at 3)) =
    ap (λ n. bit_and n (quad (full_at 0) (full_at 1) (full_at 2) (full_at 3))) (quad_nested (new_at 0) (new_at 1) (new_at 2) (new_at 3))
    ∙ ap (λ n. bit_and (nested 0 (new_at 0) (new_at 1) (new_at 2) (new_at 3)) n) (quad_nested (full_at 0) (full_at 1) (full_at 2) (full_at 3))
    ∙ and_nested 0 0 (new_at 0) (new_at 1) (new_at 2) (new_at 3) (full_at 0) (full_at 1) (full_at 2) (full_at 3)
    (lies 0) (lies 1) (lies 2) (lies 3) (fits 0) (fits 1) (fits 2) (fits 3) in
    ap (λ n. bit_or n (bit_and (quad (new_at 0) (new_at 1) (new_at 2) (new_at 3)) (quad (full_at 0) (full_at 1) (full_at 2) (full_at 3)))) kept
    ∙ ap (λ n. bit_or (nested 0 (bit_and (old_at 0) (15 - full_at 0)) (bit_and (old_at 1) (15 - full_at 1)) (bit_and (old_at 2) (15 - full_at 2)) (bit_and (old_at 3) (15 - full_at 3))) n) put
    ∙ or_nested 0 0 _ _ _ _ _ _ _ _ (kept_below 0) (kept_below 1) (kept_below 2) (kept_below 3) (put_below 0) (put_below 1) (put_below 2) (put_below 3)
    ∙ nested_same 0 _ _ _ _ _ _ _ _ (same 0) (same 1) (same 2) (same 3)
    ∙ sym (quad_nested _ _ _ _)

-- ---- both versions

low_part : (old : ℕ) → old < 16 → bit_and old 4294967280 ≡ 0
low_part old h =
    let whole : old ≡ 0 * 2 ^ 4 + old = omega arith in
    ap (λ n. bit_and n 4294967280) whole ∙ and_block 4 0 268435455 old 0 h (lit< tt) ∙ rw (and_zero_r old) refl

one_tag : (join : Bool) (old new number : ℕ) → old < 16 → new < 16 → changed (put_operation join 15 new) number old ≡ merged join old new
one_tag true old new number ho hn = sym (joined_is_or old new ho hn)
one_tag false old new number ho hn = rw (low_part old ho, or_zero_l (bit_and new 15)) (all_bits new hn)

pub put_leaves : (version : Version) (change : Change) (bytes old new number : ℕ) → old < tags_below version → new < 16
    → changed (put_operation (joins version change bytes) (spread_mask version bytes) (spread version new bytes)) number old ≡ tags_left version change bytes old new
put_leaves WordTags change bytes old new number ho hn = one_tag (joins WordTags change bytes) old new number ho hn
put_leaves ByteTags Join bytes old new number ho hn = joined_bytes old new bytes ho hn
put_leaves ByteTags Replace bytes old new number ho hn = replaced_bytes old new bytes ho hn

-- ---- new tag words are small

merged_below : (join : Bool) (old new : ℕ) → new < 16 → merged join old new < 16
merged_below true old new h = four_below (λ i. bit_of old i || bit_of new i)
merged_below false old new h = h

quad_below : (a b c d : ℕ) → a < 16 → b < 16 → c < 16 → d < 16 → quad a b c d < 65536
quad_below a b c d ha hb hc hd = omega arith

pub left_below : (version : Version) (change : Change) (bytes old new : ℕ) → new < 16 → tags_left version change bytes old new < tags_below version
left_below WordTags change bytes old new h = merged_below (joins WordTags change bytes) old new h
left_below ByteTags change bytes old new h =
    let below : (j : ℕ) → (if bit_of bytes j then merged (joins ByteTags change bytes) (byte_tag old j) new else byte_tag old j) < 16 =
    λ j. chosen_below (bit_of bytes j) _ _ (merged_below (joins ByteTags change bytes) (byte_tag old j) new h) (byte_below old j) in
    quad_below _ _ _ _ (below 0) (below 1) (below 2) (below 3)
