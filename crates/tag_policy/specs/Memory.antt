-- The tags of a memory word in the two versions of policies: one for the word, in its low four bits, or one for each byte, that of byte j in the bits 4j to 4j + 3
-- (words after "Raksha", ISCA 2007; bytes are this project's own).
use Rattle.std.specs.Prelude.{ℕ, ◌+◌, ◌*◌, ◌/◌, ◌%◌, ◌^◌, Bool, true, false, not, ◌&&◌, ◌||◌, ◌==◌, if◌then◌else◌, [], ◌∷◌}
use Rattle.std.specs.List.{list_any}
use Rattle.rv_decode.specs.Four.{four, bit_of}
use Rattle.tag_policy.specs.declared.rules.Version.{Version}
use Rattle.tag_policy.specs.declared.rules.Version.TheVariants.{WordTags, ByteTags}
use Rattle.tag_policy.specs.declared.rules.Change.{Change}
use Rattle.tag_policy.specs.declared.rules.Change.TheVariants.{Replace, Join}

-- the word of these byte tags, and the tag of byte j
abbrev pub tag_word : (ℕ → ℕ) → ℕ
tag_word tag = tag 0 + 16 * tag 1 + 256 * tag 2 + 4096 * tag 3

abbrev pub byte_tag : ℕ → ℕ → ℕ
byte_tag word j = word / 16 ^ j % 16

-- every tag word of a version is below this
abbrev pub tags_below : Version → ℕ
tags_below WordTags = 16
tags_below ByteTags = 65536

-- the tag with a bit where either has it
abbrev pub joined : ℕ → ℕ → ℕ
joined a b = four (λ i. bit_of a i || bit_of b i)

-- the tag that an access to these bytes finds: the word's, or a bit wherever a touched byte has it
abbrev pub found_bit : Version → ℕ → ℕ → ℕ → Bool
found_bit WordTags word bytes i = bit_of word i
found_bit ByteTags word bytes i = list_any (λ j. bit_of (byte_tag word j) i && bit_of bytes j) (0 ∷ 1 ∷ 2 ∷ 3 ∷ [])

abbrev pub found_tag : Version → ℕ → ℕ → ℕ
found_tag version word bytes = four (λ i. found_bit version word bytes i)

-- whether a change leaves the old tag beside the new: so does a store of a part of a word that has one tag
abbrev pub joins : Version → Change → ℕ → Bool
joins version Join bytes = true
joins WordTags Replace bytes = not (bytes == 15)
joins ByteTags Replace bytes = false

-- one tag after a change
abbrev pub merged : Bool → ℕ → ℕ → ℕ
merged join old new = if join then joined old new else new

-- the tag word after a change that brings this tag to these bytes; byte tags of other bytes stay
abbrev pub tags_left : Version → Change → ℕ → ℕ → ℕ → ℕ
tags_left WordTags change bytes old new = merged (joins WordTags change bytes) old new
tags_left ByteTags change bytes old new =
    tag_word (λ j. if bit_of bytes j then merged (joins ByteTags change bytes) (byte_tag old j) new else byte_tag old j)

-- the tag word with this tag at these bytes alone, and the one with all bits there
abbrev pub spread : Version → ℕ → ℕ → ℕ
spread WordTags tag bytes = tag
spread ByteTags tag bytes = tag_word (λ j. if bit_of bytes j then tag else 0)

abbrev pub spread_mask : Version → ℕ → ℕ
spread_mask version bytes = spread version 15 bytes
