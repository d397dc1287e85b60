-- The words that hold a buffer of `count` bytes from an address on, and its bytes in them (this project's own).
use Rattle.std.specs.Prelude.{ℕ, ◌+◌, ◌-◌, ◌*◌, ◌/◌, ◌%◌, ◌^◌, Bool, ◌&&◌, List, [], ◌∷◌, slice_index, nat_le, nat_lt, unwrap_or, if◌then◌else◌}
use Rattle.elf_image.specs.Layout.{Layout, word_of}
use Rattle.rv_decode.specs.Four.{four}
use Rattle.rv_execute.specs.declared.op.Op.{Op}
use Rattle.rv_execute.specs.declared.op.Op.TheVariants.{Write}

-- how many words have a byte of it, and the address of word `index` of them
abbrev pub word_count : ℕ → ℕ → ℕ
word_count start count = (start % 4 + count + 3) / 4

abbrev pub word_address : ℕ → ℕ → ℕ
word_address start index = start - start % 4 + 4 * index

-- the number of that word: it is mapped, or the call would have been refused
abbrev pub buffer_word : Layout → ℕ → ℕ → ℕ
buffer_word layout start index = unwrap_or (word_of layout (word_address start index)) 0

-- the place, from 0 at the first of these words, of byte j of word `index`, and whether the buffer has it
abbrev pub place_of : ℕ → ℕ → ℕ
place_of index j = 4 * index + j

abbrev pub covers : ℕ → ℕ → ℕ → ℕ → Bool
covers start count index j = nat_le (start % 4) (place_of index j) && nat_lt (place_of index j) (start % 4 + count)

-- the buffer's bytes in word `index`, a bit for each
abbrev pub buffer_bytes : ℕ → ℕ → ℕ → ℕ
buffer_bytes start count index = four (covers start count index)

-- four numbers below 256 as a word
abbrev pub word_from : (ℕ → ℕ) → ℕ
word_from byte = byte 0 + 256 * byte 1 + 65536 * byte 2 + 16777216 * byte 3

-- the mask of the buffer's bytes in word `index`
abbrev pub buffer_mask : ℕ → ℕ → ℕ → ℕ
buffer_mask start count index = word_from (λ j. if covers start count index j then 255 else 0)

-- the bytes of the input from a position on, as they stand in word `index` of the buffer
abbrev pub buffer_value : ℕ → ℕ → ℕ → List ℕ → ℕ → ℕ
buffer_value start count index input position =
    word_from (λ j. if covers start count index j then slice_index input (position + (place_of index j - start % 4)) else 0)

abbrev pub fill : ℕ → ℕ → ℕ → List ℕ → ℕ → Op
fill start count index input position = Write (buffer_mask start count index) (buffer_value start count index input position)

-- the buffer's bytes in word `index`, of the word found
abbrev pub byte_if : Bool → ℕ → ℕ → List ℕ → List ℕ
byte_if covered j found rest = if covered then (found / 256 ^ j % 256) ∷ rest else rest

abbrev pub gather : ℕ → ℕ → ℕ → ℕ → List ℕ
gather start count index found =
    byte_if (covers start count index 0) 0 found
    (byte_if (covers start count index 1) 1 found
    (byte_if (covers start count index 2) 2 found
    (byte_if (covers start count index 3) 3 found [])))
