-- The bytes of files of guest programs, as their words give them.
use Rattle.std.specs.Prelude.{ℕ, ◌≡◌, ◌*◌, ◌-◌, ◌^◌, ◌++◌, ◌∷◌, [], List, take, length, min, replicate}
use Rattle.std.specs.List.{flat_map}
use Rattle.std.specs.Int.{to_le_bytes, w32}
use Rattle.guest_images.specs.declared.programs.TheConstants.{HEADERS, PROCESSOR_HEADER, CODE_HEADER, COUNT_HEADER, STACK_HEADER, ECHO}

-- the words one after the other, the lowest byte of each first
abbrev pub bytes_of : List ℕ → List ℕ
bytes_of words = flat_map (to_le_bytes w32) words

-- bytes to which the first of some words were added
abbrev pub IsPartlyAdded : List ℕ → List ℕ → List ℕ → Type 0
IsPartlyAdded before words after = (count : ℕ) × (after ≡ before ++ bytes_of (take count words))

-- the first bytes of a file of this size, with zeros after its last
abbrev pub padded : ℕ → List ℕ → List ℕ
padded size bytes = take size bytes ++ replicate (size - length bytes) 0

-- the size of a program in bytes, or the greatest that a header can tell
abbrev pub segment_size : List ℕ → ℕ
segment_size program = min (4 * length program) (2 ^ 32 - 1)

-- a file with one segment, of a program
abbrev pub small_image : List ℕ → List ℕ
small_image program = bytes_of (HEADERS ++ segment_size program ∷ segment_size program ∷ 7 ∷ 4 ∷ program)

-- a file with two segments: the headers and the code of `ECHO`, and from offset 0x1000 on one word, which is 1
abbrev pub echo_words : ℕ → List ℕ
echo_words flags =
    take 6 HEADERS ++ (0x000100b4 ∷ 52 ∷ 0 ∷ flags ∷ 0x00200034 ∷ 4 ∷ 0 ∷ [])
    ++ PROCESSOR_HEADER ++ CODE_HEADER ++ COUNT_HEADER ++ STACK_HEADER ++ ECHO

abbrev pub echo_image : ℕ → List ℕ
echo_image flags = padded 0x1000 (bytes_of (echo_words flags)) ++ bytes_of (1 ∷ [])
