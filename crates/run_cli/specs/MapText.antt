-- The memory map of an image as a text: its entry, its segments with their permissions, the break, the stack of each core, and how many words it has (this project's own).
use Rattle.std.specs.Prelude.{ℕ, ◌-◌, ◌*◌, Bool, List, [], ◌∷◌, ◌++◌, codes, decimal, if◌then◌else◌}
use Rattle.std.specs.List.{flat_map, range_with_len}
use Rattle.elf_image.specs.declared.limits.TheConstants.{PAGE_BYTES}
use Rattle.elf_image.specs.Elf.{segments, has_bits}
use Rattle.elf_image.specs.Layout.{Layout, break_base, entry_of, heap_end, stack_top, words_of}
use Rattle.elf_image.specs.declared.segments.Segment.{Segment}
use Rattle.trap_report.specs.Digits.{hex}
use Rattle.trap_report.specs.Fields.{spelled}

-- the letter where the flag is set, and else `-`
abbrev pub letter_if : Bool → ℕ → ℕ
letter_if flag letter = if flag then letter else 45

-- what may be done with a segment: read (flag 4), written (2), executed (1)
abbrev pub permission_letters : ℕ → List ℕ
permission_letters flags = letter_if (has_bits flags 4) 114 ∷ letter_if (has_bits flags 2) 119 ∷ letter_if (has_bits flags 1) 120 ∷ []

-- the fields of each kind of line
abbrev pub segment_fields : Segment → List (List ℕ)
segment_fields segment = codes "segment" ∷ hex 8 segment.start ∷ hex 8 segment.end ∷ permission_letters segment.flags ∷ []

abbrev pub stack_fields : ℕ → ℕ → List (List ℕ)
stack_fields pages core = codes "stack" ∷ decimal core ∷ hex 8 (stack_top core - PAGE_BYTES * pages) ∷ hex 8 (stack_top core) ∷ []

abbrev pub segment_lines : List Segment → List ℕ
segment_lines loaded = flat_map (λ segment. spelled (segment_fields segment)) loaded

abbrev pub stack_lines : ℕ → ℕ → List ℕ
stack_lines pages cores = flat_map (λ core. spelled (stack_fields pages core)) (range_with_len 0 cores)

abbrev pub entry_line : Layout → List ℕ
entry_line image = spelled (codes "entry" ∷ hex 8 (entry_of image) ∷ [])

abbrev pub break_line : Layout → List ℕ
break_line image = spelled (codes "break" ∷ hex 8 (break_base image) ∷ hex 8 (heap_end image) ∷ [])

abbrev pub words_line : Layout → List ℕ
words_line image = spelled (codes "words" ∷ decimal (words_of image) ∷ [])

unfoldable pub map_text : Layout → List ℕ
map_text image = entry_line image ++ segment_lines (segments image.bytes) ++ break_line image ++ stack_lines image.stack image.cores ++ words_line image
