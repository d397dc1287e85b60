-- The definitions at the small image of `HI`: what they give is what the memory map says.
use Rattle.std.proofs.Common.{◌≡◌, Some, None, true, refl}
use Rattle.guest_images.specs.Files.{small_image}
use Rattle.guest_images.specs.declared.programs.TheConstants.{HI}
use Rattle.elf_image.specs.Elf.{program_headers, segments}
use Rattle.elf_image.specs.Layout.{Layout, is_mapped, is_executable_page, is_writable_page, is_writable, count_below, nth_from, word_of, word_at, address_of, first_word, fetched, entry_of, break_base, heap_end}

abbrev layout : Layout
layout = record { bytes = small_image HI; cores = 1; stack = 16; heap = 256 }

the_break_base : break_base layout ≡ 0x11000
unfolding segments program_headers
the_break_base = refl

the_heap_end : heap_end layout ≡ 0x111000
unfolding segments program_headers
the_heap_end = refl

the_entry : entry_of layout ≡ 0x10000
unfolding entry_of
the_entry = refl

the_code_word : word_of layout 0x10000 ≡ Some 3
unfolding word_of is_mapped count_below segments program_headers
the_code_word = refl

the_heap_word : word_of layout 0x11000 ≡ Some 1027
unfolding word_of is_mapped count_below segments program_headers
the_heap_word = refl

an_unmapped_address : word_of layout 0xF000 ≡ None
unfolding word_of is_mapped count_below segments program_headers
an_unmapped_address = refl

the_first_instruction : fetched layout 0x10000 ≡ Some 0x000105b7
unfolding fetched is_executable_page word_at segments program_headers
the_first_instruction = refl

no_instruction_in_the_heap : fetched layout 0x11000 ≡ None
unfolding fetched is_executable_page word_at segments program_headers
no_instruction_in_the_heap = refl

no_instruction_between_words : fetched layout 0x10002 ≡ None
unfolding fetched is_executable_page word_at segments program_headers
no_instruction_between_words = refl

the_break_word : first_word layout 2 ≡ 0x11000
unfolding first_word segments program_headers
the_break_word = refl

the_text_word : first_word layout 12 ≡ 0x000a6968
unfolding first_word word_at address_of nth_from is_mapped segments program_headers
the_text_word = refl

code_is_writable : is_writable layout 0x10004 ≡ true
unfolding is_writable is_writable_page segments program_headers
code_is_writable = refl
