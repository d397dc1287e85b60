-- What a loaded image keeps of its layout: the directory of pages, the first words, and what is read off the file once. Their meaning is in Layout.
use Rattle.std.specs.Prelude.{◌≡◌, ℕ, ◌%◌, ◌*◌, ◌<◌, ◌≤◌, List, length, slice_index_or, Option, false}
use Rattle.std.specs.List.{list_any}
use Rattle.elf_image.specs.Elf.{segments}
use Rattle.elf_image.specs.Layout.{Layout, is_mapped, is_writable_page, is_executable_page, count_below, all_pages, word_at, address_of, break_base, heap_end, entry_of}
use Rattle.elf_image.specs.ImageFault.{address_limit, passes_limit}
use Rattle.elf_image.specs.declared.limits.TheConstants.{MOST_PAGES, PAGE_WORDS}
use Rattle.elf_image.specs.declared.segments.Segment.{Segment}
use Rattle.elf_image.specs.Directory.{IsDirectoryBelow, page_entry}
use Rattle.elf_image.specs.declared.page_directory.Page.{Page}
use Rattle.elf_image.specs.declared.page_table.Permissions.{Permissions}

-- what may be done on a page of a layout
unfoldable pub permissions_of_layout : Layout → ℕ → Permissions
permissions_of_layout layout page = record {
  writable = is_writable_page layout page;
  executable = is_executable_page layout page;
}

-- what the directory of pages says of a page: how many mapped pages lie below it, and what may be done there
unfoldable pub page_of_layout : Layout → ℕ → Option Page
page_of_layout layout = page_entry (is_mapped layout) (permissions_of_layout layout)

-- the directory of pages and the first words of a layout whose mapped pages are not too many
pub record IsMemoryOf (layout : Layout) (leaves : List ℕ) (entries : List (Option Page)) (words : List ℕ) : Type 0 where
  pub few : count_below (is_mapped layout) all_pages ≤ MOST_PAGES
  pub directory : IsDirectoryBelow (page_of_layout layout) leaves entries all_pages
  pub words_size : length words ≡ PAGE_WORDS * count_below (is_mapped layout) all_pages
  pub items : (k d : ℕ) → k < length words → slice_index_or words k d ≡ word_at layout (address_of layout k)

-- the segments of a layout, none of which passes the limit, and the addresses that are kept
pub record IsReadFrom (layout : Layout) (loaded : List Segment) (base entry : ℕ) : Type 0 where
  pub loaded_is : loaded ≡ segments layout.bytes
  pub few_segments : length loaded ≤ 64
  pub ends : list_any passes_limit loaded ≡ false
  pub base_is : base ≡ break_base layout
  pub heap_low : heap_end layout ≤ address_limit
  pub entry_is : entry ≡ entry_of layout
  pub aligned : entry % 4 ≡ 0
