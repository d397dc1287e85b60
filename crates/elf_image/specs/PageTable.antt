-- What the loader keeps of pages while it loads: the mapped pages in ascending order, what may be done on each, and their words. Their meaning is in Layout.
use Rattle.std.specs.Prelude.{◌≡◌, ℕ, ◌<◌, ◌≤◌, false, List, length, slice_index, ◌+◌, ◌*◌, ◌/◌, ◌%◌, Bool, true, ◌&&◌}
use Rattle.elf_image.specs.Elf.{may_write}
use Rattle.elf_image.specs.Layout.{touches, maps, writes, executes, count_below, all_pages}
use Rattle.elf_image.specs.declared.limits.TheConstants.{PAGE_BYTES, PAGE_WORDS}
use Rattle.elf_image.specs.declared.segments.Segment.{Segment}
use Rattle.elf_image.specs.declared.page_table.Permissions.{Permissions}

-- whether a segment that may be written has a byte on a page
abbrev pub may_write_page : ℕ → Segment → Bool
may_write_page page segment = touches page segment && may_write segment

-- what may be done on a page
abbrev pub permissions_of : List Segment → ℕ → ℕ → ℕ → ℕ → Permissions
permissions_of loaded cores stack heap page = record {
  writable = writes loaded cores stack heap page;
  executable = executes loaded page;
}

-- a number is the first one of a set from a number on, or that of all pages where no page from there on is in the set
pub record IsNextOf (set : ℕ → Bool) (from next : ℕ) : Type 0 where
  pub low : from ≤ next
  pub high : next ≤ all_pages
  pub none : (page : ℕ) → from ≤ page → page < next → set page ≡ false
  pub here : next < all_pages → set next ≡ true

-- a page below a bound is in a set, with so many of the set below it
pub record IsMember (set : ℕ → Bool) (bound page place : ℕ) : Type 0 where
  pub below : page < bound
  pub in_set : set page ≡ true
  pub at_place : count_below set page ≡ place

-- the pages of a set below a bound are listed in ascending order
pub record IsListedBelow (set : ℕ → Bool) (mapped : List ℕ) (bound : ℕ) : Type 0 where
  pub counted : length mapped ≡ count_below set bound
  pub members : (k : ℕ) → k < length mapped → IsMember set bound (slice_index mapped k) k

-- all mapped pages are listed
abbrev pub IsListed : List Segment → ℕ → ℕ → ℕ → List ℕ → Type 0
IsListed loaded cores stack heap mapped = IsListedBelow (maps loaded cores stack heap) mapped all_pages

-- a list has so many new items at its end, as `item` gives them
pub record IsExtended (old new : List ℕ) (item : ℕ → ℕ) (count : ℕ) : Type 0 where
  pub size : length new ≡ length old + count
  pub kept : (k : ℕ) → k < length old → slice_index new k ≡ slice_index old k
  pub added : (k : ℕ) → k < count → slice_index new (length old + k) ≡ item k

-- a list has the words of the first pages of a list, all of each, as `word` gives them by their addresses
pub record IsContents (word : ℕ → ℕ) (pages words : List ℕ) (count : ℕ) : Type 0 where
  pub size : length words ≡ PAGE_WORDS * count
  pub items : (k : ℕ) → k < length words → slice_index words k ≡ word (PAGE_BYTES * slice_index pages (k / PAGE_WORDS) + 4 * (k % PAGE_WORDS))
