-- What the directory of pages of an image holds: an entry for each page of memory, found by two indexes. Its sets and counts are those of Layout.
use Rattle.std.specs.Prelude.{◌≡◌, ℕ, ◌+◌, ◌/◌, ◌%◌, ◌<◌, List, length, slice_index, slice_index_or, Bool, Option, Some, None, if◌then◌else◌}
use Rattle.elf_image.specs.Layout.{all_pages, count_below}
use Rattle.elf_image.specs.PageTable.{IsNextOf}
use Rattle.elf_image.specs.declared.limits.TheConstants.{LEAF_PAGES, LEAVES}
use Rattle.elf_image.specs.declared.page_directory.Page.{Page}
use Rattle.elf_image.specs.declared.page_table.Permissions.{Permissions}

-- what is said of a page, by the set of mapped pages: how many of them lie below it, and what may be done there
abbrev pub page_entry : (ℕ → Bool) → (ℕ → Permissions) → ℕ → Option Page
page_entry set allowed page =
    if set page then Some (record { place = count_below set page; permissions = allowed page }) else None

-- where the entry of a page stands, and that entry
abbrev pub entry_place : List ℕ → ℕ → ℕ
entry_place leaves page = slice_index leaves (page / LEAF_PAGES) + page % LEAF_PAGES

abbrev pub found_entry : List ℕ → List (Option Page) → ℕ → Option Page
found_entry leaves entries page = slice_index_or entries (entry_place leaves page) None

-- each page of memory has an entry
pub record IsComplete (leaves : List ℕ) (entries : List (Option Page)) : Type 0 where
  pub size : length leaves ≡ LEAVES
  pub inside : (page : ℕ) → page < all_pages → entry_place leaves page < length entries

-- each page below a bound has an entry, as `entry` gives it
pub record IsDirectoryBelow (entry : ℕ → Option Page) (leaves : List ℕ) (entries : List (Option Page)) (bound : ℕ) : Type 0 where
  pub inside : (page : ℕ) → page < bound → entry_place leaves page < length entries
  pub finds : (page : ℕ) → page < bound → found_entry leaves entries page ≡ entry page

-- a number is the first of a set from a number on, and so many of the set lie below it
pub record IsCursor (set : ℕ → Bool) (from next place : ℕ) : Type 0 where
  pub first : IsNextOf set from next
  pub counted : count_below set next ≡ place
