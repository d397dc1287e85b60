-- The number of a word is below the count of words, and that of a guest word is above the devices'.
use Rattle.std.proofs.Common.{◌≡◌, ℕ, ◌+◌, ◌*◌, ◌/◌, ◌%◌, ◌^◌, ◌<◌, ◌≤◌, Option, Some, None, Bool, true, false, if◌then◌else◌, refl, sym, subst, arith}
use Rattle.std.specs.Prelude.{unwrap_or}
use Rattle.elf_image.specs.Layout.{Layout, is_mapped, count_below, word_of, words_of, page_of}
use Rattle.elf_image.proofs.Counting.{count_below_lt}
use Rattle.rv_execute.specs.Harts.{HartState}
use Rattle.syscall_drain.specs.Locals.{Local}
use Rattle.syscall_drain.specs.Buffers.{buffer_word, word_address}
use Rattle.syscall_drain.specs.Units.{task_ask}
use Rattle.syscall_drain.specs.Sound.{IsSoundTask}
use Rattle.syscall_drain.specs.Seen.{TouchesBelow}
use Rattle.syscall_drain.specs.declared.task.Task.{Task}
use Rattle.syscall_drain.specs.declared.task.Task.TheVariants.{Over, Quiet, Access, Meeting}
use Rattle.syscall_drain.specs.declared.ask.CoreAsk.{CoreAsk}

some_from : (b : Bool) (n word : ℕ) → Some word ≡ (if b then Some n else None) → (b ≡ true) × (word ≡ n)
some_from true n word is = (refl, cc)
some_from false n word is = cc

pub word_below : (layout : Layout) (address word : ℕ) → Some word ≡ word_of layout address → address < 2 ^ 32 → word < words_of layout
unfolding word_of words_of
word_below layout address word is low =
    let parts = some_from (is_mapped layout (page_of address)) (3 + 1024 * count_below (is_mapped layout) (page_of address) + address % 4096 / 4) word is in
    let inside : address / 4096 < 1048576 = omega arith in
    let less = count_below_lt (is_mapped layout) (address / 4096) 1048576 parts.0 inside in
    omega (arith, less, parts.1)

-- the devices have words
pub devices_below : (layout : Layout) (word : ℕ) → word < 3 → word < words_of layout
unfolding words_of
devices_below layout word low = omega arith

pub some_words : (layout : Layout) → 0 < words_of layout
some_words layout = devices_below layout 0 (omega arith)

pub one_word : (layout : Layout) → 1 < words_of layout
one_word layout = devices_below layout 1 (omega arith)

pub two_words : (layout : Layout) → 2 < words_of layout
two_words layout = devices_below layout 2 (omega arith)

pub ruleset device_words = (some_words, one_word, two_words)

-- a guest word is no device
pub word_above : (layout : Layout) (address word : ℕ) → word_of layout address ≡ Some word → 3 ≤ word
unfolding word_of
word_above layout address word is =
    let parts = some_from (is_mapped layout (page_of address)) (3 + 1024 * count_below (is_mapped layout) (page_of address) + address % 4096 / 4) word (sym is) in
    omega (arith, parts.1)

pub buffer_no_output : (layout : Layout) (start index : ℕ) → buffer_word layout start index ≡ 1 → ⊥
buffer_no_output layout start index = by_word (word_of layout (word_address start index)) refl
  where
    by_word : (w : Option ℕ) → word_of layout (word_address start index) ≡ w → unwrap_or w 0 ≡ 1 → ⊥
    by_word None is e = cc
    by_word (Some word) is e = let above = word_above layout (word_address start index) word is in omega (arith, above)

pub below_ask : (words : ℕ) (h : HartState) (l : Local) (task : Task) → IsSoundTask words h task → TouchesBelow words (task_ask l task)
below_ask words h l Over sound = tt
below_ask words h l (Quiet reason) sound = tt
below_ask words h l (Access word op reason) sound = sound.0
below_ask words h l (Meeting kind) sound = tt

pub below_asked : (words : ℕ) (h : HartState) (l : Local) (task : Task) (ask : CoreAsk) → ask ≡ task_ask l task → IsSoundTask words h task → TouchesBelow words ask
below_asked words h l task ask is sound = let P : CoreAsk → Type 0 = λ a. TouchesBelow words a in subst P (sym is) (below_ask words h l task sound)
