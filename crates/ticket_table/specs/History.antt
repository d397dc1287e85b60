-- A ticket history: all changes of a table's words in one order, in which each word's changes are numbered 0, 1, 2 and so on,
-- each finds what the one before left, and no caller goes on after a spent number (tickets as in Reed and Kanodia, 1979).
use Rattle.std.specs.Prelude.{◌≡◌, ℕ, ◌+◌, ◌<◌, ◌==◌, nat_lt, nat_le, if◌then◌else◌, Bool, false, List, ◌∷◌, ◌++◌, length, map, filter, count_by, fold, slice_get, slice_index, Some}
use Rattle.std.specs.List.{list_any, range_with_len}
use Rattle.rv_execute.specs.declared.op.Op.{Op}
use Rattle.rv_execute.specs.Payloads.{changed}
use Rattle.ticket_table.specs.declared.change.Role.{Role}
use Rattle.ticket_table.specs.declared.change.Role.TheVariants.{Draw, Serve}
use Rattle.ticket_table.specs.declared.change.Terms.{Terms}
use Rattle.ticket_table.specs.declared.change.Change.{Change}
use Rattle.ticket_table.specs.Words.{number_of, payload_of}

-- the terms of a table, and the first payload of each word
pub record Basis : Type 0 where
  pub terms : Terms
  pub first : List ℕ

-- the changes of one word, and those of one caller, in their order
abbrev pub of_word : ℕ → List Change → List Change
of_word word changes = filter (λ e. e.word == word) changes

abbrev pub of_caller : ℕ → List Change → List Change
of_caller caller changes = filter (λ e. e.caller == caller) changes

-- how many changes a word has had
abbrev pub count_at : ℕ → List Change → ℕ
count_at word changes = count_by (λ e. e.word == word) changes

-- what the word's last change left, or its first payload
abbrev pub left_at : ℕ → ℕ → List Change → ℕ
left_at first word changes = fold (λ payload e. if e.word == word then e.new else payload) first changes

-- what a change leaves, of its operation, its number and the payload found: a drawn number at or above the limit leaves the payload as it was
abbrev pub left_by : Role → ℕ → Op → ℕ → ℕ → ℕ
left_by Draw limit op number old = if nat_lt number limit then changed op number old else old
left_by Serve limit op number old = changed op number old

-- whether a number was drawn at or above the limit
abbrev pub has_spent : Role → ℕ → List Change → Bool
has_spent Draw limit changes = list_any (λ e. nat_le limit e.number) changes
has_spent Serve limit changes = false

-- the change that a caller makes under these terms
abbrev pub made : Terms → ℕ → ℕ → ℕ → Op → ℕ → Change
made terms caller word number op old = record { caller = caller; word = word; number = number; op = op; old = old; new = left_by terms.role terms.limit op number old }

-- a change that may follow these of its caller: its number is above each at its word, and the next number found what that change left
abbrev pub Follows : List Change → Change → Type 0
Follows mine e =
    (place : ℕ) (a : Change) → slice_get mine place ≡ Some a → a.word ≡ e.word → (a.number < e.number) × (e.number ≡ a.number + 1 → e.old ≡ a.new)

-- a change that may come next
pub record MayFollow (basis : Basis) (before : List Change) (e : Change) : Type 0 where
  pub word : e.word < length basis.first
  pub caller : e.caller < basis.terms.callers
  pub number : e.number ≡ count_at e.word before
  pub old : e.old ≡ left_at (slice_index basis.first e.word) e.word before
  pub new : e.new ≡ left_by basis.terms.role basis.terms.limit e.op e.number e.old
  pub below : e.number < basis.terms.limit + basis.terms.callers
  pub unspent : has_spent basis.terms.role basis.terms.limit (of_caller e.caller before) ≡ false

-- each change may come after those before it
abbrev pub IsHistory : Basis → List Change → Type 0
IsHistory basis history =
    (before after : List Change) (e : Change) → history ≡ before ++ e ∷ after → MayFollow basis before e

-- the words after a history: each has its count of changes, and its last payload
pub record Leaves (basis : Basis) (history : List Change) (words : List ℕ) : Type 0 where
  pub count : length words ≡ length basis.first
  pub numbers : (word : ℕ) → word < length words → number_of (slice_index words word) ≡ count_at word history
  pub payloads : (word : ℕ) → word < length words →
      payload_of (slice_index words word) ≡ left_at (slice_index basis.first word) word history

-- in a history each word's numbers are 0, 1, 2 and so on, as many as it has changes
abbrev pub NumbersInOrder : Type 0
NumbersInOrder =
    (basis : Basis) (history : List Change) → IsHistory basis history
    → (word : ℕ) → map (λ e. e.number) (of_word word history) ≡ range_with_len 0 (count_at word history)
