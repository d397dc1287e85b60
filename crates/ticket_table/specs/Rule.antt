-- Proof form: the rule of a table: there is one history that leaves its words and has what each seat's view says.
use Rattle.std.specs.Prelude.{◌≡◌, ◌≢◌, ℕ, ◌+◌, ◌<◌, ◌≤◌, true, false, List, [], length, slice_index, Some}
use mathlib.Core.Option.{Option, none, some}
use lib.ListN.{get_elem?}
use Rattle.atomic_table.specs.Table.{State, Me, Step}
use Rattle.atomic_table.specs.Seated.{TableId}
use Rattle.rv_execute.specs.declared.op.TheConstants.{MOST_NUMBERS}
use Rattle.rv_execute.specs.declared.op.Op.TheVariants.{Read}
use Rattle.ticket_table.specs.declared.change.Role.TheVariants.{Draw}
use Rattle.ticket_table.specs.declared.change.Setting.{Setting}
use Rattle.ticket_table.specs.declared.change.Change.{Change}
use Rattle.ticket_table.specs.declared.change.View.{View}
use Rattle.ticket_table.specs.declared.change.Note.{Note}
use Rattle.ticket_table.specs.Words.{number_of, payload_of}
use Rattle.ticket_table.specs.History.{Basis, IsHistory, Leaves, of_caller, has_spent, made, Follows}
use Rattle.ticket_table.specs.Views.{has, looked, grown, first_caller}

-- the terms and first payloads that a setting has
abbrev pub basis_of : Setting → Basis
basis_of setting = record { terms = setting.terms; first = setting.first.items }

-- what a view says is so: it has the history's changes of its callers and no others, and the word that it read last has not gone back
pub record FitsHistory (basis : Basis) (history : List Change) (words : List ℕ) (v : View) : Type 0 where
  pub same : v.live ≡ true → v.terms ≡ basis.terms
  pub bounds : (caller : ℕ) → has v.callers caller ≡ true → caller < basis.terms.callers
  pub own : (caller : ℕ) → has v.callers caller ≡ true → of_caller caller history ≡ of_caller caller v.mine
  pub only : (caller : ℕ) → has v.callers caller ≡ false → of_caller caller v.mine ≡ []
  pub last : (word x : ℕ) → v.last ≡ Some (word, x) →
      (number_of x ≤ number_of (slice_index words word)) × (number_of x ≡ number_of (slice_index words word) → x ≡ slice_index words word)

-- no caller stands in two views
abbrev pub AreApart : List View → Type 0
AreApart views =
    (i j : ℕ) (v w : View) (caller : ℕ) → get_elem? views i ≡ some v → get_elem? views j ≡ some w → i ≢ j → has v.callers caller ≡ true → has w.callers caller ≡ false

-- a live view stands for this caller
abbrev pub IsHeld : List View → ℕ → Type 0
IsHeld views caller = (i : ℕ) × (v : View) × (get_elem? views i ≡ some v) × (v.live ≡ true) × (has v.callers caller ≡ true)

-- a history that the words and the views are of; a live view stands for each caller, and so for that of each change
pub record KeptBy (basis : Basis) (words : List ℕ) (views : List View) (changes : List Change) : Type 0 where
  pub history : IsHistory basis changes
  pub leaves : Leaves basis changes words
  pub fits : (i : ℕ) (v : View) → get_elem? views i ≡ some v → FitsHistory basis changes words v
  pub apart : AreApart views
  pub held : (caller : ℕ) → caller < basis.terms.callers → IsHeld views caller

abbrev pub Kept : Basis → State Note View → Type 0
Kept basis s = (history : List Change) × KeptBy basis s.words s.views history

-- a drawer that is not spent finds a number below the limit and the callers together
abbrev pub Below : View → ℕ → Type 0
Below v found =
    (caller : ℕ) → v.live ≡ true → v.terms.role ≡ Draw → has v.callers caller ≡ true → has_spent v.terms.role v.terms.limit (of_caller caller v.mine) ≡ false →
    number_of found < v.terms.limit + v.terms.callers

-- what a step announces
abbrev pub noted : Option Note → Note
noted none = record { caller = 0; op = Read }
noted (some note) = note

-- the change of an exchange that is won
abbrev pub change_of : View → Step Note → Change
change_of v st = made v.terms (noted st.said).caller st.word (number_of st.first) (noted st.said).op (payload_of st.first)

-- a load tells the word
abbrev pub Looked : Step Note → Me Note View → ℕ → Me Note View → Type 0
Looked st me found after = (after ≡ (looked me.0 st.word found, me.1)) × Below me.0 found

-- an exchange is won, and its change follows the caller's others; or it is lost, and the word has a greater number
abbrev pub Exchanged : Step Note → Me Note View → ℕ → Me Note View → Type 0
Exchanged st me found after =
    (found ≡ st.first → (after ≡ (grown me.0 (change_of me.0 st), me.1)) × Follows (of_caller (change_of me.0 st).caller me.0.mine) (change_of me.0 st))
    × (found ≢ st.first → (after ≡ (looked me.0 st.word found, me.1)) × (number_of st.first < number_of found) × Below me.0 found)

-- a count of a read: its change follows the caller's others
abbrev pub Counted : Step Note → Me Note View → ℕ → Me Note View → Type 0
Counted st me found after =
    let e : Change = made me.0.terms (first_caller me.0) st.word (number_of found) Read (payload_of found) in
    (after ≡ (grown me.0 e, me.1)) × Follows me.0.mine e × (number_of found < me.0.terms.limit + me.0.terms.callers)

-- what a table keeps beside its rule
pub record IsTable (limit : ℕ) (table : TableId) (basis : Basis) : Type 0 where
  pub limit_is : limit ≡ basis.terms.limit
  pub count : table.words ≡ length basis.first
  pub slots : table.slots ≡ 0
  pub some_word : 0 < length basis.first
  pub some_caller : 0 < basis.terms.callers
  pub room : basis.terms.limit + basis.terms.callers ≤ MOST_NUMBERS
