-- What callers see of a table, of their passes and of what a call did to them (this project's own form).
use Rattle.std.specs.Prelude.{◌≡◌, ℕ, ◌+◌, ◌<◌, Bool, List, [], ◌∷◌, ◌++◌, slice_get, map, Some, None, Option}
use Rattle.std.specs.List.{range_with_len}
use Rattle.atomic_table.specs.Seated.{TableId}
use Rattle.rv_execute.specs.declared.op.Op.{Op}
use Rattle.ticket_table.specs.declared.change.Terms.{Terms}
use Rattle.ticket_table.specs.declared.change.Change.{Change}
use Rattle.ticket_table.specs.declared.served.Served.{Served}
use Rattle.ticket_table.specs.declared.served.Served.TheVariants.{Done, NotYet}
use Rattle.ticket_table.specs.Words.{number_of, packed}
use Rattle.ticket_table.specs.History.{Basis, IsHistory, Leaves, of_caller, has_spent, made}

-- a pass: its table and the table's terms, its caller, the caller's changes so far in order,
-- the word that it read or changed last with what the word was then, and how many steps on words it has made
pub record PassSeen : Type 0 where
  pub table : TableId
  pub terms : Terms
  pub caller : ℕ
  pub changes : List Change
  pub last : Option (ℕ × ℕ)
  pub steps : ℕ

-- a table: which one it is, and what it was made of
pub record TableSeen : Type 0 where
  pub table : TableId
  pub basis : Basis

-- a pass is of this table
abbrev pub IsPassOf : TableSeen → PassSeen → Type 0
IsPassOf t p = (p.table ≡ t.table) × (p.terms ≡ t.basis.terms)

-- whether its caller has drawn a number at or above the limit
abbrev pub is_spent : PassSeen → Bool
is_spent p = has_spent p.terms.role p.terms.limit p.changes

-- the change that this pass makes of an operation, at the word with this number and payload
abbrev pub change_made : PassSeen → ℕ → ℕ → Op → ℕ → Change
change_made p word number op old = made p.terms p.caller word number op old

-- the pass after one change more, and after these steps in all
abbrev pub with_change : ℕ → PassSeen → Change → PassSeen
with_change steps p e = record { table = p.table; terms = p.terms; caller = p.caller; changes = p.changes ++ e ∷ []; last = Some (e.word, packed (e.number + 1) e.new); steps = steps }

-- the pass after a look at a word
abbrev pub with_look : ℕ → PassSeen → ℕ → ℕ → PassSeen
with_look steps p word found = record { table = p.table; terms = p.terms; caller = p.caller; changes = p.changes; last = Some (word, found); steps = steps }

-- a pass became another by steps of which the last one found the word with this number; else it stayed
abbrev pub LookedAt : PassSeen → PassSeen → ℕ → ℕ → Type 0
LookedAt p q word number = (found : ℕ) × (number ≡ number_of found) × (p.steps < q.steps) × (q ≡ with_look q.steps p word found)

-- P of the payload found, where the ticket was served, and of the number seen, where it was not yet its turn
abbrev pub IfDone : Served → (ℕ → Type 0) → Type 0
IfDone (Done old) P = P old
IfDone (NotYet seen) P = Unit {0}

abbrev pub IfNotYet : Served → (ℕ → Type 0) → Type 0
IfNotYet (Done old) P = Unit {0}
IfNotYet (NotYet seen) P = P seen

-- the pass of a caller that has done nothing yet
abbrev pub fresh : TableId → Terms → ℕ → PassSeen
fresh table terms caller = record { table = table; terms = terms; caller = caller; changes = []; last = None; steps = 0 }

-- those of `count` callers from `first` on
abbrev pub fresh_from : TableId → Terms → ℕ → ℕ → List PassSeen
fresh_from table terms first count = map (fresh table terms) (range_with_len first count)

-- one pass for each caller
abbrev pub AreFresh : TableSeen → List PassSeen → Type 0
AreFresh t ps = ps ≡ fresh_from t.table t.basis.terms 0 t.basis.terms.callers

-- all are passes of this table, and no caller has two
pub record ArePasses (table : TableId) (ps : List PassSeen) : Type 0 where
  pub same : (place : ℕ) (p : PassSeen) → slice_get ps place ≡ Some p → p.table ≡ table
  pub apart : (i j : ℕ) (p q : PassSeen) → slice_get ps i ≡ Some p → slice_get ps j ≡ Some q → p.caller ≡ q.caller → i ≡ j

-- a history of the table that leaves these words, and in which each pass has its changes
pub record Closes (basis : Basis) (ps : List PassSeen) (words : List ℕ) (changes : List Change) : Type 0 where
  pub history : IsHistory basis changes
  pub leaves : Leaves basis changes words
  pub callers : (place : ℕ) (p : PassSeen) → slice_get ps place ≡ Some p → p.caller < basis.terms.callers
  pub lists : (place : ℕ) (p : PassSeen) → slice_get ps place ≡ Some p → of_caller p.caller changes ≡ p.changes
