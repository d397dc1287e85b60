-- What a call of a table asks of the pass that it comes with, and what it did to the pass (this project's own form).
use Rattle.std.specs.Prelude.{◌≡◌, ◌≢◌, ℕ, ◌+◌, ◌<◌, nat_le, false, List, length}
use Rattle.rv_execute.specs.declared.op.TheConstants.{MOST_NUMBERS}
use Rattle.rv_execute.specs.declared.op.Op.{Op}
use Rattle.rv_execute.specs.declared.op.Op.TheVariants.{Read}
use Rattle.rv_execute.specs.declared.op.Taken.{Taken}
use Rattle.ticket_table.specs.declared.change.Change.{Change}
use Rattle.ticket_table.specs.declared.served.Served.{Served}
use Rattle.ticket_table.specs.History.{Basis, Follows}
use Rattle.ticket_table.specs.Passes.{PassSeen, TableSeen, IsPassOf, is_spent, change_made, with_change, LookedAt, IfDone, IfNotYet, ArePasses, Closes}

-- a pass of the table, which is not spent, may draw a number of the word
pub record MayDraw (t : TableSeen) (p : PassSeen) (word : ℕ) : Type 0 where
  pub of_table : IsPassOf t p
  pub within : word < length t.basis.first
  pub unspent : is_spent p ≡ false

-- a pass of the table may ask for this number of the word
pub record MayServe (t : TableSeen) (p : PassSeen) (word number : ℕ) : Type 0 where
  pub of_table : IsPassOf t p
  pub within : word < length t.basis.first
  pub below : number < t.basis.terms.limit + t.basis.terms.callers

-- the passes of all callers may end the table
pub record MayClose (t : TableSeen) (ps : List PassSeen) : Type 0 where
  pub passes : ArePasses t.table ps
  pub all : length ps ≡ t.basis.terms.callers

-- the pass is the same caller's, at the same table
pub record IsSamePass (t : TableSeen) (before after : PassSeen) : Type 0 where
  pub of_table : IsPassOf t after
  pub caller : after.caller ≡ before.caller

-- the pass has made this one change, which follows its earlier ones
pub record HasChanged (before after : PassSeen) (word number : ℕ) (op : Op) (old : ℕ) : Type 0 where
  pub change : after ≡ with_change after.steps before (change_made before word number op old)
  pub follows : Follows before.changes (change_made before word number op old)
  pub steps : before.steps < after.steps

-- the pass has drawn the word's next number and changed the word, by a single step where it only read
pub record HasDrawn (t : TableSeen) (before after : PassSeen) (word : ℕ) (op : Op) (taken : Taken) : Type 0 where
  pub same : IsSamePass t before after
  pub changed : HasChanged before after word taken.number op taken.old
  pub read : op ≡ Read → after.steps ≡ before.steps + 1
  pub spent : taken.spent ≡ nat_le t.basis.terms.limit taken.number
  pub spends : is_spent after ≡ taken.spent
  pub below : taken.number < t.basis.terms.limit + t.basis.terms.callers
  pub small : taken.number < MOST_NUMBERS

-- the pass has changed the word at this number, or one of its steps found the word at another number and it changed nothing
pub record HasServed (t : TableSeen) (before after : PassSeen) (word number : ℕ) (op : Op) (served : Served) : Type 0 where
  pub same : IsSamePass t before after
  pub done : IfDone served (λ old. HasChanged before after word number op old)
  pub not_yet : IfNotYet served (λ seen. (seen ≢ number) × LookedAt before after word seen)

-- one history of all changes leaves these words
abbrev pub IsClosed : Basis → List PassSeen → List ℕ → Type 0
IsClosed basis ps words = (changes : List Change) × Closes basis ps words changes
