-- Proof form: what a seat knows that others were joined into.
use Rattle.std.specs.Prelude.{◌≡◌, ◌≢◌, ℕ, ◌≤◌, true, List, [], slice_get, Some}
use Rattle.ticket_table.specs.declared.change.View.{View}
use Rattle.ticket_table.specs.History.{of_caller}
use Rattle.ticket_table.specs.Views.{has}
use Rattle.ticket_table.specs.Passes.{PassSeen}

-- it is live, and has the callers of the passes from this place on, each with its changes, and no change of another caller
pub record HasFrom (first : ℕ) (ps : List PassSeen) (v : View) : Type 0 where
  pub live : v.live ≡ true
  pub callers : (place : ℕ) (p : PassSeen) → first ≤ place → slice_get ps place ≡ Some p → has v.callers p.caller ≡ true
  pub lists : (place : ℕ) (p : PassSeen) → first ≤ place → slice_get ps place ≡ Some p → of_caller p.caller v.mine ≡ p.changes
  pub only : (caller : ℕ) → ((place : ℕ) (p : PassSeen) → first ≤ place → slice_get ps place ≡ Some p → p.caller ≢ caller) → of_caller caller v.mine ≡ []
