-- The seat of one caller, which has looked at a word, may exchange it for what the caller's change leaves.
use Rattle.std.proofs.Common.{◌≡◌, ℕ, ◌+◌, ◌<◌, Bool, true, false, ◌||◌, List, length, eqb, refl, sym, ap, subst, ◌∙◌, eq-eqb}
use mathlib.Core.Option.{some}
use prog.Atomic.{either}
use Rattle.atomic_table.specs.Table.{Me, step, Allows}
use Rattle.rv_execute.specs.declared.op.Op.{Op}
use Rattle.ticket_table.specs.declared.change.Role.{Role}
use Rattle.ticket_table.specs.declared.change.Role.TheVariants.{Serve}
use Rattle.ticket_table.specs.declared.change.Change.{Change}
use Rattle.ticket_table.specs.declared.change.View.{View}
use Rattle.ticket_table.specs.declared.change.Note.{Note}
use Rattle.ticket_table.specs.Words.{number_of, payload_of, packed}
use Rattle.ticket_table.specs.History.{Basis, has_spent, left_by}
use Rattle.ticket_table.specs.Views.{has, IsAlone, looked, looked_at}
use Rattle.ticket_table.specs.Rule.{Kept, Exchanged}
use Rattle.ticket_table.proofs.Changing.{Asks, exchanges}

-- the one caller of a seat is among its callers
pub has_alone : (v : View) (caller : ℕ) → IsAlone v caller → has v.callers caller ≡ true
has_alone v caller alone =
    ap (λ (callers : List ℕ). has callers caller) alone.callers ∙ ap (λ (b : Bool). b || false) (eq-eqb caller caller refl)

-- no server is spent
pub serves_on : (role : Role) (limit : ℕ) (changes : List Change) → role ≡ Serve → has_spent role limit changes ≡ false
serves_on role limit changes serve = ap (λ (r : Role). has_spent r limit changes) serve

pub asks_after_look : (v : View) (steps word seen new second : ℕ) (note : Note) → IsAlone v note.caller → has_spent v.terms.role v.terms.limit v.mine ≡ false
    → number_of seen < v.terms.limit + v.terms.callers → new ≡ left_by v.terms.role v.terms.limit note.op (number_of seen) (payload_of seen) → new < 4294967296
    → second ≡ packed (number_of seen + 1) new → Asks (looked_at steps v word seen) word seen second note
asks_after_look v steps word seen new second note alone unspent below is small written =
    record {
      live = alone.live;
      caller = has_alone v note.caller alone;
      last = refl;
      below = below;
      unspent = ap (λ (changes : List Change). has_spent v.terms.role v.terms.limit changes) alone.own ∙ unspent;
      small = (let P : ℕ → Type 0 = λ n. n < 4294967296 in subst P is small);
      written = written ∙ ap (λ (n : ℕ). packed (number_of seen + 1) n) is;
    }

-- what is left, of equal parts
pub left_alike : (role other_role : Role) (limit other_limit : ℕ) (op : Op) (number other_number old other_old new : ℕ) → role ≡ other_role → limit ≡ other_limit → number ≡ other_number → old ≡ other_old → new ≡ left_by role limit op number old
    → new ≡ left_by other_role other_limit op other_number other_old
left_alike role other_role limit other_limit op number other_number old other_old new r l n p is = is ∙ (λ i. left_by (r i) (l i) op (n i) (p i))

-- the same of the seat as it is, where it is as it was but for the look
pub exchanges_after_look : (basis : Basis) (slots id word : ℕ) (me old_me : Me Note View) (seen new second : ℕ) (note : Note) → word < length basis.first
    → me ≡ (looked_at me.0.steps old_me.0 word seen, old_me.1) → IsAlone old_me.0 note.caller → has_spent old_me.0.terms.role old_me.0.terms.limit old_me.0.mine ≡ false
    → number_of seen < old_me.0.terms.limit + old_me.0.terms.callers → new ≡ left_by old_me.0.terms.role old_me.0.terms.limit note.op (number_of seen) (payload_of seen) → new < 4294967296
    → second ≡ packed (number_of seen + 1) new → Allows (Kept basis) slots id me word (λ n. either (eqb n seen) second n) (Exchanged (step slots word seen second (some note)) me)
exchanges_after_look basis slots id word me old_me seen new second note within look alone unspent below is small written =
    let P : Me Note View → Type 0 = λ m. Allows (Kept basis) slots id m word (λ n. either (eqb n seen) second n) (Exchanged (step slots word seen second (some note)) m) in
    subst P (sym look) (exchanges basis slots id word (looked_at me.0.steps old_me.0 word seen, old_me.1) seen second note within
    (asks_after_look old_me.0 me.0.steps word seen new second note alone unspent below is small written))

-- a look, by the steps after it
pub look_as_is : (me old_me : Me Note View) (word seen : ℕ) → me ≡ (looked old_me.0 word seen, old_me.1) → me ≡ (looked_at me.0.steps old_me.0 word seen, old_me.1)
look_as_is me old_me word seen look =
    let with_steps : ℕ → Me Note View = λ steps. (looked_at steps old_me.0 word seen, old_me.1) in
    look ∙ ap with_steps (sym (ap (λ (m : Me Note View). m.0.steps) look))
