-- A count of a read keeps the rule: it adds a change to the history that leaves the payload.
use Rattle.std.proofs.Common.{◌≡◌, ℕ, ◌+◌, ◌^◌, ◌%◌, ◌<◌, ◌≤◌, Bool, true, false, ltb, cond, List, [], ◌∷◌, ◌++◌, length, get_or, set, refl, sym, ap, subst, ◌∙◌, arith}
use mathlib.Core.Option.{none}
use Rattle.atomic_table.specs.Table.{Me, step, keeps, Allows}
use Rattle.rv_execute.specs.declared.op.Op.TheVariants.{Read}
use Rattle.ticket_table.specs.declared.change.Role.{Role}
use Rattle.ticket_table.specs.declared.change.Role.TheVariants.{Draw, Serve}
use Rattle.ticket_table.specs.declared.change.Change.{Change}
use Rattle.ticket_table.specs.declared.change.View.{View}
use Rattle.ticket_table.specs.declared.change.Note.{Note}
use Rattle.ticket_table.specs.Words.{number_of, payload_of, packed}
use Rattle.ticket_table.specs.History.{Basis, MayFollow, has_spent, left_by, made, Follows}
use Rattle.ticket_table.specs.Views.{IsAlone, first_caller, grown}
use Rattle.ticket_table.specs.Rule.{KeptBy, Kept, Counted}
use Rattle.ticket_table.proofs.Asking.{has_alone}
use Rattle.ticket_table.proofs.Keeps.{below_here}
use Rattle.ticket_table.proofs.Changing.{may_follow, grown_kept, grown_follows}

-- a read leaves the payload, drawn below the limit or not
read_leaves : (role : Role) (limit number old : ℕ) → left_by role limit Read number old ≡ old
read_leaves Draw limit number old = by (ltb number limit)
  where
    by : (b : Bool) → cond b old old ≡ old
    by true = refl
    by false = refl
read_leaves Serve limit number old = refl

-- one more in the upper half
counted_up : (x : ℕ) → number_of x + 1 < 4294967296 → (x + 4294967296) % 2 ^ 64 ≡ packed (number_of x + 1) (payload_of x)
counted_up x small = omega arith

pub counts : (basis : Basis) (slots id word : ℕ) (me : Me Note View) → word < length basis.first → IsAlone me.0 (first_caller me.0) → me.0.terms.role ≡ Draw
    → me.0.terms.limit + me.0.terms.callers ≤ 4294967294 → has_spent me.0.terms.role me.0.terms.limit me.0.mine ≡ false
    → Allows (Kept basis) slots id me word (λ n. (n + 4294967296) % 2 ^ 64) (Counted (step slots word 4294967296 0 none) me)
counts basis slots id word me within alone draw room unspent s kept homes at small =
    let v : View = me.0 in
    let caller : ℕ = first_caller v in
    let x : ℕ = get_or s.words word 0 in
    let e : Change = made v.terms caller word (number_of x) Read (payload_of x) in
    let mine = has_alone v caller alone in
    let quiet = ap (λ (xs : List Change). has_spent v.terms.role v.terms.limit xs) alone.own ∙ unspent in
    let below : number_of x < v.terms.limit + v.terms.callers = below_here basis s.words s.views kept.0 id word v kept.1 at within caller alone.live draw mine quiet in
    let may : MayFollow basis kept.0 e = may_follow basis s.words s.views kept.0 id v kept.1 at word (record { caller = caller; op = Read }) within alone.live mine below quiet in
    let stays : e.new ≡ payload_of x = read_leaves v.terms.role v.terms.limit (number_of x) (payload_of x) in
    let fits : e.new < 4294967296 = omega arith in
    let written : (x + 4294967296) % 2 ^ 64 ≡ packed (e.number + 1) e.new = counted_up x (omega arith) ∙ ap (λ (n : ℕ). packed (number_of x + 1) n) (sym stays) in
    let P : ℕ → Type 0 = λ y. KeptBy basis (set s.words word y) (set s.views id (grown v e)) (kept.0 ++ e ∷ []) in
    let F : List Change → Type 0 = λ xs. Follows xs e in (
      grown v e,
      keeps,
      tt,
      (kept.0 ++ e ∷ [], subst P (sym written) (grown_kept basis s.words s.views kept.0 id v kept.1 at e may mine fits)),
      (refl, subst F alone.own (grown_follows basis s.words s.views kept.0 id v kept.1 at e may mine fits), below),
    )
