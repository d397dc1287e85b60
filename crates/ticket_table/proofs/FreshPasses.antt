-- The seat of the callers that have no pass yet, and the next caller's.
use Rattle.std.proofs.Common.{◌≡◌, ℕ, zero, suc, ◌+◌, ◌<◌, false, List, [], ◌∷◌, ◌++◌, None, refl, sym, ap, subst, ◌∙◌, arith, append_assoc}
use Rattle.atomic_table.specs.Table.{Me, Splits}
use Rattle.atomic_table.specs.Seated.{TableId}
use Rattle.ticket_table.specs.declared.change.Role.{Role}
use Rattle.ticket_table.specs.declared.change.Role.TheVariants.{Draw, Serve}
use Rattle.ticket_table.specs.declared.change.Terms.{Terms}
use Rattle.ticket_table.specs.declared.change.View.{View}
use Rattle.ticket_table.specs.declared.change.Note.{Note}
use Rattle.ticket_table.specs.History.{Basis, has_spent}
use Rattle.ticket_table.specs.Views.{IsAlone, stock, without_first, first_alone}
use Rattle.ticket_table.specs.Rule.{Kept}
use Rattle.ticket_table.specs.Passes.{PassSeen, fresh_from}
use Rattle.ticket_table.proofs.Sharing.{splits_stock}

-- who has no change is not spent
pub none_spent : (role : Role) (limit : ℕ) → has_spent role limit [] ≡ false
none_spent Draw limit = refl
none_spent Serve limit = refl

pub splits_first : (basis : Basis) (id : ℕ) (v : View) (terms : Terms) (caller rest : ℕ) → 0 < rest → v ≡ stock terms caller rest → Splits (Kept basis) id v (without_first v) (first_alone v)
splits_first basis id v terms caller zero some is = absurd (omega arith)
splits_first basis id v terms caller (suc rest) some is =
    let P : View → Type 0 = λ u. Splits (Kept basis) id u (without_first u) (first_alone u) in
    subst P (sym is) (splits_stock basis id terms caller rest)

pub first_stands_alone : (v : View) (terms : Terms) (caller rest : ℕ) → 0 < rest → v ≡ stock terms caller rest → first_alone v ≡ stock terms caller 1
first_stands_alone v terms caller zero some is = absurd (omega arith)
first_stands_alone v terms caller (suc rest) some is = ap first_alone is

pub is_alone : (v : View) (terms : Terms) (caller : ℕ) → v ≡ stock terms caller 1 → IsAlone v caller
is_alone v terms caller is =
    let P : View → Type 0 = λ u. IsAlone u caller in
    subst P (sym is) (record { live = refl; callers = refl; own = refl })

pub not_spent : (v : View) (terms : Terms) (caller : ℕ) → v ≡ stock terms caller 1 → false ≡ has_spent v.terms.role v.terms.limit v.mine
not_spent v terms caller is = sym (ap (λ (u : View). has_spent u.terms.role u.terms.limit u.mine) is ∙ none_spent terms.role terms.limit)

-- the pass of such a seat is fresh
pub pass_is : (found table : TableId) (v : View) (terms : Terms) (caller : ℕ) → found ≡ table → v ≡ stock terms caller 1
    → ◌≡◌ {A = PassSeen} (record { table = found; terms = v.terms; caller = caller; changes = v.mine; last = v.last; steps = v.steps })
    (record { table = table; terms = terms; caller = caller; changes = []; last = None; steps = 0 })
pass_is found table v terms caller same is = λ i. record { table = same i; terms = (is i).terms; caller = caller; changes = (is i).mine; last = (is i).last; steps = (is i).steps }

-- what a deal has so far: `rest` callers are still without a pass, and the seat stands for them
pub record Dealt (table : TableId) (terms : Terms) (callers caller : ℕ) (me : Me Note View) (passes : List PassSeen) : Type 0 where
  pub rest : ℕ
  pub count : caller + rest ≡ callers
  pub stands : me ≡ (stock terms caller rest, [])
  pub dealt : passes ++ fresh_from table terms caller rest ≡ fresh_from table terms 0 callers

-- one more pass
pub deals : (table : TableId) (terms : Terms) (callers caller : ℕ) (me : Me Note View) (passes : List PassSeen) (p : PassSeen) → caller < callers → Dealt table terms callers caller me passes
    → p ≡ record { table = table; terms = terms; caller = caller; changes = []; last = None; steps = 0 }
    → (next : Me Note View) → next ≡ (without_first me.0, me.1) → Dealt table terms callers (caller + 1) next (passes ++ p ∷ [])
deals table terms callers caller me passes p below so_far is next after = by so_far.rest so_far.count so_far.stands so_far.dealt
  where
    by : (rest : ℕ) → caller + rest ≡ callers → me ≡ (stock terms caller rest, []) → passes ++ fresh_from table terms caller rest ≡ fresh_from table terms 0 callers
        → Dealt table terms callers (caller + 1) next (passes ++ p ∷ [])
    by zero count stands dealt = absurd (omega arith)
    by (suc rest) count stands dealt =
        let without : Me Note View → Me Note View = λ m. (without_first m.0, m.1) in
        let stood : next ≡ (stock terms (caller + 1) rest, []) = after ∙ ap without stands in
        let P : PassSeen → Type 0 = λ q. (passes ++ q ∷ []) ++ fresh_from table terms (caller + 1) rest ≡ fresh_from table terms 0 callers in
        let all : (passes ++ p ∷ []) ++ fresh_from table terms (caller + 1) rest ≡ fresh_from table terms 0 callers =
        subst P (sym is) (append_assoc passes (record { table = table; terms = terms; caller = caller; changes = []; last = None; steps = 0 } ∷ []) (fresh_from table terms (caller + 1) rest) ∙ dealt) in
        record { rest = rest; count = omega arith; stands = stood; dealt = all }
