-- Proof form: what a seat of the table knows, and how a step, a split and a join change it.
use Rattle.std.specs.Prelude.{◌≡◌, ℕ, ◌+◌, ◌==◌, Bool, true, false, List, [], ◌∷◌, ◌++◌, slice_index, Some, None}
use Rattle.std.specs.List.{list_any, range_with_len}
use Rattle.ticket_table.specs.declared.change.Role.TheVariants.{Draw}
use Rattle.ticket_table.specs.declared.change.Terms.{Terms}
use Rattle.ticket_table.specs.declared.change.Change.{Change}
use Rattle.ticket_table.specs.declared.change.View.{View}
use Rattle.ticket_table.specs.Words.{packed}
use Rattle.ticket_table.specs.History.{Basis, of_caller}

-- whether a caller is among these
abbrev pub has : List ℕ → ℕ → Bool
has callers caller = list_any (λ c. c == caller) callers

-- the first of the callers that it stands for
abbrev pub first_caller : View → ℕ
first_caller v = slice_index v.callers 0

-- it stands for one caller, and all its changes are that caller's
pub record IsAlone (v : View) (caller : ℕ) : Type 0 where
  pub live : v.live ≡ true
  pub callers : v.callers ≡ caller ∷ []
  pub own : of_caller caller v.mine ≡ v.mine

-- `count` callers from `first` on, with no change yet
abbrev pub stock : Terms → ℕ → ℕ → View
stock terms first count = record { live = true; terms = terms; callers = range_with_len first count; mine = []; last = None; steps = 0 }

-- the first view of a table, which stands for all callers
abbrev pub opened : Basis → View
opened basis = stock basis.terms 0 basis.terms.callers

-- nobody, which is what a view leaves that was joined into another
abbrev pub nobody : View
nobody = record { live = false; terms = record { role = Draw; limit = 0; callers = 0 }; callers = []; mine = []; last = None; steps = 0 }

-- after a look at a word
abbrev pub looked_at : ℕ → View → ℕ → ℕ → View
looked_at steps v word found = record { live = v.live; terms = v.terms; callers = v.callers; mine = v.mine; last = Some (word, found); steps = steps }

abbrev pub looked : View → ℕ → ℕ → View
looked v word found = looked_at (v.steps + 1) v word found

-- after a change of a word
abbrev pub grown_at : ℕ → View → Change → View
grown_at steps v e = record { live = v.live; terms = v.terms; callers = v.callers; mine = v.mine ++ e ∷ []; last = Some (e.word, packed (e.number + 1) e.new); steps = steps }

abbrev pub grown : View → Change → View
grown v e = grown_at (v.steps + 1) v e

-- all callers but the first
abbrev pub rest_of : List ℕ → List ℕ
rest_of [] = []
rest_of (c ∷ cs) = cs

-- the first caller alone
abbrev pub head_of : List ℕ → List ℕ
head_of [] = []
head_of (c ∷ cs) = c ∷ []

-- a view without its first caller, and the view of that caller, which has no change yet
abbrev pub without_first : View → View
without_first v = record { live = v.live; terms = v.terms; callers = rest_of v.callers; mine = v.mine; last = v.last; steps = v.steps }

abbrev pub first_alone : View → View
first_alone v = record { live = v.live; terms = v.terms; callers = head_of v.callers; mine = []; last = None; steps = 0 }

-- two views in one
abbrev pub together : View → View → View
together v w = record { live = v.live; terms = v.terms; callers = v.callers ++ w.callers; mine = v.mine ++ w.mine; last = v.last; steps = v.steps }
