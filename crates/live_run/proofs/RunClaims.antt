-- What the claims of all cores are, once the tables of a run are closed.
use Rattle.std.proofs.Common.{◌≡◌, ℕ, zero, suc, ◌*◌, ◌<◌, ◌≤◌, Some, List, [], ◌∷◌, map, length, slice_get, slice_index, refl, sym, ap, ◌∙◌, subst, arith}
use Rattle.std.specs.List.{AllByRecursion}
use Rattle.std.proofs.lemmas.List.{length-map}
use Rattle.std.proofs.Math.Nat.{suc-mul}
use Rattle.elf_image.specs.declared.device.TheConstants.{OUTPUT_WORD}
use Rattle.elf_image.specs.Layout.{words_of}
use Rattle.bounded_list.specs.Bounded.{Bounded}
use Rattle.ticket_table.specs.declared.change.Role.TheVariants.{Draw}
use Rattle.ticket_table.specs.declared.change.Change.{Change}
use Rattle.ticket_table.specs.Words.{payload_of}
use Rattle.ticket_table.specs.History.{Basis, of_caller}
use Rattle.ticket_table.specs.Passes.{PassSeen, TableSeen, Closes}
use Rattle.ticket_table.specs.Calls.{MayClose}
use Rattle.elf_image.proofs.FirstWords.{first_words_count}
use Rattle.syscall_drain.specs.Pieces.{Piece}
use Rattle.machine.specs.Setups.{Setup, core_count}
use Rattle.live_run.specs.declared.pair.Pair.{Pair}
use Rattle.live_run.specs.declared.ends.Ends.{Ends}
use Rattle.live_run.specs.declared.pair.Claims.{Claims}
use Rattle.live_run.specs.Pairs.{IsPassAt, left_in_pair}
use Rattle.live_run.specs.Laying.{AreApart, pieces_in, pieces_of, AreLayable}
use Rattle.live_run.specs.Closing.{AreReady}
use Rattle.live_run.proofs.Claiming.{IsClaim, piece_span}
use Rattle.live_run.proofs.Spacing.{left, claimed, all_claimed, IsSpaced, spaced, claimed_total}
use Rattle.live_run.proofs.CoreClaims.{AreClaimsOf, core_claims, all_changes, sum_few, output_empty, enough_words}
use Rattle.live_run.proofs.PiecesApart.{within_by, pieces_apart}

-- ---- lists made place by place

pub record IsMadeOf {A B : Type 0} (f : A → B) (xs : List A) (place : ℕ) (y : B) : Type 0 where
  pub item : A
  pub here : slice_get xs place ≡ Some item
  pub made : y ≡ f item

pub found_map : {A B : Type 0} (f : A → B) (xs : List A) (place : ℕ) (y : B) → slice_get (map f xs) place ≡ Some y → IsMadeOf f xs place y
found_map f [] place y e = absurd (cc)
found_map f (x ∷ xs) zero y e = record { item = x; here = refl; made = cc }
found_map f (x ∷ xs) (suc place) y e = let found = found_map f xs place y e in record { item = found.item; here = found.here; made = found.made }

pub here_map : {A B : Type 0} (f : A → B) (xs : List A) (place : ℕ) (x : A) → slice_get xs place ≡ Some x → slice_get (map f xs) place ≡ Some (f x)
here_map f [] place x e = absurd (cc)
here_map f (y ∷ xs) zero x e = let same : y ≡ x = cc in ap (λ z. Some (f z)) same
here_map f (y ∷ xs) (suc place) x e = here_map f xs place x e

pub all_by_place : {A B : Type 0} (f : A → B) (P : B → Type 0) (xs : List A) → ((place : ℕ) (x : A) → slice_get xs place ≡ Some x → P (f x)) → AllByRecursion P (map f xs)
all_by_place f P [] each = tt
all_by_place f P (x ∷ xs) each = (each 0 x refl, all_by_place f P xs (λ place y at. each (suc place) y at))

pub some_at : {A : Type 0} (xs : List A) (place : ℕ) → place < length xs → (x : A) × (slice_get xs place ≡ Some x)
some_at [] place below = absurd (omega arith)
some_at (x ∷ xs) zero below = (x, refl)
some_at (x ∷ xs) (suc place) below = some_at xs place (omega arith)

four_times : (n b : ℕ) → n * (4 * b) ≡ 4 * (n * b)
four_times zero b = omega arith
four_times (suc n) b = rw (suc-mul n (4 * b), suc-mul n b) (omega (arith, four_times n b))

-- ---- passes

pub may_close : (table : TableSeen) (pass : Pair → PassSeen) (pairs : List Pair) → ((core : ℕ) (pair : Pair) → slice_get pairs core ≡ Some pair → IsPassAt table core (pass pair)) → length pairs ≡ table.basis.terms.callers
    → MayClose table (map pass pairs)
may_close table pass pairs at count = record {
  passes = record {
    same = λ place p here.
        let found = found_map pass pairs place p here in
        ap (λ (q : PassSeen). q.table) found.made ∙ (at place found.item found.here).of_table.0;
    apart = λ i j p q here there same.
        let first = found_map pass pairs i p here in
        let second = found_map pass pairs j q there in
        sym (at i first.item first.here).caller ∙ sym (ap (λ (r : PassSeen). r.caller) first.made) ∙ same ∙ ap (λ (r : PassSeen). r.caller) second.made ∙ (at j second.item second.here).caller;
  };
  all = length-map pairs pass ∙ count;
}

-- a pass has its core's changes of the history
pub changes_at : (table : TableSeen) (pass : Pair → PassSeen) (pairs : List Pair) (words : List ℕ) (history : List Change) → ((core : ℕ) (pair : Pair) → slice_get pairs core ≡ Some pair → IsPassAt table core (pass pair))
    → Closes table.basis (map pass pairs) words history → (core : ℕ) (pair : Pair) → slice_get pairs core ≡ Some pair → of_caller core history ≡ (pass pair).changes
changes_at table pass pairs words history at closes core pair here =
    ap (λ (c : ℕ). of_caller c history) (sym (at core pair here).caller) ∙ closes.lists core (pass pair) (here_map pass pairs core pair here)

-- ---- the memory of a run

module _ (s : Setup) (pairs : List Pair) (memory tags : TableSeen) (ends : Ends) (output : Bounded ℕ) (ready : AreReady s pairs memory tags ends output) where
  pub callers : memory.basis.terms.callers ≡ core_count s
  callers = ap (λ (b : Basis). b.terms.callers) (ready.tables).memory

  pub draws : memory.basis.terms.role ≡ Draw
  draws = ap (λ (b : Basis). b.terms.role) (ready.tables).memory

  pub empty : slice_index memory.basis.first OUTPUT_WORD ≡ 0
  empty = ap (λ (b : Basis). slice_index b.first 1) (ready.tables).memory ∙ output_empty s.program.layout (enough_words s.program.layout)

  pub drawn_at : (core : ℕ) (pair : Pair) → slice_get pairs core ≡ Some pair → IsPassAt memory core pair.drawn
  drawn_at core pair here = (ready.left core pair here).drawn

  served_at : (core : ℕ) (pair : Pair) → slice_get pairs core ≡ Some pair → IsPassAt tags core pair.served
  served_at core pair here = (ready.left core pair here).served

  -- the passes that come back close the tables
  drawn_are : (ps : List PassSeen) → ps ≡ ends.drawn.items → ps ≡ map (λ pair. pair.drawn) pairs
  drawn_are ps same = same ∙ ap (λ (e : Ends). e.drawn.items) ready.ends_are

  served_are : (ps : List PassSeen) → ps ≡ ends.served.items → ps ≡ map (λ pair. pair.served) pairs
  served_are ps same = same ∙ ap (λ (e : Ends). e.served.items) ready.ends_are

  pub memory_may_close : (ps : List PassSeen) → ps ≡ ends.drawn.items → MayClose memory ps
  memory_may_close ps same =
      rw (drawn_are ps same) (may_close memory (λ pair. pair.drawn) pairs drawn_at (ready.count ∙ sym callers))

  pub tags_may_close : (ps : List PassSeen) → ps ≡ ends.served.items → MayClose tags ps
  tags_may_close ps same =
      rw (served_are ps same) (may_close tags (λ pair. pair.served) pairs served_at (ready.count ∙ sym (ap (λ (b : Basis). b.terms.callers) (ready.tables).tags)))

  pub memory_closes : (ps : List PassSeen) → ps ≡ ends.drawn.items → (words : List ℕ) (history : List Change) → Closes memory.basis ps words history → Closes memory.basis (map (λ pair. pair.drawn) pairs) words history
  memory_closes ps same words history closes = subst (λ (passes : List PassSeen). Closes memory.basis passes words history) (drawn_are ps same) closes

  pub tags_close : (ps : List PassSeen) → ps ≡ ends.served.items → (words : List ℕ) (history : List Change) → Closes tags.basis ps words history → Closes tags.basis (map (λ pair. pair.served) pairs) words history
  tags_close ps same words history closes = subst (λ (passes : List PassSeen). Closes tags.basis passes words history) (served_are ps same) closes

  module _ (words : List ℕ) (history : List Change) (closes : Closes memory.basis (map (λ pair. pair.drawn) pairs) words history) where
    pub of_pair : (core : ℕ) (pair : Pair) → slice_get pairs core ≡ Some pair → of_caller core history ≡ pair.drawn.changes
    of_pair core pair here = changes_at memory (λ p. p.drawn) pairs words history drawn_at closes core pair here

    claims_at : (core : ℕ) (pair : Pair) → slice_get pairs core ≡ Some pair → AreClaimsOf s memory.basis.terms.limit (of_caller core history) (pieces_in pair.claims)
    claims_at core pair here =
        rw (of_pair core pair here) (core_claims s memory tags core pair.drawn.changes pair.served.changes (left_in_pair pair) (ready.setup).some_budget (ready.left core pair here).left)

    -- every caller is a core
    record HasClaims (core : ℕ) : Type 0 where
      pieces : List Piece
      are : AreClaimsOf s memory.basis.terms.limit (of_caller core history) pieces

    caller_claims : (core : ℕ) → core < memory.basis.terms.callers → HasClaims core
    caller_claims core below =
        let found = some_at pairs core (omega (arith, ready.count, callers, below)) in
        record { pieces = pieces_in (found.0).claims; are = claims_at core found.0 found.1 }

    few : all_claimed memory.basis draws history ≤ 4 * (core_count s * s.budget)
    few =
        let all : all_claimed memory.basis draws history ≤ memory.basis.terms.callers * (4 * s.budget) =
        sum_few (claimed_total memory.basis draws history) memory.basis.terms.callers (4 * s.budget) (λ core below. ((caller_claims core below).are).few) in
        let wide : all_claimed memory.basis draws history ≤ core_count s * (4 * s.budget) = subst (λ (n : ℕ). all_claimed memory.basis draws history ≤ n * (4 * s.budget)) callers all in
        rw (four_times (core_count s) s.budget) at wide

    pub are_spaced : IsSpaced memory.basis draws history
    are_spaced =
        spaced memory.basis draws empty history closes.history (all_changes memory.basis IsClaim history closes.history (λ core below. ((caller_claims core below).are).claims))
        (omega (arith, few, (ready.setup).most_units))

    -- ---- the output's word

    pub count_of_words : length words ≡ words_of s.program.layout
    count_of_words = (closes.leaves).count ∙ ap (λ (b : Basis). length b.first) (ready.tables).memory ∙ first_words_count s.program.layout

    pub word_within : 1 < length words
    word_within = omega (arith, count_of_words, enough_words s.program.layout)

    pub size_is : payload_of (slice_index words OUTPUT_WORD) ≡ left memory.basis draws history
    size_is = (closes.leaves).payloads OUTPUT_WORD word_within

    pub size_fits : payload_of (slice_index words OUTPUT_WORD) ≤ output.room
    size_fits = rw ready.room (omega (arith, size_is, are_spaced.size, few))

    pub are_layable : AllByRecursion (AreLayable (payload_of (slice_index words OUTPUT_WORD))) (map (λ pair. pair.claims) pairs)
    are_layable =
        rw size_is (all_by_place (λ (pair : Pair). pair.claims) (AreLayable (left memory.basis draws history)) pairs (λ core pair here. record {
          whole = (ready.left core pair here).whole;
          within = within_by (left memory.basis draws history) (pieces_in pair.claims) (rw (claims_at core pair here).same (are_spaced.ends core));
        }))

    pub are_apart : AreApart (pieces_of (map (λ pair. pair.claims) pairs))
    are_apart =
        pieces_apart (claimed memory.basis draws history) are_spaced.own are_spaced.others (map (λ pair. pair.claims) pairs)
        (λ core claims at.
        let found = found_map (λ (pair : Pair). pair.claims) pairs core claims at in
        ap (λ (c : Claims). map piece_span (pieces_in c)) found.made ∙ (claims_at core found.item found.here).same)
