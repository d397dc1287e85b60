-- The changes of all cores in a history of the memory: those of the output's word are claims, and not too long together.
use Rattle.std.proofs.Common.{◌≡◌, ◌≢◌, ◌⊎◌, ℕ, zero, suc, ◌*◌, ◌<◌, ◌≤◌, List, [], ◌∷◌, ◌++◌, map, slice_index, refl, sym, ap, ◌∙◌, subst, inl, inr, arith}
use Rattle.std.specs.List.{AllByRecursion, range_with_len}
use Rattle.std.proofs.Math.Nat.{suc-mul}
use Rattle.std.proofs.lemmas.Bool.{cases_eq}
use Rattle.std.proofs.lemmas.List.{get_or-map}
use Rattle.std.proofs.lemmas.List.FromFn.{get_or-range_with_len, length-range_with_len}
use Rattle.std.proofs.lemmas.List.Elements.{recursion_from_All}
use Rattle.elf_image.specs.Layout.{Layout, first_word, first_words, words_of}
use Rattle.ticket_table.specs.declared.change.Change.{Change}
use Rattle.ticket_table.specs.History.{Basis, MayFollow, IsHistory, of_caller}
use Rattle.ticket_table.specs.Passes.{TableSeen}
use Rattle.ticket_table.proofs.Histories.{by_steps, of_caller_same, of_caller_other}
use Rattle.syscall_drain.specs.Locals.{opening_local}
use Rattle.syscall_drain.specs.Pieces.{Piece}
use Rattle.machine.specs.Setups.{Setup}
use Rattle.actor_lists.specs.Walked.{SaysSpent}
use Rattle.live_run.specs.Assembled.{CoreLeft, IsCoreLeft}
use Rattle.live_run.proofs.Spans.{total, all_append, all_split}
use Rattle.live_run.proofs.Claiming.{spans, IsClaim, piece_span, run_claims, opening_sound, claims_short}
use Rattle.live_run.proofs.Spacing.{sum_below}

-- the claims of one core
pub record AreClaimsOf (s : Setup) (limit : ℕ) (drawn : List Change) (pieces : List Piece) : Type 0 where
  pub same : map piece_span pieces ≡ spans limit drawn
  pub claims : AllByRecursion IsClaim drawn
  pub few : total (spans limit drawn) ≤ 4 * s.budget

pub core_claims : (s : Setup) (memory tags : TableSeen) (core : ℕ) (drawn served : List Change) (left : CoreLeft) → 1 ≤ s.budget → IsCoreLeft s memory tags core drawn served left
    → AreClaimsOf s memory.basis.terms.limit drawn left.claims
core_claims s memory tags core drawn served left some is =
    let run = is.run in
    let made = run_claims memory.basis.terms core s.program s.budget (opening_local s.program core) is.answers (opening_sound s.program core) run.run (recursion_from_All (SaysSpent memory.basis.terms.limit) is.answers run.told) in
    let same : map piece_span left.claims ≡ spans memory.basis.terms.limit drawn = ap (map piece_span) run.claims_are ∙ made.spans_are ∙ sym (ap (spans memory.basis.terms.limit) run.drawn_is) in
    let short = claims_short s.program s.budget core is.answers some run.run in
    record {
      same = same;
      claims = rw run.drawn_is made.claims;
      few = omega (arith, short, ap total (sym (ap (map piece_span) run.claims_are) ∙ same));
    }

-- what holds of the changes of each caller holds of all
pub all_changes : (basis : Basis) (P : Change → Type 0) (h : List Change) → IsHistory basis h → ((c : ℕ) → c < basis.terms.callers → AllByRecursion P (of_caller c h)) → AllByRecursion P h
all_changes basis P = by_steps basis (λ h. ((c : ℕ) → c < basis.terms.callers → AllByRecursion P (of_caller c h)) → AllByRecursion P h) (λ each. tt) step
  where
    step : (h : List Change) (e : Change) → IsHistory basis h → MayFollow basis h e → (((c : ℕ) → c < basis.terms.callers → AllByRecursion P (of_caller c h)) → AllByRecursion P h)
        → ((c : ℕ) → c < basis.terms.callers → AllByRecursion P (of_caller c (h ++ e ∷ []))) → AllByRecursion P (h ++ e ∷ [])
    step h e history next so_far each =
        let own = all_split P (of_caller e.caller h) (e ∷ []) (subst (AllByRecursion P) (of_caller_same e.caller h e refl) (each e.caller next.caller)) in
        all_append P h (e ∷ []) (so_far (λ c below. before c below (cases_eq e.caller c))) own.1
      where
        before : (c : ℕ) → c < basis.terms.callers → (e.caller ≡ c) ⊎ (e.caller ≢ c) → AllByRecursion P (of_caller c h)
        before c below (inl same) = (all_split P (of_caller c h) (e ∷ []) (subst (AllByRecursion P) (of_caller_same c h e same) (each c below))).0
        before c below (inr other) = subst (AllByRecursion P) (of_caller_other c h e other) (each c below)

-- a sum of numbers that are no greater than a bound
pub sum_few : (f : ℕ → ℕ) (n most : ℕ) → ((c : ℕ) → c < n → f c ≤ most) → sum_below f n ≤ n * most
sum_few f zero most few = omega arith
sum_few f (suc n) most few = rw (suc-mul n most) (omega (arith, sum_few f n most (λ c below. few c (omega arith)), few n (omega arith)))

-- no output is there at first
pub output_empty : (layout : Layout) → 1 < words_of layout → slice_index (first_words layout) 1 ≡ 0
unfolding first_word
output_empty layout some =
    get_or-map (first_word layout) (range_with_len 0 (words_of layout)) 1 0 0 (omega (arith, length-range_with_len 0 (words_of layout), some))
    ∙ ap (first_word layout) (get_or-range_with_len 0 (words_of layout) 1 0 some)

pub enough_words : (layout : Layout) → 1 < words_of layout
unfolding words_of
enough_words layout = omega arith
