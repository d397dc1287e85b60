-- In a history of the memory no two claims on the output have a byte in common, and together they are as long as its word says.
use Rattle.std.proofs.Common.{◌≡◌, ◌≢◌, ◌⊎◌, ℕ, zero, suc, ◌+◌, ◌<◌, Bool, true, false, ◌==◌, nat_lt, List, [], ◌∷◌, ◌++◌, refl, sym, ap, ◌∙◌, subst, inl, inr, ⊎_elim, arith, append-nil}
use Rattle.std.specs.Prelude.{slice_index}
use Rattle.std.specs.List.{AllByRecursion}
use Rattle.std.proofs.lemmas.Bool.{cases_eq}
use Rattle.std.proofs.lemmas.Bool.Decides.{nat_tests}
use Rattle.elf_image.specs.declared.device.TheConstants.{OUTPUT_WORD}
use Rattle.rv_execute.specs.declared.op.Op.{Op}
use Rattle.rv_execute.specs.Words.{wrapped}
use Rattle.rv_execute.specs.Payloads.{changed}
use Rattle.ticket_table.specs.declared.change.Role.{Role}
use Rattle.ticket_table.specs.declared.change.Role.TheVariants.{Draw}
use Rattle.ticket_table.specs.declared.change.Change.{Change}
use Rattle.ticket_table.specs.History.{Basis, MayFollow, IsHistory, of_caller, left_at, left_by}
use Rattle.ticket_table.proofs.Histories.{by_steps, left_at_same, left_at_other, of_caller_same, of_caller_other}
use Rattle.live_run.proofs.Claiming.{placed_length, span_of, spans, IsClaim, spans_append}
use Rattle.live_run.proofs.Spans.{total, total_append, EndsBy, BeginsAt, AllApart, EachApart, all_split, all_append, ends_later, begun_ends, all_apart_sym, apart_left, apart_right, each_append, ended_apart}

-- ---- sums over callers

abbrev pub sum_below : (ℕ → ℕ) → ℕ → ℕ
sum_below f zero = 0
sum_below f (suc n) = sum_below f n + f n

sum_same : (f g : ℕ → ℕ) (n : ℕ) → ((c : ℕ) → c < n → g c ≡ f c) → sum_below g n ≡ sum_below f n
sum_same f g zero same = refl
sum_same f g (suc n) same = omega (arith, sum_same f g n (λ c below. same c (omega arith)), same n (omega arith))

sum_more : (f g : ℕ → ℕ) (place n more : ℕ) → place < n → g place ≡ f place + more → ((c : ℕ) → place ≢ c → g c ≡ f c) → sum_below g n ≡ sum_below f n + more
sum_more f g place zero more below here other = absurd (omega arith)
sum_more f g place (suc n) more below here other =
    elim (cases_eq place n) [
      | inl last ↦
          let end : g n ≡ f n + more = subst (λ (c : ℕ). g c ≡ f c + more) last here in
          omega (arith, sum_same f g n (λ c less. other c (λ e. absurd (omega (arith, e, last, less)))), end)
      | inr apart ↦ omega (arith, sum_more f g place n more (omega (arith, apart, below)) here other, other n apart)
    ]

-- ---- a change of the output's word

module _ (basis : Basis) (draws : basis.terms.role ≡ Draw) where
  abbrev pub left : List Change → ℕ
  left h = left_at (slice_index basis.first OUTPUT_WORD) OUTPUT_WORD h

  abbrev pub claimed : List Change → ℕ → List (ℕ × ℕ)
  claimed h c = spans basis.terms.limit (of_caller c h)

  abbrev pub claimed_total : List Change → ℕ → ℕ
  claimed_total h c = total (claimed h c)

  abbrev pub all_claimed : List Change → ℕ
  all_claimed h = sum_below (claimed_total h) basis.terms.callers

  -- what it claims begins where the output ends, which moves on by its length
  record Grows (h : List Change) (e : Change) : Type 0 where
    more : left (h ++ e ∷ []) ≡ left h + total (span_of basis.terms.limit e)
    begins : AllByRecursion (BeginsAt (left h)) (span_of basis.terms.limit e)
    alone : EachApart (span_of basis.terms.limit e)

  elsewhere : (h : List Change) (e : Change) → e.word ≢ OUTPUT_WORD → Grows h e
  elsewhere h e other =
      let test : (e.word == OUTPUT_WORD) ≡ false = grind (arith, nat_tests) in
      record {
        more = rw test (left_at_other (slice_index basis.first OUTPUT_WORD) OUTPUT_WORD h e other ∙ omega arith);
        begins = rw test tt;
        alone = rw test tt;
      }

  here : (h : List Change) (e : Change) → MayFollow basis h e → IsClaim e → e.word ≡ OUTPUT_WORD → left h + total (span_of basis.terms.limit e) < 4294967296
      → (b : Bool) → nat_lt e.number basis.terms.limit ≡ b → Grows h e
  here h e next claim same room b within =
      let test : (e.word == OUTPUT_WORD) ≡ true = grind (arith, nat_tests) in
      let old : e.old ≡ left h = next.old ∙ ap (λ (w : ℕ). left_at (slice_index basis.first w) w h) same in
      let new : e.new ≡ left_by Draw basis.terms.limit e.op e.number e.old = next.new ∙ ap (λ (role : Role). left_by role basis.terms.limit e.op e.number e.old) draws in
      let last : left (h ++ e ∷ []) ≡ e.new = left_at_same (slice_index basis.first OUTPUT_WORD) OUTPUT_WORD h e same in
      by_limit b within test old (last ∙ new)
    where
      by_limit : (b : Bool) → nat_lt e.number basis.terms.limit ≡ b → (e.word == OUTPUT_WORD) ≡ true → e.old ≡ left h → left (h ++ e ∷ []) ≡ left_by Draw basis.terms.limit e.op e.number e.old → Grows h e
      by_limit true w test old now =
          let few : left h + (placed_length e.op + 0) < 4294967296 = rw (test, w) at room in
          let place : changed e.op e.number e.old ≡ wrapped (e.old + placed_length e.op) = ap (λ (op : Op). changed op e.number e.old) (claim same) in
          let moved : left (h ++ e ∷ []) ≡ wrapped (e.old + placed_length e.op) = (rw w at now) ∙ place in
          record {
            more = rw (test, w) (omega (arith, moved, old, few));
            begins = rw (test, w) (old, tt);
            alone = rw (test, w) (tt, tt);
          }
      by_limit false w test old now = record {
        more = rw (test, w) (omega (arith, rw w at now, old));
        begins = rw (test, w) tt;
        alone = rw (test, w) tt;
      }

  grows : (h : List Change) (e : Change) → MayFollow basis h e → IsClaim e → left h + total (span_of basis.terms.limit e) < 4294967296 → Grows h e
  grows h e next claim room =
      ⊎_elim (λ same. here h e next claim same room (nat_lt e.number basis.terms.limit) refl) (λ other. elsewhere h e other) (cases_eq e.word OUTPUT_WORD)

  -- ---- all changes

  claimed_here : (h : List Change) (e : Change) (c : ℕ) → e.caller ≡ c → claimed (h ++ e ∷ []) c ≡ claimed h c ++ span_of basis.terms.limit e
  claimed_here h e c same =
      ap (spans basis.terms.limit) (of_caller_same c h e same) ∙ spans_append basis.terms.limit (of_caller c h) (e ∷ []) ∙ ap (λ (xs : List (ℕ × ℕ)). claimed h c ++ xs) (append-nil (span_of basis.terms.limit e))

  claimed_there : (h : List Change) (e : Change) (c : ℕ) → e.caller ≢ c → claimed (h ++ e ∷ []) c ≡ claimed h c
  claimed_there h e c other = ap (spans basis.terms.limit) (of_caller_other c h e other)

  all_more : (h : List Change) (e : Change) → e.caller < basis.terms.callers → all_claimed (h ++ e ∷ []) ≡ all_claimed h + total (span_of basis.terms.limit e)
  all_more h e below =
      sum_more (claimed_total h) (claimed_total (h ++ e ∷ [])) e.caller basis.terms.callers (total (span_of basis.terms.limit e)) below
      (ap total (claimed_here h e e.caller refl) ∙ total_append (claimed h e.caller) (span_of basis.terms.limit e))
      (λ c other. ap total (claimed_there h e c other))

  -- the claims of all callers lie apart, end by the output's end, and are as long as the output
  pub record IsSpaced (h : List Change) : Type 0 where
    pub size : left h ≡ all_claimed h
    pub ends : (c : ℕ) → AllByRecursion (EndsBy (left h)) (claimed h c)
    pub own : (c : ℕ) → EachApart (claimed h c)
    pub others : (c d : ℕ) → c ≢ d → AllApart (claimed h c) (claimed h d)

  module _ (h : List Change) (e : Change) (old : IsSpaced h) (grown : Grows h e) where
    new_ends : (c : ℕ) → AllByRecursion (EndsBy (left (h ++ e ∷ []))) (claimed (h ++ e ∷ []) c)
    new_ends c =
        let later : AllByRecursion (EndsBy (left (h ++ e ∷ []))) (claimed h c) = ends_later (left h) (left (h ++ e ∷ [])) (claimed h c) (omega (arith, grown.more)) (old.ends c) in
        elim (cases_eq e.caller c) [
          | inl same ↦
              rw (claimed_here h e c same) (all_append (EndsBy (left (h ++ e ∷ []))) (claimed h c) (span_of basis.terms.limit e) later
              (begun_ends (left h) (left (h ++ e ∷ [])) (span_of basis.terms.limit e) (omega (arith, grown.more)) grown.begins))
          | inr other ↦ rw (claimed_there h e c other) later
        ]

    behind : (c : ℕ) → AllApart (claimed h c) (span_of basis.terms.limit e)
    behind c = ended_apart (left h) (claimed h c) (span_of basis.terms.limit e) (old.ends c) grown.begins

    new_own : (c : ℕ) → EachApart (claimed (h ++ e ∷ []) c)
    new_own c =
        elim (cases_eq e.caller c) [
          | inl same ↦ rw (claimed_here h e c same) (each_append (claimed h c) (span_of basis.terms.limit e) (old.own c) grown.alone (behind c))
          | inr other ↦ rw (claimed_there h e c other) (old.own c)
        ]

    new_others : (c d : ℕ) → c ≢ d → AllApart (claimed (h ++ e ∷ []) c) (claimed (h ++ e ∷ []) d)
    new_others c d apart =
        elim (cases_eq e.caller c) [
          | inl same ↦
              rw (claimed_here h e c same, claimed_there h e d (λ other. apart (sym same ∙ other)))
              (apart_left (claimed h c) (span_of basis.terms.limit e) (claimed h d) (old.others c d apart) (all_apart_sym (claimed h d) (span_of basis.terms.limit e) (behind d)))
          | inr other ↦ rw (claimed_there h e c other) (by_other (cases_eq e.caller d))
        ]
      where
        by_other : (e.caller ≡ d) ⊎ (e.caller ≢ d) → AllApart (claimed h c) (claimed (h ++ e ∷ []) d)
        by_other (inl same) = rw (claimed_here h e d same) (apart_right (claimed h c) (claimed h d) (span_of basis.terms.limit e) (old.others c d apart) (behind c))
        by_other (inr other) = rw (claimed_there h e d other) (old.others c d apart)

  none_yet : slice_index basis.first OUTPUT_WORD ≡ 0 → IsSpaced []
  none_yet empty = record {
    size = empty ∙ sym (nothing basis.terms.callers);
    ends = λ c. tt;
    own = λ c. tt;
    others = λ c d apart. tt;
  }
    where
      nothing : (n : ℕ) → sum_below (claimed_total []) n ≡ 0
      nothing zero = refl
      nothing (suc n) = omega (arith, nothing n)

  pub spaced : slice_index basis.first OUTPUT_WORD ≡ 0 → (h : List Change) → IsHistory basis h → AllByRecursion IsClaim h → all_claimed h < 4294967296 → IsSpaced h
  spaced empty = by_steps basis (λ h. AllByRecursion IsClaim h → all_claimed h < 4294967296 → IsSpaced h) (λ claims room. none_yet empty) step
    where
      step : (h : List Change) (e : Change) → IsHistory basis h → MayFollow basis h e → (AllByRecursion IsClaim h → all_claimed h < 4294967296 → IsSpaced h)
          → AllByRecursion IsClaim (h ++ e ∷ []) → all_claimed (h ++ e ∷ []) < 4294967296 → IsSpaced (h ++ e ∷ [])
      step h e history next so_far claims room =
          let parts = all_split IsClaim h (e ∷ []) claims in
          let more : all_claimed (h ++ e ∷ []) ≡ all_claimed h + total (span_of basis.terms.limit e) = all_more h e next.caller in
          let old : IsSpaced h = so_far parts.0 (omega (arith, more, room)) in
          let grown : Grows h e = grows h e next parts.1.0 (omega (arith, more, room, old.size)) in
          record {
            size = omega (arith, grown.more, old.size, more);
            ends = new_ends h e old grown;
            own = new_own h e old grown;
            others = new_others h e old grown;
          }
