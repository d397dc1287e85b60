-- The two histories of a run as its words' payloads and tags, and what each change of a core says of them.
use Rattle.std.proofs.Common.{◌≡◌, ◌≢◌, ◌⊎◌, ℕ, zero, suc, ◌<◌, List, [], ◌∷◌, map, refl, sym, subst, inl, inr, arith}
use Rattle.std.specs.Prelude.{All, slice_index, replicate}
use Rattle.std.proofs.lemmas.Bool.{cases_eq}
use Rattle.std.proofs.lemmas.List.FromFn.{get_or-map-range_with_len}
use Rattle.std.proofs.lemmas.List.Elements.{All-nil, All-cons, All-head, All-tail, All-append, All-map, All-weaker}
use Rattle.elf_image.specs.Layout.{Layout, first_word, first_words, words_of}
use Rattle.elf_image.proofs.FirstWords.{first_words_count}
use Rattle.rv_execute.specs.declared.op.Op.{Op}
use Rattle.record_lane.specs.declared.record.Record.{Record}
use Rattle.record_lane.specs.declared.record.Record.TheVariants.{Quiet, Blank, Touch, Meet, Back, End}
use Rattle.tag_policy.specs.Rules.{PolicySeen}
use Rattle.tag_policy.specs.declared.rules.Version.{Version}
use Rattle.tag_policy.specs.declared.rules.Version.TheVariants.{WordTags, ByteTags}
use Rattle.tag_policy.specs.Memory.{tags_below}
use Rattle.tag_registers.specs.Tags.{Tags, tags_after, word_op}
use Rattle.tag_registers.specs.Folds.{Given, TagAccess, access_of, folded, tag_accesses}
use Rattle.tag_registers.proofs.WordOperation.{operation_leaves, stays_below}
use Rattle.ticket_table.specs.declared.change.Role.TheVariants.{Draw, Serve}
use Rattle.ticket_table.specs.declared.change.Terms.{Terms}
use Rattle.ticket_table.specs.declared.change.Change.{Change}
use Rattle.ticket_table.specs.History.{Basis, IsHistory, of_caller}
use Rattle.ticket_table.specs.Passes.{TableSeen}
use Rattle.actor_lists.specs.Folded.{change_by}
use Rattle.machine.specs.Setups.{Setup, core_count}
use Rattle.machine.proofs.Parts.{WordParts}
use Rattle.live_run.specs.Seats.{AreTables}
use Rattle.live_run.proofs.WordValues.{value_after, IsStep, IsChangeIn, all_changes, KeepsBelow, olds_below}
use Rattle.live_run.proofs.Merged.{caller_same, caller_other}

-- the terms of the two tables
abbrev pub draw_terms : Setup → Terms
draw_terms s = record { role = Draw; limit = s.limit; callers = core_count s }

abbrev pub serve_terms : Setup → Terms
serve_terms s = record { role = Serve; limit = s.limit; callers = core_count s }

-- the payloads and the tags of all words along two histories
abbrev pub words_along : Setup → List Change → List Change → WordParts
words_along s drawn served = record {
  payloads = λ word k. value_after (first_word s.program.layout word) word k drawn;
  tags = λ word k. value_after 0 word k served;
}

-- ---- payloads

-- a change of the payloads of a run
pub record IsDrawn (s : Setup) (drawn : List Change) (e : Change) : Type 0 where
  pub within : e.word < words_of s.program.layout
  pub caller : e.caller < core_count s
  pub step : IsStep (first_word s.program.layout e.word) drawn e

pub first_at : (layout : Layout) (word : ℕ) → word < words_of layout → slice_index (first_words layout) word ≡ first_word layout word
first_at layout word within = get_or-map-range_with_len (first_word layout) 0 (words_of layout) word word 0 within (omega arith)

drawn_at : (s : Setup) (drawn : List Change) (e : Change) → IsChangeIn (record { terms = draw_terms s; first = first_words s.program.layout }) drawn e → IsDrawn s drawn e
drawn_at s drawn e stands =
    let within : e.word < words_of s.program.layout = omega (arith, stands.within, first_words_count s.program.layout) in
    record {
      within = within;
      caller = stands.caller;
      step = subst (λ (first : ℕ). IsStep first drawn e) (first_at s.program.layout e.word within) stands.step;
    }

pub all_drawn : (s : Setup) (memory tags : TableSeen) (drawn : List Change) → AreTables s memory tags → IsHistory memory.basis drawn → All (IsDrawn s drawn) drawn
all_drawn s memory tags drawn tables all =
    let basis : Basis = record { terms = draw_terms s; first = first_words s.program.layout } in
    All-weaker (IsChangeIn basis drawn) (IsDrawn s drawn) (λ e stands. drawn_at s drawn e stands) drawn
    (all_changes basis drawn (subst (λ (b : Basis). IsHistory b drawn) tables.memory all))

-- ---- tags

-- a change of the tags of a run
pub record IsServed (s : Setup) (served : List Change) (e : Change) : Type 0 where
  pub step : IsStep 0 served e
  pub below : e.old < tags_below s.policy.version

zero_at : (count word : ℕ) → slice_index (replicate count 0) word ≡ 0
zero_at zero word = refl
zero_at (suc count) zero = refl
zero_at (suc count) (suc word) = zero_at count word

some_tags : (version : Version) → 0 < tags_below version
some_tags WordTags = omega arith
some_tags ByteTags = omega arith

pub all_served : (s : Setup) (memory tags : TableSeen) (served : List Change) → AreTables s memory tags → IsHistory tags.basis served
    → All (KeepsBelow (tags_below s.policy.version)) served → All (IsServed s served) served
all_served s memory tags served tables all keeps =
    both served (all_changes basis served history)
    (olds_below basis (tags_below s.policy.version) refl (λ word. subst (λ (n : ℕ). n < tags_below s.policy.version) (sym (zero_at (words_of s.program.layout) word)) (some_tags s.policy.version)) served history keeps)
  where
    basis : Basis
    basis = record { terms = serve_terms s; first = replicate (words_of s.program.layout) 0 }

    history : IsHistory basis served
    history = subst (λ (b : Basis). IsHistory b served) tables.tags all

    both : (changes : List Change) → All (IsChangeIn basis served) changes → All (λ e. e.old < tags_below s.policy.version) changes → All (IsServed s served) changes
    both [] stands below = All-nil (IsServed s served)
    both (e ∷ changes) stands below =
        All-cons (IsServed s served) e changes
        (record {
          step = subst (λ (first : ℕ). IsStep first served e) (zero_at (words_of s.program.layout) e.word) (All-head (IsChangeIn basis served) e changes stands).step;
          below = All-head (λ (x : Change). x.old < tags_below s.policy.version) e changes below;
        })
        (both changes (All-tail (IsChangeIn basis served) e changes stands) (All-tail (λ (x : Change). x.old < tags_below s.policy.version) e changes below))

-- ---- the operations of a fold

-- what each record gives, wherever the tags stand, is so
folded_all : {A : Type 0} (P : A → Type 0) (each : PolicySeen → Tags → Given → List A) (policy : PolicySeen) → ((tags : Tags) (given : Given) → All P (each policy tags given))
    → (tags : Tags) (givens : List Given) → All P (folded each policy tags givens)
unfolding folded
folded_all P each policy here tags [] = All-nil P
folded_all P each policy here tags (given ∷ givens) =
    All-append P (each policy tags given) (folded each policy (tags_after policy tags given.item given.found) givens) (here tags given)
    (folded_all P each policy here (tags_after policy tags given.item given.found) givens)

-- an operation on tags keeps them below their bound
AccessKeeps : PolicySeen → Terms → ℕ → TagAccess → Type 0
AccessKeeps policy terms caller access = KeepsBelow (tags_below policy.version) (change_by terms caller access)

record_keeps : (policy : PolicySeen) (terms : Terms) (caller : ℕ) (tags : Tags) (item : Record) (found : ℕ) → All (AccessKeeps policy terms caller) (access_of policy tags item found)
unfolding AccessKeeps
record_keeps policy terms caller tags (Touch step pc word number why) found =
    let op : Op = word_op policy tags (Touch step pc word number why) in
    All-cons (AccessKeeps policy terms caller) (record { word = word; number = number; op = op; found = found }) []
    (record {
      keeps = λ count old below.
          subst (λ (n : ℕ). n < tags_below policy.version) (sym (operation_leaves policy tags (Touch step pc word number why) count old below))
          (stays_below policy tags (Touch step pc word number why) old below);
    })
    (All-nil (AccessKeeps policy terms caller))
record_keeps policy terms caller tags (Quiet step pc insn faulted) found = All-nil (AccessKeeps policy terms caller)
record_keeps policy terms caller tags (Blank step pc) found = All-nil (AccessKeeps policy terms caller)
record_keeps policy terms caller tags (Meet step pc call kind) found = All-nil (AccessKeeps policy terms caller)
record_keeps policy terms caller tags (Back step pc) found = All-nil (AccessKeeps policy terms caller)
record_keeps policy terms caller tags End found = All-nil (AccessKeeps policy terms caller)

pub fold_keeps : (policy : PolicySeen) (terms : Terms) (caller : ℕ) (tags : Tags) (givens : List Given)
    → All (KeepsBelow (tags_below policy.version)) (map (change_by terms caller) (tag_accesses policy tags givens))
unfolding AccessKeeps
fold_keeps policy terms caller tags givens =
    All-map (KeepsBelow (tags_below policy.version)) (change_by terms caller) (tag_accesses policy tags givens)
    (folded_all (AccessKeeps policy terms caller) (λ p t (given : Given). access_of p t given.item given.found) policy
    (λ t given. record_keeps policy terms caller t given.item given.found) tags givens)

-- ---- all callers

-- what holds of each caller's changes holds of all
pub all_by_callers : (P : Change → Type 0) (count : ℕ) (changes : List Change) → All (λ e. e.caller < count) changes → ((caller : ℕ) → caller < count → All P (of_caller caller changes)) → All P changes
all_by_callers P count [] below parts = All-nil P
all_by_callers P count (e ∷ changes) below parts =
    All-cons P e changes
    (All-head P e (of_caller e.caller changes) (subst (All P) (caller_same e.caller e changes refl) (parts e.caller (All-head (λ (x : Change). x.caller < count) e changes below))))
    (all_by_callers P count changes (All-tail (λ (x : Change). x.caller < count) e changes below) (λ caller within. later caller (cases_eq e.caller caller) (parts caller within)))
  where
    later : (caller : ℕ) → (e.caller ≡ caller) ⊎ (e.caller ≢ caller) → All P (of_caller caller (e ∷ changes)) → All P (of_caller caller changes)
    later caller (inl same) all = All-tail P e (of_caller caller changes) (subst (All P) (caller_same caller e changes same) all)
    later caller (inr other) all = subst (All P) (caller_other caller e changes other) all
