-- A list of records with one more: its fold, and what its records give.
use Rattle.std.proofs.Common.{◌≡◌, List, [], ◌∷◌, ◌++◌, refl, sym, ◌∙◌, ap, append_assoc}
use Rattle.std.proofs.lemmas.List.{append-nil}
use Rattle.tag_policy.specs.Rules.{PolicySeen}
use Rattle.tag_registers.specs.Tags.{Tags, no_tags, tags_after}
use Rattle.tag_registers.specs.Folds.{Given, tags_fold, folded, StandsAt}

pub fold_snoc : (policy : PolicySeen) (tags : Tags) (givens : List Given) (given : Given)
    → tags_fold policy tags (givens ++ given ∷ []) ≡ tags_after policy (tags_fold policy tags givens) given.item given.found
unfolding tags_fold
fold_snoc policy tags [] given = refl
fold_snoc policy tags (first ∷ rest) given = fold_snoc policy (tags_after policy tags first.item first.found) rest given

pub folded_snoc : {A : Type 0} (each : PolicySeen → Tags → Given → List A) (policy : PolicySeen) (tags : Tags) (givens : List Given) (given : Given)
    → folded each policy tags (givens ++ given ∷ []) ≡ folded each policy tags givens ++ each policy (tags_fold policy tags givens) given
unfolding folded tags_fold
folded_snoc each policy tags [] given = append-nil (each policy tags given)
folded_snoc each policy tags (first ∷ rest) given =
    ap (λ xs. each policy tags first ++ xs) (folded_snoc each policy (tags_after policy tags first.item first.found) rest given)
    ∙ sym (append_assoc (each policy tags first) (folded each policy (tags_after policy tags first.item first.found) rest)
    (each policy (tags_fold policy (tags_after policy tags first.item first.found) rest) given))

-- what stands at a list stands at the list with one more after it took that one
pub stands_on : (policy : PolicySeen) (before after : Tags) (given : Given)
    → after ≡ tags_after policy before given.item given.found
    → (givens : List Given) → StandsAt policy before givens → StandsAt policy after (givens ++ given ∷ [])
stands_on policy before after given e givens at =
    e ∙ ap (λ tags. tags_after policy tags given.item given.found) at ∙ sym (fold_snoc policy no_tags givens given)
