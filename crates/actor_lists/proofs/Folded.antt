-- A fold of records, one record longer.
use Rattle.std.proofs.Common.{◌≡◌, ℕ, ◌≤◌, List, [], ◌∷◌, ◌++◌, length, length-append, map, sym, ◌∙◌, ap, ap₂, arith}
use Rattle.std.proofs.lemmas.List.{map-append, length-map}
use Rattle.std.proofs.lemmas.List.Elements.{All-push}
use Rattle.record_lane.specs.declared.record.Record.{Record}
use Rattle.record_lane.specs.declared.record.Record.TheVariants.{Quiet, Blank, Touch, Meet, Back, End}
use Rattle.record_lane.specs.declared.reply.Reply.{Reply}
use Rattle.tag_policy.specs.Rules.{PolicySeen}
use Rattle.tag_registers.specs.Tags.{Tags, no_tags, tags_after}
use Rattle.tag_registers.specs.Folds.{Given, tags_fold, folded, access_of, reply_to, tag_accesses, replies}
use Rattle.tag_registers.proofs.Folding.{stands_on, folded_snoc}
use Rattle.ticket_table.specs.declared.change.Terms.{Terms}
use Rattle.ticket_table.specs.declared.change.Change.{Change}
use Rattle.actor_lists.specs.Folded.{change_by, FoundNone, IsFolded}

pub fold_more : (policy : PolicySeen) (terms : Terms) (caller : ℕ) (before after : Tags) (items : List Record) (changes changes_after : List Change) (sent sent_after : List Reply) (givens : List Given) (given : Given)
    → IsFolded policy terms caller before items changes sent givens
    → after ≡ tags_after policy before given.item given.found
    → FoundNone given
    → changes_after ≡ changes ++ map (change_by terms caller) (access_of policy before given.item given.found)
    → sent_after ≡ sent ++ reply_to policy before given.item given.found
    → IsFolded policy terms caller after (items ++ given.item ∷ []) changes_after sent_after (givens ++ given ∷ [])
fold_more policy terms caller before after items changes changes_after sent sent_after givens given f tags none changed replied = record {
  stands = stands_on policy before after given tags givens f.stands;
  items_are = ap (λ (xs : List Record). xs ++ given.item ∷ []) f.items_are ∙ sym (map-append (λ (g : Given). g.item) givens (given ∷ []));
  found = All-push FoundNone givens given f.found none;
  changes_are =
      changed
      ∙ ap₂ (λ (xs : List Change) (t : Tags). xs ++ map (change_by terms caller) (access_of policy t given.item given.found)) f.changes_are f.stands
      ∙ sym (map-append (change_by terms caller) (tag_accesses policy no_tags givens) (access_of policy (tags_fold policy no_tags givens) given.item given.found))
      ∙ ap (map (change_by terms caller)) (sym (folded_snoc (λ p t (g : Given). access_of p t g.item g.found) policy no_tags givens given));
  replies_are =
      replied
      ∙ ap₂ (λ (xs : List Reply) (t : Tags). xs ++ reply_to policy t given.item given.found) f.replies_are f.stands
      ∙ sym (folded_snoc (λ p t (g : Given). reply_to p t g.item g.found) policy no_tags givens given);
}

-- a record has at most one reply
one_reply : (policy : PolicySeen) (tags : Tags) (item : Record) (found : ℕ) → length (reply_to policy tags item found) ≤ 1
one_reply policy tags (Quiet step pc insn faulted) found = omega arith
one_reply policy tags (Blank step pc) found = omega arith
one_reply policy tags (Touch step pc word number why) found = omega arith
one_reply policy tags (Meet step pc call kind) found = omega arith
one_reply policy tags (Back step pc) found = omega arith
one_reply policy tags End found = omega arith

few_replies : (policy : PolicySeen) (tags : Tags) (givens : List Given) → length (replies policy tags givens) ≤ length givens
unfolding folded
few_replies policy tags [] = omega arith
few_replies policy tags (given ∷ rest) =
    omega (
      arith,
      length-append (reply_to policy tags given.item given.found) (replies policy (tags_after policy tags given.item given.found) rest),
      one_reply policy tags given.item given.found,
      few_replies policy (tags_after policy tags given.item given.found) rest,
    )

pub replies_no_more : (policy : PolicySeen) (terms : Terms) (caller : ℕ) (tags : Tags) (items : List Record) (changes : List Change) (sent : List Reply) (givens : List Given)
    → IsFolded policy terms caller tags items changes sent givens → length sent ≤ length items
replies_no_more policy terms caller tags items changes sent givens f =
    omega (arith, ap length f.replies_are, ap length f.items_are, length-map givens (λ (g : Given). g.item), few_replies policy no_tags givens)
