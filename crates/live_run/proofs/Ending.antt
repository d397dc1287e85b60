-- The actors of one core after another are ended, and what they leave stands in the order of the cores.
use Rattle.std.proofs.Common.{◌≡◌, ◌⊎◌, ℕ, zero, suc, ◌<◌, ◌≤◌, Some, List, [], ◌∷◌, ◌++◌, length, slice_get, drop, refl, sym, ap, ap₂, ◌∙◌, subst, inl, inr, arith, length-append}
use Rattle.std.specs.Prelude.{slice_index_or}
use Rattle.std.specs.List.{remove}
use Rattle.std.proofs.lemmas.List.{length-drop}
use Rattle.std.proofs.lemmas.List.{map-append}
use Rattle.std.proofs.lemmas.Option.{slice_get_within}
use Rattle.record_lane.specs.declared.record.Record.{Record}
use Rattle.record_lane.specs.declared.reply.Reply.{Reply}
use Rattle.record_lane.specs.declared.ring.Ring.{Ring}
use Rattle.record_lane.specs.declared.lane.Lane.{Lane}
use Rattle.ticket_table.specs.Passes.{TableSeen}
use Rattle.ticket_table.proofs.Places.{get_at_end}
use Rattle.machine.specs.Setups.{Setup}
use Rattle.hart_actor.specs.Harts.{Hart}
use Rattle.tag_actor.specs.Seen.{TagActorSeen}
use Rattle.live_run.specs.declared.pair.Pair.{Pair}
use Rattle.live_run.specs.declared.ends.Ends.{Ends}
use Rattle.live_run.specs.Seats.{IsSeat}
use Rattle.live_run.specs.Pairs.{IsPairLeft, left_in_pair, left_by}
use Rattle.live_run.specs.Ends.{AreAllLinked, kept, ends_of, AreKept, ArePairsLeft}

-- ---- the first of what is left of a list

-- the item stands at this place, and the rest behind it
pub record IsNext {A : Type 0} (all : List A) (place : ℕ) (item : A) (rest : List A) : Type 0 where
  pub here : slice_get all place ≡ Some item
  pub behind : rest ≡ drop (suc place) all

at_drop : {A : Type 0} (all : List A) (place : ℕ) (item : A) (rest : List A) → item ∷ rest ≡ drop place all → IsNext all place item rest
at_drop [] zero item rest e = absurd (cc)
at_drop [] (suc place) item rest e = absurd (cc)
at_drop (x ∷ all) zero item rest e = record { here = cc; behind = cc }
at_drop (x ∷ all) (suc place) item rest e = let next = at_drop all place item rest e in record { here = next.here; behind = next.behind }

-- what is taken out of what is left
next_of : {A : Type 0} (all left : List A) (place : ℕ) (item : A) (rest : List A) → left ≡ drop place all → 0 < length left → item ≡ slice_index_or left 0 item → rest ≡ remove left 0 → IsNext all place item rest
next_of all [] place item rest e some is behind = absurd (omega arith)
next_of all (x ∷ left) place item rest e some is behind =
    let next = at_drop all place x left e in
    record { here = next.here ∙ ap Some (sym is); behind = behind ∙ next.behind }

one_item : {A : Type 0} {a b : A} → Some a ≡ Some b → a ≡ b
one_item e = cc

-- ---- core by core

-- so many cores are done: their pairs are kept, and the actors of the others are left
pub record IsGoing (harts : List Hart) (followers : List TagActorSeen) (items : List (Ring Record)) (replies : List (Lane Reply)) (harts_left : List Hart) (followers_left : List TagActorSeen) (items_left : List (Ring Record)) (replies_left : List (Lane Reply)) (ends : Ends) : Type 0 where
  pub pairs : List Pair
  pub ends_are : ends ≡ ends_of (length harts) pairs
  pub few : length pairs ≤ length harts
  pub hart_rest : harts_left ≡ drop (length pairs) harts
  pub follower_rest : followers_left ≡ drop (length pairs) followers
  pub item_rest : items_left ≡ drop (length pairs) items
  pub reply_rest : replies_left ≡ drop (length pairs) replies
  pub kept : AreKept harts followers pairs
  pub left : ArePairsLeft harts followers items replies pairs

pub going_first : (harts : List Hart) (followers : List TagActorSeen) (items : List (Ring Record)) (replies : List (Lane Reply)) (ends : Ends) → ends ≡ ends_of (length harts) []
    → IsGoing harts followers items replies harts followers items replies ends
going_first harts followers items replies ends empty = record {
  pairs = [];
  ends_are = empty;
  few = omega arith;
  hart_rest = refl;
  follower_rest = refl;
  item_rest = refl;
  reply_rest = refl;
  kept = λ core hart follower pair at followed here. absurd (cc);
  left = λ s memory tags seats core pair here. absurd (cc);
}

module _ (harts : List Hart) (followers : List TagActorSeen) (items : List (Ring Record)) (replies : List (Lane Reply)) where
  -- the actors of the next core, with their ring and their lane
  pub record AreNext (place : ℕ) (taken_hart : Hart) (taken_follower : TagActorSeen) (ring : Ring Record) (lane : Lane Reply) (harts_new : List Hart) (followers_new : List TagActorSeen) (items_new : List (Ring Record)) (replies_new : List (Lane Reply)) : Type 0 where
    pub hart : IsNext harts place taken_hart harts_new
    pub follower : IsNext followers place taken_follower followers_new
    pub item : IsNext items place ring items_new
    pub reply : IsNext replies place lane replies_new

  pub next_ones : AreAllLinked harts followers items replies
      → (harts_left : List Hart) (followers_left : List TagActorSeen) (items_left : List (Ring Record)) (replies_left : List (Lane Reply)) (ends : Ends)
      (hart : Hart) (follower : TagActorSeen) (ring : Ring Record) (lane : Lane Reply)
      (harts_new : List Hart) (followers_new : List TagActorSeen) (items_new : List (Ring Record)) (replies_new : List (Lane Reply))
      (going : IsGoing harts followers items replies harts_left followers_left items_left replies_left ends)
      → 0 < length harts_left
      → (hart ≡ slice_index_or harts_left 0 hart) × (harts_new ≡ remove harts_left 0)
      → (follower ≡ slice_index_or followers_left 0 follower) × (followers_new ≡ remove followers_left 0)
      → (ring ≡ slice_index_or items_left 0 ring) × (items_new ≡ remove items_left 0)
      → (lane ≡ slice_index_or replies_left 0 lane) × (replies_new ≡ remove replies_left 0)
      → AreNext (length going.pairs) hart follower ring lane harts_new followers_new items_new replies_new
  next_ones linked harts_left followers_left items_left replies_left ends hart follower ring lane harts_new followers_new items_new replies_new going some of_hart of_follower of_item of_reply =
      let below : length going.pairs < length harts = omega (arith, some, ap length going.hart_rest, length-drop (length going.pairs) harts) in
      record {
        hart = next_of harts harts_left (length going.pairs) hart harts_new going.hart_rest some of_hart.0 of_hart.1;
        follower = next_of followers followers_left (length going.pairs) follower followers_new going.follower_rest (omega (arith, below, linked.follower_count, ap length going.follower_rest, length-drop (length going.pairs) followers)) of_follower.0 of_follower.1;
        item = next_of items items_left (length going.pairs) ring items_new going.item_rest (omega (arith, below, linked.item_count, ap length going.item_rest, length-drop (length going.pairs) items)) of_item.0 of_item.1;
        reply = next_of replies replies_left (length going.pairs) lane replies_new going.reply_rest (omega (arith, below, linked.reply_count, ap length going.reply_rest, length-drop (length going.pairs) replies)) of_reply.0 of_reply.1;
      }

  -- the lists with one pair more
  ends_more : (pairs : List Pair) (pair : Pair) → kept (ends_of (length harts) pairs) pair ≡ ends_of (length harts) (pairs ++ pair ∷ [])
  ends_more pairs pair =
      rw (map-append (λ (p : Pair). p.entries) pairs (pair ∷ []), map-append (λ (p : Pair). p.outcome) pairs (pair ∷ []), map-append (λ (p : Pair). p.claims) pairs (pair ∷ []), map-append (λ (p : Pair). p.drawn) pairs (pair ∷ []), map-append (λ (p : Pair). p.served) pairs (pair ∷ [])) refl

  pub going_more : (harts_left : List Hart) (followers_left : List TagActorSeen) (items_left : List (Ring Record)) (replies_left : List (Lane Reply)) (ends : Ends)
      (hart : Hart) (follower : TagActorSeen) (ring : Ring Record) (lane : Lane Reply)
      (harts_new : List Hart) (followers_new : List TagActorSeen) (items_new : List (Ring Record)) (replies_new : List (Lane Reply)) (pair : Pair) (after : Ends)
      (going : IsGoing harts followers items replies harts_left followers_left items_left replies_left ends)
      → AreNext (length going.pairs) hart follower ring lane harts_new followers_new items_new replies_new
      → left_in_pair pair ≡ left_by hart follower
      → ((s : Setup) (memory tags : TableSeen) (core : ℕ) → IsSeat s memory tags core hart follower ring lane → IsPairLeft s memory tags core pair)
      → after ≡ kept ends pair
      → IsGoing harts followers items replies harts_new followers_new items_new replies_new after
  going_more harts_left followers_left items_left replies_left ends hart follower ring lane harts_new followers_new items_new replies_new pair after going next has_kept seated keeps =
      let count : length (going.pairs ++ pair ∷ []) ≡ suc (length going.pairs) = omega (arith, length-append going.pairs (pair ∷ [])) in
      record {
        pairs = going.pairs ++ pair ∷ [];
        ends_are = keeps ∙ ap (λ (e : Ends). kept e pair) going.ends_are ∙ ends_more going.pairs pair;
        few = omega (arith, count, slice_get_within harts (length going.pairs) hart (next.hart).here);
        hart_rest = rw count (next.hart).behind;
        follower_rest = rw count (next.follower).behind;
        item_rest = rw count (next.item).behind;
        reply_rest = rw count (next.reply).behind;
        kept = kept_more;
        left = left_more;
      }
    where
      kept_more : AreKept harts followers (going.pairs ++ pair ∷ [])
      kept_more core other_hart other_follower found at followed here = by_place (get_at_end going.pairs pair found core here)
        where
          by_place : (slice_get going.pairs core ≡ Some found) ⊎ ((core ≡ length going.pairs) × (pair ≡ found)) → left_in_pair found ≡ left_by other_hart other_follower
          by_place (inl old) = going.kept core other_hart other_follower found at followed old
          by_place (inr new) =
              let same_hart : hart ≡ other_hart = one_item (sym (next.hart).here ∙ ap (slice_get harts) (sym new.0) ∙ at) in
              let same_follower : follower ≡ other_follower = one_item (sym (next.follower).here ∙ ap (slice_get followers) (sym new.0) ∙ followed) in
              ap left_in_pair (sym new.1) ∙ has_kept ∙ ap₂ left_by same_hart same_follower

      left_more : ArePairsLeft harts followers items replies (going.pairs ++ pair ∷ [])
      left_more s memory tags seats core found here = by_place (get_at_end going.pairs pair found core here)
        where
          by_place : (slice_get going.pairs core ≡ Some found) ⊎ ((core ≡ length going.pairs) × (pair ≡ found)) → IsPairLeft s memory tags core found
          by_place (inl old) = going.left s memory tags seats core found old
          by_place (inr new) =
              subst (λ (p : Pair). IsPairLeft s memory tags core p) new.1
              (subst (λ (c : ℕ). IsPairLeft s memory tags c pair) (sym new.0)
              (seated s memory tags (length going.pairs) (seats.seats (length going.pairs) hart follower ring lane (next.hart).here (next.follower).here (next.item).here (next.reply).here)))
