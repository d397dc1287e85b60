-- The record in hand is sound for the memory.
use Rattle.std.proofs.Common.{◌≡◌, ℕ, ◌<◌, ◌≤◌, ◌^◌, Option, Some, option_to_list, length, ◌∙◌, ap, subst, arith}
use Rattle.rv_execute.specs.declared.op.Op.{Op}
use Rattle.record_lane.specs.declared.record.Record.{Record}
use Rattle.record_lane.specs.declared.record.Record.TheVariants.{Quiet, Blank, Touch, Meet, Back, End}
use Rattle.record_lane.specs.declared.reply.Reply.{Reply}
use Rattle.record_lane.specs.declared.ring.Ring.{Ring}
use Rattle.record_lane.specs.declared.lane.Lane.{Lane}
use Rattle.record_lane.specs.Sound.{IsSoundRecord}
use Rattle.tag_policy.specs.Rules.{PolicySeen}
use Rattle.tag_registers.specs.declared.ask.TagAsk.TheVariants.{Serve}
use Rattle.tag_registers.specs.Tags.{Tags}
use Rattle.tag_registers.specs.Files.{tag_ask}
use Rattle.ticket_table.specs.Passes.{TableSeen}
use Rattle.ticket_table.specs.Calls.{MayServe}
use Rattle.tag_actor.specs.Seen.{TagActorSeen}
use Rattle.record_lane.specs.Rings.{taken_by}
use Rattle.record_lane.specs.Lanes.{sent_by}
use Rattle.actor_lists.proofs.Folded.{replies_no_more}
use Rattle.tag_actor.specs.Standing.{IsTagActor}
use Rattle.tag_actor.specs.Turns.{AreOf}
use Rattle.tag_actor.proofs.Standing.{count_taken}

-- for smaller numbers it is sound for greater ones
pub sound_below : (words top : ℕ) (item : Record) → IsSoundRecord words top item → words ≤ 4294967295 → top ≤ 4294967295 → IsSoundRecord 4294967295 4294967295 item
sound_below words top (Quiet step pc insn faulted) h few small = h
sound_below words top (Blank step pc) h few small = tt
sound_below words top (Touch step pc word number why) h few small = (omega (arith, h.0), omega (arith, h.1), h.2)
sound_below words top (Meet step pc call kind) h few small = tt
sound_below words top (Back step pc) h few small = tt
sound_below words top End h few small = tt

pub held_sound : (memory : TableSeen) (items : Ring Record) (replies : Lane Reply) (a v : TagActorSeen) (item : Record)
    → v ≡ a → IsTagActor v → AreOf memory items replies a → a.hand ≡ Some item → IsSoundRecord 4294967295 4294967295 item
held_sound memory items replies a v item is h objects held =
    sound_below _ _ item ((subst IsTagActor is h).sound item held items objects.taker) objects.few_words objects.few_numbers

-- a touch asks for its own word and number
asks_own : (policy : PolicySeen) (tags : Tags) (words top : ℕ) (item : Record) (word number : ℕ) (op : Op)
    → tag_ask policy tags item ≡ Serve word number op → IsSoundRecord words top item → (word < words) × (number < top)
asks_own policy tags words top (Touch step pc touched drawn why) word number op e h =
    let same_word : touched ≡ word = cc in
    let same_number : drawn ≡ number = cc in
    (subst (λ n. n < words) same_word h.0, subst (λ n. n < top) same_number h.1)
asks_own policy tags words top (Quiet step pc insn faulted) word number op e h = absurd (cc)
asks_own policy tags words top (Blank step pc) word number op e h = absurd (cc)
asks_own policy tags words top (Meet step pc call kind) word number op e h = absurd (cc)
asks_own policy tags words top (Back step pc) word number op e h = absurd (cc)
asks_own policy tags words top End word number op e h = absurd (cc)

-- no more replies were sent than records consumed
pub few_replies : (a v : TagActorSeen) (item : Record) → v ≡ a → IsTagActor v → a.hand ≡ Some item → length (sent_by v.sender) < 2 ^ 61
few_replies a v item is h held =
    let one : length (option_to_list v.hand) ≡ 1 = ap (λ (t : TagActorSeen). length (option_to_list t.hand)) is ∙ ap (λ (hand : Option Record). length (option_to_list hand)) held in
    let sent : length (sent_by v.sender) ≤ length (h.consumed).items = replies_no_more _ _ _ _ _ _ _ _ (h.consumed).folded in
    let few : length (taken_by v.taker) ≤ 2 ^ 61 = (h.consumed).few in
    omega (arith, count_taken v h.consumed)

pub may_serve : (memory : TableSeen) (items : Ring Record) (replies : Lane Reply) (a v : TagActorSeen) (item : Record) (policy : PolicySeen) (tags : Tags) (word number : ℕ) (op : Op)
    → v ≡ a → IsTagActor v → AreOf memory items replies a → a.hand ≡ Some item → tag_ask policy tags item ≡ Serve word number op
    → MayServe memory v.pass word number
may_serve memory items replies a v item policy tags word number op is h objects held asks =
    let own = asks_own policy tags _ _ item word number op asks ((subst IsTagActor is h).sound item held items objects.taker) in
    record {
      of_table = rw (ap (λ (t : TagActorSeen). t.pass) is) objects.pass;
      within = subst (λ n. word < n) objects.words own.0;
      below = subst (λ n. number < n) objects.top own.1;
    }
