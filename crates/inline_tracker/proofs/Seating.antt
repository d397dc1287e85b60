-- One core of the tracker after a unit stands for the core of the machine after it.
use Rattle.std.proofs.Common.{◌≡◌, ℕ, ◌+◌, ◌<◌, ◌≤◌, true, false, Bool, List, [], ◌∷◌, ◌++◌, length, Option, Some, None, refl, sym, ap, ◌∙◌, arith, append-nil, length-append, if◌then◌else◌}
use Rattle.std.specs.Prelude.{IfSome, IsSome, option_to_list}
use Rattle.bounded_list.specs.Bounded.{Bounded}
use Rattle.elf_image.specs.Layout.{Layout, is_mapped, words_of}
use Rattle.elf_image.proofs.Counting.{count_below_le}
use Rattle.rv_execute.specs.declared.op.Op.{Op}
use Rattle.rv_execute.specs.declared.op.Taken.{Taken}
use Rattle.record_lane.specs.declared.record.Why.{Why}
use Rattle.record_lane.specs.declared.record.Why.TheVariants.{Spent as BySpent}
use Rattle.record_lane.specs.declared.record.MeetKind.{MeetKind}
use Rattle.record_lane.specs.declared.record.Record.{Record}
use Rattle.record_lane.specs.declared.record.Record.TheVariants.{Quiet, Blank, Touch, Meet, Back, End as EndRecord}
use Rattle.record_lane.specs.declared.reply.Trap.{Trap}
use Rattle.record_lane.specs.declared.reply.Reply.{Reply}
use Rattle.record_lane.specs.declared.note.CallNote.{CallNote}
use Rattle.record_lane.specs.Sound.{IsSoundRecord}
use Rattle.tag_policy.specs.Rules.{PolicySeen}
use Rattle.tag_registers.specs.declared.ask.TagAsk.TheVariants.{Serve, Answer as Answers}
use Rattle.tag_registers.specs.Tags.{Tags, tags_after, word_tag, word_op, reply_of}
use Rattle.tag_registers.specs.Files.{tags_in, is_touch, tag_ask, consumed}
use Rattle.syscall_drain.specs.declared.end.End.{End}
use Rattle.syscall_drain.specs.declared.ask.CoreAsk.{CoreAsk}
use Rattle.syscall_drain.specs.declared.ask.CoreAsk.TheVariants.{Quiet as AsksNothing, Touch as Touches, Meet as Meets}
use Rattle.syscall_drain.specs.declared.ask.Answer.{Answer}
use Rattle.syscall_drain.specs.declared.ask.Answer.TheVariants.{Nothing, Taken as Took, Reply as Replied}
use Rattle.syscall_drain.specs.declared.ask.NextUnit.{NextUnit}
use Rattle.syscall_drain.specs.Programs.{Program}
use Rattle.syscall_drain.specs.Locals.{Local}
use Rattle.syscall_drain.specs.Units.{next_ask, answered}
use Rattle.syscall_drain.specs.Records.{unit_record, IsStill}
use Rattle.syscall_drain.specs.Sound.{IsSound}
use Rattle.syscall_drain.specs.Seen.{budget_of, item_made, next_unit}
use Rattle.syscall_drain.proofs.Units.{answered_units}
use Rattle.syscall_drain.proofs.RecordKinds.{IsTouchOf, still_record, meeting_record, meeting_is, touch_record}
use Rattle.order_core.specs.declared.entry.Entry.{Entry}
use Rattle.machine.specs.Setups.{Setup}
use Rattle.machine.specs.States.{Core, Word}
use Rattle.machine.specs.Steps.{NoAccess, Accessed, quiet, took, left, found_in, note_of, record_given, tags_given}
use Rattle.machine.proofs.ByAsk.{core_given_by, left_count, left_payload, left_tag}
use Rattle.inline_tracker.specs.declared.finished.CoreOutcome.{CoreOutcome}
use Rattle.inline_tracker.specs.declared.memory.Cell.{Cell}
use Rattle.inline_tracker.specs.declared.seat.Seat.{Seat}
use Rattle.inline_tracker.specs.Cells.{cell_at, cell_after}
use Rattle.inline_tracker.specs.Seats.{local_in, notes_held, Holds, IsOpen, IsSeated, note_by, noted}

-- ---- records

words_few : (layout : Layout) → words_of layout ≤ 4294967295
unfolding words_of
words_few layout = omega (arith, count_below_le (is_mapped layout) 1048576)

sound_more : (words top : ℕ) (item : Record) → words ≤ 4294967295 → top ≤ 4294967295 → IsSoundRecord words top item → IsSoundRecord 4294967295 4294967295 item
sound_more words top (Quiet step pc insn faulted) few low sound = sound
sound_more words top (Blank step pc) few low sound = tt
sound_more words top (Touch step pc word number why) few low sound = (omega (arith, sound.0), omega (arith, sound.1), sound.2)
sound_more words top (Meet step pc call kind) few low sound = tt
sound_more words top (Back step pc) few low sound = tt
sound_more words top EndRecord few low sound = tt

-- what a unit hands over is sound for a file of tags
pub item_fits : (layout : Layout) (number : ℕ) (item : Option Record) → number < 4294967295 → ((top : ℕ) → number < top → IfSome item (IsSoundRecord (words_of layout) top)) → IfSome item (IsSoundRecord 4294967295 4294967295)
item_fits layout number None low sound = tt
item_fits layout number (Some item) low sound = sound_more (words_of layout) 4294967295 item (words_few layout) (omega arith) (sound 4294967295 low)

-- the record of a unit that asks for nothing
pub item_still : (program : Program) (l : Local) (ask : CoreAsk) (item : Option Record) → next_ask program l ≡ AsksNothing → ask ≡ AsksNothing → item ≡ item_made ask (unit_record program l Nothing) → IfSome item IsStill
item_still program l ask item asks is e =
    let some : item ≡ Some (unit_record program l Nothing) = e ∙ ap (λ a. item_made a (unit_record program l Nothing)) is in
    rw some (still_record program l Nothing asks)

pub still_consumed : (policy : PolicySeen) (tags : Tags) (item : Record) → IsStill item → consumed policy tags item ≡ tags_after policy tags item 0
still_consumed policy tags (Quiet step pc insn faulted) still = refl
still_consumed policy tags (Blank step pc) still = refl
still_consumed policy tags (Touch step pc word number why) still = absurd still
still_consumed policy tags (Meet step pc call kind) still = absurd still
still_consumed policy tags (Back step pc) still = refl
still_consumed policy tags EndRecord still = absurd still

-- ---- the notes and the outcome of a core

pub opens : (budget units : ℕ) (trap : Option Trap) (ending : Option End) (notes : Option (Bounded CallNote)) (outcome : Option CoreOutcome) → ending ≡ None → Holds budget units trap ending notes outcome → IsOpen budget notes outcome
opens budget units trap None None None running holds = absurd holds
opens budget units trap None None (Some outcome) running holds = absurd holds
opens budget units trap None (Some notes) None running holds = holds
opens budget units trap None (Some notes) (Some outcome) running holds = absurd holds
opens budget units trap (Some end) notes outcome running holds = absurd (cc)

-- ---- the seat after a unit

pub seated_more : (program : Program) (budget : ℕ) (old new : Seat) (given : Answer) (entry : Entry) → IsSeated budget old → IsSound (local_in old) → new.log ≡ record old.log { items = old.log.items ++ entry ∷ [] }
    → local_in new ≡ answered program (budget_of old.state) (local_in old) given → budget_of new.state ≡ budget_of old.state
    → Holds (budget_of new.state) (local_in new).units (tags_in new.tags).trap (local_in new).ending new.notes new.outcome → IsSeated budget new
seated_more program budget old new given entry seated sound log step same holds =
    let more = answered_units program (budget_of old.state) (local_in old) given sound in
    let units : (local_in new).units ≡ (local_in old).units + 1 = ap (λ (l : Local). l.units) step ∙ more in
    let is : budget_of new.state ≡ budget = same ∙ seated.budget_is in
    record {
      budget_is = is;
      log_room = rw log seated.log_room;
      log_size = rw log (simp length-append (omega (arith, seated.log_size, units)));
      holds = rw is at holds;
    }

abbrev pub core_of_parts : Local → Tags → List CallNote → Core
core_of_parts local tags notes = record { local = local; tags = tags; notes = notes }

pub quiet_core : (s : Setup) (old : Core) (local : Local) (tags : Tags) (notes : List CallNote) → next_ask s.program old.local ≡ AsksNothing → local ≡ answered s.program s.budget old.local Nothing → tags ≡ tags_after s.policy old.tags (unit_record s.program old.local Nothing) 0 → notes ≡ old.notes → core_of_parts local tags notes ≡ quiet s old
unfolding quiet
quiet_core s old local tags notes asks step after kept =
    rw (step, after, kept) (ap (λ (n : List CallNote). core_of_parts (answered s.program s.budget old.local Nothing) (tags_after s.policy old.tags (unit_record s.program old.local Nothing) 0) n) (sym (append-nil old.notes)))
    ∙ sym (core_given_by s old NoAccess AsksNothing asks)

-- ---- a meeting

note_replied : (item : Record) (after : Tags) → note_of item after ≡ note_by item (reply_of after)
note_replied (Quiet step pc insn faulted) after = refl
note_replied (Blank step pc) after = refl
note_replied (Touch step pc word number why) after = refl
note_replied (Meet step pc call kind) after = refl
note_replied (Back step pc) after = refl
note_replied EndRecord after = refl

-- what a meeting's record asks of the tags, and what they are after it
pub record IsMet (policy : PolicySeen) (tags : Tags) (item : Record) : Type 0 where
  pub fits : IsSoundRecord 4294967295 4294967295 item
  pub asks : tag_ask policy tags item ≡ Answers (reply_of (tags_after policy tags item 0))
  pub after : consumed policy tags item ≡ tags_after policy tags item 0

met_by : (policy : PolicySeen) (tags : Tags) (item : Record) (step pc call : ℕ) (kind : MeetKind) → item ≡ Meet step pc call kind → IsMet policy tags item
met_by policy tags item step pc call kind is = rw is (record { fits = tt; asks = refl; after = refl })

pub is_met : (policy : PolicySeen) (tags : Tags) (program : Program) (l : Local) (item : Record) → next_ask program l ≡ Meets item → IsMet policy tags item
is_met policy tags program l item asks = let meeting = meeting_is program l item asks in met_by policy tags item _ _ _ meeting.0 meeting.1

pub meeting_core : (s : Setup) (old : Core) (item : Record) (reply : Reply) (local : Local) (tags : Tags) (notes : List CallNote) → next_ask s.program old.local ≡ Meets item
    → reply ≡ reply_of (tags_after s.policy old.tags item 0) → local ≡ answered s.program s.budget old.local (Replied reply) → tags ≡ tags_after s.policy old.tags item 0 → notes ≡ old.notes ++ note_by item reply → core_of_parts local tags notes ≡ quiet s old
unfolding quiet
meeting_core s old item reply local tags notes asks told step after kept =
    let record_is : record_given s old NoAccess ≡ item = meeting_record s.program old.local Nothing item asks in
    let tags_are : tags_given s old NoAccess ≡ tags_after s.policy old.tags item 0 = ap (λ (r : Record). tags_after s.policy old.tags r 0) record_is in
    rw (core_given_by s old NoAccess (Meets item) asks, step, after, kept, tags_are, told, note_replied item (tags_after s.policy old.tags item 0)) refl

-- ---- an access

pub record IsFollowed (policy : PolicySeen) (tags : Tags) (item : Record) (word number : ℕ) : Type 0 where
  pub touch : is_touch item ≡ true

touched_by : (item : Record) (step pc word number : ℕ) (why : Why) → item ≡ Touch step pc word number why → is_touch item ≡ true
touched_by item step pc word number why is = rw is refl

pub item_touches : (program : Program) (l : Local) (t : Taken) (word : ℕ) (op : Op) → next_ask program l ≡ Touches word op → is_touch (unit_record program l (Took t)) ≡ true
item_touches program l t word op asks = let touch = touch_record program l t word op asks in touched_by _ _ _ _ _ _ touch.is

-- a spent access keeps the tag word
spent_tag : (policy : PolicySeen) (tags : Tags) (item : Record) (old : ℕ) (step pc word number : ℕ) → item ≡ Touch step pc word number BySpent → word_tag policy tags item old ≡ old
unfolding word_tag
spent_tag policy tags item old step pc word number is = rw is refl

pub left_word_tag : (s : Setup) (c : Core) (w : Word) (word : ℕ) (op : Op) → next_ask s.program c.local ≡ Touches word op → (left s c w).tag ≡ word_tag s.policy c.tags (unit_record s.program c.local (Took (found_in s w))) w.tag
left_word_tag s c w word op asks = left_tag s c w ∙ by_spent (found_in s w).spent refl
  where
    touch : IsTouchOf c.local word (found_in s w) (unit_record s.program c.local (Took (found_in s w)))
    touch = touch_record s.program c.local (found_in s w) word op asks

    by_spent : (b : Bool) → (found_in s w).spent ≡ b → (if b then w.tag else word_tag s.policy c.tags (unit_record s.program c.local (Took (found_in s w))) w.tag) ≡ word_tag s.policy c.tags (unit_record s.program c.local (Took (found_in s w))) w.tag
    by_spent true spent = sym (spent_tag s.policy c.tags (unit_record s.program c.local (Took (found_in s w))) w.tag _ _ _ _ (touch.is ∙ ap (λ (why : Why). Touch c.local.units c.local.hart.pc word (found_in s w).number why) (touch.spent spent)))
    by_spent false spent = refl

pub cell_left : (s : Setup) (c : Core) (w : Word) (word : ℕ) (op : Op) (cell after : Cell) → next_ask s.program c.local ≡ Touches word op → cell_at w ≡ cell
    → after ≡ record (cell_after s.limit op cell) { tag = word_tag s.policy c.tags (unit_record s.program c.local (Took (found_in s w))) cell.tag } → after ≡ cell_at (left s c w)
cell_left s c w word op cell after asks is e = e ∙ rw (← is, left_payload s c w word op asks, left_count s c w, left_word_tag s c w word op asks) refl

pub took_core : (s : Setup) (old : Core) (w : Word) (word : ℕ) (op : Op) (local : Local) (tags : Tags) (notes : List CallNote) → next_ask s.program old.local ≡ Touches word op
    → local ≡ answered s.program s.budget old.local (Took (found_in s w)) → tags ≡ tags_after s.policy old.tags (unit_record s.program old.local (Took (found_in s w))) w.tag → notes ≡ old.notes → core_of_parts local tags notes ≡ took s old w
unfolding took
took_core s old w word op local tags notes asks step after kept =
    rw (step, after, kept) (ap (λ (n : List CallNote). core_of_parts (answered s.program s.budget old.local (Took (found_in s w))) (tags_after s.policy old.tags (unit_record s.program old.local (Took (found_in s w))) w.tag) n) (sym (append-nil old.notes)))
    ∙ sym (core_given_by s old (Accessed (found_in s w) w.tag) (Touches word op) asks)

-- ---- parts of a unit

pub asks_of : (program : Program) (l : Local) (unit : NextUnit) (ask : CoreAsk) → unit ≡ next_unit program l → unit.ask ≡ ask → next_ask program l ≡ ask
asks_of program l unit ask is e = sym (ap (λ (u : NextUnit). u.ask) is) ∙ e

pub open_more : (budget new_budget : ℕ) (notes new_notes : Option (Bounded CallNote)) (outcome new_outcome : Option CoreOutcome) → new_budget ≡ budget → new_notes ≡ notes → new_outcome ≡ outcome → IsOpen budget notes outcome → IsOpen new_budget new_notes new_outcome
open_more budget new_budget notes new_notes outcome new_outcome a b c open_now = rw (a, b, c) open_now

pub noted_open : (budget : ℕ) (notes : Option (Bounded CallNote)) (outcome : Option CoreOutcome) (added : Option CallNote) → IsOpen budget notes outcome → IsOpen budget (noted notes added) outcome
noted_open budget None None added is = is
noted_open budget None (Some outcome) added is = is
noted_open budget (Some notes) None added is = is
noted_open budget (Some notes) (Some outcome) added is = is

pub noted_held : (budget : ℕ) (notes : Option (Bounded CallNote)) (outcome : Option CoreOutcome) (added : Option CallNote) → IsOpen budget notes outcome → notes_held (noted notes added) outcome ≡ notes_held notes outcome ++ option_to_list added
noted_held budget None None added is = absurd is
noted_held budget None (Some outcome) added is = absurd is
noted_held budget (Some notes) None added is = refl
noted_held budget (Some notes) (Some outcome) added is = absurd is

pub some_room : (budget count : ℕ) (notes : Option (Bounded CallNote)) (outcome : Option CoreOutcome) → IsOpen budget notes outcome → length (notes_held notes outcome) ≤ count → count < budget → IfSome notes (λ kept. length kept.items < kept.room)
some_room budget count None outcome is few below = tt
some_room budget count (Some notes) None is few below = omega (arith, is)
some_room budget count (Some notes) (Some outcome) is few below = absurd is

-- a core that has ended has its outcome, and one that goes on has none
pub has_outcome : (budget units : ℕ) (trap : Option Trap) (ending : Option End) (notes : Option (Bounded CallNote)) (outcome : Option CoreOutcome) → Holds budget units trap ending notes outcome → IsSome ending → IsSome outcome
has_outcome budget units trap None notes outcome holds some = absurd (cc)
has_outcome budget units trap (Some end) None None holds some = absurd holds
has_outcome budget units trap (Some end) None (Some outcome) holds some = refl
has_outcome budget units trap (Some end) (Some notes) None holds some = absurd holds
has_outcome budget units trap (Some end) (Some notes) (Some outcome) holds some = absurd holds

-- the operation that a record of an access asks for
pub served_op : (policy : PolicySeen) (tags : Tags) (item : Record) (word number : ℕ) (op : Op) → Serve word number op ≡ tag_ask policy tags item → op ≡ word_op policy tags item
served_op policy tags (Quiet step pc insn faulted) word number op e = absurd (cc)
served_op policy tags (Blank step pc) word number op e = absurd (cc)
served_op policy tags (Touch step pc own own_number why) word number op e = cc
served_op policy tags (Meet step pc call kind) word number op e = absurd (cc)
served_op policy tags (Back step pc) word number op e = absurd (cc)
served_op policy tags EndRecord word number op e = absurd (cc)

-- what a unit with an access hands over
pub item_taken : (program : Program) (l : Local) (t : Taken) (word : ℕ) (op : Op) (ask : CoreAsk) (item : Option Record) → next_ask program l ≡ Touches word op → ask ≡ Touches word op → item ≡ item_made ask (unit_record program l (Took t)) → item ≡ Some (unit_record program l (Took t))
item_taken program l t word op ask item asks is e = e ∙ ap (λ a. item_made a (unit_record program l (Took t))) is
