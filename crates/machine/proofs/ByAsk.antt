-- One unit of a core, of its word and of the machine, by what the unit asked.
use Rattle.std.proofs.Common.{◌≡◌, ℕ, ◌+◌, ◌<◌, true, false, Bool, Some, None, ◌++◌, refl, sym, ap, append-nil, if◌then◌else◌}
use Rattle.rv_execute.specs.declared.op.Op.{Op}
use Rattle.rv_execute.specs.Payloads.{changed}
use Rattle.tag_policy.specs.Memory.{tags_below}
use Rattle.tag_registers.specs.Tags.{word_tag}
use Rattle.syscall_drain.specs.declared.ask.CoreAsk.{CoreAsk}
use Rattle.syscall_drain.specs.declared.ask.CoreAsk.TheVariants.{Quiet as AsksNothing, Touch as Touches, Meet as Meets, Ended}
use Rattle.syscall_drain.specs.declared.ask.Answer.TheVariants.{Taken as Took}
use Rattle.syscall_drain.specs.Units.{next_ask, answered, placed}
use Rattle.syscall_drain.specs.Pieces.{piece_at}
use Rattle.syscall_drain.proofs.Units.{spent_places_nothing}
use Rattle.record_lane.specs.declared.record.Record.{Record}
use Rattle.machine.specs.Setups.{Setup}
use Rattle.machine.specs.States.{Core, Word, State}
use Rattle.machine.specs.Steps.{Finding, Accessed, core_given, record_given, tags_given, answer_to, notes_of, found_in, word_asked, op_asked, touched, left, word_changed, step, step_by}
use Rattle.tag_registers.proofs.WordOperation.{stays_below}

-- the core after a unit, by what it asked
abbrev pub given_by : Setup → Core → Finding → CoreAsk → Core
given_by s c finding ask = record {
  local = answered s.program s.budget c.local (answer_to ask finding (tags_given s c finding));
  tags = tags_given s c finding;
  notes = c.notes ++ notes_of ask (tags_given s c finding);
}

pub core_given_by : (s : Setup) (c : Core) (finding : Finding) (ask : CoreAsk) → next_ask s.program c.local ≡ ask → core_given s c finding ≡ given_by s c finding ask
unfolding core_given
core_given_by s c finding ask e = rw e refl

-- what a unit touches, by what it asks
pub touches_nothing : (s : Setup) (c : Core) → next_ask s.program c.local ≡ AsksNothing → touched s c ≡ None
unfolding touched
touches_nothing s c e = ap word_asked e

pub meeting_touches_nothing : (s : Setup) (c : Core) (item : Record) → next_ask s.program c.local ≡ Meets item → touched s c ≡ None
unfolding touched
meeting_touches_nothing s c item e = ap word_asked e

pub touches_word : (s : Setup) (c : Core) (word : ℕ) (op : Op) → next_ask s.program c.local ≡ Touches word op → touched s c ≡ Some word
unfolding touched
touches_word s c word op e = ap word_asked e

ask_of_word : (ask : CoreAsk) (n : ℕ) → word_asked ask ≡ Some n → (op : Op) × (ask ≡ Touches n op)
ask_of_word AsksNothing n e = absurd (cc)
ask_of_word (Touches word op) n e = (op, let same : word ≡ n = cc in ap (λ (w : ℕ). Touches w op) same)
ask_of_word (Meets item) n e = absurd (cc)
ask_of_word Ended n e = absurd (cc)

-- a core that touches a word asks for it
pub asks_word : (s : Setup) (c : Core) (n : ℕ) → touched s c ≡ Some n → (op : Op) × (next_ask s.program c.local ≡ Touches n op)
unfolding touched
asks_word s c n e = ask_of_word (next_ask s.program c.local) n e

-- ---- the word after an access

choose_word : (P : Word → Type 0) (b : Bool) (x y : Word) → (b ≡ true → P x) → (b ≡ false → P y) → P (if b then x else y)
choose_word P true x y first second = first refl
choose_word P false x y first second = second refl

pub left_count : (s : Setup) (c : Core) (w : Word) → (left s c w).count ≡ w.count + 1
unfolding left
left_count s c w = choose_word (λ after. after.count ≡ w.count + 1) (found_in s w).spent _ _ (λ _. refl) (λ _. refl)

-- the payload after an access with this operation
abbrev pub payload_after : Setup → Op → Word → ℕ
payload_after s op w = if (found_in s w).spent then w.payload else changed op w.count w.payload

pub left_payload : (s : Setup) (c : Core) (w : Word) (word : ℕ) (op : Op) → next_ask s.program c.local ≡ Touches word op → (left s c w).payload ≡ payload_after s op w
unfolding left
left_payload s c w word op e =
    elim (found_in s w).spent as (λ b. (if b then record w { count = w.count + 1 } else word_changed s c w).payload ≡ (if b then w.payload else changed op w.count w.payload)) [
      | true ↦ refl
      | false ↦ ap (λ ask. changed (op_asked ask) w.count w.payload) e
    ]

pub left_tag : (s : Setup) (c : Core) (w : Word) → (left s c w).tag ≡ (if (found_in s w).spent then w.tag else word_tag s.policy c.tags (record_given s c (Accessed (found_in s w) w.tag)) w.tag)
unfolding left
left_tag s c w =
    elim (found_in s w).spent as (λ b. (if b then record w { count = w.count + 1 } else word_changed s c w).tag ≡ (if b then w.tag else word_tag s.policy c.tags (record_given s c (Accessed (found_in s w) w.tag)) w.tag)) [ true ↦ refl | false ↦ refl ]

pub left_tag_below : (s : Setup) (c : Core) (w : Word) → w.tag < tags_below s.policy.version → (left s c w).tag < tags_below s.policy.version
unfolding left
left_tag_below s c w low = choose_word (λ after. after.tag < tags_below s.policy.version) (found_in s w).spent _ _ (λ _. low) (λ _. stays_below s.policy c.tags (record_given s c (Accessed (found_in s w) w.tag)) w.tag low)

-- the pieces after an access: those before, and the one that the unit claimed
pub left_pieces : (s : Setup) (c : Core) (w : Word) → (left s c w).pieces ≡ w.pieces ++ piece_at (placed s.program c.local (Took (found_in s w))) c.local.gathered
unfolding left
left_pieces s c w =
    choose_word (λ after. after.pieces ≡ w.pieces ++ piece_at (placed s.program c.local (Took (found_in s w))) c.local.gathered) (found_in s w).spent _ _
    (λ spent. rw (spent_places_nothing s.program c.local (found_in s w) spent) (sym (append-nil w.pieces)))
    (λ _. refl)

-- ---- the step

pub step_quiet : (s : Setup) (t : State) (c : ℕ) → touched s (t.cores c) ≡ None → step s t c ≡ step_by s t c None
unfolding step
step_quiet s t c e = ap (step_by s t c) e

pub step_took : (s : Setup) (t : State) (c n : ℕ) → touched s (t.cores c) ≡ Some n → step s t c ≡ step_by s t c (Some n)
unfolding step
step_took s t c n e = ap (step_by s t c) e
