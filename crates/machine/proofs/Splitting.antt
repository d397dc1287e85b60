-- The parts of a run make it: a core's step is its local part and its tags, and a core whose parts stand in both histories goes along them.
use Rattle.std.proofs.Common.{◌≡◌, ℕ, suc, ◌<◌, Bool, true, false, Option, IfSome, List, [], ◌∷◌, ◌++◌, All, refl, sym, ap, ap₂, ◌∙◌, subst, arith, nat_le, if◌then◌else◌, append_assoc, append-nil}
use Rattle.std.proofs.lemmas.List.Elements.{All-append, All-nil}
use Rattle.elf_image.specs.Layout.{first_word}
use Rattle.rv_execute.specs.declared.op.Op.{Op}
use Rattle.rv_execute.specs.declared.op.Taken.{Taken}
use Rattle.rv_execute.specs.Payloads.{changed}
use Rattle.record_lane.specs.declared.record.Record.{Record}
use Rattle.record_lane.specs.declared.note.CallNote.{CallNote}
use Rattle.record_lane.specs.declared.reply.Reply.{Reply}
use Rattle.tag_policy.specs.Memory.{tags_below}
use Rattle.tag_registers.specs.Tags.{Tags, tags_after, word_tag, word_op}
use Rattle.tag_registers.specs.Folds.{Given, tags_fold, folded}
use Rattle.tag_registers.proofs.WordOperation.{operation_leaves}
use Rattle.syscall_drain.specs.declared.ask.CoreAsk.{CoreAsk}
use Rattle.syscall_drain.specs.declared.ask.CoreAsk.TheVariants.{Quiet as AsksNothing, Touch as Touches, Meet as Meets, Ended}
use Rattle.syscall_drain.specs.declared.ask.Answer.{Answer}
use Rattle.syscall_drain.specs.declared.ask.Answer.TheVariants.{Nothing, Taken as Took, Reply as Replied}
use Rattle.syscall_drain.specs.declared.task.Task.{Task}
use Rattle.syscall_drain.specs.declared.task.Task.TheVariants.{Over, Quiet, Access as Accesses, Meeting}
use Rattle.syscall_drain.specs.declared.task.QuietReason.TheVariants.{Blank, Faulted, Plain, Return}
use Rattle.syscall_drain.specs.Locals.{Local}
use Rattle.syscall_drain.specs.Tasks.{task_of}
use Rattle.syscall_drain.specs.Units.{FitsAsk, next_ask, task_ask, answered, taken_of, placed}
use Rattle.syscall_drain.specs.Records.{task_record, unit_record}
use Rattle.syscall_drain.specs.Runs.{local_after}
use Rattle.syscall_drain.specs.Pieces.{Piece, piece_at}
use Rattle.syscall_drain.proofs.Units.{fits_running}
use Rattle.order_core.specs.declared.entry.Access.{Access}
use Rattle.order_core.specs.declared.entry.Entry.{Entry}
use Rattle.actor_lists.specs.Walked.{access_by}
use Rattle.machine.specs.Setups.{Setup, core_count}
use Rattle.machine.specs.States.{Core, Word, opening}
use Rattle.machine.specs.Steps.{Finding, Accessed, core_given, record_given, tags_given, answer_to, note_of, notes_of, found_in, word_asked, touched, left}
use Rattle.machine.proofs.ByAsk.{left_count, left_payload, left_tag, left_pieces}
use Rattle.machine.proofs.Histories.{found_at, core_next, core_after, IsInHistory, word_in, MakesEntry, IsCoreRun, IsAlike, StandsIn}
use Rattle.machine.proofs.Parts.{finding_of, AgreesWith, AreParts, core_of_parts, WordParts, history_in, IsNear, StandsInBoth, StandsBy, IsPartedUnit, IsPartedRun, notes_by, core_of_lists}

-- ---- one unit of a core

-- a record says nothing of a reply
replied_record : (s : Setup) (l : Local) (reply : Reply) → unit_record s.program l (Replied reply) ≡ unit_record s.program l Nothing
unfolding unit_record
replied_record s l reply = refl

-- the tags after it
tags_of_parts : (s : Setup) (core : Core) (answer : Answer) (given : Given) → AreParts s core answer given
    → tags_given s core (finding_of answer given.found) ≡ tags_after s.policy core.tags given.item given.found
tags_of_parts s core answer given parts = by_answer answer parts.item parts.agrees
  where
    after : Record → ℕ → Tags
    after item found = tags_after s.policy core.tags item found

    by_answer : (a : Answer) → given.item ≡ unit_record s.program core.local a → AgreesWith a given.found (after given.item given.found)
        → tags_given s core (finding_of a given.found) ≡ after given.item given.found
    by_answer Nothing item agrees = sym (ap₂ after item agrees)
    by_answer (Took t) item agrees = sym (ap (λ (r : Record). after r given.found) item)
    by_answer (Replied reply) item agrees = sym (ap₂ after (item ∙ replied_record s core.local reply) agrees.0)

-- the answer
answer_of_parts : (ask : CoreAsk) (answer : Answer) (found : ℕ) (after : Tags) → FitsAsk ask answer → AgreesWith answer found after
    → answer_to ask (finding_of answer found) after ≡ answer
answer_of_parts AsksNothing Nothing found after fits agrees = refl
answer_of_parts AsksNothing (Took t) found after fits agrees = absurd fits
answer_of_parts AsksNothing (Replied reply) found after fits agrees = absurd fits
answer_of_parts (Touches word op) Nothing found after fits agrees = absurd fits
answer_of_parts (Touches word op) (Took t) found after fits agrees = refl
answer_of_parts (Touches word op) (Replied reply) found after fits agrees = absurd fits
answer_of_parts (Meets item) Nothing found after fits agrees = absurd fits
answer_of_parts (Meets item) (Took t) found after fits agrees = absurd fits
answer_of_parts (Meets item) (Replied reply) found after fits agrees = ap (λ r. Replied r) (sym agrees.1)
answer_of_parts Ended Nothing found after fits agrees = absurd fits
answer_of_parts Ended (Took t) found after fits agrees = absurd fits
answer_of_parts Ended (Replied reply) found after fits agrees = absurd fits

-- the note
note_of_task : (l : Local) (task : Task) (t : Taken) (after : Tags) → notes_of (task_ask l task) after ≡ note_of (task_record l task t) after
note_of_task l Over t after = refl
note_of_task l (Quiet (Blank fault)) t after = refl
note_of_task l (Quiet (Faulted fault insn)) t after = refl
note_of_task l (Quiet (Plain insn)) t after = refl
note_of_task l (Quiet (Return result)) t after = refl
note_of_task l (Accesses word op reason) t after = refl
note_of_task l (Meeting kind) t after = refl

note_of_unit : (s : Setup) (l : Local) (answer : Answer) (after : Tags) → notes_of (next_ask s.program l) after ≡ note_of (unit_record s.program l answer) after
unfolding next_ask unit_record
note_of_unit s l answer after = note_of_task l (task_of s.program l) (taken_of answer) after

pub split_unit : (s : Setup) (core : Core) (answer : Answer) (given : Given) → AreParts s core answer given
    → core_given s core (finding_of answer given.found) ≡ core_of_parts s core answer given
unfolding core_given
split_unit s core answer given parts =
    let ask : CoreAsk = next_ask s.program core.local in
    let finding : Finding = finding_of answer given.found in
    let after : Tags = tags_after s.policy core.tags given.item given.found in
    ap (λ (tags : Tags). record { local = answered s.program s.budget core.local (answer_to ask finding tags); tags = tags; notes = core.notes ++ notes_of ask tags }) (tags_of_parts s core answer given parts)
    ∙ ap₂ (λ (a : Answer) (notes : List CallNote). record { local = answered s.program s.budget core.local a; tags = after; notes = core.notes ++ notes })
    (answer_of_parts ask answer given.found after parts.fits parts.agrees)
    (note_of_unit s core.local answer after ∙ ap (λ (item : Record). note_of item after) (sym parts.item))

-- ---- one access to a word

-- the operation on the tag word leaves the tag of the record
pub left_by_operation : (s : Setup) (core : Core) (given : Given) (number left : ℕ) → given.found < tags_below s.policy.version
    → left ≡ changed (word_op s.policy core.tags given.item) number given.found → left ≡ word_tag s.policy core.tags given.item given.found
left_by_operation s core given number left below e = e ∙ operation_leaves s.policy core.tags given.item number given.found below

-- a spent access leaves the tag word
spent_task : (s : Setup) (core : Core) (t : Taken) (found word : ℕ) (op : Op) (task : Task) → task_ask core.local task ≡ Touches word op → t.spent ≡ true
    → word_tag s.policy core.tags (task_record core.local task t) found ≡ found
unfolding word_tag
spent_task s core t found word op Over asks spent = absurd (cc)
spent_task s core t found word op (Quiet reason) asks spent = absurd (cc)
spent_task s core t found word op (Accesses w o reason) asks spent = rw spent refl
spent_task s core t found word op (Meeting kind) asks spent = absurd (cc)

spent_tag : (s : Setup) (core : Core) (t : Taken) (found word : ℕ) (op : Op) → next_ask s.program core.local ≡ Touches word op → t.spent ≡ true
    → word_tag s.policy core.tags (unit_record s.program core.local (Took t)) found ≡ found
unfolding next_ask unit_record
spent_tag s core t found word op asks spent = spent_task s core t found word op (task_of s.program core.local) asks spent

module _ (s : Setup) (words : WordParts) (InOutput : Piece → Type 0) where
  -- an access finds in the word of the machine what it found in both histories
  found_near : (core : Core) (given : Given) (word : ℕ) (op : Op) (t : Taken) → StandsInBoth s words InOutput core given word op t → (w : Word)
      → IsAlike w (history_in words word t.number) → found_in s w ≡ t
  found_near core given word op t stands w near =
      ap₂ (λ (number old : ℕ). record { number = number; old = old; spent = nat_le s.limit number }) near.count (near.payload ∙ stands.payload)
      ∙ ap (λ (spent : Bool). record { number = t.number; old = t.old; spent = spent }) (sym stands.spent)

  tag_near : (core : Core) (given : Given) (word : ℕ) (op : Op) (t : Taken) → next_ask s.program core.local ≡ Touches word op
      → given.item ≡ unit_record s.program core.local (Took t)
      → (if t.spent then given.found else word_tag s.policy core.tags (unit_record s.program core.local (Took t)) given.found) ≡ word_tag s.policy core.tags given.item given.found
  tag_near core given word op t asks item = by_spent t.spent refl ∙ ap (λ (r : Record). word_tag s.policy core.tags r given.found) (sym item)
    where
      after : ℕ
      after = word_tag s.policy core.tags (unit_record s.program core.local (Took t)) given.found

      by_spent : (spent : Bool) → t.spent ≡ spent → (if spent then given.found else after) ≡ after
      by_spent true is = sym (spent_tag s core t given.found word op asks is)
      by_spent false is = refl

  -- and leaves there what is next in both
  left_near : (core : Core) (given : Given) (word : ℕ) (op : Op) (t : Taken) → next_ask s.program core.local ≡ Touches word op
      → given.item ≡ unit_record s.program core.local (Took t)
      → StandsInBoth s words InOutput core given word op t → (w : Word) → IsNear InOutput w (history_in words word t.number)
      → IsNear InOutput (left s core w) (history_in words word (suc t.number))
  left_near core given word op t asks item stands w near =
      let same : found_in s w ≡ t = found_near core given word op t stands w near.alike in
      let tag : w.tag ≡ given.found = (near.alike).tag ∙ stands.tag in
      record {
        alike = record {
          count = omega (arith, left_count s core w, (near.alike).count);
          payload = left_payload s core w word op asks ∙ ap (λ (u : Taken). if u.spent then u.old else changed op u.number u.old) same ∙ sym stands.payload_left;
          tag = left_tag s core w
              ∙ ap₂ (λ (u : Taken) (found : ℕ). if u.spent then found else word_tag s.policy core.tags (record_given s core (Accessed u found)) found) same tag
              ∙ tag_near core given word op t asks item ∙ sym stands.tag_left;
        };
        pieces = subst (λ (pieces : List Piece). All InOutput pieces) (sym (left_pieces s core w))
            (All-append InOutput w.pieces (piece_at (placed s.program core.local (Took (found_in s w))) core.local.gathered) near.pieces
            (subst (λ (u : Taken). All InOutput (piece_at (placed s.program core.local (Took u)) core.local.gathered)) (sym same) stands.pieces));
      }

  -- ---- one unit of a core along the histories

  word_of_access : (ask : CoreAsk) (answer : Answer) → FitsAsk ask answer → word_asked ask ≡ word_in (access_by ask answer)
  word_of_access AsksNothing answer fits = refl
  word_of_access (Touches word op) Nothing fits = absurd fits
  word_of_access (Touches word op) (Took t) fits = refl
  word_of_access (Touches word op) (Replied reply) fits = absurd fits
  word_of_access (Meets item) answer fits = refl
  word_of_access Ended answer fits = refl

  touched_word : (core : Core) (answer : Answer) → FitsAsk (next_ask s.program core.local) answer
      → touched s core ≡ word_in (access_by (next_ask s.program core.local) answer)
  unfolding touched
  touched_word core answer fits = word_of_access (next_ask s.program core.local) answer fits

  found_in_both : (core : Core) (given : Given) (ask : CoreAsk) (answer : Answer) → next_ask s.program core.local ≡ ask
      → given.item ≡ unit_record s.program core.local answer
      → StandsBy s words InOutput core given ask answer → IfSome (access_by ask answer) (IsInHistory s (IsNear InOutput) (history_in words) core)
  found_in_both core given (Touches word op) (Took t) asks item stands = record {
    count = refl;
    payload = stands.payload;
    after = λ w near. left_near core given word op t asks item stands w near;
  }
  found_in_both core given AsksNothing answer asks item stands = tt
  found_in_both core given (Touches word op) Nothing asks item stands = tt
  found_in_both core given (Touches word op) (Replied reply) asks item stands = tt
  found_in_both core given (Meets item) answer asks is stands = tt
  found_in_both core given Ended answer asks item stands = tt

  finding_is : (core : Core) (given : Given) (ask : CoreAsk) (answer : Answer) → FitsAsk ask answer → StandsBy s words InOutput core given ask answer
      → found_at s (history_in words) (access_by ask answer) ≡ finding_of answer given.found
  finding_is core given AsksNothing Nothing fits stands = refl
  finding_is core given AsksNothing (Took t) fits stands = absurd fits
  finding_is core given AsksNothing (Replied reply) fits stands = absurd fits
  finding_is core given (Touches word op) Nothing fits stands = absurd fits
  finding_is core given (Touches word op) (Took t) fits stands =
      ap₂ (λ (u : Taken) (found : ℕ). Accessed u found) (found_near core given word op t stands (history_in words word t.number) (record { count = refl; payload = refl; tag = refl })) stands.tag
  finding_is core given (Touches word op) (Replied reply) fits stands = absurd fits
  finding_is core given (Meets item) Nothing fits stands = absurd fits
  finding_is core given (Meets item) (Took t) fits stands = absurd fits
  finding_is core given (Meets item) (Replied reply) fits stands = refl
  finding_is core given Ended Nothing fits stands = absurd fits
  finding_is core given Ended (Took t) fits stands = absurd fits
  finding_is core given Ended (Replied reply) fits stands = absurd fits

  parted_makes : (c : ℕ) (core : Core) (answer : Answer) (given : Given) (entry : Entry) → c < core_count s
      → IsPartedUnit s words InOutput core answer given entry
      → MakesEntry s (IsNear InOutput) (history_in words) c core entry
  parted_makes c core answer given entry below unit =
      let ask : CoreAsk = next_ask s.program core.local in
      record {
        within = below;
        running = fits_running s.program core.local answer (unit.parts).fits;
        touches = touched_word core answer (unit.parts).fits ∙ sym (ap word_in unit.touch);
        found =
            subst (λ (touch : Option Access). IfSome touch (IsInHistory s (IsNear InOutput) (history_in words) core)) (sym unit.touch) (found_in_both core given ask answer refl (unit.parts).item unit.stands);
      }

  parted_next : (core : Core) (answer : Answer) (given : Given) (entry : Entry) → IsPartedUnit s words InOutput core answer given entry
      → core_next s (history_in words) core entry ≡ core_of_parts s core answer given
  parted_next core answer given entry unit =
      ap (λ (touch : Option Access). core_given s core (found_at s (history_in words) touch)) unit.touch
      ∙ ap (core_given s core) (finding_is core given (next_ask s.program core.local) answer (unit.parts).fits unit.stands)
      ∙ split_unit s core answer given unit.parts

  -- ---- all units of a core

  -- a core goes along its log to the core of its lists
  pub record IsAlong (c : ℕ) (core : Core) (answers : List Answer) (givens : List Given) (entries : List Entry) : Type 0 where
    pub going : IsCoreRun s (IsNear InOutput) (history_in words) c core entries
    pub after : core_after s (history_in words) core entries ≡ core_of_lists s core answers givens

  lists_none : (c : ℕ) (core : Core) → IsAlong c core [] [] []
  unfolding IsCoreRun core_after local_after tags_fold folded
  lists_none c core = record { going = tt; after = ap (λ (notes : List CallNote). record core { notes = notes }) (sym (append-nil core.notes)) }

  lists_more : (c : ℕ) (core : Core) (answer : Answer) (given : Given) (entry : Entry) (answers : List Answer) (givens : List Given) (entries : List Entry)
      → c < core_count s
      → IsPartedUnit s words InOutput core answer given entry → IsAlong c (core_of_parts s core answer given) answers givens entries
      → IsAlong c core (answer ∷ answers) (given ∷ givens) (entry ∷ entries)
  unfolding IsCoreRun core_after local_after tags_fold folded
  lists_more c core answer given entry answers givens entries below unit rest =
      let next : core_next s (history_in words) core entry ≡ core_of_parts s core answer given = parted_next core answer given entry unit in
      record {
        going =
            (parted_makes c core answer given entry below unit, subst (λ (d : Core). IsCoreRun s (IsNear InOutput) (history_in words) c d entries) (sym next) rest.going);
        after = ap (λ (d : Core). core_after s (history_in words) d entries) next ∙ rest.after
            ∙ ap (λ (notes : List CallNote). record (core_of_lists s core (answer ∷ answers) (given ∷ givens)) { notes = notes })
            (append_assoc core.notes (note_of given.item (tags_after s.policy core.tags given.item given.found)) (notes_by s.policy (tags_after s.policy core.tags given.item given.found) givens));
      }

  pub parted_run : (c : ℕ) (core : Core) (answers : List Answer) (givens : List Given) (entries : List Entry) → c < core_count s
      → IsPartedRun s words InOutput core answers givens entries → IsAlong c core answers givens entries
  unfolding IsPartedRun
  parted_run c core [] [] [] below run = lists_none c core
  parted_run c core (answer ∷ answers) (given ∷ givens) (entry ∷ entries) below run =
      lists_more c core answer given entry answers givens entries below run.0 (parted_run c (core_of_parts s core answer given) answers givens entries below run.1)
  parted_run c core [] [] (entry ∷ entries) below run = absurd run
  parted_run c core [] (given ∷ givens) entries below run = absurd run
  parted_run c core (answer ∷ answers) [] entries below run = absurd run
  parted_run c core (answer ∷ answers) (given ∷ givens) [] below run = absurd run

  -- the first words of a run stand in histories that begin with the first payloads and with no tags
  pub opening_stands : ((n : ℕ) → words.payloads n 0 ≡ first_word s.program.layout n) → ((n : ℕ) → words.tags n 0 ≡ 0)
      → StandsIn (IsNear InOutput) (history_in words) (opening s)
  opening_stands first none n = record {
    alike = record { count = refl; payload = sym (first n); tag = sym (none n) };
    pieces = All-nil InOutput;
  }
