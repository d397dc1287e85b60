-- All units of a core over the two histories of a run, along its answers and its records together.
use Rattle.std.proofs.Common.{◌≡◌, ℕ, List, [], ◌∷◌, ◌++◌, map, refl, ap₂, subst}
use Rattle.std.specs.Prelude.{All}
use Rattle.std.proofs.lemmas.List.Elements.{All-head, All-tail}
use Rattle.std.proofs.lemmas.List.{map-append}
use Rattle.record_lane.specs.declared.note.CallNote.{CallNote}
use Rattle.tag_registers.specs.Tags.{Tags, tags_after}
use Rattle.tag_registers.specs.Folds.{Given, TagAccess, access_of, folded, tag_accesses, replies}
use Rattle.ticket_table.specs.declared.change.Change.{Change}
use Rattle.syscall_drain.specs.Locals.{Local}
use Rattle.syscall_drain.specs.Units.{next_ask, answered, placed}
use Rattle.syscall_drain.specs.Records.{unit_record}
use Rattle.syscall_drain.specs.Runs.{IsLocalRun}
use Rattle.syscall_drain.specs.Pieces.{piece_at}
use Rattle.syscall_drain.specs.declared.ask.Answer.{Answer}
use Rattle.actor_lists.specs.Walked.{walked, draw_by, draws_by, log_by, records_by, replies_by, claims_by, SaysSpent, notes_by}
use Rattle.actor_lists.specs.Folded.{change_by, FoundNone}
use Rattle.machine.specs.Setups.{Setup}
use Rattle.machine.specs.States.{Core}
use Rattle.machine.proofs.Parts.{IsPartedRun, core_of_parts, notes_by as notes_folded}
use Rattle.machine.proofs.Joining.{IsPieceOf}
use Rattle.live_run.proofs.WordValues.{front_all, back_all}
use Rattle.live_run.proofs.WordHistories.{draw_terms, serve_terms, words_along, IsDrawn, IsServed}
use Rattle.live_run.proofs.UnitParts.{IsUnit, replies_apart, unit_parted, unit_note}

module _ (s : Setup) (drawn served : List Change) (out : List ℕ) (c : ℕ) where
  -- the answers and the records of core c, from where it stands
  pub record AreUnits (core : Core) (answers : List Answer) (givens : List Given) : Type 0 where
    pub run : IsLocalRun s.program s.budget core.local answers
    pub told : All (SaysSpent s.limit) answers
    pub items : map (λ given. given.item) givens ≡ records_by s.program s.budget core.local answers
    pub found : All FoundNone givens
    pub draws : All (IsDrawn s drawn) (draws_by (draw_terms s) c s.program s.budget core.local answers)
    pub serves : All (IsServed s served) (map (change_by (serve_terms s) c) (tag_accesses s.policy core.tags givens))
    pub replied : replies s.policy core.tags givens ≡ replies_by s.program s.budget core.local answers
    pub claims : All (IsPieceOf out) (claims_by s.program s.budget core.local answers)

  -- the first unit, and those after it
  record AreSplit (core : Core) (answer : Answer) (given : Given) (answers : List Answer) (givens : List Given) : Type 0 where
    unit : IsUnit s drawn served out c core answer given
    rest : AreUnits (core_of_parts s core answer given) answers givens

  split : (core : Core) (answer : Answer) (given : Given) (answers : List Answer) (givens : List Given) → AreUnits core (answer ∷ answers) (given ∷ givens) → AreSplit core answer given answers givens
  unfolding IsLocalRun walked folded
  split core answer given answers givens units =
      let next : Local = answered s.program s.budget core.local answer in
      let after : Tags = tags_after s.policy core.tags given.item given.found in
      let items : given.item ∷ map (λ (g : Given). g.item) givens ≡ unit_record s.program core.local answer ∷ records_by s.program s.budget next answers = units.items in
      let item : given.item ≡ unit_record s.program core.local answer = cc in
      let apart = replies_apart s drawn served out c core given (next_ask s.program core.local) answer refl (units.run).0 item
      (replies s.policy after givens) (replies_by s.program s.budget next answers) units.replied in
      let draws : List Change = draw_by (draw_terms s) c (next_ask s.program core.local) answer in
      let serves : List TagAccess = access_of s.policy core.tags given.item given.found in
      let served_all : All (IsServed s served) (map (change_by (serve_terms s) c) serves ++ map (change_by (serve_terms s) c) (tag_accesses s.policy after givens)) =
      subst (All (IsServed s served)) (map-append (change_by (serve_terms s) c) serves (tag_accesses s.policy after givens)) units.serves in
      record {
        unit = record {
          fits = (units.run).0;
          told = All-head (SaysSpent s.limit) answer answers units.told;
          item = item;
          none = All-head FoundNone given givens units.found;
          draws = front_all (IsDrawn s drawn) draws (draws_by (draw_terms s) c s.program s.budget next answers) units.draws;
          serves = front_all (IsServed s served) (map (change_by (serve_terms s) c) serves) (map (change_by (serve_terms s) c) (tag_accesses s.policy after givens)) served_all;
          replies = apart.0;
          claims = front_all (IsPieceOf out) (piece_at (placed s.program core.local answer) core.local.gathered) (claims_by s.program s.budget next answers) units.claims;
        };
        rest = record {
          run = (units.run).1;
          told = All-tail (SaysSpent s.limit) answer answers units.told;
          items = cc;
          found = All-tail FoundNone given givens units.found;
          draws = back_all (IsDrawn s drawn) draws (draws_by (draw_terms s) c s.program s.budget next answers) units.draws;
          serves = back_all (IsServed s served) (map (change_by (serve_terms s) c) serves) (map (change_by (serve_terms s) c) (tag_accesses s.policy after givens)) served_all;
          replied = apart.1;
          claims = back_all (IsPieceOf out) (piece_at (placed s.program core.local answer) core.local.gathered) (claims_by s.program s.budget next answers) units.claims;
        };
      }

  -- they go along their log, and their notes are those of the records
  pub record GoAlong (core : Core) (answers : List Answer) (givens : List Given) : Type 0 where
    pub run : IsPartedRun s (words_along s drawn served) (IsPieceOf out) core answers givens (log_by s.program s.budget core.local answers)
    pub notes : notes_by s.program s.budget core.local answers ≡ notes_folded s.policy core.tags givens

  along_more : (core : Core) (answer : Answer) (given : Given) (answers : List Answer) (givens : List Given) → IsUnit s drawn served out c core answer given
      → GoAlong (core_of_parts s core answer given) answers givens → GoAlong core (answer ∷ answers) (given ∷ givens)
  unfolding walked folded IsPartedRun
  along_more core answer given answers givens unit rest = record {
    run = (unit_parted s drawn served out c core answer given unit, rest.run);
    notes = ap₂ (λ (xs ys : List CallNote). xs ++ ys) (unit_note s drawn served out c core answer given unit) rest.notes;
  }

  pub units_along : (core : Core) (answers : List Answer) (givens : List Given) → AreUnits core answers givens → GoAlong core answers givens
  unfolding walked folded IsPartedRun
  units_along core [] [] units = record { run = tt; notes = refl }
  units_along core [] (given ∷ givens) units =
      let items : given.item ∷ map (λ (g : Given). g.item) givens ≡ [] = units.items in
      absurd (cc)
  units_along core (answer ∷ answers) [] units =
      let items : [] ≡ unit_record s.program core.local answer ∷ records_by s.program s.budget (answered s.program s.budget core.local answer) answers = units.items in
      absurd (cc)
  units_along core (answer ∷ answers) (given ∷ givens) units =
      let parts = split core answer given answers givens units in
      along_more core answer given answers givens parts.unit (units_along (core_of_parts s core answer given) answers givens parts.rest)
