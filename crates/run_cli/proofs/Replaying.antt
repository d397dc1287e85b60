-- A replay: where the steps of an order stop, and the refusals of a report.
use Rattle.std.proofs.Common.{◌≡◌, ℕ, zero, suc, ◌+◌, ◌<◌, ◌≤◌, List, [], ◌∷◌, ◌++◌, length, take, slice_get, lt-ltb, Bool, codes, None, Some, Result, inl, inr, true, false, refl, sym, ap, subst, ◌∙◌, arith, nat_lt, if◌then◌else◌, not, is_some}
use Rattle.std.specs.Prelude.{OnOk, IfErr}
use Rattle.std.proofs.lemmas.List.{take_more, take_all}
use Rattle.std.proofs.lemmas.Result.{IfErr-weaker, on_ok_weaker}
use Rattle.std.proofs.lemmas.Option.{slice_get_within, get_or_from_slice_get}
use Rattle.machine.specs.Setups.{Setup, core_count}
use Rattle.machine.specs.States.{State, opening}
use Rattle.machine.specs.Steps.{step}
use Rattle.machine.specs.Runs.{run, IsPlayable, IsPlayableFrom, IsComplete}
use Rattle.trap_report.specs.Reading.{Reported}
use Rattle.inline_tracker.specs.Seen.{TrackerSeen, step_answer, is_over}
use Rattle.inline_tracker.specs.declared.step.StepFault.{StepFault}
use Rattle.inline_tracker.specs.declared.step.StepFault.TheVariants.{Ended, NoSuchCore}
use Rattle.inline_tracker.specs.declared.step.Stepped.TheVariants.{Went, Refused}
use Rattle.run_cli.specs.Seen.{FilesSeen}
use Rattle.run_cli.specs.Asked.{SetupAsked, ReplayAsked, Replay}
use Rattle.run_cli.specs.Work.{IsContents, SaysReport, IsSetupOf, IsReplayOf, AskedByReport, setup_told}
use Rattle.run_cli.specs.Causes.{IsCalm, Caused, IsBadOrder, StopsAt, EndedBefore}
use Rattle.trap_report.specs.declared.saved.ReportKind.TheVariants.{Order}
use Rattle.run_cli.specs.Endings.{AnswersReplay, text_answer}
use Rattle.run_cli.specs.Forms.{IsNoReport, Disagrees, Agrees}
use Rattle.run_cli.specs.declared.files.FileKind.TheVariants.{Report as ReportFile}
use Rattle.run_cli.specs.declared.ending.Ending.{Ending}
use Rattle.run_cli.specs.declared.ending.Ending.TheVariants.{Class, Words, Image, Policy, Differs, Report, Long, Memory, Read, Write}

-- ---- an order that stops is not complete

-- in an order that can be played, the core of each unit has not ended before it
runs_before : (s : Setup) (t : State) (order : List ℕ) (units core : ℕ) → IsPlayableFrom s t order → slice_get order units ≡ Some core → ((run s t (take units order)).cores core).local.ending ≡ None
unfolding run IsPlayableFrom
runs_before s t [] units core playable next = let clash : None ≡ Some core = next in cc
runs_before s t (c ∷ order) zero core playable next =
    let same : Some c ≡ Some core = next in
    let is : c ≡ core = cc in
    subst (λ (d : ℕ). (t.cores d).local.ending ≡ None) is playable.1
runs_before s t (c ∷ order) (suc units) core playable next = runs_before s (step s t c) order units core playable.2 next

pub stopped_incomplete : (s : Setup) (order : List ℕ) (units : ℕ) → StopsAt s order units → IsComplete s order → ⊥
stopped_incomplete s order units stops complete = elim stops.stops [
  | inl ended ↦
      let over : true ≡ false = sym ended.over ∙ ap is_some (runs_before s (opening s) order units ended.core complete.playable ended.next) in
      absurd (let clash : true ≡ false = over in cc)
  | inr goes ↦ goes.incomplete complete
]

-- ---- the steps of an order

-- a tracker that took the first units of an order
abbrev pub tracker_along : Setup → List ℕ → ℕ → TrackerSeen
tracker_along s order units = record { setup = s; order = take units order }

pub starts : (t : TrackerSeen) (order : List ℕ) → t.order ≡ [] → (t ≡ tracker_along t.setup order 0) × IsPlayable t.setup (take 0 order)
unfolding IsPlayableFrom
starts t order fresh = (ap (λ (o : List ℕ). record { setup = t.setup; order = o }) fresh, tt)

pub goes_on : (s : Setup) (order : List ℕ) (units core : ℕ) (t new : TrackerSeen) → slice_get order units ≡ Some core → t ≡ tracker_along s order units
    → new ≡ record { setup = t.setup; order = t.order ++ core ∷ [] } → IsPlayable new.setup new.order
    → (new ≡ tracker_along s order (units + 1)) × IsPlayable s (take (units + 1) order)
goes_on s order units core t new next is after playable =
    let more : take (units + 1) order ≡ take units order ++ core ∷ [] =
    take_more order units core (slice_get_within order units core next) ∙ ap (λ (c : ℕ). take units order ++ c ∷ []) (get_or_from_slice_get order units core core next) in
    let now : new ≡ tracker_along s order (units + 1) =
    after ∙ ap (λ (u : TrackerSeen). record { setup = u.setup; order = u.order ++ core ∷ [] }) is ∙ ap (λ (o : List ℕ). record { setup = s; order = o }) (sym more) in
    (now, subst (λ (u : TrackerSeen). IsPlayable u.setup u.order) now playable)

over_by : (t : TrackerSeen) (core : ℕ) (fault : StepFault) → core < core_count t.setup → step_answer t core ≡ Refused fault → is_over t core ≡ true
over_by t core fault below answer =
    let known : nat_lt core (core_count t.setup) ≡ true = lt-ltb core (core_count t.setup) below in
    elim (is_over t core) as (λ b. (if not (nat_lt core (core_count t.setup)) then Refused NoSuchCore else if b then Refused Ended else Went) ≡ Refused fault → b ≡ true) [
      | true ↦ λ h. refl
      | false ↦ λ h. let clash : Went ≡ Refused fault = subst (λ (known : Bool). (if not known then Refused NoSuchCore else Went) ≡ Refused fault) known h in cc
    ] answer

pub stops_here : (s : Setup) (order : List ℕ) (units core : ℕ) (t : TrackerSeen) (fault : StepFault) → slice_get order units ≡ Some core → core < core_count s → t ≡ tracker_along s order units
    → step_answer t core ≡ Refused fault → EndedBefore s order units
stops_here s order units core t fault next below is answer = record {
  core = core;
  next = next;
  over = over_by (tracker_along s order units) core fault below (subst (λ (u : TrackerSeen). step_answer u core ≡ Refused fault) is answer);
}

-- all units went, and some core has not ended
pub stops_at_end : (s : Setup) (order : List ℕ) (units : ℕ) (created t : TrackerSeen) → units ≤ length order → length order ≤ units → created ≡ record { setup = s; order = [] }
    → IsPlayable created.setup (take units order) → t ≡ record { setup = created.setup; order = take units order } → (IsComplete t.setup t.order → ⊥) → IsBadOrder s order (units + 8) Order
stops_at_end s order units created t within past at_start playable is incomplete =
    let setup : created.setup ≡ s = ap (λ (u : TrackerSeen). u.setup) at_start in
    let all : take units order ≡ order = take_all units order past in
    let here : t ≡ record { setup = s; order = order } = is ∙ ap (λ (r : Setup). record { setup = r; order = take units order }) setup ∙ ap (λ (o : List ℕ). record { setup = s; order = o }) all in record {
      kind_is = refl;
      units = units;
      stops = record {
        playable = subst (λ (r : Setup). IsPlayable r (take units order)) setup playable;
        stops = inr (record { all = omega arith; incomplete = subst (λ (u : TrackerSeen). IsComplete u.setup u.order → ⊥) here incomplete });
      };
      line_is = refl;
    }

-- ---- refusals

pub refused_bytes : (o : ReplayAsked) (old new : FilesSeen) (bytes : List ℕ) (ending : Ending) → IsContents old ReportFile o.report bytes → IsCalm old new
    → IsNoReport bytes ending → Caused (Replay o) old new ending
refused_bytes o old new bytes (Report line kind) contents calm has = record {
  options = o;
  asks = refl;
  bad = inl (record { bytes = bytes; contents = contents; has = has });
  calm = calm;
}
refused_bytes o old new bytes Memory contents calm has = calm
refused_bytes o old new bytes (Class class) contents calm has = absurd has
refused_bytes o old new bytes Words contents calm has = absurd has
refused_bytes o old new bytes (Image fault) contents calm has = absurd has
refused_bytes o old new bytes (Policy kind table key) contents calm has = absurd has
refused_bytes o old new bytes (Differs place) contents calm has = absurd has
refused_bytes o old new bytes (Long kind) contents calm has = absurd has
refused_bytes o old new bytes (Read kind) contents calm has = absurd has
refused_bytes o old new bytes Write contents calm has = absurd has

-- the report was read, and then the setup of its numbers is refused; reading it left the files as they were
pub refused_setup : (o : ReplayAsked) (old read new : FilesSeen) (bytes : List ℕ) (told : Reported) (setup : SetupAsked) (ending : Ending) → SaysReport old o.report bytes told → read ≡ old
    → setup ≡ setup_told o told.numbers → (AskedByReport read o setup → Caused (Replay o) read new ending) → Caused (Replay o) old new ending
refused_setup o old read new bytes told setup ending report same is refused =
    subst (λ (files : FilesSeen). AskedByReport files o setup → Caused (Replay o) files new ending) same refused
    (record { bytes = bytes; told = told; report = report; setup_is = is })

pub refused_order : (o : ReplayAsked) (old new : FilesSeen) (bytes : List ℕ) (told : Reported) (s : Setup) (ending : Ending) → IsReplayOf old o bytes told s → IsCalm old new
    → Disagrees s told.order bytes ending → Caused (Replay o) old new ending
refused_order o old new bytes told s (Report line kind) replay calm bad = record {
  options = o;
  asks = refl;
  bad = inr (record { bytes = bytes; told = told; setup = s; replay_of = replay; bad = bad });
  calm = calm;
}
refused_order o old new bytes told s (Differs place) replay calm differ = record {
  options = o;
  asks = refl;
  bytes = bytes;
  told = told;
  setup = s;
  replay_of = replay;
  complete = differ.complete;
  differs = differ.differs;
  calm = calm;
}
refused_order o old new bytes told s Memory replay calm bad = calm
refused_order o old new bytes told s (Class class) replay calm bad = absurd bad
refused_order o old new bytes told s Words replay calm bad = absurd bad
refused_order o old new bytes told s (Image fault) replay calm bad = absurd bad
refused_order o old new bytes told s (Policy kind table key) replay calm bad = absurd bad
refused_order o old new bytes told s (Long kind) replay calm bad = absurd bad
refused_order o old new bytes told s (Read kind) replay calm bad = absurd bad
refused_order o old new bytes told s Write replay calm bad = absurd bad

-- ---- a comparison, seen from before the report was read

-- the report was read, and then the setup of its numbers; the readings left the files as they were
pub record WasRead (o : ReplayAsked) (old new : FilesSeen) (bytes : List ℕ) (told : Reported) (s : Setup) : Type 0 where
  pub replay : IsReplayOf old o bytes told s
  pub calm : IsCalm old new

pub was_read : (o : ReplayAsked) (old read new : FilesSeen) (bytes : List ℕ) (told : Reported) (setup : SetupAsked) (s : Setup) → SaysReport old o.report bytes told → read ≡ old → new ≡ read
    → setup ≡ setup_told o told.numbers → IsSetupOf read setup s → WasRead o old new bytes told s
was_read o old read new bytes told setup s report same later is setup_is = record {
  replay = record {
    report = report;
    setup_is = subst (λ (files : FilesSeen). IsSetupOf files (setup_told o told.numbers) s) same (subst (λ (a : SetupAsked). IsSetupOf read a s) is setup_is);
  };
  calm = λ name. ap (λ (files : FilesSeen). files.faults name) (later ∙ same);
}

pub compared : {V : Type 0} (o : ReplayAsked) (old new : FilesSeen) (bytes : List ℕ) (told : Reported) (s : Setup) (result : Result V Ending) → WasRead o old new bytes told s
    → OnOk result (Agrees s told.order bytes) → OnOk result (AnswersReplay old o (text_answer (codes "same\n")))
compared o old new bytes told s result read = on_ok_weaker result (λ (agrees : Agrees s told.order bytes). record {
  bytes = bytes;
  told = told;
  setup = s;
  replay_of = read.replay;
  complete = agrees.complete;
  same = agrees.same;
  answer_is = refl;
})

pub compared_refused : {V : Type 0} (o : ReplayAsked) (old new : FilesSeen) (bytes : List ℕ) (told : Reported) (s : Setup) (result : Result V Ending) → WasRead o old new bytes told s
    → IfErr result (Disagrees s told.order bytes) → IfErr result (Caused (Replay o) old new)
compared_refused o old new bytes told s result read =
    IfErr-weaker result (Disagrees s told.order bytes) (Caused (Replay o) old new) (λ ending bad. refused_order o old new bytes told s ending read.replay read.calm bad)
