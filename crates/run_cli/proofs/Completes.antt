-- Where words and files are those of a run, a replay or a map, and no count rose, a command ends with its answer or for want of memory.
use Rattle.std.proofs.Common.{◌≡◌, ℕ, ◌<◌, ◌≤◌, ◌⊎◌, inl, inr, List, ◌∷◌, length, slice_get, codes, Option, None, Some, IsSome, IfSome, Ok, refl, sym, ap, subst, ◌∙◌, arith}
use Rattle.outside.specs.Faults.{Rose}
use Rattle.outside.specs.Files.{IsTold}
use Rattle.outside.specs.Sinks.{SinkSeen}
use Rattle.elf_image.specs.Layout.{Layout}
use Rattle.machine.specs.Setups.{Setup}
use Rattle.machine.specs.Runs.{IsComplete}
use Rattle.trap_report.specs.Text.{text, numbers_of}
use Rattle.trap_report.specs.Reading.{Reported, saved_of}
use Rattle.trap_report.specs.declared.saved.ReportKind.{ReportKind}
use Rattle.trap_report.proofs.ReadLaws.{reads_back}
use Rattle.run_cli.specs.Seen.{FilesSeen, Seen}
use Rattle.run_cli.specs.Asked.{ImageAsked, RunAsked, ReplayAsked, Asked, Run, Replay, Inspect}
use Rattle.run_cli.specs.Words.{Reads, ReadsOffline}
use Rattle.run_cli.specs.Work.{SaysReport, IsImage, IsSetupOf, IsReplayOf, setup_told}
use Rattle.run_cli.specs.Lines.{exit_status}
use Rattle.run_cli.specs.Causes.{Caused, IsLong, HasReportFault, HasDifference, HasBadLine, HasBadOrder}
use Rattle.run_cli.specs.Endings.{Answer, Answers, Ended, Refused, CutReport, OutputCut, ReportCut}
use Rattle.run_cli.specs.Completeness.{AreToldOf, NothingRose, Completes, CompletesReplay, CompletesMap}
use Rattle.run_cli.specs.declared.files.FileKind.TheVariants.{Image as ImageFile, Policy as PolicyFile, Input as InputFile, Report as ReportFile}
use Rattle.run_cli.specs.declared.ending.Ending.{Ending}
use Rattle.run_cli.specs.declared.ending.Ending.TheVariants.{Class, Words, Image, Policy, Differs, Report, Long, Memory, Read, Write}
use Rattle.run_cli.proofs.ReadsOnce.{reads_once, name_apart}
use Rattle.run_cli.proofs.Concluding.{offline_ended}
use Rattle.run_cli.proofs.Replaying.{stopped_incomplete}
use Rattle.run_cli.proofs.Completing.{HasAccepted, HasTold, accepted_of, setup_once, bytes_once, report_once, no_both, not_long, no_image_fault, no_long_image, no_policy_fault, no_long_policy, no_long_input}

-- no count of these files rose
abbrev AreCalm : FilesSeen → FilesSeen → Type 0
AreCalm old new = (name : List ℕ) → Rose (old.faults name) (new.faults name) → ⊥

-- what is asked for is answered with such a status, and is refused for want of memory alone
record Can (asked : Asked) (files : FilesSeen) (IsClass : ℕ → Type 0) : Type 0 where
  answer : (given : Answer) → Answers files asked given → given.class ≤ 5 → IsClass given.class
  refusal : (new : FilesSeen) (ending : Ending) → AreCalm files new → Caused asked files new ending → exit_status ending ≡ 71

report_rose : (report : Option (List ℕ)) (old new : SinkSeen) → CutReport report old new → Rose old.faults new.faults
report_rose None old new cut = absurd cut
report_rose (Some text) old new cut = cut.rose

not_cut : (answer : Answer) (old new : Seen) → NothingRose old new → (OutputCut answer old.sinks new.sinks ⊎ ReportCut answer old.sinks new.sinks) → ⊥
not_cut answer old new calm (inl cut) = calm.out cut.out.rose
not_cut answer old new calm (inr cut) = calm.report (report_rose answer.report _ _ cut.report)

refused_so : (words : List (List ℕ)) (old new : Seen) (ending : Ending) (asked : Asked) (IsClass : ℕ → Type 0) → Reads words asked → Can asked old.files IsClass → NothingRose old new → Refused Reads words old new ending → exit_status ending ≡ 71
refused_so words old new ending asked IsClass read can calm refused =
    can.refusal new.files ending calm.files
    (subst (λ (a : Asked). Caused a old.files new.files ending) (reads_once words refused.asked asked refused.read read) refused.caused)

completes_by : (words : List (List ℕ)) (old new : Seen) (ending : Ending) (asked : Asked) (IsClass : ℕ → Type 0) → Reads words asked → Can asked old.files IsClass → NothingRose old new → Ended Reads words old new ending → IsClass (exit_status ending) ⊎ (exit_status ending ≡ 71)
completes_by words old new (Class c) asked IsClass read can calm ended =
    let answers : Answers old.files asked ended.answer = subst (λ (a : Asked). Answers old.files a ended.answer) (reads_once words ended.answered.asked asked ended.answered.read read) ended.answered.answers in
    inl (subst IsClass (sym ended.class_is) (can.answer ended.answer answers (subst (λ (n : ℕ). n ≤ 5) ended.class_is ended.within)))
completes_by words old new Write asked IsClass read can calm ended = absurd (not_cut ended.answer old new calm ended.cut)
completes_by words old new Words asked IsClass read can calm ended = absurd (ended.nothing asked read)
completes_by words old new Memory asked IsClass read can calm ended = inr refl
completes_by words old new (Image fault) asked IsClass read can calm ended = inr (refused_so words old new _ asked IsClass read can calm ended)
completes_by words old new (Policy kind table key) asked IsClass read can calm ended = inr (refused_so words old new (Policy kind table key) asked IsClass read can calm ended)
completes_by words old new (Differs place) asked IsClass read can calm ended = inr (refused_so words old new (Differs place) asked IsClass read can calm ended)
completes_by words old new (Report line kind) asked IsClass read can calm ended = inr (refused_so words old new (Report line kind) asked IsClass read can calm ended)
completes_by words old new (Long kind) asked IsClass read can calm ended = inr (refused_so words old new (Long kind) asked IsClass read can calm ended)
completes_by words old new (Read kind) asked IsClass read can calm ended = inr (refused_so words old new (Read kind) asked IsClass read can calm ended)

-- ---- a run

run_is_no_replay : (o : RunAsked) (p : ReplayAsked) → Run o ≡ Replay p → ⊥
run_is_no_replay o p same = cc

run_told : (files : FilesSeen) (o : RunAsked) (s : Setup) → AreToldOf files o.setup s → HasTold (Run o) files s
run_told files o s told = record {
  options = o.setup;
  once = λ other asks. asks;
  no_map = λ image same. cc;
  told = told;
}

run_refusal : (files new : FilesSeen) (o : RunAsked) (s : Setup) (ending : Ending) → HasTold (Run o) files s → AreCalm files new → Caused (Run o) files new ending → exit_status ending ≡ 71
run_refusal files new o s (Class class) told calm caused = absurd caused
run_refusal files new o s Words told calm caused = absurd caused
run_refusal files new o s (Image fault) told calm caused = absurd (no_image_fault (Run o) files new s.program.layout fault (accepted_of (Run o) files s told) caused)
run_refusal files new o s (Policy kind table key) told calm caused = absurd (no_policy_fault (Run o) files new s kind table key told caused)
run_refusal files new o s (Differs place) told calm caused = absurd (run_is_no_replay o caused.options caused.asks)
run_refusal files new o s (Report line kind) told calm caused = absurd (run_is_no_replay o caused.options caused.asks)
run_refusal files new o s (Long ImageFile) told calm caused = absurd (no_long_image (Run o) files new s.program.layout (accepted_of (Run o) files s told) caused)
run_refusal files new o s (Long PolicyFile) told calm caused = absurd (no_long_policy (Run o) files new s told caused)
run_refusal files new o s (Long InputFile) told calm caused = absurd (no_long_input (Run o) files new s told caused)
run_refusal files new o s (Long ReportFile) told calm caused = absurd (run_is_no_replay o caused.comes.options caused.comes.asks)
run_refusal files new o s Memory told calm caused = refl
run_refusal files new o s (Read kind) told calm caused = absurd (calm caused.name caused.rose)
run_refusal files new o s Write told calm caused = absurd caused

pub completes : (words : List (List ℕ)) (old new : Seen) (ending : Ending) → Ended Reads words old new ending → Completes words old new (exit_status ending)
completes words old new ending ended s can calm =
    completes_by words old new ending (Run can.asked) (λ n. n ≤ 5) can.reads
    (record {
      answer = λ given ran within. within;
      refusal = λ files e quiet caused. run_refusal old.files files can.asked s e (run_told old.files can.asked s can.told) quiet caused;
    }) calm ended

-- ---- a replay

replay_once : (o p : ReplayAsked) → Replay o ≡ Replay p → p ≡ o
replay_once o p same = cc

-- the report of these words says this, and the files of its setup are told
record Replays (files : FilesSeen) (o : ReplayAsked) (s : Setup) : Type 0 where
  held : IsSome (files.held o.report)
  bytes : List ℕ
  told : Reported
  report : SaysReport files o.report bytes told
  files_told : AreToldOf files (setup_told o told.numbers) s
  complete : IsComplete s told.order
  same : bytes ≡ text s told.order

replay_told : (files : FilesSeen) (o : ReplayAsked) (s : Setup) → Replays files o s → HasTold (Replay o) files s
replay_told files o s can = record {
  options = setup_told o can.told.numbers;
  once = λ other asks. asks.setup_is ∙ ap (λ (told : Reported). setup_told o told.numbers) (report_once files o.report asks.bytes can.bytes asks.told can.told can.held asks.report can.report);
  no_map = λ image same. cc;
  told = can.files_told;
}

-- a replay of this report is of this setup and this order
same_setup : (files : FilesSeen) (o : ReplayAsked) (s : Setup) (can : Replays files o s) (bytes : List ℕ) (told : Reported) (other : Setup) → IsReplayOf files o bytes told other → (other ≡ s) × (told ≡ can.told) × (bytes ≡ can.bytes)
same_setup files o s can bytes told other replay =
    let said : told ≡ can.told = report_once files o.report bytes can.bytes told can.told can.held replay.report can.report in (
      setup_once files (setup_told o can.told.numbers) s other can.files_told (subst (λ (t : Reported). IsSetupOf files (setup_told o t.numbers) other) said replay.setup_is),
      said,
      bytes_once files o.report bytes can.bytes can.held replay.report.contents can.report.contents,
    )

no_difference : (files new : FilesSeen) (o : ReplayAsked) (s : Setup) (place : ℕ) → Replays files o s → HasDifference (Replay o) files new place → ⊥
no_difference files new o s place can refused =
    let replay : IsReplayOf files o refused.bytes refused.told refused.setup = subst (λ (p : ReplayAsked). IsReplayOf files p refused.bytes refused.told refused.setup) (replay_once o refused.options refused.asks) refused.replay_of in
    let is = same_setup files o s can refused.bytes refused.told refused.setup replay in
    let texts : text refused.setup refused.told.order ≡ refused.bytes =
    ap (λ (t : Setup). text t refused.told.order) is.0 ∙ ap (λ (t : Reported). text s t.order) is.1 ∙ sym can.same ∙ sym is.2 in
    refused.differs.differ (ap (λ (t : List ℕ). slice_get t place) texts)

no_bad_line : (files : FilesSeen) (o : ReplayAsked) (s : Setup) (line : ℕ) (kind : ReportKind) → Replays files o s → HasBadLine o files line kind → ⊥
no_bad_line files o s line kind can bad =
    let same : bad.bytes ≡ can.bytes = bytes_once files o.report bad.bytes can.bytes can.held bad.contents can.report.contents in
    no_both (saved_of bad.bytes) can.told (record { line = line; kind = kind }) (subst (λ (b : List ℕ). saved_of b ≡ Ok can.told) (sym same) can.report.says) bad.has

no_bad_order : (files : FilesSeen) (o : ReplayAsked) (s : Setup) (line : ℕ) (kind : ReportKind) → Replays files o s → HasBadOrder o files line kind → ⊥
no_bad_order files o s line kind can bad =
    let is = same_setup files o s can bad.bytes bad.told bad.setup bad.replay_of in
    let complete : IsComplete bad.setup bad.told.order =
    subst (λ (t : Setup). IsComplete t bad.told.order) (sym is.0) (subst (λ (t : Reported). IsComplete s t.order) (sym is.1) can.complete) in
    stopped_incomplete bad.setup bad.told.order bad.bad.units bad.bad.stops complete

no_report_fault : (files new : FilesSeen) (o : ReplayAsked) (s : Setup) (line : ℕ) (kind : ReportKind) → Replays files o s → HasReportFault (Replay o) files new line kind → ⊥
no_report_fault files new o s line kind can refused =
    let same = replay_once o refused.options refused.asks in
    elim refused.bad [
      | inl bad ↦ no_bad_line files o s line kind can (subst (λ (p : ReplayAsked). HasBadLine p files line kind) same bad)
      | inr bad ↦ no_bad_order files o s line kind can (subst (λ (p : ReplayAsked). HasBadOrder p files line kind) same bad)
    ]

no_long_report : (files new : FilesSeen) (o : ReplayAsked) (s : Setup) → Replays files o s → IsLong (Replay o) files new ReportFile → ⊥
no_long_report files new o s can long =
    let named : o.report ≡ long.name = sym (ap (λ (p : ReplayAsked). p.report) (replay_once o long.comes.options long.comes.asks)) ∙ long.comes.named in
    not_long (files.held o.report) can.bytes 536870912 can.held can.report.contents.told can.report.contents.within
    (subst (λ (name : List ℕ). IfSome (files.held name) (λ bytes. 536870912 < length bytes)) (sym named) long.told)

replay_refusal : (files new : FilesSeen) (o : ReplayAsked) (s : Setup) (ending : Ending) → Replays files o s → HasTold (Replay o) files s → AreCalm files new → Caused (Replay o) files new ending → exit_status ending ≡ 71
replay_refusal files new o s (Class class) can told calm caused = absurd caused
replay_refusal files new o s Words can told calm caused = absurd caused
replay_refusal files new o s (Image fault) can told calm caused = absurd (no_image_fault (Replay o) files new s.program.layout fault (accepted_of (Replay o) files s told) caused)
replay_refusal files new o s (Policy kind table key) can told calm caused = absurd (no_policy_fault (Replay o) files new s kind table key told caused)
replay_refusal files new o s (Differs place) can told calm caused = absurd (no_difference files new o s place can caused)
replay_refusal files new o s (Report line kind) can told calm caused = absurd (no_report_fault files new o s line kind can caused)
replay_refusal files new o s (Long ImageFile) can told calm caused = absurd (no_long_image (Replay o) files new s.program.layout (accepted_of (Replay o) files s told) caused)
replay_refusal files new o s (Long PolicyFile) can told calm caused = absurd (no_long_policy (Replay o) files new s told caused)
replay_refusal files new o s (Long InputFile) can told calm caused = absurd (no_long_input (Replay o) files new s told caused)
replay_refusal files new o s (Long ReportFile) can told calm caused = absurd (no_long_report files new o s can caused)
replay_refusal files new o s Memory can told calm caused = refl
replay_refusal files new o s (Read kind) can told calm caused = absurd (calm caused.name caused.rose)
replay_refusal files new o s Write can told calm caused = absurd caused

told_some : (held : Option (List ℕ)) (bytes : List ℕ) → held ≡ Some bytes → IsSome held
told_some held bytes is = rw is refl

told_is : (held : Option (List ℕ)) (bytes : List ℕ) → held ≡ Some bytes → IsTold held bytes
told_is held bytes is = rw is refl

pub completes_replay : (words : List (List ℕ)) (old new : Seen) (ending : Ending) → Ended Reads words old new ending → CompletesReplay words old new (exit_status ending)
completes_replay words old new ending ended can calm =
    let replays : Replays old.files can.asked can.setup = record {
      held = told_some (old.files.held can.asked.report) (text can.setup can.order) can.report;
      bytes = text can.setup can.order;
      told = record { numbers = numbers_of can.setup; order = can.order };
      report = record {
        contents = record { told = told_is (old.files.held can.asked.report) (text can.setup can.order) can.report; within = can.within };
        says = reads_back can.setup can.order can.reportable (can.complete).playable;
      };
      files_told = can.told;
      complete = can.complete;
      same = refl;
    } in
    completes_by words old new ending (Replay can.asked) (λ n. n ≡ 0) can.reads
    (record {
      answer = λ given replayed within. ap (λ (a : Answer). a.class) replayed.answer_is;
      refusal = λ files e quiet caused. replay_refusal old.files files can.asked can.setup e replays (replay_told old.files can.asked can.setup replays) quiet caused;
    }) calm ended

-- ---- a map

map_is_no_replay : (image : ImageAsked) (p : ReplayAsked) → Inspect image ≡ Replay p → ⊥
map_is_no_replay image p same = cc

map_once : (image other : ImageAsked) → Inspect image ≡ Inspect other → other ≡ image
map_once image other same = cc

map_accepted : (files : FilesSeen) (asked : ImageAsked) (image : Layout) → IsImage files asked image → IsSome (files.held asked.name) → HasAccepted (Inspect asked) files image
map_accepted files asked image is told = record {
  named = asked;
  once = λ other asks. elim asks [ inl setup ↦ absurd setup.asks | inr map ↦ map_once asked other map ];
  image_is = is;
  told = told;
}

map_refusal : (files new : FilesSeen) (asked : ImageAsked) (image : Layout) (ending : Ending) → HasAccepted (Inspect asked) files image → AreCalm files new → Caused (Inspect asked) files new ending → exit_status ending ≡ 71
map_refusal files new asked image (Class class) can calm caused = absurd caused
map_refusal files new asked image Words can calm caused = absurd caused
map_refusal files new asked image (Image fault) can calm caused = absurd (no_image_fault (Inspect asked) files new image fault can caused)
map_refusal files new asked image (Policy kind table key) can calm caused = absurd caused.before.asks
map_refusal files new asked image (Differs place) can calm caused = absurd (map_is_no_replay asked caused.options caused.asks)
map_refusal files new asked image (Report line kind) can calm caused = absurd (map_is_no_replay asked caused.options caused.asks)
map_refusal files new asked image (Long ImageFile) can calm caused = absurd (no_long_image (Inspect asked) files new image can caused)
map_refusal files new asked image (Long PolicyFile) can calm caused = absurd caused.comes.before.asks
map_refusal files new asked image (Long InputFile) can calm caused = absurd caused.comes.before.before.asks
map_refusal files new asked image (Long ReportFile) can calm caused = absurd (map_is_no_replay asked caused.comes.options caused.comes.asks)
map_refusal files new asked image Memory can calm caused = refl
map_refusal files new asked image (Read kind) can calm caused = absurd (calm caused.name caused.rose)
map_refusal files new asked image Write can calm caused = absurd caused

pub completes_map : (words : List (List ℕ)) (old new : Seen) (ending : Ending) → Ended Reads words old new ending → CompletesMap words old new (exit_status ending)
completes_map words old new ending ended image can calm =
    completes_by words old new ending (Inspect can.asked) (λ n. n ≡ 0) can.reads
    (record {
      answer = λ given mapped within. ap (λ (a : Answer). a.class) mapped.answer_is;
      refusal = λ files e quiet caused. map_refusal old.files files can.asked image e (map_accepted old.files can.asked image can.image_is can.told) quiet caused;
    }) calm ended

-- ---- without `run`

no_run_beside : (words rest : List (List ℕ)) (asked : Asked) → ((o : RunAsked) → asked ≡ Run o → ⊥) → Reads words asked → words ≡ codes "run" ∷ rest → ⊥
no_run_beside words rest (Run o) apart read are = apart o refl
no_run_beside words rest (Replay o) apart read are = name_apart (codes "replay") (codes "run") (λ same. omega (arith, same)) words read.rest rest read.words_are are
no_run_beside words rest (Inspect o) apart read are = name_apart (codes "inspect") (codes "run") (λ same. omega (arith, same)) words read.rest rest read.words_are are

pub offline_replay : (words : List (List ℕ)) (old new : Seen) (ending : Ending) → Ended ReadsOffline words old new ending → CompletesReplay words old new (exit_status ending)
offline_replay words old new ending ended can calm =
    completes_replay words old new ending (offline_ended words old new ending (λ rest are. no_run_beside words rest (Replay can.asked) (λ o same. cc) can.reads are) ended) can calm

pub offline_map : (words : List (List ℕ)) (old new : Seen) (ending : Ending) → Ended ReadsOffline words old new ending → CompletesMap words old new (exit_status ending)
offline_map words old new ending ended image can calm =
    completes_map words old new ending (offline_ended words old new ending (λ rest are. no_run_beside words rest (Inspect can.asked) (λ o same. cc) can.reads are) ended) image can calm
