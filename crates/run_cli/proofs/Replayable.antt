-- The report that a run wrote can be replayed.
use Rattle.std.proofs.Common.{◌≡◌, ℕ, ◌*◌, ◌<◌, ◌≤◌, ◌^◌, true, false, Bool, List, [], ◌∷◌, length, Option, None, Some, IsSome, IfSome, Result, Ok, refl, sym, ap, subst, arith, if◌then◌else◌}
use Rattle.std.specs.Prelude.{All}
use Rattle.std.proofs.lemmas.List.{length-map}
use Rattle.std.proofs.lemmas.Nat.{mul-le}
use Rattle.std.proofs.lemmas.Bool.Decides.{nat_tests}
use Rattle.command_options.specs.Given.{GivenOption}
use Rattle.outside.specs.Files.{IsTold}
use Rattle.elf_image.specs.Layout.{Layout}
use Rattle.tag_policy.specs.Rules.{PolicySeen}
use Rattle.tag_policy.specs.Grammar.{PolicyTest, first_fault, document_tests, document_of, policy_in_document, policy_of, judged, policy_of_document}
use Rattle.tag_policy.specs.declared.fault.PolicyFault.{PolicyFault}
use Rattle.machine.specs.Setups.{Setup, core_count}
use Rattle.machine.specs.Runs.{IsComplete}
use Rattle.trap_report.specs.Text.{text, numbers_of}
use Rattle.trap_report.specs.ReportLaws.{IsReportable}
use Rattle.run_cli.specs.Seen.{FilesSeen, Seen}
use Rattle.run_cli.specs.Asked.{SetupAsked, ReplayAsked, Asked, Run}
use Rattle.run_cli.specs.Words.{Reads, IsNumber, AskForSetup}
use Rattle.run_cli.specs.Work.{IsContents, IsPolicy, IsInput, IsSetupOf, setup_told}
use Rattle.run_cli.specs.Completeness.{IsToldOf}
use Rattle.run_cli.specs.Lines.{exit_status}
use Rattle.run_cli.specs.Endings.{Answer, Answers, AnswersRun, WroteReport, Ended}
use Rattle.run_cli.specs.Replayable.{IsKept, HasFilesOf, CanBeReplayed, Replayable}
use Rattle.run_cli.specs.declared.files.FileKind.{FileKind}
use Rattle.run_cli.specs.declared.files.FileKind.TheVariants.{Image as ImageFile, Policy as PolicyFile, Input as InputFile}
use Rattle.run_cli.specs.declared.ending.Ending.{Ending}
use Rattle.run_cli.specs.declared.ending.Ending.TheVariants.{Class, Words, Image, Policy, Differs, Report, Long, Memory, Read, Write}
use Rattle.run_cli.proofs.ReadsOnce.{reads_once}

-- ---- the ranges of a setup that is asked for

within : (low high usual : ℕ) (text : Option (List ℕ)) (n : ℕ) → low ≤ usual → usual ≤ high → IsNumber low high usual text n → (low ≤ n) × (n ≤ high)
within low high usual None n l h is = (omega (arith, is), omega (arith, is))
within low high usual (Some text) n l h is = (is.1, is.2)

-- ---- a policy has at most four tables

abbrev NoneApplies : List PolicyTest → Type 0
NoneApplies [] = Unit {0}
NoneApplies (test ∷ tests) = (test.applies ≡ false) × NoneApplies tests

none_applies : (tests : List PolicyTest) → first_fault tests ≡ None → NoneApplies tests
none_applies [] e = tt
none_applies (test ∷ tests) e = by_test test.applies refl e (none_applies tests)
  where
    by_test : (b : Bool) → test.applies ≡ b → (if b then Some test.fault else first_fault tests) ≡ None → (first_fault tests ≡ None → NoneApplies tests) → NoneApplies (test ∷ tests)
    by_test true is e rest = absurd (cc)
    by_test false is e rest = (is, rest e)

no_fault : {A : Type 0} (found : Option PolicyFault) (meaning policy : A) → judged found meaning ≡ Ok policy → (found ≡ None) × (meaning ≡ policy)
no_fault None meaning policy e = (refl, cc)
no_fault (Some fault) meaning policy e = absurd (cc)

-- what holds of each document that is read holds of the one that is
by_document : {M : Type 0} (read : Option M → Result PolicySeen PolicyFault) (policy : PolicySeen) → (read None ≡ Ok policy → ⊥) → ((members : M) → read (Some members) ≡ Ok policy → length policy.rules ≤ 4)
    → (found : Option M) → read found ≡ Ok policy → length policy.rules ≤ 4
by_document read policy none some None e = absurd (none e)
by_document read policy none some (Some members) e = some members e

text_short : (text : List ℕ) (policy : PolicySeen) → policy_of text ≡ Ok policy → length policy.rules ≤ 4
unfolding policy_of
text_short text policy e =
    by_document policy_in_document policy (λ no. cc)
    (λ members is.
    let judge = no_fault (first_fault (document_tests members)) (policy_of_document members) policy is in
    let none : NoneApplies (document_tests members) = none_applies (document_tests members) judge.0 in
    let few : length (policy_of_document members).rules ≤ 4 = simp length-map (grind (arith, nat_tests, none.1.1.1.1.1.1.0)) in
    subst (λ (p : PolicySeen). length p.rules ≤ 4) judge.1 few)
    (document_of text) e

policy_short : (files : FilesSeen) (name : Option (List ℕ)) (policy : PolicySeen) → IsPolicy files name policy → length policy.rules ≤ 4
policy_short files None policy is = rw is (omega arith)
policy_short files (Some name) policy is = text_short is.text policy is.means

input_short : (files : FilesSeen) (name : Option (List ℕ)) (input : List ℕ) → IsInput files name input → length input ≤ 16777216
input_short files None input is = rw is (omega arith)
input_short files (Some name) input is = is.within

-- ---- the files of the run

contents_kept : (old new : FilesSeen) (kind : FileKind) (name bytes : List ℕ) → IsKept old new (Some name) → IsContents old kind name bytes → IsContents new kind name bytes
contents_kept old new kind name bytes kept is = record {
  told = subst (λ (held : Option (List ℕ)). IsTold held bytes) (sym kept.1) is.told;
  within = is.within;
}

policy_kept : (old new : FilesSeen) (name : Option (List ℕ)) (policy : PolicySeen) → IsKept old new name → IsPolicy old name policy → IsPolicy new name policy
policy_kept old new None policy kept is = is
policy_kept old new (Some name) policy kept is = record { text = is.text; contents = contents_kept old new PolicyFile name is.text kept is.contents; means = is.means }

input_kept : (old new : FilesSeen) (name : Option (List ℕ)) (input : List ℕ) → IsKept old new name → IsInput old name input → IsInput new name input
input_kept old new None input kept is = is
input_kept old new (Some name) input kept is = contents_kept old new InputFile name input kept is

told_kept : (old new : FilesSeen) (name : Option (List ℕ)) → IsKept old new name → IsToldOf new name
told_kept old new None kept = tt
told_kept old new (Some name) kept = kept.0

held_bytes : (held : Option (List ℕ)) (bytes : List ℕ) → IsSome held → IsTold held bytes → IfSome held (All (λ byte. byte < 2 ^ 8)) → All (λ byte. byte < 2 ^ 8) bytes
held_bytes None bytes some told all = absurd (cc)
held_bytes (Some contents) bytes some told all = subst (All (λ byte. byte < 2 ^ 8)) (sym told) all

-- ---- the law

reportable : (files : FilesSeen) (o : SetupAsked) (s : Setup) (given : List GivenOption) → AskForSetup given o → IsSetupOf files o s → All (λ byte. byte < 2 ^ 8) s.program.layout.bytes → IsReportable s
reportable files o s given asks is bytes =
    let cores : core_count s ≡ o.image.cores = ap (λ (l : Layout). l.cores) is.image_is.numbers in
    let budget : s.budget ≡ o.budget = ap (λ (t : Setup). t.budget) is.setup_is in
    let limit : s.limit ≡ o.limit = ap (λ (t : Setup). t.limit) is.setup_is in
    let few = within 1 8 1 _ o.image.cores (omega arith) (omega arith) asks.image.cores in
    let units = within 1 1048576 1048576 _ o.budget (omega arith) (omega arith) asks.budget in
    let most = within 1 4294967280 4294967280 _ o.limit (omega arith) (omega arith) asks.limit in
    let product : core_count s * s.budget ≤ 8 * 1048576 = mul-le (core_count s) s.budget 8 1048576 (omega (arith, cores, few)) (omega (arith, budget, units)) in
    record {
      setup = record {
        image = is.image_is.accepted;
        input = input_short files o.input s.program.input is.input_is;
        policies = policy_short files o.policy s.policy is.policy_is;
        some_budget = omega (arith, budget, units);
        most_budget = omega (arith, budget, units);
        most_units = omega (arith, product);
        some_limit = omega (arith, limit, most);
        most_limit = omega (arith, limit, most, cores, few);
      };
      image = bytes;
      cores = omega (arith, cores, few);
      limit = omega (arith, limit, most);
    }

setup_kept : (old new : FilesSeen) (run : SetupAsked) (replay : ReplayAsked) (s : Setup) → HasFilesOf old new run replay → IsSetupOf old run s → IsSetupOf new (setup_told replay (numbers_of s)) s
setup_kept old new run replay s files is = record {
  image_is = record {
    contents = subst (λ (name : List ℕ). IsContents new ImageFile name s.program.layout.bytes) (sym files.image) (contents_kept old new ImageFile run.image.name s.program.layout.bytes files.image_kept is.image_is.contents);
    numbers = refl;
    accepted = is.image_is.accepted;
  };
  policy_is = subst (λ (name : Option (List ℕ)). IsPolicy new name s.policy) (sym files.policy) (policy_kept old new run.policy s.policy files.policy_kept is.policy_is);
  input_is = subst (λ (name : Option (List ℕ)). IsInput new name s.program.input) (sym files.input) (input_kept old new run.input s.program.input files.input_kept is.input_is);
  setup_is = refl;
}

-- the report of a complete order of a setup that was asked for
can_be_replayed : (old : FilesSeen) (run : SetupAsked) (s : Setup) (order : List ℕ) (given : List GivenOption) → AskForSetup given run → IsSetupOf old run s → IsComplete s order → CanBeReplayed old run (text s order)
can_be_replayed old run s order given asks is complete words replay files reads kept held short =
    let contents = contents_kept old files ImageFile run.image.name s.program.layout.bytes kept.image_kept is.image_is.contents in
    let bytes = held_bytes (files.held run.image.name) s.program.layout.bytes kept.image_kept.0 contents.told kept.bytes in
    record {
      asked = replay;
      reads = reads;
      setup = s;
      reportable = reportable old run s given asks is bytes;
      told = record {
        setup_is = setup_kept old files run replay s kept is;
        image = subst (λ (name : List ℕ). IsSome (files.held name)) (sym kept.image) kept.image_kept.0;
        policy = subst (IsToldOf files) (sym kept.policy) (told_kept old files run.policy kept.policy_kept);
        input = subst (IsToldOf files) (sym kept.input) (told_kept old files run.input kept.input_kept);
      };
      order = order;
      complete = complete;
      report = held;
      within = short;
    }

pub replayable : (words : List (List ℕ)) (old new : Seen) (ending : Ending) → Ended Reads words old new ending → Replayable words old new (exit_status ending)
replayable words old new (Class class) ended run reads within =
    let answers : AnswersRun old.files run ended.answer =
    subst (λ (a : Asked). Answers old.files a ended.answer) (reads_once words ended.answered.asked (Run run) ended.answered.read reads) ended.answered.answers in
    let reported : ended.answer.report ≡ Some (text answers.setup answers.order) = ap (λ (a : Answer). a.report) answers.answer_is in
    record {
      text = text answers.setup answers.order;
      wrote = subst (λ (report : Option (List ℕ)). WroteReport report old.sinks.report new.sinks.report) reported ended.written.report;
      replays = can_be_replayed old.files run.setup answers.setup answers.order reads.options.given reads.options.asks.setup answers.setup_is answers.order_of.complete;
    }
replayable words old new Words ended run reads within = absurd (omega (arith, within))
replayable words old new (Image fault) ended run reads within = absurd (omega (arith, within))
replayable words old new (Policy kind table key) ended run reads within = absurd (omega (arith, within))
replayable words old new (Differs place) ended run reads within = absurd (omega (arith, within))
replayable words old new (Report line kind) ended run reads within = absurd (omega (arith, within))
replayable words old new (Long kind) ended run reads within = absurd (omega (arith, within))
replayable words old new Memory ended run reads within = absurd (omega (arith, within))
replayable words old new (Read kind) ended run reads within = absurd (omega (arith, within))
replayable words old new Write ended run reads within = absurd (omega (arith, within))
