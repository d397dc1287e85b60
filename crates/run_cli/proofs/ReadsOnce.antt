-- The words of a command say one thing alone.
use Rattle.std.proofs.Common.{◌≡◌, ◌≢◌, ◌≤◌, ℕ, List, ◌∷◌, length, Option, None, Some, Result, true, refl, sym, ap, subst, ◌∙◌, codes, arith}
use Rattle.std.specs.Prelude.{MatchOption, IfErr}
use Rattle.std.specs.Option.{ok_or}
use Rattle.std.proofs.lemmas.Fmt.{decimal_injective}
use Rattle.command_options.specs.Given.{Known, GivenOption, IsRead, has_names}
use Rattle.command_options.proofs.ScanLemmas.{read_once}
use Rattle.run_cli.specs.Asked.{ImageAsked, SetupAsked, RunAsked, ReplayAsked, Asked, Run, Replay, Inspect}
use Rattle.run_cli.specs.Words.{IsNumber, AskForImage, AskForSetup, AskForRun, AskForReplay, AreOptions, Says, Reads, ReadsOffline, run_table, replay_table, map_table}
use Rattle.run_cli.specs.Forms.{SaysNothing}
use Rattle.run_cli.specs.declared.ending.Ending.{Ending}
use Rattle.run_cli.specs.declared.ending.Ending.TheVariants.{Class, Words, Image, Policy, Differs, Report, Long, Memory, Read, Write}

one_number : (low high usual : ℕ) (value : Option (List ℕ)) (a b : ℕ) → high ≤ 4294967295 → IsNumber low high usual value a → IsNumber low high usual value b → a ≡ b
one_number low high usual None a b small one other = one ∙ sym other
one_number low high usual (Some text) a b small one other = decimal_injective a b (omega (arith, small, one.2)) (omega (arith, small, other.2)) (sym one.0 ∙ other.0)

one_text : (a b : List ℕ) → Some a ≡ Some b → a ≡ b
one_text a b same = cc

image_once : (given : List GivenOption) (a b : ImageAsked) → AskForImage given a → AskForImage given b → a ≡ b
image_once given a b one other =
    rw (
      one_text a.name b.name (sym one.name ∙ other.name),
      one_number _ _ _ _ a.cores b.cores (omega arith) one.cores other.cores,
      one_number _ _ _ _ a.stack b.stack (omega arith) one.stack other.stack,
      one_number _ _ _ _ a.heap b.heap (omega arith) one.heap other.heap,
    ) refl

setup_once : (given : List GivenOption) (o p : SetupAsked) → AskForSetup given o → AskForSetup given p → o ≡ p
setup_once given o p one other =
    rw (
      image_once given o.image p.image one.image other.image,
      sym one.input ∙ other.input,
      sym one.policy ∙ other.policy,
      one_number _ _ _ _ o.budget p.budget (omega arith) one.budget other.budget,
      one_number _ _ _ _ o.limit p.limit (omega arith) one.limit other.limit,
    ) refl

run_once : (given : List GivenOption) (o p : RunAsked) → AskForRun given o → AskForRun given p → o ≡ p
run_once given o p one other =
    rw (
      setup_once given o.setup p.setup one.setup other.setup,
      one_number _ _ _ _ o.lane p.lane (omega arith) one.lane other.lane,
      one_number _ _ _ _ o.quantum p.quantum (omega arith) one.quantum other.quantum,
    ) refl

replay_once : (given : List GivenOption) (o p : ReplayAsked) → AskForReplay given o → AskForReplay given p → o ≡ p
replay_once given o p one other =
    rw (
      one_text o.image p.image (sym one.image ∙ other.image),
      one_text o.report p.report (sym one.report ∙ other.report),
      sym one.input ∙ other.input,
      sym one.policy ∙ other.policy,
    ) refl

same_rest : (command : List ℕ) (one other : List (List ℕ)) → command ∷ one ≡ command ∷ other → one ≡ other
same_rest command one other same = cc

first_of : (command other : List ℕ) (rest more : List (List ℕ)) → command ∷ rest ≡ other ∷ more → command ≡ other
first_of command other rest more same = cc

-- where options that are given ask for one thing alone, the words of a command say one thing alone
said_once : {O : Type 0} (name : List ℕ) (table : List Known) (AskFor : List GivenOption → O → Type 0) → has_names table ≡ true
    → ((given : List GivenOption) (a b : O) → AskFor given a → AskFor given b → a ≡ b)
    → (words : List (List ℕ)) (a b : O) → Says name table AskFor words a → Says name table AskFor words b → a ≡ b
said_once name table AskFor good once words a b one other =
    let rest : one.rest ≡ other.rest = same_rest name one.rest other.rest (sym one.words_are ∙ other.words_are) in
    let given : one.options.given ≡ other.options.given =
    read_once table other.rest one.options.given other.options.given good (subst (λ (words : List (List ℕ)). IsRead table words one.options.given) rest one.options.read) other.options.read in
    once other.options.given a b (subst (λ (g : List GivenOption). AskFor g a) given one.options.asks) other.options.asks

-- the names of two commands have other lengths
pub name_apart : (name other : List ℕ) → length name ≢ length other → (words rest more : List (List ℕ)) → words ≡ name ∷ rest → words ≡ other ∷ more → ⊥
name_apart name other apart words rest more one two = apart (ap (λ (text : List ℕ). length text) (first_of name other rest more (sym one ∙ two)))

said_apart : {O P : Type 0} (name other : List ℕ) (table known : List Known) (AskFor : List GivenOption → O → Type 0) (Asks : List GivenOption → P → Type 0) → length name ≢ length other
    → (words : List (List ℕ)) (a : O) (b : P) → Says name table AskFor words a → Says other known Asks words b → ⊥
said_apart name other table known AskFor Asks apart words a b one two =
    name_apart name other apart words one.rest two.rest one.words_are two.words_are

pub reads_once : (words : List (List ℕ)) (a b : Asked) → Reads words a → Reads words b → a ≡ b
reads_once words (Run a) (Run b) one other = ap Run (said_once _ _ AskForRun refl run_once words a b one other)
reads_once words (Replay a) (Replay b) one other = ap Replay (said_once _ _ AskForReplay refl replay_once words a b one other)
reads_once words (Inspect a) (Inspect b) one other = ap Inspect (said_once _ _ AskForImage refl image_once words a b one other)
reads_once words (Run a) (Replay b) one other = absurd (said_apart (codes "run") (codes "replay") _ _ AskForRun AskForReplay (λ same. omega (arith, same)) words a b one other)
reads_once words (Run a) (Inspect b) one other = absurd (said_apart (codes "run") (codes "inspect") _ _ AskForRun AskForImage (λ same. omega (arith, same)) words a b one other)
reads_once words (Replay a) (Run b) one other = absurd (said_apart (codes "replay") (codes "run") _ _ AskForReplay AskForRun (λ same. omega (arith, same)) words a b one other)
reads_once words (Replay a) (Inspect b) one other = absurd (said_apart (codes "replay") (codes "inspect") _ _ AskForReplay AskForImage (λ same. omega (arith, same)) words a b one other)
reads_once words (Inspect a) (Run b) one other = absurd (said_apart (codes "inspect") (codes "run") _ _ AskForImage AskForRun (λ same. omega (arith, same)) words a b one other)
reads_once words (Inspect a) (Replay b) one other = absurd (said_apart (codes "inspect") (codes "replay") _ _ AskForImage AskForReplay (λ same. omega (arith, same)) words a b one other)

-- where the options that are given say nothing, the words are not those of the command
pub no_options : {O : Type 0} (table : List Known) (AskFor : List GivenOption → O → Type 0) → has_names table ≡ true
    → (rest : List (List ℕ)) (given : List GivenOption) → IsRead table rest given → ((o : O) → AskFor given o → ⊥) → (o : O) → AreOptions table AskFor rest o → ⊥
no_options table AskFor good rest given read nothing o are =
    nothing o (subst (λ (g : List GivenOption). AskFor g o) (read_once table rest are.given given good are.read read) are.asks)

pub unsaid : {O : Type 0} (Asks : O → Type 0) (nothing reason : Type 0) (value : Option O) (result : Result O Ending) → result ≡ ok_or value Words
    → MatchOption value nothing Asks → (nothing → reason) → IfErr result (SaysNothing reason)
unsaid Asks nothing reason None result is says refused = rw is (refused says)
unsaid Asks nothing reason (Some o) result is says refused = rw is tt

-- ---- the words after a command's name say nothing

no_says : {O : Type 0} (name : List ℕ) (table : List Known) (AskFor : List GivenOption → O → Type 0) (words rest : List (List ℕ)) → words ≡ name ∷ rest
    → ((o : O) → AreOptions table AskFor rest o → ⊥) → (o : O) → Says name table AskFor words o → ⊥
no_says name table AskFor words rest are nothing o says =
    nothing o (subst (λ (words : List (List ℕ)). AreOptions table AskFor words o) (same_rest name says.rest rest (sym says.words_are ∙ are)) says.options)

other_name : {O : Type 0} (name other : List ℕ) (table : List Known) (AskFor : List GivenOption → O → Type 0) (words rest : List (List ℕ)) → words ≡ other ∷ rest → length name ≢ length other
    → (o : O) → Says name table AskFor words o → ⊥
other_name name other table AskFor words rest are apart o says =
    name_apart name other apart words says.rest rest says.words_are are

pub no_run_words : (words rest : List (List ℕ)) → words ≡ codes "run" ∷ rest → ((o : RunAsked) → AreOptions run_table AskForRun rest o → ⊥) → (asked : Asked) → Reads words asked → ⊥
no_run_words words rest are nothing (Run o) says = no_says _ run_table AskForRun words rest are nothing o says
no_run_words words rest are nothing (Replay o) says = other_name (codes "replay") (codes "run") replay_table AskForReplay words rest are (λ same. omega (arith, same)) o says
no_run_words words rest are nothing (Inspect o) says = other_name (codes "inspect") (codes "run") map_table AskForImage words rest are (λ same. omega (arith, same)) o says

pub no_replay_words : (words rest : List (List ℕ)) → words ≡ codes "replay" ∷ rest → ((o : ReplayAsked) → AreOptions replay_table AskForReplay rest o → ⊥) → (asked : Asked) → ReadsOffline words asked → ⊥
no_replay_words words rest are nothing (Run o) says = says
no_replay_words words rest are nothing (Replay o) says = no_says _ replay_table AskForReplay words rest are nothing o says
no_replay_words words rest are nothing (Inspect o) says = other_name (codes "inspect") (codes "replay") map_table AskForImage words rest are (λ same. omega (arith, same)) o says

pub no_map_words : (words rest : List (List ℕ)) → words ≡ codes "inspect" ∷ rest → ((o : ImageAsked) → AreOptions map_table AskForImage rest o → ⊥) → (asked : Asked) → ReadsOffline words asked → ⊥
no_map_words words rest are nothing (Run o) says = says
no_map_words words rest are nothing (Replay o) says = other_name (codes "replay") (codes "inspect") replay_table AskForReplay words rest are (λ same. omega (arith, same)) o says
no_map_words words rest are nothing (Inspect o) says = no_says _ map_table AskForImage words rest are nothing o says

-- a reason for saying nothing that follows from another
pub says_nothing : (one other : Type 0) (ending : Ending) → (one → other) → SaysNothing one ending → SaysNothing other ending
says_nothing one other Words follows nothing = follows nothing
says_nothing one other Memory follows nothing = tt
says_nothing one other (Class class) follows nothing = absurd nothing
says_nothing one other (Image fault) follows nothing = absurd nothing
says_nothing one other (Policy kind table key) follows nothing = absurd nothing
says_nothing one other (Differs place) follows nothing = absurd nothing
says_nothing one other (Report line kind) follows nothing = absurd nothing
says_nothing one other (Long kind) follows nothing = absurd nothing
says_nothing one other (Read kind) follows nothing = absurd nothing
says_nothing one other Write follows nothing = absurd nothing
