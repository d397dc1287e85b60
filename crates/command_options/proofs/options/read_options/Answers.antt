-- What the parser of command lines finds is what the words give.
use Rattle.std.proofs.Common.{◌≡◌, ◌∙◌, true, false, Bool, Global, List, String, map, refl, sym}
use Rattle.std.specs.Prelude.{string_bytes}
use Rattle.std.specs.List.{list_all}
use Rattle.std.proofs.lemmas.List.Folds.{list_all-map}
use Rattle.command_options.specs.Given.{known_in}
use Rattle.command_options.specs.Words.{is_tame}
use Rattle.command_options.proofs.ParserLemmas.{error_refuses, matches_read, untame_refuses}
use Rattle.command_options.proofs.options.read_options.Goals as goal

tame : (words : List (String Global)) (b : Bool) (k : Bool) → b ≡ list_all (λ word. is_tame (string_bytes word)) words → b ≡ k → list_all is_tame (map string_bytes words) ≡ k
tame words b k is e = list_all-map is_tame string_bytes words ∙ (sym is ∙ e)

pub returns-then-not-are_tame-clause-refused : goal.returns-then-not-are_tame-clause-refused
returns-then-not-are_tame-clause-refused c = λ is given read.
    untame_refuses (known_in c.args.table.now) (map string_bytes c.args.words.now) c.requires (tame c.args.words.now _ false c.are_tame.ensures c.if-not-are_tame.true) given read

pub returns-in_err-matches-clause-refused : goal.returns-in_err-matches-clause-refused
returns-in_err-matches-clause-refused c = λ is given read.
    let from = rw is at c.from_residual-in_err-matches.ensures.1 in
    error_refuses (known_in c.args.table.now) (map string_bytes c.args.words.now) _ c.in_err-matches.field-0.0 c.in_ok-command.ensures c.requires
    (tame c.args.words.now _ true c.are_tame.ensures c.if-not-are_tame.false) c.in_err-matches.ensures.kinds (from refl) given read

pub returns-clause-read : goal.returns-clause-read
returns-clause-read c =
    (matches_read (known_in c.args.table.now) (map string_bytes c.args.words.now) _ c.in_ok-matches.matches c.in_ok-command.ensures
    (tame c.args.words.now _ true c.are_tame.ensures c.if-not-are_tame.false) c.in_ok-matches.ensures.kinds c.in_ok-matches.ensures.matches).0

pub invariant_of-result : goal.invariant_of-result
invariant_of-result c =
    (matches_read (known_in c.args.table.now) (map string_bytes c.args.words.now) _ c.in_ok-matches.matches c.in_ok-command.ensures
    (tame c.args.words.now _ true c.are_tame.ensures c.if-not-are_tame.false) c.in_ok-matches.ensures.kinds c.in_ok-matches.ensures.matches).1
