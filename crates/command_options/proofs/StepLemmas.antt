-- One word more: what the parser of command lines makes of it, by what the word is.
use Rattle.std.proofs.Common.{◌≡◌, ◌∙◌, Bool, true, false, cond, ◌&&◌, List, [], ◌∷◌, Option, Some, None, refl, sym, ap}
use Rattle.std.specs.Prelude.{◌==◌}
use Rattle.std.specs.Str.{bytes_eq}
use Rattle.std.proofs.lemmas.Bool.{not-true}
use Rattle.std.proofs.lemmas.Slice.Eq.{bytes_eq-Decides}
use Rattle.clap.specs.Lexer.{long_of, short_of}
use Rattle.clap.specs.Walk.{Row, Rule, has_row, idle, subcommand_met, walked, with_values, without, settled as settled_held}
use Rattle.clap.specs.declared.builder.value_parser.Reading.TheVariants as reading
use Rattle.clap.specs.declared.parser.matches.ValueSource.TheVariants.{CommandLine}
use Rattle.clap.specs.Kinds.{Kinds, or_else}
use Rattle.clap.specs.Faults.{turn_fault, settle_fault}
use Rattle.clap.specs.declared.error.kind.ErrorKind.TheVariants as kind
use Rattle.command_options.specs.Given.{Known, Text, is_value, is_listed}
use Rattle.command_options.proofs.Scan.{State, settled, waiting, pending}
use Rattle.command_options.proofs.Parse.{rules_for, shape_with, held_at, walk_at, waiting_at}
use Rattle.command_options.proofs.TableLemmas.{by_id, by_long, not_by_long, no_positional}

-- ---- words by themselves

pub long_is_no_dashes : (word : Text) (p : Text × Option Text) → long_of word ≡ Some p → bytes_eq word (45 ∷ 45 ∷ []) ≡ false
long_is_no_dashes word p h = go (bytes_eq word (45 ∷ 45 ∷ [])) refl
  where
    go : (b : Bool) → bytes_eq word (45 ∷ 45 ∷ []) ≡ b → b ≡ false
    go true e =
        let same : word ≡ 45 ∷ 45 ∷ [] = (bytes_eq-Decides word (45 ∷ 45 ∷ [])).0 e in
        let no : None ≡ Some p = sym (ap long_of same) ∙ h in
        cc
    go false e = refl

pub record IsPlain (word : Text) : Type 0 where
  pub dashes : bytes_eq word (45 ∷ 45 ∷ []) ≡ false
  pub long : long_of word ≡ None
  pub short : short_of word ≡ None

pub value_is_plain : (word : Text) → is_value word ≡ true → IsPlain word
value_is_plain [] h = cc
value_is_plain (b ∷ rest) h =
    let no : (b == 45) ≡ false = not-true (b == 45) h in
    record { dashes = rw no refl; long = rw no refl; short = rw no refl }

-- ---- words to the parser

same_text : (name : Text) → bytes_eq name name ≡ true
same_text name = (bytes_eq-Decides name name).1 refl

module _ (table : List Known) where
  abbrev rules : List Rule
  rules = rules_for table

  -- a word that may be a value, where an option waits for it
  pub value_taken : (name word : Text) (rows : List Row) → is_listed table name ≡ true → is_value word ≡ true
      → (turn_fault (shape_with rules) [] (walk_at (waiting name) rows) word ≡ []) × (walked rules [] (walk_at (waiting name) rows) word ≡ walk_at (pending name word) rows)
  unfolding walked
  value_taken name word rows listed good =
      let w = value_is_plain word good in
      let r = by_id table name listed in
      (rw (w.dashes, w.long, w.short) refl, rw (w.dashes, w.long, w.short, r.is, same_text name) refl)

  -- and where none does
  pub value_refused : (state : State) (word : Text) (rows : List Row) → waiting_at state ≡ idle → is_value word ≡ true
      → turn_fault (shape_with rules) [] (walk_at state rows) word ≡ kind.UnknownArgument ∷ []
  value_refused settled word rows free good =
      let w = value_is_plain word good in
      rw (w.dashes, w.long, w.short, no_positional table 1) refl
  value_refused (waiting name) word rows free good = cc
  value_refused (pending name value) word rows free good =
      let w = value_is_plain word good in
      rw (w.dashes, w.long, w.short, no_positional table 1) refl

  no_subcommand : (state : State) (word : Text) → subcommand_met [] (waiting_at state) word ≡ None
  no_subcommand settled word = refl
  no_subcommand (waiting name) word = refl
  no_subcommand (pending name value) word = refl

  -- the rows where what is pending is done with
  abbrev pub rows_after : State → List Row → List Row
  rows_after state rows = (settled_held rules (held_at state rows)).rows

  abbrev pub first_fault : State → List Row → Kinds
  first_fault state rows = settle_fault rules false (held_at state rows)

  -- `--name`
  pub name_taken : (state : State) (word name : Text) (rows : List Row) → is_listed table name ≡ true → long_of word ≡ Some (name, None)
      → (turn_fault (shape_with rules) [] (walk_at state rows) word ≡ or_else (first_fault state rows) [])
      × (walked rules [] (walk_at state rows) word ≡ walk_at (waiting name) (rows_after state rows))
  unfolding walked
  name_taken state word name rows listed long =
      let d = long_is_no_dashes word (name, None) long in
      let r = by_long table name listed in
      (rw (no_subcommand state word, d, long, r.is) refl, rw (no_subcommand state word, d, long, r.is) refl)

  -- `--name=value`
  pub option_taken : (state : State) (word name value : Text) (rows : List Row) → is_listed table name ≡ true → long_of word ≡ Some (name, Some value)
      → (turn_fault (shape_with rules) [] (walk_at state rows) word
      ≡ or_else (or_else (first_fault state rows) (or_else (cond (has_row name (rows_after state rows) && true) (kind.ArgumentConflict ∷ []) []) [])) [])
      × (walked rules [] (walk_at state rows) word
      ≡ walk_at settled (with_values name reading.AsWritten CommandLine (value ∷ []) (without name (rows_after state rows))))
  unfolding walked
  option_taken state word name value rows listed long =
      let d = long_is_no_dashes word (name, Some value) long in
      let r = by_long table name listed in
      (rw (no_subcommand state word, d, long, r.is) refl, rw (no_subcommand state word, d, long, r.is) refl)

  -- a name that is not in the table
  pub name_refused : (state : State) (word name : Text) (value : Option Text) (rows : List Row) → is_listed table name ≡ false → long_of word ≡ Some (name, value)
      → turn_fault (shape_with rules) [] (walk_at state rows) word ≡ kind.UnknownArgument ∷ []
  name_refused state word name value rows unlisted long =
      let d = long_is_no_dashes word (name, value) long in
      rw (no_subcommand state word, d, long, not_by_long table name unlisted) refl
