-- The options are those that the parser found, and each of them has a value.
use Rattle.std.proofs.Common.{◌∙◌, List, ap}
use Rattle.clap.specs.Matches.{found_of}
use Rattle.command_options.specs.Given.{GivenOption, value_given}
use Rattle.command_options.proofs.RowLemmas.{value_is}
use Rattle.command_options.proofs.options.Options.value.Goals as goal

pub returns : goal.returns
returns c =
    c.get_str.ensures ∙ value_is (found_of c.self.inside.matches) c.args.name.now c.self.invariant
    ∙ ap (λ (given : List GivenOption). value_given given c.args.name.now) c.self.view_is
