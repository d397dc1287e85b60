-- A text tells one number, and that one is out of the range.
use Rattle.std.proofs.Common.{arith, inl, inr}
use Rattle.command_options.proofs.NumberLemmas.{tells_one}
use Rattle.command_options.proofs.number.number_in.Goals as goal

pub returns-then-number-low : goal.returns-then-number-low
returns-then-number-low c = λ n told.
    let same = tells_one c.args.text.now c.args.low c.args.high n c.in_ok-number.number (omega arith) (omega (arith, c.in_ok-number.ensures.2)) c.in_ok-number.ensures.0 told in
    elim c.then-number-low.either [ inl h ↦ omega (arith, same, told.1) | inr h ↦ omega (arith, same, told.2) ]
