-- The image is required.
use Rattle.std.proofs.Common.{List, Option, None, codes, ℕ, refl, subst, sym}
use Rattle.std.specs.Prelude.{IsSome}
use Rattle.command_options.proofs.ScanLemmas.{required_given}
use Rattle.command_options.proofs.tests.image_of.Goals as goal

pub unreachable-requires : goal.unreachable-requires
unreachable-requires c =
    let some = required_given _ _ c.in_ok-options.options (codes "image") c.in_ok-options.ensures.read refl in
    let none : IsSome {T = List ℕ} None = subst (λ (value : Option (List ℕ)). IsSome value) (sym c.in-None.ensures) some in
    cc
