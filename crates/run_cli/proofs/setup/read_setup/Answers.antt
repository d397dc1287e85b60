use Rattle.std.proofs.Common.{refl, inl}
use Rattle.std.proofs.lemmas.Result.{err_from_is_err_and}
use Rattle.run_cli.specs.Asked.{setup_in}
use Rattle.run_cli.proofs.Reading.{refused_policy, refused_input}
use Rattle.run_cli.proofs.setup.read_setup.Goals as goal

pub returns-in_err-image-clause-refused : goal.returns-in_err-image-clause-refused
returns-in_err-image-clause-refused g c asked asks =
    let p = err_from_is_err_and c.from_residual.result c.from_residual.ensures.1 in
    rw (p.1, p.2) (c.in_err-image.ensures.refused asked (inl (record { setup = setup_in c.args.options.now; asks = asks; image_is = refl })))

pub returns-in_err-policy-clause-refused : goal.returns-in_err-policy-clause-refused
returns-in_err-policy-clause-refused g c asked asks =
    let p = err_from_is_err_and c.from_residual-in_err-policy.result c.from_residual-in_err-policy.ensures.1 in
    rw (p.1, p.2) (refused_policy asked _ _ _ _ _ _ c.in_ok-image.ensures.same (record { asks = asks; image_is = c.in_ok-image.ensures.read }) (c.in_err-policy.ensures.refused asked _))

pub returns-in_err-input-clause-refused : goal.returns-in_err-input-clause-refused
returns-in_err-input-clause-refused g c asked asks =
    let p = err_from_is_err_and c.from_residual-in_err-input.result c.from_residual-in_err-input.ensures.1 in
    rw (p.1, p.2) (refused_input asked _ _ _ _ _ _ _ _ c.in_ok-image.ensures.same c.in_ok-policy.ensures.same
    (record { asks = asks; image_is = c.in_ok-image.ensures.read }) c.in_ok-policy.ensures.read (c.in_err-input.ensures.refused asked _ _))
