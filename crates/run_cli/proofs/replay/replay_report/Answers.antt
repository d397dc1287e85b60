use Rattle.std.proofs.Common.{refl}
use Rattle.std.proofs.lemmas.Result.{err_from_is_err_and}
use Rattle.trap_report.specs.Saved.{reported_by}
use Rattle.run_cli.specs.Asked.{Replay, replay_in, setup_in}
use Rattle.run_cli.proofs.Replaying.{refused_setup, was_read, compared, compared_refused}
use Rattle.run_cli.proofs.replay.replay_report.Goals as goal

pub returns-in_err-bytes-clause-refused : goal.returns-in_err-bytes-clause-refused
returns-in_err-bytes-clause-refused g c =
    let p = err_from_is_err_and c.from_residual.result c.from_residual.ensures.1 in
    rw (p.1, p.2) (c.in_err-bytes.ensures.refused (Replay (replay_in c.args.options.now)) (record { options = replay_in c.args.options.now; asks = refl; named = refl }))

pub returns-in_err-setup-clause-refused : goal.returns-in_err-setup-clause-refused
returns-in_err-setup-clause-refused g c =
    let p = err_from_is_err_and c.from_residual-in_err-setup.result c.from_residual-in_err-setup.ensures.1 in
    rw (p.1, p.2) (refused_setup (replay_in c.args.options.now) _ _ _ c.in_ok-bytes.bytes.items (reported_by c.in_ok-saved.saved) (setup_in c.setup_told.result) _
    (record { contents = c.in_ok-bytes.ensures.read; says = rw c.as_slice.ensures.value at c.in_ok-saved.ensures.says }) c.in_ok-bytes.ensures.same c.setup_told.ensures
    (c.in_err-setup.ensures.refused (Replay (replay_in c.args.options.now))))

pub returns-clause-same : goal.returns-clause-same
returns-clause-same g c =
    compared (replay_in c.args.options.now) _ _ c.in_ok-bytes.bytes.items (reported_by c.in_ok-saved.saved) c.in_ok-setup.setup c.compare.result
    (was_read (replay_in c.args.options.now) _ _ _ c.in_ok-bytes.bytes.items (reported_by c.in_ok-saved.saved) (setup_in c.setup_told.result) c.in_ok-setup.setup
    (record { contents = c.in_ok-bytes.ensures.read; says = rw c.as_slice.ensures.value at c.in_ok-saved.ensures.says }) c.in_ok-bytes.ensures.same c.in_ok-setup.ensures.same c.setup_told.ensures c.in_ok-setup.ensures.read)
    (rw (c.as_slice-2.ensures.items, c.as_slice-3.ensures.value) at c.compare.ensures.same)

pub returns-clause-refused : goal.returns-clause-refused
returns-clause-refused g c =
    compared_refused (replay_in c.args.options.now) _ _ c.in_ok-bytes.bytes.items (reported_by c.in_ok-saved.saved) c.in_ok-setup.setup c.compare.result
    (was_read (replay_in c.args.options.now) _ _ _ c.in_ok-bytes.bytes.items (reported_by c.in_ok-saved.saved) (setup_in c.setup_told.result) c.in_ok-setup.setup
    (record { contents = c.in_ok-bytes.ensures.read; says = rw c.as_slice.ensures.value at c.in_ok-saved.ensures.says }) c.in_ok-bytes.ensures.same c.in_ok-setup.ensures.same c.setup_told.ensures c.in_ok-setup.ensures.read)
    (rw (c.as_slice-2.ensures.items, c.as_slice-3.ensures.value) at c.compare.ensures.refused)
