use Rattle.std.proofs.Common.{◌∷◌, Some, sym, ap, ◌∙◌}
use Rattle.atomic_table.specs.Table.{rest}
use Rattle.record_lane.proofs.ring_step.take_out.Goals as goal

pub exchange-requires : goal.exchange-requires
exchange-requires g c =
    let held = c.requires.held in
    (c.requires.place, (Some held.0, held.1 ∙ ap (λ more. (c.args.slot, Some held.0) ∷ more) (sym (ap rest held.1))))
