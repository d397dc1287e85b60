use Rattle.std.proofs.Common.{ap, ◌∙◌}
use Rattle.tag_policy.specs.Policies.{policy_in}
use Rattle.tag_registers.specs.Files.{tags_in}
use Rattle.tag_registers.proofs.WordOperation.{operation_leaves}
use Rattle.inline_tracker.proofs.Seating.{served_op}
use Rattle.inline_tracker.proofs.unit.follow_record.Goals as goal

pub returns-in-Serve-clause-cell : goal.returns-in-Serve-clause-cell
returns-in-Serve-clause-cell c =
    let op_is = served_op (policy_in c.args.policy.now) (tags_in c.args.tags.now) c.args.item.now c.in-Serve.word c.in-Serve.number c.in-Serve.op c.in-Serve.ensures.ask in
    c.serve-old.ensures.after ∙ rw op_is (ap (λ tag. record c.args.cell.now { tag = tag }) (operation_leaves (policy_in c.args.policy.now) (tags_in c.args.tags.now) c.args.item.now c.in-Serve.number c.args.cell.now.tag c.requires.range))
