use Rattle.std.proofs.Common.{refl}
use Rattle.hart_actor.proofs.Beginning.{begins}
use Rattle.hart_actor.proofs.hart.HartActor.create.Goals as goal

pub invariant_of-result : goal.invariant_of-result
invariant_of-result c =
    begins _ c.args.guest.now c.args.core c.args.budget (record {
      program_is = c.of.ensures;
      core_is = c.create-5.ensures.core;
      budget_is = c.create-5.ensures.budget;
      local = c.create-5.ensures.opening;
      stage = refl;
      unsent = refl;
      most = c.requires.budget.1;
      log = c.in_ok-log.ensures;
      notes = c.in_ok-notes.ensures;
      output = c.in_ok-output.ensures;
      pieces = c.in_ok-pieces.ensures;
      caller = c.requires.caller;
      number = c.requires.numbers;
      changes = c.requires.new.0;
      sent = c.requires.new.1;
      taken = c.requires.new.2;
    })
