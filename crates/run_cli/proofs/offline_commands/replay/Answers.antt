use Rattle.std.proofs.Common.{inl, inr, refl, codes}
use Rattle.run_cli.specs.Endings.{text_answer}
use Rattle.run_cli.proofs.offline_commands.replay.Goals as goal

pub returns-in-Ok : goal.returns-in-Ok
returns-in-Ok g c = inl (record {
  answer = text_answer (codes "same\n");
  answers = c.in-Ok.ensures.same;
  calm = c.in-Ok.ensures.calm;
  delivered = c.deliver_text.ensures _;
})

pub returns-in-Err : goal.returns-in-Err
returns-in-Err g c = rw c.refused.ensures.same (inr (record {
  caused = c.in-Err.ensures.refused;
  line = record { out = record { same = refl; count = refl }; report = c.refused.ensures.told };
}))
