use Rattle.std.proofs.Common.{inl, inr, refl}
use Rattle.run_cli.specs.Endings.{run_answer}
use Rattle.run_cli.proofs.dispatch.run.Goals as goal

pub returns-in-Ok : goal.returns-in-Ok
returns-in-Ok g c = inl (record {
  answer = run_answer c.in-Ok.run'.setup c.in-Ok.run'.finished.run.order;
  answers = record {
    setup = c.in-Ok.run'.setup;
    setup_is = c.in-Ok.ensures.setup;
    order = c.in-Ok.run'.finished.run.order;
    order_of = c.in-Ok.ensures.order;
    answer_is = refl;
  };
  calm = c.in-Ok.ensures.calm;
  delivered = c.deliver.ensures;
})

pub returns-in-Err : goal.returns-in-Err
returns-in-Err g c = rw c.refused.ensures.same (inr (record {
  caused = c.in-Err.ensures.refused;
  line = record { out = record { same = refl; count = refl }; report = c.refused.ensures.told };
}))
