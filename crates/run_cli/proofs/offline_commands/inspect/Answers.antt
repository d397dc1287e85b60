use Rattle.std.proofs.Common.{inl, inr, refl}
use Rattle.run_cli.specs.Asked.{Inspect, image_in}
use Rattle.run_cli.specs.Endings.{text_answer}
use Rattle.run_cli.specs.MapText.{map_text}
use Rattle.run_cli.proofs.Reading.{calm_of}
use Rattle.run_cli.proofs.offline_commands.inspect.Goals as goal

pub returns-in-Ok : goal.returns-in-Ok
returns-in-Ok g c = inl (record {
  answer = text_answer (map_text c.in-Ok.image);
  answers = record { image = c.in-Ok.image; image_is = c.in-Ok.ensures.read; answer_is = refl };
  calm = calm_of _ _ c.in-Ok.ensures.same;
  delivered = rw (← c.map_text.ensures, ← c.as_bytes.ensures) (c.deliver_text.ensures _);
})

pub returns-in-Err : goal.returns-in-Err
returns-in-Err g c = rw c.refused.ensures.same (inr (record {
  caused = c.in-Err.ensures.refused (Inspect (image_in c.args.options.now)) (inr refl);
  line = record { out = record { same = refl; count = refl }; report = c.refused.ensures.told };
}))
