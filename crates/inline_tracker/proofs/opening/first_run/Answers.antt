use Rattle.std.proofs.Common.{ap, ◌∙◌, map, refl}
use Rattle.std.specs.List.{range_with_len}
use Rattle.elf_image.specs.Layout.{Layout, words_of}
use Rattle.syscall_drain.specs.Programs.{Program}
use Rattle.inline_tracker.specs.Cells.{first_cell}
use Rattle.inline_tracker.proofs.Beginning.{opening_stands}
use Rattle.inline_tracker.proofs.opening.first_run.Goals as goal

pub returns-clause-stands : goal.returns-clause-stands
returns-clause-stands c =
    let s = c.args.setup.now in
    let image = c.image-image.ensures ∙ ap (λ (p : Program). p.layout) c.guest.ensures.guest in
    let cores = c.cores.ensures.cores ∙ ap (λ (layout : Layout). layout.cores) image in
    let cells = c.in_ok-first_cells.ensures ∙ ap (λ (layout : Layout). map (first_cell layout) (range_with_len 0 (words_of layout))) image in
    record {
      along_order = rw (c.in_ok-create.ensures, c.in_ok-create-2.ensures) (opening_stands s c.in_ok-first_seats.field-0.items c.in_ok-first_cells.field-0.items c.guest.ensures.ranges c.in_ok-first_seats.ensures cells);
      order_room = rw (c.in_ok-create.ensures, c.from-cores.ensures, cores, c.budget.ensures) refl;
      output_room = rw (c.in_ok-create-2.ensures, c.from-cores.ensures, cores, c.budget.ensures) refl;
      log_room = rw (c.in_ok-create-3.ensures, c.from-cores.ensures, cores) refl;
      outcome_room = rw (c.in_ok-create-4.ensures, c.from-cores.ensures, cores) refl;
      no_logs = rw c.in_ok-create-3.ensures refl;
      no_outcomes = rw c.in_ok-create-4.ensures refl;
    }
