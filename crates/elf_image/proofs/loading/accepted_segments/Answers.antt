-- The first fault of the tests so far is that of all tests, and where they find none the next ones say.
use Rattle.std.proofs.Common.{◌≡◌, None, Some, sym, ◌∙◌, ap}
use Rattle.std.proofs.lemmas.Result.{err_from_is_err_and}
use Rattle.elf_image.specs.Elf.{segments, segments_of}
use Rattle.elf_image.proofs.FaultLemmas.{file_at_identification, file_at_header, file_at_segments, header_table}
use Rattle.elf_image.proofs.LoadLemmas.{segments_few}
use Rattle.elf_image.proofs.loading.accepted_segments.Goals as goal

pub returns-in_err-check_identification-clause-refused : goal.returns-in_err-check_identification-clause-refused
returns-in_err-check_identification-clause-refused c =
    let p = err_from_is_err_and c.from_residual.result c.from_residual.ensures.1 in
    rw (p.1, p.2)
    (λ _. file_at_identification c.args.bytes.now c.args.heap c.in_err-check_identification.field-0.0 c.in_err-check_identification.ensures)

pub returns-in_err-check_header-clause-refused : goal.returns-in_err-check_header-clause-refused
returns-in_err-check_header-clause-refused c =
    let p = err_from_is_err_and c.from_residual-in_err-check_header.result c.from_residual-in_err-check_header.ensures.1 in
    rw (p.1, p.2)
    (λ _.
    file_at_header c.args.bytes.now c.args.heap c.in_err-check_header.field-0.0 c.in_ok-check_identification.ensures c.in_err-check_header.ensures)

pub read_headers-requires-clause-table : goal.read_headers-requires-clause-table
read_headers-requires-clause-table c = header_table c.args.bytes.now (sym c.in_ok-check_header.ensures)

pub returns-in_err-check_segments-clause-refused : goal.returns-in_err-check_segments-clause-refused
unfolding segments
returns-in_err-check_segments-clause-refused c =
    let p = err_from_is_err_and c.from_residual-in_err-check_segments.result c.from_residual-in_err-check_segments.ensures.1 in
    let loaded : c.in_ok-segments.segments.items ≡ segments c.args.bytes.now =
    c.in_ok-segments.ensures ∙ ap segments_of (c.deref.ensures.value ∙ c.in_ok-headers.ensures) in
    rw (p.1, p.2)
    (λ _.
    file_at_segments c.args.bytes.now c.args.heap (Some c.in_err-check_segments.field-0.0) c.deref-2.result.now c.deref-3.result.now c.in_ok-check_identification.ensures c.in_ok-check_header.ensures (c.deref-2.ensures.value ∙ c.in_ok-headers.ensures) (c.deref-3.ensures.value ∙ loaded) c.in_err-check_segments.ensures)

pub returns-clause-segments : goal.returns-clause-segments
unfolding segments
returns-clause-segments c = c.in_ok-segments.ensures ∙ ap segments_of (c.deref.ensures.value ∙ c.in_ok-headers.ensures)

pub returns-clause-accepted : goal.returns-clause-accepted
unfolding segments
returns-clause-accepted c =
    let loaded : c.in_ok-segments.segments.items ≡ segments c.args.bytes.now =
    c.in_ok-segments.ensures ∙ ap segments_of (c.deref.ensures.value ∙ c.in_ok-headers.ensures) in
    file_at_segments c.args.bytes.now c.args.heap None c.deref-2.result.now c.deref-3.result.now c.in_ok-check_identification.ensures c.in_ok-check_header.ensures (c.deref-2.ensures.value ∙ c.in_ok-headers.ensures) (c.deref-3.ensures.value ∙ loaded) c.in_ok-check_segments.ensures

pub returns-clause-few : goal.returns-clause-few
unfolding segments
returns-clause-few c =
    let loaded : c.in_ok-segments.segments.items ≡ segments c.args.bytes.now =
    c.in_ok-segments.ensures ∙ ap segments_of (c.deref.ensures.value ∙ c.in_ok-headers.ensures) in
    rw loaded (segments_few c.args.bytes.now (sym c.in_ok-check_header.ensures))
