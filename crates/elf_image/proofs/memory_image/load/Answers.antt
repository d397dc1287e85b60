-- Each refusal is the first fault of the file, and what is kept of an accepted file is its layout's.
use Rattle.std.proofs.Common.{◌≤◌, List, length, subst, Some, None, sym, ◌∙◌, ap}
use Rattle.std.proofs.lemmas.Result.{err_from_is_err_and}
use Rattle.elf_image.specs.Layout.{all_pages, break_page, count_below, maps}
use Rattle.elf_image.specs.Directory.{IsDirectoryBelow, page_entry}
use Rattle.elf_image.specs.PageTable.{IsListed, permissions_of}
use Rattle.elf_image.specs.declared.segments.Segment.{Segment}
use Rattle.elf_image.proofs.LoadLemmas.{at_segments, contents_at, entry_aligned, image_file, image_too_large, image_entry, mapped_low, memory_from, read_from, table_few}
use Rattle.elf_image.proofs.memory_image.load.Goals as goal

pub returns-in_err-segments-clause-refused : goal.returns-in_err-segments-clause-refused
returns-in_err-segments-clause-refused c =
    let p = err_from_is_err_and c.from_residual.result c.from_residual.ensures.1 in
    rw (p.1, p.2)
    (λ other. image_file c.args.bytes.now c.args.cores c.args.stack c.args.heap c.in_err-segments.field-0.0 (c.in_err-segments.ensures.refused other))

pub returns-in_err-table-clause-refused : goal.returns-in_err-table-clause-refused
returns-in_err-table-clause-refused c =
    let p = err_from_is_err_and c.from_residual-in_err-table.result c.from_residual-in_err-table.ensures.1 in
    rw (p.1, p.2)
    (λ other.
    let large = c.in_err-table.ensures.refused other in
    image_too_large c.args.bytes.now c.args.cores c.args.stack c.args.heap c.deref.result.now c.in_ok-segments.ensures.accepted (c.deref.ensures.value ∙ c.in_ok-segments.ensures.segments) large.1
    ∙ ap Some (sym large.0))

pub returns-in_err-check_entry-clause-refused : goal.returns-in_err-check_entry-clause-refused
returns-in_err-check_entry-clause-refused c =
    let p = err_from_is_err_and c.from_residual-in_err-check_entry.result c.from_residual-in_err-check_entry.ensures.1 in
    let few : count_below (maps c.deref.result.now c.args.cores c.args.stack c.args.heap) all_pages ≤ 4096 =
    table_few _ _ c.in_ok-table.ensures.listed (sym c.in_ok-table.table.mapped.ok.0) c.in_ok-table.ensures.few in
    rw (p.1, p.2)
    (λ _.
    image_entry c.args.bytes.now c.args.cores c.args.stack c.args.heap c.entry_address-entry.result c.deref.result.now (Some c.in_err-check_entry.field-0.0) c.in_ok-segments.ensures.accepted (c.deref.ensures.value ∙ c.in_ok-segments.ensures.segments) few c.entry_address-entry.ensures (c.in_err-check_entry.ensures ∙ at_segments c.entry_address-entry.result c.deref-2.result.now c.deref.result.now (c.deref-2.ensures.value ∙ sym c.deref.ensures.value)))

pub first_words-requires-clause-low : goal.first_words-requires-clause-low
first_words-requires-clause-low c =
    mapped_low _ _ c.deref-4.result.now c.in_ok-table.ensures.listed c.deref-4.ensures.value

pub invariant_of-result : goal.invariant_of-result
invariant_of-result c =
    let table =
    subst (λ (loaded : List Segment). IsListed loaded c.args.cores c.args.stack c.args.heap c.in_ok-table.table.mapped.items) c.deref.ensures.value c.in_ok-table.ensures.listed in
    let directory =
    subst (λ (loaded : List Segment). IsDirectoryBelow (page_entry (maps loaded c.args.cores c.args.stack c.args.heap) (permissions_of loaded c.args.cores c.args.stack c.args.heap)) c.in_ok-table.table.directory.leaves.items c.in_ok-table.table.directory.entries.items all_pages) c.deref.ensures.value c.in_ok-table.ensures.directory in
    let few : length c.in_ok-table.table.mapped.items ≤ 4096 =
    subst (λ n. n ≤ 4096) c.in_ok-table.table.mapped.ok.0 c.in_ok-table.ensures.few in
    let contents =
    contents_at c.args.bytes.now c.deref-3.result.now c.in_ok-segments.segments.items c.deref-4.result.now c.in_ok-table.table.mapped.items c.in_ok-words.words.items c.deref-3.ensures.value c.deref-4.ensures.value c.in_ok-words.ensures in
    let first = c.break_page.ensures ∙ ap break_page c.deref-5.ensures.value in
    rw c.of-file.ensures (
      memory_from c.args.bytes.now c.args.cores c.args.stack c.args.heap c.in_ok-segments.segments.items c.in_ok-table.table.mapped.items c.in_ok-table.table.directory.leaves.items c.in_ok-table.table.directory.entries.items c.in_ok-words.words.items c.in_ok-segments.ensures.segments table few directory contents,
      read_from c.args.bytes.now c.args.cores c.args.stack c.args.heap c.break_page.result c.entry_address-entry.result c.in_ok-segments.segments.items c.in_ok-segments.ensures.segments c.in_ok-segments.ensures.few c.in_ok-segments.ensures.ends first c.in_ok-segments.ensures.heap_end c.entry_address-entry.ensures (entry_aligned c.entry_address-entry.result _ c.in_ok-check_entry.ensures),
      record {
        some_cores = c.requires.cores_low;
        most_cores = c.requires.cores_high;
        some_stack = c.requires.stack_low;
        most_stack = c.requires.stack_high;
        most_heap = c.requires.heap_high;
        sound =
            let fit : count_below (maps c.deref.result.now c.args.cores c.args.stack c.args.heap) all_pages ≤ 4096 =
            table_few _ _ c.in_ok-table.ensures.listed (sym c.in_ok-table.table.mapped.ok.0) c.in_ok-table.ensures.few in
            image_entry c.args.bytes.now c.args.cores c.args.stack c.args.heap c.entry_address-entry.result c.deref.result.now None c.in_ok-segments.ensures.accepted (c.deref.ensures.value ∙ c.in_ok-segments.ensures.segments) fit c.entry_address-entry.ensures (c.in_ok-check_entry.ensures ∙ at_segments c.entry_address-entry.result c.deref-2.result.now c.deref.result.now (c.deref-2.ensures.value ∙ sym c.deref.ensures.value));
      },
    )

pub returns-clause-accepted : goal.returns-clause-accepted
returns-clause-accepted c =
    let few : count_below (maps c.deref.result.now c.args.cores c.args.stack c.args.heap) all_pages ≤ 4096 =
    table_few _ _ c.in_ok-table.ensures.listed (sym c.in_ok-table.table.mapped.ok.0) c.in_ok-table.ensures.few in
    image_entry c.args.bytes.now c.args.cores c.args.stack c.args.heap c.entry_address-entry.result c.deref.result.now None c.in_ok-segments.ensures.accepted (c.deref.ensures.value ∙ c.in_ok-segments.ensures.segments) few c.entry_address-entry.ensures (c.in_ok-check_entry.ensures ∙ at_segments c.entry_address-entry.result c.deref-2.result.now c.deref.result.now (c.deref-2.ensures.value ∙ sym c.deref.ensures.value))
