-- The definitions tried on guest programs by computation: how each ends, what its accesses find, and what its calls see.
use Rattle.std.proofs.Common.{◌≡◌, ℕ, true, false, Option, Some, None, List, [], ◌∷◌, ◌++◌, drop, replicate, refl}
use Rattle.std.specs.Prelude.{map, slice_get, slice_set}
use Rattle.std.specs.List.{last_or, flat_map}
use Rattle.record_lane.specs.declared.record.MeetKind.TheVariants.{Call, Verdict}
use Rattle.record_lane.specs.declared.record.Record.TheVariants.{Touch}
use Rattle.record_lane.specs.declared.record.Why.TheVariants.{Fill}
use Rattle.rv_execute.specs.declared.fault.Fault.TheVariants.{Illegal, Break}
use Rattle.rv_execute.specs.declared.op.Op.{Op}
use Rattle.rv_execute.specs.declared.op.Op.TheVariants.{Write}
use Rattle.record_lane.specs.declared.reply.Trap.{Trap}
use Rattle.record_lane.specs.declared.note.CallNote.{CallNote}
use Rattle.syscall_drain.specs.declared.end.End.{End}
use Rattle.syscall_drain.specs.declared.end.End.TheVariants.{Exit, Trapped, Fault, Budget, Spent}
use Rattle.order_core.specs.declared.entry.Entry.{Entry}
use Rattle.tag_policy.specs.declared.rules.Version.{Version}
use Rattle.tag_policy.specs.declared.rules.Version.TheVariants.{WordTags, ByteTags}
use Rattle.tag_policy.specs.declared.rules.Rules.{Rules}
use Rattle.tag_policy.specs.Policies.{standard_rules}
use Rattle.elf_image.specs.Elf.{program_headers, segments}
use Rattle.elf_image.specs.Layout.{is_mapped, is_writable_page, is_executable_page, count_below, nth_from, word_of, is_writable, word_at, address_of, first_word, fetched, entry_of}
use Rattle.syscall_drain.specs.Buffers.{fill}
use Rattle.syscall_drain.specs.Locals.{opening_local}
use Rattle.syscall_drain.specs.Tasks.{task_of}
use Rattle.syscall_drain.specs.Units.{next_ask, answered, placed}
use Rattle.syscall_drain.specs.Records.{unit_record}
use Rattle.rv_execute.specs.Touched.{bytes_touched}
use Rattle.rv_execute.specs.Instructions.{asked, resumed}
use Rattle.tag_registers.specs.Tags.{no_tags, tags_after, word_tag, reply_of}
use Rattle.machine.specs.Setups.{Setup}
use Rattle.machine.specs.Steps.{core_given, touched, quiet, took, left, step}
use Rattle.machine.specs.Runs.{run, along, log_along, entry_at, entries_from}
use Rattle.machine.specs.Outcomes.{summaries, output, status_class}
use Rattle.guest_images.specs.Files.{small_image}
use Rattle.guest_images.specs.declared.programs.TheConstants.{HI, LRSC, COUNT, JUMP, PASS, ODD, BYTE_JUMP}

-- the standard rules, and those with the check on the output alone
abbrev check_sink : Rules
check_sink = record standard_rules { check_jump = false; check_call_number = false; check_sink = true }

abbrev setup_of : Version → List ℕ → List ℕ → Rules → ℕ → ℕ → ℕ → Setup
setup_of version words input rules cores budget limit = record {
  program = record { layout = record { bytes = small_image words; cores = cores; stack = 16; heap = 256 }; input = input };
  policy = record { version = version; rules = rules ∷ [] };
  budget = budget;
  limit = limit;
}

abbrev setup : List ℕ → List ℕ → Rules → ℕ → ℕ → ℕ → Setup
setup words input rules cores budget limit = setup_of WordTags words input rules cores budget limit

abbrev usual : List ℕ → List ℕ → Setup
usual words input = setup words input standard_rules 1 1048576 4294967280

-- a unit with an access, and one without
abbrev access : ℕ → ℕ → ℕ → Entry
access word number found = record { touch = Some (record { word = word; number = number; found = found }) }

abbrev no_access : Entry
no_access = record { touch = None }

abbrev times : ℕ → Entry → List Entry
times n entry = replicate n entry

-- how a run ends, without its notes
abbrev Ending : Type 0
Ending = Option End × ℕ × Option Trap

abbrev endings : Setup → List ℕ → List Ending
endings s order = map (λ core. (core.ending, core.units, core.trap)) (summaries s (along s order))

-- the last note of the last core that has one
abbrev last_note : Setup → List ℕ → Option CallNote
last_note s order = last_or None (flat_map (λ core. core.notes) (summaries s (along s order)))

abbrev class_along : Setup → List ℕ → ℕ
class_along s order = status_class s (along s order)

abbrev output_along : Setup → List ℕ → List ℕ
output_along s order = output (along s order)

abbrev zeros : ℕ → List ℕ
zeros n = replicate n 0

abbrev exits : ℕ → ℕ → Ending
exits code units = (Some (Exit code), units, None)

abbrev trap : ℕ → ℕ → ℕ → ℕ → Trap
trap step pc kind bits = record { step = step; pc = pc; kind = kind; bits = bits }

abbrev note : ℕ → ℕ → ℕ → CallNote
note step pc call = record { step = step; pc = pc; call = call; kind = Call; tags = 0; buffer = 0; stop = false }

-- the programs with their inputs
abbrev hi : Setup
hi = usual HI []

abbrev lrsc : Setup
lrsc = setup LRSC [] standard_rules 2 1048576 4294967280

abbrev jump : ℕ → Setup
jump budget = setup JUMP (0x20 ∷ 0 ∷ 1 ∷ 0 ∷ []) standard_rules 1 budget 4294967280

abbrev pass : Setup
pass = setup PASS (97 ∷ 98 ∷ 99 ∷ 100 ∷ []) check_sink 1 1048576 4294967280

abbrev odd : Setup
odd = usual ODD (65 ∷ 66 ∷ 67 ∷ 68 ∷ 69 ∷ [])

-- the same under a policy with a tag for each byte
abbrev odd_bytes : Setup
odd_bytes = setup_of ByteTags ODD (65 ∷ 66 ∷ 67 ∷ 68 ∷ 69 ∷ []) standard_rules 1 1048576 4294967280

-- reads one byte, and jumps to the clean byte beside it
abbrev beside : Version → Setup
beside version = setup_of version BYTE_JUMP (0 ∷ []) standard_rules 1 1048576 4294967280

abbrev tag_along : Setup → List ℕ → ℕ → ℕ
tag_along s order word = ((along s order).words word).tag

-- the store of word `index` of a read call that puts its five bytes into the odd buffer
abbrev odd_fill : ℕ → Op
odd_fill index = fill 0x11002 5 index (65 ∷ 66 ∷ 67 ∷ 68 ∷ 69 ∷ []) 0

abbrev reserve : Setup
reserve = usual LRSC []

-- brk of 0, and an exit with the page of the answer
abbrev break : Setup
break = usual (0x00000513 ∷ 0x0d600893 ∷ 0x00000073 ∷ 0x00c55513 ∷ 0x05d00893 ∷ 0x00000073 ∷ []) []

-- a store before the store-conditional, and after it
abbrev store_between : List ℕ
store_between = 0 ∷ 0 ∷ 0 ∷ 1 ∷ 1 ∷ 1 ∷ 0 ∷ 0 ∷ 0 ∷ 0 ∷ 0 ∷ 1 ∷ 1 ∷ 1 ∷ []

abbrev store_after : List ℕ
store_after = replicate 8 0 ++ replicate 6 1

abbrev turns : List ℕ
turns = 0 ∷ 1 ∷ 0 ∷ 1 ∷ 0 ∷ 1 ∷ 0 ∷ 1 ∷ 0 ∷ 0 ∷ 0 ∷ []

-- the tag of a word after a store of a read call
abbrev filled : ℕ → ℕ → ℕ
filled bytes found = word_tag (record { version = WordTags; rules = check_sink ∷ [] }) no_tags (Touch 0 0 3 0 (Fill bytes)) found

record Worked : Type 0 where
  hi_prints_and_exits : summaries hi (along hi (zeros 13)) ≡ record {
    ending = Some (Exit 0);
    units = 13;
    trap = None;
    notes = note 5 0x10014 64 ∷ record (note 7 0x10014 64) { kind = Verdict } ∷ note 12 0x10020 93 ∷ [];
  } ∷ []
  hi_output : output_along hi (zeros 13) ≡ 104 ∷ 105 ∷ 10 ∷ []
  hi_log : log_along hi (zeros 13) 0 ≡ times 6 no_access ++ access 12 0 0x000a6968 ∷ no_access ∷ access 1 0 0 ∷ [] ++ times 4 no_access
  hi_class : class_along hi (zeros 13) ≡ 0
  bad_buffer_gives_bad_address : endings (usual (slice_set (slice_set HI 1 0x000005b7) 6 0x00000013) []) (zeros 10) ≡ exits 242 10 ∷ []
  unknown_call_gives_no_call : endings (usual (slice_set (slice_set HI 4 0x03900893) 6 0x00000013) []) (zeros 10) ≡ exits 218 10 ∷ []
  store_conditional_fails_after_a_store : endings lrsc store_between ≡ exits 1 8 ∷ exits 0 6 ∷ []
  reservation_alone : endings reserve (zeros 8) ≡ exits 0 8 ∷ []
  reservation_log : log_along reserve (zeros 8) 0 ≡ no_access ∷ no_access ∷ access 1027 0 0 ∷ access 1027 1 0 ∷ times 4 no_access
  store_conditional_numbers : log_along lrsc store_between 0 ≡ no_access ∷ no_access ∷ access 1027 0 0 ∷ access 1027 2 0 ∷ times 4 no_access
  store_numbers : log_along lrsc store_between 1 ≡ no_access ∷ no_access ∷ access 1027 1 0 ∷ times 3 no_access
  store_conditional_stores_alone : endings lrsc store_after ≡ exits 0 8 ∷ exits 0 6 ∷ []
  store_conditional_classes : (class_along lrsc store_between ≡ 1) × (class_along lrsc store_after ≡ 0)
  tainted_jump_stops_at_the_next_call : endings (jump 1048576) (zeros 15) ≡ (Some Trapped, 15, Some (trap 9 0x10018 1 1)) ∷ []
  tainted_jump_note : last_note (jump 1048576) (zeros 15) ≡ Some (record (note 14 0x10030 64) { tags = 0x100000; stop = true })
  stores_go_on_after_the_trap : drop 8 (log_along (jump 1048576) (zeros 15) 0) ≡ access 1027 1 0x00010020 ∷ no_access ∷ access 1028 0 0 ∷ access 1029 0 0 ∷ times 3 no_access
  tainted_jump_output : output_along (jump 1048576) (zeros 15) ≡ []
  tainted_jump_class : class_along (jump 1048576) (zeros 15) ≡ 2
  budget_ends_a_claim : endings (jump 6) (zeros 6) ≡ (Some Budget, 6, None) ∷ []
  budget_log : drop 5 (log_along (jump 6) (zeros 6) 0) ≡ access 0 0 0 ∷ []
  budget_class : class_along (jump 6) (zeros 6) ≡ 4
  trap_in_the_last_unit_is_kept : endings (jump 10) (zeros 10) ≡ (Some Budget, 10, Some (trap 9 0x10018 1 1)) ∷ []
  trap_comes_before_budget : class_along (jump 10) (zeros 10) ≡ 2
  tainted_bytes_stop_at_the_verdict : endings pass (zeros 13) ≡ (Some Trapped, 13, Some (trap 12 0x1001c 7 1)) ∷ []
  verdict_note : last_note pass (zeros 13) ≡ Some (record (note 12 0x1001c 64) { kind = Verdict; buffer = 1; stop = true })
  verdict_log : log_along pass (zeros 13) 0 ≡
      times 5 no_access ++ access 0 0 0 ∷ access 1027 0 0 ∷ times 4 no_access ++ access 1027 1 0x64636261 ∷ no_access ∷ []
  verdict_class : class_along pass (zeros 13) ≡ 2
  verdict_output : output_along pass (zeros 13) ≡ []
  odd_buffer_comes_back : output_along odd (zeros 21) ≡ 65 ∷ 66 ∷ 67 ∷ 68 ∷ 69 ∷ []
  odd_buffer_stores : (odd_fill 0 ≡ Write 0xffff0000 0x42410000) × (odd_fill 1 ≡ Write 0x00ffffff 0x00454443)
  odd_buffer_ends : endings odd (zeros 21) ≡ exits 0 21 ∷ []
  odd_buffer_log : drop 6 (log_along odd (zeros 21) 0) ≡
      access 0 0 0 ∷ access 1027 0 0 ∷ access 1028 0 0 ∷ times 4 no_access ++ access 1027 1 0x42410000 ∷ access 1028 1 0x00454443 ∷ no_access ∷ access 1 0 0 ∷ times 4 no_access
  part_of_a_word_joins_its_tag : (filled 14 2 ≡ 3) × (filled 15 2 ≡ 1)
  odd_buffer_tags : (tag_along odd (zeros 21) 1027 ≡ 1) × (tag_along odd (zeros 21) 1028 ≡ 1)
  odd_buffer_byte_tags : (tag_along odd_bytes (zeros 21) 1027 ≡ 0x1100) × (tag_along odd_bytes (zeros 21) 1028 ≡ 0x0111)
  odd_bytes_end : endings odd_bytes (zeros 21) ≡ exits 0 21 ∷ []
  byte_beside_a_read_one_has_its_words_tag : endings (beside WordTags) (zeros 15) ≡ (Some Trapped, 15, Some (trap 11 0x10020 1 1)) ∷ []
  byte_beside_a_read_one_has_no_byte_tag : endings (beside ByteTags) (zeros 15) ≡ exits 0 15 ∷ []
  count_ends : endings (usual COUNT []) (zeros 3006) ≡ exits 0 3006 ∷ []
  spent_accesses_end_both : endings (setup COUNT [] standard_rules 2 1048576 1) turns ≡ (Some Spent, 7, None) ∷ (Some Spent, 4, None) ∷ []
  spent_numbers : slice_get (log_along (setup COUNT [] standard_rules 2 1048576 1) turns 0) 6 ≡ Some (access 1027 2 1)
  spent_number_of_the_other : slice_get (log_along (setup COUNT [] standard_rules 2 1048576 1) turns 1) 3 ≡ Some (access 1027 1 1)
  spent_class : class_along (setup COUNT [] standard_rules 2 1048576 1) turns ≡ 5
  no_instruction_faults : endings (usual (0 ∷ []) []) (zeros 1) ≡ (Some (Fault Illegal), 1, None) ∷ []
  breakpoint_faults : endings (usual (0x00100073 ∷ []) []) (zeros 1) ≡ (Some (Fault Break), 1, None) ∷ []
  fault_class : class_along (usual (0 ∷ []) []) (zeros 1) ≡ 3
  break_is_told : endings break (zeros 8) ≡ exits 17 8 ∷ []
  break_log : slice_get (log_along break (zeros 8) 0) 3 ≡ Some (access 2 0 0x00011000)

worked : Worked
unfolding bytes_touched entry_at program_headers segments is_mapped is_writable_page is_executable_page count_below nth_from word_of is_writable word_at address_of first_word fetched entry_of run step touched quiet took left core_given next_ask answered unit_record placed task_of opening_local asked resumed tags_after word_tag reply_of entries_from output status_class
worked = record {
  hi_prints_and_exits = refl;
  hi_output = refl;
  hi_log = refl;
  hi_class = refl;
  bad_buffer_gives_bad_address = refl;
  unknown_call_gives_no_call = refl;
  store_conditional_fails_after_a_store = refl;
  reservation_alone = refl;
  reservation_log = refl;
  store_conditional_numbers = refl;
  store_numbers = refl;
  store_conditional_stores_alone = refl;
  store_conditional_classes = (refl, refl);
  tainted_jump_stops_at_the_next_call = refl;
  tainted_jump_note = refl;
  stores_go_on_after_the_trap = refl;
  tainted_jump_output = refl;
  tainted_jump_class = refl;
  budget_ends_a_claim = refl;
  budget_log = refl;
  budget_class = refl;
  trap_in_the_last_unit_is_kept = refl;
  trap_comes_before_budget = refl;
  tainted_bytes_stop_at_the_verdict = refl;
  verdict_note = refl;
  verdict_log = refl;
  verdict_class = refl;
  verdict_output = refl;
  odd_buffer_comes_back = refl;
  odd_buffer_stores = (refl, refl);
  odd_buffer_ends = refl;
  odd_buffer_log = refl;
  part_of_a_word_joins_its_tag = (refl, refl);
  odd_buffer_tags = (refl, refl);
  odd_buffer_byte_tags = (refl, refl);
  odd_bytes_end = refl;
  byte_beside_a_read_one_has_its_words_tag = refl;
  byte_beside_a_read_one_has_no_byte_tag = refl;
  count_ends = refl;
  spent_accesses_end_both = refl;
  spent_numbers = refl;
  spent_number_of_the_other = refl;
  spent_class = refl;
  no_instruction_faults = refl;
  breakpoint_faults = refl;
  fault_class = refl;
  break_is_told = refl;
  break_log = refl;
}
