-- The report text of a run of one core that writes `hi` and exits, byte by byte.
use Rattle.std.proofs.Common.{◌≡◌, ℕ, List, [], ◌∷◌, ◌++◌, replicate, refl}
use Rattle.std.specs.Prelude.{codes, length}
use Rattle.std.specs.Fmt.{digits}
use Rattle.elf_image.specs.Elf.{program_headers, segments}
use Rattle.elf_image.specs.Layout.{is_mapped, is_writable_page, is_executable_page, count_below, nth_from, word_of, is_writable, word_at, address_of, first_word, fetched, entry_of}
use Rattle.syscall_drain.specs.Locals.{opening_local}
use Rattle.syscall_drain.specs.Tasks.{task_of}
use Rattle.syscall_drain.specs.Units.{next_ask, answered, placed}
use Rattle.syscall_drain.specs.Records.{unit_record}
use Rattle.rv_execute.specs.Touched.{bytes_touched}
use Rattle.rv_execute.specs.Instructions.{asked, resumed}
use Rattle.tag_policy.specs.Policies.{standard_policy}
use Rattle.tag_registers.specs.Tags.{tags_after, word_tag, reply_of}
use Rattle.machine.specs.Setups.{Setup}
use Rattle.machine.specs.Steps.{core_given, touched, quiet, took, left, step}
use Rattle.machine.specs.Runs.{run, entry_at, entries_from}
use Rattle.machine.proofs.Images.{image_of, hi_words}
use Rattle.trap_report.specs.Digits.{hex}
use Rattle.trap_report.specs.Text.{text, report_of}

abbrev hi : Setup
hi = record {
  program = record { layout = record { bytes = image_of hi_words; cores = 1; stack = 16; heap = 256 }; input = [] };
  policy = standard_policy;
  budget = 1048576;
  limit = 4294967280;
}

-- a line with its line feed
abbrev ended : List ℕ → List ℕ
ended bytes = bytes ++ 10 ∷ []

abbrev hi_report : List ℕ
hi_report =
    ended (codes "taint-report 1")
    ++ ended (codes "cores 1")
    ++ ended (codes "budget 1048576")
    ++ ended (codes "limit 4294967280")
    ++ ended (codes "stack 16")
    ++ ended (codes "heap 256")
    ++ ended (codes "units 13")
    ++ ended (codes "0")
    ++ ended (codes "0")
    ++ ended (codes "0")
    ++ ended (codes "0")
    ++ ended (codes "0")
    ++ ended (codes "0")
    ++ ended (codes "0 12 0 000a6968")
    ++ ended (codes "0")
    ++ ended (codes "0 1 0 00000000")
    ++ ended (codes "0")
    ++ ended (codes "0")
    ++ ended (codes "0")
    ++ ended (codes "0")
    ++ ended (codes "calls 3")
    ++ ended (codes "0 5 00010014 call 64 00000000000000000000000000000000 0 go")
    ++ ended (codes "0 7 00010014 sink 64 00000000000000000000000000000000 0 go")
    ++ ended (codes "0 12 00010020 call 93 00000000000000000000000000000000 0 go")
    ++ ended (codes "traps 0")
    ++ ended (codes "ends 1")
    ++ ended (codes "0 exit 0")
    ++ ended (codes "end")

record Worked : Type 0 where
  size : length hi_report ≡ 349
  hi_text : text hi (replicate 13 0) ≡ hi_report
  hex_digits : hex 8 0xdeadbeef ≡ codes "deadbeef"
  hex_count : hex 4 10 ≡ codes "000a"

worked : Worked
unfolding bytes_touched entry_at program_headers segments is_mapped is_writable_page is_executable_page count_below nth_from word_of is_writable word_at address_of first_word fetched entry_of run step touched quiet took left core_given next_ask answered unit_record placed task_of opening_local asked resumed tags_after word_tag reply_of entries_from digits hex text report_of
worked = record { size = refl; hi_text = refl; hex_digits = refl; hex_count = refl }
