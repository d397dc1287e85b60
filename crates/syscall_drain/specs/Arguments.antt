-- The arguments of a system call, and the results of one that is refused (numbers and results as on RISC-V Linux; how many bytes one call moves at most is this project's own).
use Rattle.std.specs.Prelude.{ℕ, ◌+◌, min, Bool, ◌||◌, not, nat_lt}
use Rattle.std.specs.List.{list_any, range_with_len}
use Rattle.elf_image.specs.Layout.{Layout, is_mapped, page_of}
use Rattle.rv_execute.specs.Harts.{HartState, reg}
use Rattle.syscall_drain.specs.declared.limits.TheConstants.{MOST_BYTES}

-- a0: a descriptor, a status or a break
abbrev pub first_argument : HartState → ℕ
first_argument h = reg h 10

-- a1
abbrev pub buffer_start : HartState → ℕ
buffer_start h = reg h 11

-- a2, as far as one call moves bytes
abbrev pub byte_count : HartState → ℕ
byte_count h = min (reg h 12) MOST_BYTES

-- a7
abbrev pub call_number : HartState → ℕ
call_number h = reg h 17

-- whether some byte of a buffer passes 2^32, or fails a test of its address
abbrev pub fails_at : (ℕ → Bool) → ℕ → ℕ → Bool
fails_at good start count =
    nat_lt 4294967296 (start + count) || list_any (λ k. not (good (start + k))) (range_with_len 0 count)

abbrev pub is_mapped_at : Layout → ℕ → Bool
is_mapped_at layout address = is_mapped layout (page_of address)
