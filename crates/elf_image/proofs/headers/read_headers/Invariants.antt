-- The headers so far are the first ones of the table.
use Rattle.std.proofs.Common.{◌≡◌, ◌+◌, ◌*◌, map}
use Rattle.std.specs.List.{range_with_len}
use Rattle.elf_image.specs.Elf.{header_at}
use Rattle.elf_image.proofs.headers.read_headers.Given as goal

abbrev pub invariant-loop-k : goal.invariant-loop-k
invariant-loop-k l = l.headers.items ≡ map (λ k. header_at l.bytes (l.offset + 32 * k)) (range_with_len 0 l.k)
