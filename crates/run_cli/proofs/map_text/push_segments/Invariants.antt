use Rattle.std.proofs.Common.{◌≡◌, ◌+◌, ◌*◌, ◌≤◌, ◌++◌, length, take}
use Rattle.elf_image.specs.Elf.{segments}
use Rattle.run_cli.specs.MapText.{segment_lines}
use Rattle.run_cli.proofs.map_text.push_segments.Given as goal

abbrev pub invariant-loop-place : goal.invariant-loop-place
invariant-loop-place l =
    (l.block ≡ l.fn.block ++ segment_lines (take l.place (segments l.image.bytes))) × (length l.block ≤ 16 + 30 * l.place)
