-- The numbers that stand for the faults (this project's own). The order of their tests stands in syscall_drain/specs/Tasks.antt.
use Rattle.std.specs.Prelude.{ℕ}
use Rattle.rv_execute.specs.declared.fault.Fault.{Fault}
use Rattle.rv_execute.specs.declared.fault.Fault.TheVariants.{Illegal, FetchMisaligned, FetchOutside, LoadMisaligned, LoadOutside, StoreMisaligned, StoreOutside, StoreReadOnly, Break}

abbrev pub fault_number : Fault → ℕ
fault_number Illegal = 1
fault_number FetchMisaligned = 2
fault_number FetchOutside = 3
fault_number LoadMisaligned = 4
fault_number LoadOutside = 5
fault_number StoreMisaligned = 6
fault_number StoreOutside = 7
fault_number StoreReadOnly = 8
fault_number Break = 9
