-- Proof form: reading line by line, from a place in the text on.
use Rattle.std.specs.Prelude.{◌≡◌, ℕ, ◌++◌, List, [], ◌∷◌, Result, Ok, Err}
use Rattle.trap_report.specs.Text.{Numbers}
use Rattle.trap_report.specs.Reading.{LineKind, Reported, BadLine, lines_in, read, reported_after, counted_lines}
use Rattle.trap_report.specs.declared.header.Header.{Header}
use Rattle.trap_report.specs.declared.saved.ReportKind.{ReportKind}
use Rattle.trap_report.specs.declared.saved.ReportFault.{ReportFault}
use Rattle.trap_report.specs.declared.saved.ReportFault.TheVariants.{Bad, NoMemory}

abbrev pub fault_at : ℕ → ReportKind → ReportFault
fault_at line kind = Bad line kind

-- no line of the text is whole
abbrev pub HasOne : List (List ℕ) → Type 0
HasOne [] = ⊥
HasOne (line ∷ []) = Unit {0}
HasOne (line ∷ next ∷ lines) = ⊥

-- what was to be read is what is to be read now, where this was read; or the fault is what was to be read
abbrev pub Leads : {A : Type 0} → Result Reported BadLine → (A → Result Reported BadLine) → Result A ReportFault → Type 0
Leads before after (Ok value) = before ≡ after value
Leads before after (Err (Bad line kind)) = before ≡ Err (record { line = line; kind = kind })
Leads before after (Err NoMemory) = Unit {0}

pub record Goes {A : Type 0} (before : Result Reported BadLine) (after : A → Result Reported BadLine) (result : Result A ReportFault) : Type 0 where
  pub leads : Leads before after result

-- what is to be read of the rest of a text
abbrev pub reading : List ℕ → ℕ → Reported → List LineKind → Result Reported BadLine
reading rest taken told kinds = read (lines_in rest) taken told kinds

-- a line of this kind was read, or the first bad line was found there
abbrev pub TakesLine : LineKind → Reported → List LineKind → List ℕ → ℕ → List ℕ → ℕ → Result ℕ ReportFault → Type 0
TakesLine kind told kinds rest taken now count result =
    Goes (reading rest taken told (kind ∷ kinds)) (λ n. reading now count (reported_after kind n told) (counted_lines kind n ++ kinds)) result

abbrev pub at_line : ℕ → Result ℕ ReportKind → Result ℕ ReportFault
at_line line (Ok n) = Ok n
at_line line (Err kind) = Err (fault_at line kind)

abbrev pub numbers_in : Header → Numbers
numbers_in header = record { cores = header.cores; budget = header.budget; limit = header.limit; stack = header.stack; heap = header.heap }
