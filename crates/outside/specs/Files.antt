-- What the reading of a whole file gives, where the contents of the files are told, and when each of its faults comes.
use Rattle.std.specs.Prelude.{◌≡◌, ℕ, ◌<◌, ◌≤◌, List, length, ⊤, Option, Result, Ok, Err, IfSome}
use Rattle.outside.specs.declared.files.FileFault.{FileFault}
use Rattle.outside.specs.declared.files.FileFault.TheVariants.{Failed, TooLong, NoMemory}
use Rattle.outside.specs.Faults.{Rose}

-- these are the contents, where they are told
abbrev pub IsTold : Option (List ℕ) → List ℕ → Type 0
IsTold held bytes = IfSome held (λ contents. bytes ≡ contents)

-- the reading gave the contents, or they are longer than `most`, where they are told
abbrev pub ReadsHeld : {B : Type 0} → (B → List ℕ) → Option (List ℕ) → ℕ → Result B FileFault → Type 0
ReadsHeld items held most (Ok bytes) = IsTold held (items bytes)
ReadsHeld items held most (Err Failed) = ⊤
ReadsHeld items held most (Err TooLong) = IfSome held (λ contents. most < length contents)
ReadsHeld items held most (Err NoMemory) = ⊤

-- no count of faults falls, that of the asked name rose where the reading failed, and else each stays as it was
pub record HasFileCause {T : Type 0} (before now : List ℕ → ℕ) (name : List ℕ) (result : Result T FileFault) : Type 0 where
  pub later : (other : List ℕ) → before other ≤ now other
  pub failed : result ≡ Err Failed → Rose (before name) (now name)
  pub kept : (result ≡ Err Failed → ⊥) → (other : List ℕ) → now other ≡ before other
