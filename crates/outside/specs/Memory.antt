-- What files and sinks in memory show, and which of their calls fail.
use Rattle.std.specs.Prelude.{◌≡◌, ℕ, ◌+◌, ◌-◌, ◌^◌, min, List, length, find, Contains, ◌⊎◌, Option, None, Some, IsNone}
use Rattle.std.specs.Str.{bytes_eq}

-- one more, for a u64 that stays at its greatest value
abbrev pub risen : ℕ → ℕ
risen n = min (n + 1) (2 ^ 64 - 1)

-- a sink in memory: the bytes that it holds and how many it may hold, the numbers of the calls that fail, the number of the next call, and the count of faults
pub record MemorySink : Type 0 where
  pub bytes : List ℕ
  pub room : ℕ
  pub failing : List ℕ
  pub calls : ℕ
  pub faults : ℕ

-- how many more bytes it may hold
abbrev pub room_left : MemorySink → ℕ
room_left sink = sink.room - length sink.bytes

-- the next call fails where it is one of those that fail, or where no room is left
abbrev pub RefusesWrite : MemorySink → Type 0
RefusesWrite sink = Contains sink.failing sink.calls ⊎ (room_left sink ≡ 0)

-- a file: its name and its bytes
pub record NamedFile : Type 0 where
  pub name : List ℕ
  pub bytes : List ℕ

-- the bytes of a file, if there is one
abbrev pub bytes_of : Option NamedFile → Option (List ℕ)
bytes_of None = None
bytes_of (Some file) = Some file.bytes

-- the bytes that these files hold under a name: those of the first file with that name
abbrev pub held_by : List NamedFile → List ℕ → Option (List ℕ)
held_by files name = bytes_of (find (λ file. bytes_eq file.name name) files)

-- files in memory: the files, the numbers of the calls that fail, the number of the next call, and the count of faults
pub record MemoryFiles : Type 0 where
  pub files : List NamedFile
  pub failing : List ℕ
  pub calls : ℕ
  pub faults : ℕ

-- the next call for this name fails where it is one of those that fail, or where no file has the name
abbrev pub RefusesReading : MemoryFiles → List ℕ → Type 0
RefusesReading files name = Contains files.failing files.calls ⊎ IsNone (held_by files.files name)
