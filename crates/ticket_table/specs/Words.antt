-- The two halves of a shared word: its payload below 2^32, and above it the count of its changes (this project's own form).
use Rattle.std.specs.Prelude.{ℕ, ◌+◌, ◌*◌, ◌/◌, ◌%◌}

-- how many changes the word has had, which is the number of the next one
abbrev pub number_of : ℕ → ℕ
number_of word = word / 4294967296

-- what it holds
abbrev pub payload_of : ℕ → ℕ
payload_of word = word % 4294967296

-- the word of these two
abbrev pub packed : ℕ → ℕ → ℕ
packed number payload = number * 4294967296 + payload
