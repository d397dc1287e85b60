-- What files and sinks show at one moment (this project's own).
use Rattle.std.specs.Prelude.{ℕ, List, Option}
use Rattle.outside.specs.Sinks.{SinkSeen}

-- files: their contents where they are told, and the count of faults of each name
pub record FilesSeen : Type 0 where
  pub held : List ℕ → Option (List ℕ)
  pub faults : List ℕ → ℕ

abbrev pub files_seen : (List ℕ → Option (List ℕ)) → (List ℕ → ℕ) → FilesSeen
files_seen held faults = record { held = held; faults = faults }

abbrev pub sink_seen : Option (List ℕ) → ℕ → SinkSeen
sink_seen written faults = record { written = written; faults = faults }

-- the output and the report
pub record SinksSeen : Type 0 where
  pub out : SinkSeen
  pub report : SinkSeen

abbrev pub sinks_seen : Option (List ℕ) → ℕ → Option (List ℕ) → ℕ → SinksSeen
sinks_seen out out_faults report report_faults = record { out = sink_seen out out_faults; report = sink_seen report report_faults }

-- all that a command reads and writes
pub record Seen : Type 0 where
  pub files : FilesSeen
  pub sinks : SinksSeen

abbrev pub seen : FilesSeen → SinksSeen → Seen
seen files sinks = record { files = files; sinks = sinks }
