-- A text that is written to a sink in several parts.
use Rattle.std.proofs.Common.{ℕ, ◌+◌, ◌≤◌, min, List, ◌++◌, length, ◌∙◌, arith}
use Rattle.std.proofs.KnownBytes.{Appends-trans}
use Rattle.std.proofs.Math.Seq.{take-append-add}
use Rattle.std.proofs.lemmas.List.{take-append-le, take_min}
use Rattle.outside.specs.Sinks.{SinkSeen, Wrote, Cut}

-- two texts, one after the other
pub Wrote_append : {xs ys : List ℕ} {first middle last : SinkSeen} → Wrote xs first middle → Wrote ys middle last → Wrote (xs ++ ys) first last
Wrote_append a b = record { whole = Appends-trans _ _ _ _ _ a.whole b.whole; count = b.count ∙ a.count }

-- the second text was cut
pub Cut_append : {xs ys : List ℕ} {first middle last : SinkSeen} → Wrote xs first middle → Cut ys middle last → Cut (xs ++ ys) first last
Cut_append {xs} {ys} a b = record {
  length = length xs + b.length;
  prefix = rw take-append-add (Appends-trans _ _ _ _ _ a.whole b.prefix);
  rose = rw (← a.count) b.rose;
}

-- a text that was cut in its first part
pub Cut_front : (xs ys : List ℕ) {first last : SinkSeen} → Cut xs first last → Cut (xs ++ ys) first last
Cut_front xs ys a =
    let within : min a.length (length xs) ≤ length xs = omega arith in
    record {
      length = min a.length (length xs);
      prefix = rw (take-append-le (min a.length (length xs)) xs ys within, take_min) a.prefix;
      rose = a.rose;
    }
