-- What holds of the merges of all logs: the computed canonical merge is one where there is one, and histories give one.
use Rattle.std.specs.Prelude.{◌≡◌, ℕ, List}
use Rattle.order_core.specs.declared.entry.Entry.{Entry}
use Rattle.order_core.specs.LegalMerge.{HasLegalMerge, IsLegalOrder}
use Rattle.order_core.specs.CanonicalMerge.{canonical, IsCanonicalMerge}
use Rattle.order_core.specs.History.{CoreAccess, FitsLogs, ExtendsToMerge}

abbrev pub CanonicalIsLegal : Type 0
CanonicalIsLegal = (logs : List (List Entry)) → HasLegalMerge logs → IsLegalOrder logs (canonical logs)

abbrev pub CanonicalIsLeast : Type 0
CanonicalIsLeast = (logs : List (List Entry)) → HasLegalMerge logs → IsCanonicalMerge logs (canonical logs)

abbrev pub CanonicalIsUnique : Type 0
CanonicalIsUnique =
    (logs : List (List Entry)) → HasLegalMerge logs → (order : List ℕ) → IsCanonicalMerge logs order → order ≡ canonical logs

abbrev pub HistoryMerges : Type 0
HistoryMerges = (logs : List (List Entry)) (history : List CoreAccess) → FitsLogs logs history → ExtendsToMerge logs history
