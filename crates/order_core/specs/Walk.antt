-- A walk along the canonical merge of logs: its size, and which logs fit it.
use Rattle.std.specs.Prelude.{◌≡◌, ℕ, List, length}
use Rattle.order_core.specs.declared.entry.Entry.{Entry}
use Rattle.order_core.specs.declared.core_set.CoreSet.{CoreSet}
use Rattle.order_core.specs.Logs.{AllTouchBelow}

-- how many cores and words it is for; then how many entries of each core it has given, and how many accesses to each word;
-- the cores that it will look at, and those that wait, in sets by what they wait for
pub record WalkSeen : Type 0 where
  pub cores : ℕ
  pub words : ℕ
  pub places : List ℕ
  pub counts : List ℕ
  pub awake : CoreSet
  pub sets : List CoreSet

-- the logs are of so many cores, and all their accesses are to its words
pub record FitsWalk (walk : WalkSeen) (logs : List (List Entry)) : Type 0 where
  pub count : length logs ≡ walk.cores
  pub words : AllTouchBelow walk.words logs

-- it is for as many cores and words as another
pub record IsSameSize (walk other : WalkSeen) : Type 0 where
  pub cores : walk.cores ≡ other.cores
  pub words : walk.words ≡ other.words
