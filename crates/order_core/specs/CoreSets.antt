-- Proof form: a set of cores as the bits of a number.
use Rattle.std.specs.Prelude.{ℕ}
use Rattle.std.specs.Int.{bit_at}
use Rattle.order_core.specs.declared.core_set.CoreSet.{CoreSet}

-- 1 for a core of the set, 0 for another
abbrev pub count_in : CoreSet → ℕ → ℕ
count_in set core = bit_at set.mask core

abbrev pub no_cores : CoreSet
no_cores = record { mask = 0 }
