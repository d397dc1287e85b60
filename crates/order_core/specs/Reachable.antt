-- The states of the protocol machine to which commits and enabled moves lead from the state with nothing committed.
use Rattle.std.specs.Prelude.{◌≡◌, ℕ, ◌<◌, true}
use Rattle.order_core.specs.declared.shape.Shape.{Shape}
use Rattle.order_core.specs.declared.shape.Move.{Move}
use Rattle.order_core.specs.Protocol.{Protocol, begin, can_commit, InRange, commit, can_act, act}

pub data IsReachable (cores words bound : ℕ) : Protocol → Type 0 where
  Begins : IsReachable cores words bound (begin cores words bound)
  Commits : (s : Protocol) (core : ℕ) (shape : Shape) → IsReachable cores words bound s → can_commit s core ≡ true → InRange s shape → IsReachable cores words bound (commit s core shape)
  Acts : (s : Protocol) (step : Move) → IsReachable cores words bound s → can_act s step ≡ true → IsReachable cores words bound (act s step)

-- reached with fewer than 256 cores, from lanes that hold at least one record
pub record IsProtocol (s : Protocol) : Type 0 where
  pub cores : ℕ
  pub words : ℕ
  pub bound : ℕ
  pub few : cores < 256
  pub positive : 0 < bound
  pub reached : IsReachable cores words bound s
