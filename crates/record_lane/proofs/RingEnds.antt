-- The ends of a ring after a step of another end, and what the rule tells of counts.
use Rattle.std.proofs.Common.{◌≡◌, ◌≢◌, ℕ, suc, ◌+◌, ◌%◌, ◌^◌, ◌<◌, Bool, List, [], ◌∷◌, ◌++◌, length, Option, refl, ap, ◌∙◌, arith, length-append}
use Rattle.std.proofs.Math.Nat.{mod-eq_of_lt}
use Rattle.atomic_table.specs.Table.{State}
use Rattle.record_lane.specs.declared.ring_rule.End.{End}
use Rattle.record_lane.specs.RingRule.{IsEndOf, IsRingState}
use Rattle.record_lane.proofs.Prefixes.{prefix_more}

module _ {T : Type 0} (writer reader : ℕ) (sent taken : List T) (puts : Bool) (gets : Option T) (words top : ℕ) where
  -- an end stays an end of the lists after a step of the sender, unless it is the sender's
  pub end_of_sent : (more : List T) (now : Bool) (port : ℕ) (v : End T) → port ≢ writer → IsEndOf writer reader sent taken puts gets words top port v
      → IsEndOf writer reader (sent ++ more) taken now gets words top port v
  end_of_sent more now port v ne old =
      ((λ p. absurd (ne (old.0 p).seat)), λ p. let t = old.1 p in record { seat = t.seat; list = t.list; slot = t.slot; seen = prefix_more v.seen sent more t.seen; numbers = t.numbers })

  pub end_of_slot : (now : Bool) (port : ℕ) (v : End T) → port ≢ writer → IsEndOf writer reader sent taken puts gets words top port v → IsEndOf writer reader sent taken now gets words top port v
  end_of_slot now port v ne old =
      ((λ p. absurd (ne (old.0 p).seat)), old.1)

  -- and after a step of the taker, unless it is the taker's
  pub end_of_taken : (more : List T) (now : Option T) (port : ℕ) (v : End T) → port ≢ reader → IsEndOf writer reader sent taken puts gets words top port v
      → IsEndOf writer reader sent (taken ++ more) puts now words top port v
  end_of_taken more now port v ne old =
      ((λ p. let t = old.0 p in record { seat = t.seat; list = t.list; slot = t.slot; gone = (let g = t.gone in omega (arith, length-append taken more)); numbers = t.numbers }), λ p. absurd (ne (old.1 p).seat))

  pub end_of_item : (now : Option T) (port : ℕ) (v : End T) → port ≢ reader → IsEndOf writer reader sent taken puts gets words top port v → IsEndOf writer reader sent taken puts now words top port v
  end_of_item now port v ne old = (old.0, λ p. absurd (ne (old.1 p).seat))

-- what one raise makes of a count
pub raised : (count : ℕ) → count < 2 ^ 61 → (count + 1) % 2 ^ 64 ≡ count + 1
raised count few = mod-eq_of_lt (omega arith)

-- the oldest of some items
pub first_held : {T : Type 0} (held : List T) → 0 < length held → (x : T) × (rest : List T) × (held ≡ x ∷ rest)
first_held [] some_item = absurd (omega arith)
first_held (x ∷ rest) some_item = (x, rest, refl)

pub add_one : (k : ℕ) → suc k ≡ k + 1
add_one k = omega arith

module _ {T : Type 0} (sound : ℕ → ℕ → T → Type 0) (words top n : ℕ) where
  -- how many are held
  pub held_count : (s : State (Option T) (End T)) → (h : IsRingState sound words top n s) → length h.sent ≡ length h.taken + length h.held
  held_count s h = ap length h.whole ∙ length-append h.taken h.held
