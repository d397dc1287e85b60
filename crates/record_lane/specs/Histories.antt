-- What a lane or a ring answers, and the order of what goes through it (this project's own).
use Rattle.std.specs.Prelude.{◌≡◌, List, ◌++◌}
use Rattle.record_lane.specs.declared.answer.Sent.{Sent}
use Rattle.record_lane.specs.declared.answer.Sent.TheVariants.{Sent as Done, Full}
use Rattle.record_lane.specs.declared.answer.Got.{Got}
use Rattle.record_lane.specs.declared.answer.Got.TheVariants.{Item, Empty}

module _ {T : Type 0} where
  -- the longer list begins with the shorter one
  abbrev pub IsPrefix : List T → List T → Type 0
  IsPrefix short long = (rest : List T) × (long ≡ short ++ rest)

  -- P where the item was sent
  abbrev pub OnSent : Sent T → Type 0 → Type 0
  OnSent Done P = P
  OnSent (Full back) P = Unit {0}

  -- P of the item that came back
  abbrev pub IfFull : Sent T → (T → Type 0) → Type 0
  IfFull Done P = Unit {0}
  IfFull (Full back) P = P back

  -- P of the item that was taken
  abbrev pub IfItem : Got T → (T → Type 0) → Type 0
  IfItem (Item x) P = P x
  IfItem Empty P = Unit {0}

  -- P where nothing was taken
  abbrev pub OnEmpty : Got T → Type 0 → Type 0
  OnEmpty (Item x) P = Unit {0}
  OnEmpty Empty P = P
