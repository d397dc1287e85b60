-- A core keeps its first trap: over no check, over two checks in turn, and over a change of registers after checks.
use Rattle.std.proofs.Common.{◌≡◌, ℕ, true, false, ◌==◌, if◌then◌else◌, Option, Some, None, List, [], ◌∷◌, refl, sym, ◌∙◌, ap}
use Rattle.record_lane.specs.declared.reply.Trap.{Trap}
use Rattle.tag_policy.specs.declared.rules.Check.{Check}
use Rattle.tag_policy.specs.Rules.{PolicySeen, kind_of}
use Rattle.tag_registers.specs.Rows.{Look, look, RegisterRule, KeepWord, row}
use Rattle.tag_registers.specs.Tags.{Tags, fired, first_trap, kept_trap, registers_after, unit_after}
use Rattle.tag_registers.specs.Looked.{looked_after}

pub kept_none : (trap : Option Trap) → kept_trap trap None ≡ trap
kept_none (Some trap) = refl
kept_none None = refl

kept_twice : (a b c : Option Trap) → kept_trap (kept_trap a b) c ≡ kept_trap a (kept_trap b c)
kept_twice (Some trap) b c = refl
kept_twice None b c = refl

first_of_two : (policy : PolicySeen) (tags : Tags) (step pc : ℕ) (first : Look) (looks : List Look)
    → kept_trap (first_trap policy tags step pc (first ∷ [])) (first_trap policy tags step pc looks) ≡ first_trap policy tags step pc (first ∷ looks)
first_of_two policy tags step pc first looks =
    elim (fired policy tags first == 0)
    as (λ none. kept_trap (if none then None else Some (record { step = step; pc = pc; kind = kind_of first.check; bits = fired policy tags first })) (first_trap policy tags step pc looks)
    ≡ (if none then first_trap policy tags step pc looks else Some (record { step = step; pc = pc; kind = kind_of first.check; bits = fired policy tags first })))
    [ true ↦ refl | false ↦ refl ]

-- two checks in turn
pub looked_twice : (policy : PolicySeen) (before between after : Tags) (step pc : ℕ) (first : Look) (check : Check) (registers : List ℕ)
    → between ≡ looked_after policy before step pc (first ∷ [])
    → after ≡ looked_after policy between step pc (look check registers ∷ [])
    → after ≡ looked_after policy before step pc (first ∷ look check registers ∷ [])
looked_twice policy before between after step pc first check registers one two =
    two ∙ ap (λ tags. looked_after policy tags step pc (look check registers ∷ [])) one
    ∙ ap (λ trap. record before { trap = trap })
    (kept_twice before.trap (first_trap policy before step pc (first ∷ [])) (first_trap policy before step pc (look check registers ∷ []))
    ∙ ap (kept_trap before.trap) (first_of_two policy before step pc first (look check registers ∷ [])))

-- checks, and then a change of registers
pub looked_first : (policy : PolicySeen) (before between after : Tags) (step pc found : ℕ) (looks : List Look) (rule : RegisterRule)
    → between ≡ looked_after policy before step pc looks
    → after ≡ record between { registers = registers_after policy between.registers found rule }
    → after ≡ unit_after policy before step pc found (row rule KeepWord looks)
looked_first policy before between after step pc found looks rule looked changed =
    changed ∙ ap (λ (tags : Tags). record tags { registers = registers_after policy tags.registers found rule }) looked

-- a change of registers alone
pub unlooked : (policy : PolicySeen) (before after : Tags) (step pc found : ℕ) (rule : RegisterRule)
    → after ≡ record before { registers = registers_after policy before.registers found rule }
    → after ≡ unit_after policy before step pc found (row rule KeepWord [])
unlooked policy before after step pc found rule changed =
    changed ∙ ap (λ trap. record before { registers = registers_after policy before.registers found rule; trap = trap }) (sym (kept_none before.trap))
