-- An actor whose core asks for an access may draw the word's number.
use Rattle.std.proofs.Common.{◌≡◌, ℕ, ◌<◌, false, [], ◌∷◌, ◌++◌, sym, ap, ◌∙◌, subst, arith, length}
use Rattle.elf_image.specs.Layout.{words_of}
use Rattle.rv_execute.specs.declared.op.Op.{Op}
use Rattle.rv_execute.specs.declared.op.Taken.{Taken}
use Rattle.ticket_table.specs.Passes.{TableSeen, PassSeen, IsPassOf}
use Rattle.ticket_table.specs.Calls.{MayDraw, HasChanged}
use Rattle.ticket_table.specs.History.{made}
use Rattle.syscall_drain.specs.Programs.{Program}
use Rattle.syscall_drain.specs.Units.{FitsAsk, next_ask}
use Rattle.syscall_drain.specs.Seen.{next_unit, TouchesBelow}
use Rattle.syscall_drain.specs.declared.ask.CoreAsk.{CoreAsk}
use Rattle.syscall_drain.specs.declared.ask.CoreAsk.TheVariants.{Touch as Touches}
use Rattle.syscall_drain.specs.declared.ask.Answer.TheVariants.{Taken as Took}
use Rattle.syscall_drain.specs.declared.ask.NextUnit.{NextUnit}
use Rattle.syscall_drain.proofs.Units.{fits_running}
use Rattle.hart_actor.specs.Harts.{Hart}
use Rattle.hart_actor.specs.Standing.{IsHart}
use Rattle.hart_actor.proofs.UnitKinds.{asks_at}

touch_fits : (ask : CoreAsk) (word : ℕ) (op : Op) (t : Taken) → ask ≡ Touches word op → FitsAsk ask (Took t)
touch_fits ask word op t is = rw is tt

pub may_draw : (v now : Hart) (memory : TableSeen) (program : Program) (unit : NextUnit) (word : ℕ) (op : Op) → v ≡ now → IsHart v → program ≡ now.program → unit ≡ next_unit program now.local → unit.ask ≡ Touches word op
    → TouchesBelow (words_of program.layout) unit.ask → IsPassOf memory now.pass → length memory.basis.first ≡ words_of program.layout → MayDraw memory v.pass word
may_draw v now memory program unit word op is hart guest next asked below pass words =
    let asks = asks_at v now program unit (Touches word op) is guest next asked in
    let within : word < words_of program.layout = subst (λ (ask : CoreAsk). TouchesBelow (words_of program.layout) ask) asked below in record {
      of_table = subst (λ (h : Hart). IsPassOf memory h.pass) (sym is) pass;
      within = omega (arith, within, words);
      unspent = hart.unspent (fits_running v.program v.local (Took (record { number = 0; old = 0; spent = false })) (touch_fits (next_ask v.program v.local) word op _ asks));
    }

-- what the access did, by the terms of the pass
pub terms_at : (v now : Hart) (memory : TableSeen) → v ≡ now → IsPassOf memory now.pass → v.pass.terms ≡ memory.basis.terms
terms_at v now memory is pass = ap (λ (h : Hart). h.pass.terms) is ∙ pass.1

pub drawn_changes : (before after : PassSeen) (core word number old : ℕ) (op : Op) → before.caller ≡ core → HasChanged before after word number op old
    → after.changes ≡ before.changes ++ made before.terms core word number op old ∷ []
drawn_changes before after core word number old op caller changed =
    ap (λ (p : PassSeen). p.changes) changed.change ∙ ap (λ (n : ℕ). before.changes ++ made before.terms n word number op old ∷ []) caller
