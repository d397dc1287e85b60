use Rattle.std.proofs.Common.{◌≡◌, ℕ, ◌+◌, ◌<◌, sym, ap, subst, ◌∙◌, arith}
use Rattle.ticket_table.specs.declared.change.Role.TheVariants.{Draw}
use Rattle.ticket_table.specs.Words.{number_of, payload_of, packed}
use Rattle.ticket_table.specs.Rule.{basis_of}
use Rattle.ticket_table.proofs.Asking.{left_alike, exchanges_after_look}
use Rattle.ticket_table.proofs.Keeps.{looks}
use Rattle.ticket_table.proofs.steps.exchange.Goals as goal

pub load-seen-requires : goal.load-seen-requires
load-seen-requires c =
    let shared = c.args.shared.now in
    (c.requires.place.0, c.requires.place.1, looks (basis_of shared.key) shared.table_id.slots c.args.seat.now.id c.args.word c.args.seat.now.me c.requires.place.2)

pub compare_exchange_with-found-requires : goal.compare_exchange_with-found-requires
compare_exchange_with-found-requires c =
    let shared = c.args.shared.now in
    let v = c.args.seat.now.me.0 in
    let note = c.args.note.now in
    let seen : ℕ = c.tries.seen in
    let new : ℕ = c.left-new.result in
    let terms = c.requires.terms in
    let next : c.number-next.result ≡ number_of seen = c.number-next.ensures in
    let small : new < 4294967296 = omega arith in
    let written : c.packed.result ≡ packed (number_of seen + 1) new = c.packed.ensures ∙ ap (λ (n : ℕ). packed (n + 1) new) next in
    let below : number_of seen < v.terms.limit + v.terms.callers =
    (let P : ℕ → Type 0 = λ limit. number_of seen < limit + v.terms.callers in subst P (sym terms.1) c.tries.invariant.below) in (
      c.tries.invariant.table ∙ c.requires.place.0,
      c.requires.place.1,
      exchanges_after_look (basis_of shared.key) shared.table_id.slots c.tries.seat.id c.args.word c.tries.seat.me c.args.seat.now.me seen new c.packed.result note c.requires.place.2
          c.tries.invariant.me c.requires.alone c.requires.unspent below
          (left_alike Draw v.terms.role c.args.limit v.terms.limit note.op c.number-next.result (number_of seen) c.payload-old.result (payload_of seen) new
          (sym terms.0) (sym terms.1) next c.payload-old.ensures c.left-new.ensures)
          small written,
    )
