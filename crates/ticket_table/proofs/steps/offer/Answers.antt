use Rattle.std.proofs.Common.{◌≡◌, ℕ, ◌+◌, ◌<◌, refl, sym, ap, subst, ◌∙◌, arith}
use Rattle.ticket_table.specs.declared.change.Role.TheVariants.{Serve}
use Rattle.ticket_table.specs.Words.{number_of, payload_of, packed}
use Rattle.ticket_table.specs.Rule.{basis_of}
use Rattle.ticket_table.proofs.Asking.{left_alike, exchanges_after_look, serves_on, look_as_is}
use Rattle.ticket_table.proofs.Keeps.{looks}
use Rattle.ticket_table.proofs.steps.offer.Goals as goal

pub load-seen-requires : goal.load-seen-requires
load-seen-requires c =
    let shared = c.args.shared.now in
    (c.requires.place.0, c.requires.place.1, looks (basis_of shared.key) shared.table_id.slots c.args.seat.now.id c.args.word c.args.seat.now.me c.requires.place.2)

pub compare_exchange_with-found-requires : goal.compare_exchange_with-found-requires
compare_exchange_with-found-requires c =
    let shared = c.args.shared.now in
    let v = c.args.seat.now.me.0 in
    let note = c.args.note.now in
    let seen : ℕ = c.load-seen.result in
    let new : ℕ = c.apply-new.result in
    let terms = c.requires.terms in
    let asked : c.args.asked ≡ number_of seen = sym c.if-number-asked.false ∙ c.number.ensures in
    let small : new < 4294967296 = omega arith in
    let written : c.packed.result ≡ packed (number_of seen + 1) new = c.packed.ensures ∙ ap (λ (n : ℕ). packed (n + 1) new) asked in
    let below : number_of seen < v.terms.limit + v.terms.callers =
    (let P : ℕ → Type 0 = λ n. n < v.terms.limit + v.terms.callers in subst P asked terms.1) in
    let found = c.load-seen.ensures in (
      found.0 ∙ c.requires.place.0,
      c.requires.place.1,
      exchanges_after_look (basis_of shared.key) shared.table_id.slots c.load-seen.new.seat.id c.args.word c.load-seen.new.seat.me c.args.seat.now.me seen new c.packed.result note c.requires.place.2
          (look_as_is c.load-seen.new.seat.me c.args.seat.now.me c.args.word seen found.2.0) c.requires.alone (serves_on v.terms.role v.terms.limit v.mine terms.0) below
          (left_alike Serve v.terms.role v.terms.limit v.terms.limit note.op c.args.asked (number_of seen) c.payload-old.result (payload_of seen) new
          (sym terms.0) refl asked c.payload-old.ensures c.apply-new.ensures)
          small written,
    )
