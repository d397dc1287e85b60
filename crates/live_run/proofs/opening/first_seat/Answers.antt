use Rattle.std.proofs.Common.{◌≡◌, ◌+◌, refl, ap, ◌∙◌, arith}
use Rattle.elf_image.specs.Layout.{Layout, words_of}
use Rattle.ticket_table.specs.History.{Basis}
use Rattle.ticket_table.specs.Passes.{PassSeen}
use Rattle.tag_actor.specs.Seen.{TagActorSeen}
use Rattle.syscall_drain.specs.Programs.{Program}
use Rattle.syscall_drain.specs.Locals.{opening_local}
use Rattle.machine.specs.Setups.{core_count}
use Rattle.live_run.proofs.FirstSeats.{deals_next, hart_of, follower_of, new_pass, top_is}
use Rattle.live_run.proofs.opening.first_seat.Goals as goal

pub create-requires-3-clause-caller : goal.create-requires-3-clause-caller
create-requires-3-clause-caller c =
    let tables = c.args.tables.now in
    let dealt = deals_next tables.memory c.args.core (core_count c.args.setup.now) tables.drawn.items c.remove-drawn.new.self.items c.remove-drawn.result c.requires.core c.requires.passes.drawn c.remove-drawn.ensures.value c.remove-drawn.ensures.items in
    ap (λ (p : PassSeen). p.caller) dealt.pass_is

pub create-requires-3-clause-numbers : goal.create-requires-3-clause-numbers
create-requires-3-clause-numbers c =
    let tables = c.args.tables.now in
    let dealt = deals_next tables.memory c.args.core (core_count c.args.setup.now) tables.drawn.items c.remove-drawn.new.self.items c.remove-drawn.result c.requires.core c.requires.passes.drawn c.remove-drawn.ensures.value c.remove-drawn.ensures.items in
    let numbers : c.remove-drawn.result.terms.limit + c.remove-drawn.result.terms.callers ≡ c.args.setup.now.limit + core_count c.args.setup.now =
    ap (λ (p : PassSeen). p.terms.limit + p.terms.callers) dealt.pass_is ∙ ap (λ (b : Basis). b.terms.limit + b.terms.callers) c.requires.passes.tables_are.memory in
    omega (arith, numbers, c.requires.core)

pub create-requires-3-clause-new : goal.create-requires-3-clause-new
create-requires-3-clause-new c =
    let tables = c.args.tables.now in
    let dealt = deals_next tables.memory c.args.core (core_count c.args.setup.now) tables.drawn.items c.remove-drawn.new.self.items c.remove-drawn.result c.requires.core c.requires.passes.drawn c.remove-drawn.ensures.value c.remove-drawn.ensures.items in
    (ap (λ (p : PassSeen). p.changes) dealt.pass_is, c.in_ok-items.ensures.sender.1, c.in_ok-replies.ensures.taker.1)

pub create-requires-4-clause-pass : goal.create-requires-4-clause-pass
create-requires-4-clause-pass c =
    let tables = c.args.tables.now in
    let dealt = deals_next tables.tags c.args.core (core_count c.args.setup.now) tables.served.items c.remove-served.new.self.items c.remove-served.result c.requires.core c.requires.passes.served c.remove-served.ensures.value c.remove-served.ensures.items in
    ap (λ (p : PassSeen). p.changes) dealt.pass_is

pub returns-clause-passes : goal.returns-clause-passes
returns-clause-passes c =
    let tables = c.args.tables.now in
    let drawn = deals_next tables.memory c.args.core (core_count c.args.setup.now) tables.drawn.items c.remove-drawn.new.self.items c.remove-drawn.result c.requires.core c.requires.passes.drawn c.remove-drawn.ensures.value c.remove-drawn.ensures.items in
    let served = deals_next tables.tags c.args.core (core_count c.args.setup.now) tables.served.items c.remove-served.new.self.items c.remove-served.result c.requires.core c.requires.passes.served c.remove-served.ensures.value c.remove-served.ensures.items in
    record { tables_are = c.requires.passes.tables_are; drawn = drawn.others_are; served = served.others_are }

pub returns-clause-seat : goal.returns-clause-seat
returns-clause-seat c =
    let s = c.args.setup.now in
    let tables = c.args.tables.now in
    let drawn = deals_next tables.memory c.args.core (core_count s) tables.drawn.items c.remove-drawn.new.self.items c.remove-drawn.result c.requires.core c.requires.passes.drawn c.remove-drawn.ensures.value c.remove-drawn.ensures.items in
    let served = deals_next tables.tags c.args.core (core_count s) tables.served.items c.remove-served.new.self.items c.remove-served.result c.requires.core c.requires.passes.served c.remove-served.ensures.value c.remove-served.ensures.items in
    let words : c.words-words.result ≡ words_of s.program.layout = c.words-words.ensures ∙ ap words_of (c.image.ensures ∙ ap (λ (p : Program). p.layout) c.guest-guest.ensures.guest) in
    let cores : c.from.result ≡ core_count s = c.from.ensures ∙ (c.cores.ensures.cores ∙ ap (λ (l : Layout). l.cores) (c.image-2.ensures ∙ ap (λ (p : Program). p.layout) c.guest-guest.ensures.guest)) in
    let top : c.limit.result + c.from.result ≡ s.limit + core_count s = top_is c.limit.result s.limit c.from.result (core_count s) c.limit.ensures cores in
    let begun = c.create-4.ensures in
    record {
      budget = c.in_ok-hart.ensures.program.1 ∙ c.budget.ensures;
      core = c.in_ok-hart.ensures.program.2;
      policy = ap (λ (t : TagActorSeen). t.policy) begun ∙ c.policy.ensures;
      caller = ap (λ (t : TagActorSeen). t.pass.caller) begun ∙ ap (λ (p : PassSeen). p.caller) served.pass_is;
      hart_of = hart_of s tables.memory tables.tags c.in_ok-hart.hart c.in_ok-items.items c.in_ok-replies.replies c.requires.passes.tables_are
          (c.in_ok-hart.ensures.program.0 ∙ c.guest-guest.ensures.guest)
          (new_pass tables.memory c.in_ok-hart.hart.pass c.args.core (c.in_ok-hart.ensures.tokens.0 ∙ drawn.pass_is))
          (rw c.in_ok-hart.ensures.tokens.1 c.in_ok-items.ensures.sender.0) (rw c.in_ok-hart.ensures.tokens.2 c.in_ok-replies.ensures.taker.0)
          (c.in_ok-items.ensures.numbers.1 ∙ words) (c.in_ok-items.ensures.numbers.2 ∙ top);
      follower_of = follower_of s tables.memory tables.tags c.create-4.result c.in_ok-items.items c.in_ok-replies.replies c.requires.passes.tables_are
          (new_pass tables.tags c.create-4.result.pass c.args.core (ap (λ (t : TagActorSeen). t.pass) begun ∙ served.pass_is))
          (rw begun c.in_ok-items.ensures.taker.0) (rw begun c.in_ok-replies.ensures.sender.0) c.in_ok-replies.ensures.numbers.0
          (c.in_ok-items.ensures.numbers.1 ∙ words) (omega (arith, words, c.words-words.type_inv)) (c.in_ok-items.ensures.numbers.2 ∙ top) c.guest-guest.ensures.ranges.most_limit;
    }

pub returns-clause-new : goal.returns-clause-new
returns-clause-new c =
    let s = c.args.setup.now in
    let tables = c.args.tables.now in
    let drawn = deals_next tables.memory c.args.core (core_count s) tables.drawn.items c.remove-drawn.new.self.items c.remove-drawn.result c.requires.core c.requires.passes.drawn c.remove-drawn.ensures.value c.remove-drawn.ensures.items in
    let served = deals_next tables.tags c.args.core (core_count s) tables.served.items c.remove-served.new.self.items c.remove-served.result c.requires.core c.requires.passes.served c.remove-served.ensures.value c.remove-served.ensures.items in
    let begun = c.create-4.ensures in (
      record {
        local = c.in_ok-hart.ensures.local.0 ∙ ap (λ (p : Program). opening_local p c.args.core) c.guest-guest.ensures.guest;
        stage = c.in_ok-hart.ensures.local.1;
        unsent = c.in_ok-hart.ensures.local.2;
        drawn = ap (λ (p : PassSeen). p.changes) (c.in_ok-hart.ensures.tokens.0 ∙ drawn.pass_is);
        sent = rw c.in_ok-hart.ensures.tokens.1 c.in_ok-items.ensures.sender.1;
        taken = rw c.in_ok-hart.ensures.tokens.2 c.in_ok-replies.ensures.taker.1;
      },
      record {
        begins_is = rw (begun, c.policy.ensures) refl;
        served = rw begun (ap (λ (p : PassSeen). p.changes) served.pass_is);
        taken = rw begun c.in_ok-items.ensures.taker.1;
        sent = rw begun c.in_ok-replies.ensures.sender.1;
      },
    )
