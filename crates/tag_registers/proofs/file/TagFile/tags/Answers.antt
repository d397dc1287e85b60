use Rattle.std.proofs.Common.{◌≡◌, ◌+◌, ◌-◌, ◌*◌, drop, ◌∙◌, ap, rules, arith}
use Rattle.tag_registers.specs.Tags.{packed}
use Rattle.tag_registers.proofs.Packing.{IsPackedFrom, packed_none, packed_more, packed_fits, packed_room}
use Rattle.tag_registers.proofs.file.TagFile.tags.Goals as goal

pub loop-register-init : goal.loop-register-init
loop-register-init c = packed_none c.args.self.now.tags (search rules)

more : (c : goal.After-from) → IsPackedFrom c.args.self.now.tags (c.loop-register.register - 1) (c.loop-register.all * 16 + c.from.result)
more c =
    packed_more c.args.self.now.tags c.loop-register.register c.loop-register.all c.from.result c.loop-register-test.true c.loop-register.invariant
    (c.from.ensures ∙ c.tag.ensures.value) (omega (arith, c.from.ensures, c.tag.ensures.small))

pub loop-register-preserved : goal.loop-register-preserved
loop-register-preserved c = more c

pub overflow_mul-all : goal.overflow_mul-all
overflow_mul-all c = omega (arith, packed_room _ _ _ c.loop-register-test.true c.loop-register.invariant)

pub overflow_add-all : goal.overflow_add-all
overflow_add-all c = omega (arith, packed_fits _ _ _ (more c))

pub returns : goal.returns
returns c =
    let none : c.loop-register.register ≡ 0 = omega arith in
    c.loop-register.invariant.value ∙ ap (λ n. packed (drop n c.args.self.now.tags)) none
