use Rattle.tag_policy.proofs.Bits.{bits_are}
use Rattle.tag_policy.proofs.Forms.{check_bits}
use Rattle.tag_policy.proofs.policy.Policy.check.Goals as goal

pub returns-clause-value : goal.returns-clause-value
returns-clause-value c = λ check e. rw e (bits_are _ _ (check_bits c.args.self.now check c.args.tag c.requires.tag))
