-- A refusal while files are read, seen from before the first of them: what was read before left the files as they were.
use Rattle.std.proofs.Common.{◌≡◌, ap, subst, ◌∙◌}
use Rattle.elf_image.specs.Layout.{Layout}
use Rattle.tag_policy.specs.Rules.{PolicySeen}
use Rattle.run_cli.specs.Seen.{FilesSeen}
use Rattle.run_cli.specs.Asked.{Asked, SetupAsked}
use Rattle.run_cli.specs.Work.{IsPolicy, HasImage, HasPolicy}
use Rattle.run_cli.specs.Causes.{IsCalm, Caused}
use Rattle.run_cli.specs.declared.ending.Ending.{Ending}

pub refused_policy : (asked : Asked) (old read new : FilesSeen) (o : SetupAsked) (image : Layout) (ending : Ending) → read ≡ old → HasImage old asked o image
    → (HasImage read asked o image → Caused asked read new ending) → Caused asked old new ending
refused_policy asked old read new o image ending same has refused = subst (λ (files : FilesSeen). HasImage files asked o image → Caused asked files new ending) same refused has

pub refused_input : (asked : Asked) (old first read new : FilesSeen) (o : SetupAsked) (image : Layout) (policy : PolicySeen) (ending : Ending) → first ≡ old → read ≡ first
    → HasImage old asked o image → IsPolicy first o.policy policy
    → (HasPolicy read asked o image policy → Caused asked read new ending) → Caused asked old new ending
refused_input asked old first read new o image policy ending same then has says refused =
    subst (λ (files : FilesSeen). HasPolicy files asked o image policy → Caused asked files new ending) (then ∙ same) refused
    (record { before = has; policy_is = subst (λ (files : FilesSeen). IsPolicy files o.policy policy) same says })

-- files that show the same have the same counts
pub calm_of : (old new : FilesSeen) → new ≡ old → IsCalm old new
calm_of old new same = λ name. ap (λ (files : FilesSeen). files.faults name) same
