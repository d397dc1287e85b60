use Rattle.std.proofs.Common.{◌∷◌, ◌++◌, [], List, refl, ◌∙◌}
use Rattle.std.proofs.lemmas.Result.{err_from_is_err_and}
use Rattle.trap_report.specs.Reading.{LineKind, Numbered}
use Rattle.trap_report.specs.declared.report_line.HeaderLine.TheVariants.{Budget, Limit, Stack, Heap}
use Rattle.trap_report.proofs.ReadLemmas.{exit_goes, goes_wrong}
use Rattle.trap_report.proofs.header.read_header.Goals as goal

abbrev after_cores : List LineKind
after_cores = Numbered Budget ∷ Numbered Limit ∷ Numbered Stack ∷ Numbered Heap ∷ []

abbrev after_budget : List LineKind
after_budget = Numbered Limit ∷ Numbered Stack ∷ Numbered Heap ∷ []

abbrev after_limit : List LineKind
after_limit = Numbered Stack ∷ Numbered Heap ∷ []

pub returns-in_err-cores-clause-goes : goal.returns-in_err-cores-clause-goes
returns-in_err-cores-clause-goes c = λ told kinds.
    let p = err_from_is_err_and c.from_residual.result c.from_residual.ensures.1 in
    exit_goes _ _ c.from_residual.result p.0 _ p.1 p.2 (goes_wrong _ _ _ _ _ refl (c.in_err-cores.ensures.takes told (after_cores ++ kinds)))

pub returns-in_err-budget-clause-goes : goal.returns-in_err-budget-clause-goes
returns-in_err-budget-clause-goes c = λ told kinds.
    let p = err_from_is_err_and c.from_residual-in_err-budget.result c.from_residual-in_err-budget.ensures.1 in
    let cores = (c.in_ok-cores.ensures.takes told (after_cores ++ kinds)).leads in
    exit_goes _ _ c.from_residual-in_err-budget.result p.0 _ p.1 p.2 (goes_wrong _ _ _ _ _ cores (c.in_err-budget.ensures.takes _ (after_budget ++ kinds)))

pub returns-in_err-limit-clause-goes : goal.returns-in_err-limit-clause-goes
returns-in_err-limit-clause-goes c = λ told kinds.
    let p = err_from_is_err_and c.from_residual-in_err-limit.result c.from_residual-in_err-limit.ensures.1 in
    let cores = (c.in_ok-cores.ensures.takes told (after_cores ++ kinds)).leads in
    let budget = (c.in_ok-budget.ensures.takes _ (after_budget ++ kinds)).leads in
    exit_goes _ _ c.from_residual-in_err-limit.result p.0 _ p.1 p.2 (goes_wrong _ _ _ _ _ (cores ∙ budget) (c.in_err-limit.ensures.takes _ (after_limit ++ kinds)))

pub returns-in_err-stack-clause-goes : goal.returns-in_err-stack-clause-goes
returns-in_err-stack-clause-goes c = λ told kinds.
    let p = err_from_is_err_and c.from_residual-in_err-stack.result c.from_residual-in_err-stack.ensures.1 in
    let cores = (c.in_ok-cores.ensures.takes told (after_cores ++ kinds)).leads in
    let budget = (c.in_ok-budget.ensures.takes _ (after_budget ++ kinds)).leads in
    let limit = (c.in_ok-limit.ensures.takes _ (after_limit ++ kinds)).leads in
    exit_goes _ _ c.from_residual-in_err-stack.result p.0 _ p.1 p.2 (goes_wrong _ _ _ _ _ (cores ∙ budget ∙ limit) (c.in_err-stack.ensures.takes _ (Numbered Heap ∷ kinds)))

pub returns-in_err-heap-clause-goes : goal.returns-in_err-heap-clause-goes
returns-in_err-heap-clause-goes c = λ told kinds.
    let p = err_from_is_err_and c.from_residual-in_err-heap.result c.from_residual-in_err-heap.ensures.1 in
    let cores = (c.in_ok-cores.ensures.takes told (after_cores ++ kinds)).leads in
    let budget = (c.in_ok-budget.ensures.takes _ (after_budget ++ kinds)).leads in
    let limit = (c.in_ok-limit.ensures.takes _ (after_limit ++ kinds)).leads in
    let stack = (c.in_ok-stack.ensures.takes _ (Numbered Heap ∷ kinds)).leads in
    exit_goes _ _ c.from_residual-in_err-heap.result p.0 _ p.1 p.2 (goes_wrong _ _ _ _ _ (cores ∙ budget ∙ limit ∙ stack) (c.in_err-heap.ensures.takes _ kinds))
