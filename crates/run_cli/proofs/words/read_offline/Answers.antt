use Rattle.std.proofs.Common.{◌∷◌, ℕ, List, sym, ap, ◌∙◌, map, string_bytes}
use Rattle.std.proofs.lemmas.Result.{err_from_is_err_and}
use Rattle.run_cli.proofs.ReadsOnce.{no_replay_words, no_map_words, says_nothing}
use Rattle.run_cli.proofs.words.read_offline.Goals as goal

pub returns-in_err-replay_options-in-replay-clause-refused : goal.returns-in_err-replay_options-in-replay-clause-refused
returns-in_err-replay_options-in-replay-clause-refused c =
    let p = err_from_is_err_and c.from_residual.result c.from_residual.ensures.1 in
    let words = ap (λ words. map string_bytes words) c.in-Some.ensures.cases.0 in
    rw (p.1, p.2) (says_nothing _ _ _ (no_replay_words _ _ (words ∙ ap (λ (first : List ℕ). first ∷ map string_bytes c.in-Some.rest.now) (sym c.as_str.ensures.value ∙ c.in-replay.is))) c.in_err-replay_options-in-replay.ensures.refused)

pub returns-in_err-map_options-in-inspect-clause-refused : goal.returns-in_err-map_options-in-inspect-clause-refused
returns-in_err-map_options-in-inspect-clause-refused c =
    let p = err_from_is_err_and c.from_residual-in_err-map_options-in-inspect.result c.from_residual-in_err-map_options-in-inspect.ensures.1 in
    let words = ap (λ words. map string_bytes words) c.in-Some.ensures.cases.0 in
    rw (p.1, p.2) (says_nothing _ _ _ (no_map_words _ _ (words ∙ ap (λ (first : List ℕ). first ∷ map string_bytes c.in-Some.rest.now) (sym c.as_str.ensures.value ∙ c.in-inspect.is))) c.in_err-map_options-in-inspect.ensures.refused)
