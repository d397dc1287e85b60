-- Lists that begin with others.
use Rattle.std.proofs.Common.{◌≡◌, List, [], ◌∷◌, ◌++◌, length, sym, refl, ap, ◌∙◌, append_assoc, append-nil, arith}
use Rattle.record_lane.specs.Histories.{IsPrefix}

module _ {T : Type 0} where
  pub prefix_more : (short long more : List T) → IsPrefix short long → IsPrefix short (long ++ more)
  prefix_more short long more p = (p.0 ++ more, ap (λ l. l ++ more) p.1 ∙ append_assoc short p.0 more)

  pub prefix_self : (l : List T) → IsPrefix l l
  prefix_self l = ([], sym (append-nil l))

  pub nothing_when : (l : List T) → length l ≡ 0 → l ≡ []
  nothing_when [] e = refl
  nothing_when (x ∷ xs) e = absurd (omega arith)
