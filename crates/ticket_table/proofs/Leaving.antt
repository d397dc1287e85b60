-- The words that a history leaves, after one change more.
use Rattle.std.proofs.Common.{◌≡◌, ℕ, ◌+◌, ◌/◌, ◌<◌, List, [], ◌∷◌, ◌++◌, length, get_or, set, sym, ap, ◌∙◌, inl, inr, length-set, get_or-set_same, get_or-set_other, arith}
use Rattle.std.proofs.lemmas.Bool.{cases_eq}
use Rattle.ticket_table.specs.declared.change.Change.{Change}
use Rattle.ticket_table.specs.Words.{number_of, payload_of, packed}
use Rattle.ticket_table.specs.History.{Basis, MayFollow, Leaves, count_at, left_at}
use Rattle.ticket_table.proofs.Histories.{count_at_same, count_at_other, left_at_same, left_at_other}

pub number_of_word_of : (number payload : ℕ) → payload < 4294967296 → number_of (packed number payload) ≡ number
number_of_word_of number payload small = let q = packed number payload / 4294967296 in omega arith

pub payload_of_word_of : (number payload : ℕ) → payload < 4294967296 → payload_of (packed number payload) ≡ payload
payload_of_word_of number payload small = let q = packed number payload / 4294967296 in omega arith

-- the word of the change is grown by it, and the others stay
pub leaves_more : (basis : Basis) (h : List Change) (words : List ℕ) (e : Change) → Leaves basis h words → MayFollow basis h e → e.new < 4294967296
    → Leaves basis (h ++ e ∷ []) (set words e.word (packed (e.number + 1) e.new))
leaves_more basis h words e leaves next small = record {
  count = length-set words e.word (packed (e.number + 1) e.new) ∙ leaves.count;
  numbers = numbers;
  payloads = payloads;
}
  where
    here : (i : ℕ) → e.word ≡ i → i < length (set words e.word (packed (e.number + 1) e.new)) → get_or (set words e.word (packed (e.number + 1) e.new)) i 0 ≡ packed (e.number + 1) e.new
    here i same within = grind (arith, length-set {A = ℕ}, get_or-set_same {A = ℕ})

    numbers : (i : ℕ) → i < length (set words e.word (packed (e.number + 1) e.new)) → number_of (get_or (set words e.word (packed (e.number + 1) e.new)) i 0) ≡ count_at i (h ++ e ∷ [])
    numbers i within =
        elim (cases_eq e.word i) [
          | inl same ↦
              ap number_of (here i same within) ∙ number_of_word_of (e.number + 1) e.new small
              ∙ ap (λ (n : ℕ). n + 1) (next.number ∙ ap (λ (w : ℕ). count_at w h) same) ∙ sym (count_at_same i h e same)
          | inr other ↦
              ap number_of (get_or-set_other words e.word i (packed (e.number + 1) e.new) 0 (λ back. other (sym back)))
              ∙ leaves.numbers i (omega (arith, within, length-set words e.word (packed (e.number + 1) e.new))) ∙ sym (count_at_other i h e other)
        ]

    payloads : (i : ℕ) → i < length (set words e.word (packed (e.number + 1) e.new))
        → payload_of (get_or (set words e.word (packed (e.number + 1) e.new)) i 0) ≡ left_at (get_or basis.first i 0) i (h ++ e ∷ [])
    payloads i within =
        elim (cases_eq e.word i) [
          | inl same ↦
              ap payload_of (here i same within) ∙ payload_of_word_of (e.number + 1) e.new small
              ∙ sym (left_at_same (get_or basis.first i 0) i h e same)
          | inr other ↦
              ap payload_of (get_or-set_other words e.word i (packed (e.number + 1) e.new) 0 (λ back. other (sym back)))
              ∙ leaves.payloads i (omega (arith, within, length-set words e.word (packed (e.number + 1) e.new)))
              ∙ sym (left_at_other (get_or basis.first i 0) i h e other)
        ]
