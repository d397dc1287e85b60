-- The bytes that a read of a write call adds, and how many they are.
use Rattle.std.proofs.Common.{◌≡◌, ℕ, ◌+◌, ◌-◌, ◌*◌, ◌%◌, ◌≤◌, min, List, [], ◌++◌, length, Bool, true, false, ◌&&◌, if◌then◌else◌, nat_lt, nat_le, refl, sym, ◌∙◌, ap, subst, arith, append_assoc}
use Rattle.std.proofs.lemmas.Bool.Decides.{nat_tests}
use Rattle.syscall_drain.specs.Buffers.{covers, byte_if, gather}

byte_if_append : (covered : Bool) (j word : ℕ) (rest : List ℕ) → byte_if covered j word [] ++ rest ≡ byte_if covered j word rest
byte_if_append true j word rest = refl
byte_if_append false j word rest = refl

regroup : (o a b c d : List ℕ) → (((o ++ a) ++ b) ++ c) ++ d ≡ o ++ (a ++ (b ++ (c ++ d)))
regroup o a b c d = simp append_assoc

four_appended : (a b c d : Bool) (word : ℕ) (old : List ℕ) → (((old ++ byte_if a 0 word []) ++ byte_if b 1 word []) ++ byte_if c 2 word []) ++ byte_if d 3 word [] ≡ old ++ byte_if a 0 word (byte_if b 1 word (byte_if c 2 word (byte_if d 3 word [])))
four_appended a b c d word old =
    regroup old (byte_if a 0 word []) (byte_if b 1 word []) (byte_if c 2 word []) (byte_if d 3 word [])
    ∙ ap (λ (t : List ℕ). old ++ t)
    (byte_if_append a 0 word (byte_if b 1 word [] ++ (byte_if c 2 word [] ++ byte_if d 3 word []))
    ∙ ap (λ (t : List ℕ). byte_if a 0 word t)
    (byte_if_append b 1 word (byte_if c 2 word [] ++ byte_if d 3 word [])
    ∙ ap (λ (t : List ℕ). byte_if b 1 word t) (byte_if_append c 2 word (byte_if d 3 word []))))

pub gather_appended : (start count index word : ℕ) (old : List ℕ) → (((old ++ byte_if (covers start count index 0) 0 word []) ++ byte_if (covers start count index 1) 1 word []) ++ byte_if (covers start count index 2) 2 word []) ++ byte_if (covers start count index 3) 3 word [] ≡ old ++ gather start count index word
gather_appended start count index word old = four_appended (covers start count index 0) (covers start count index 1) (covers start count index 2) (covers start count index 3) word old

length_byte_if : (covered : Bool) (j word : ℕ) (rest : List ℕ) → length (byte_if covered j word rest) ≡ (if covered then 1 else 0) + length rest
length_byte_if true j word rest = omega arith
length_byte_if false j word rest = omega arith

pub one_more : (low high place : ℕ) → (if (nat_le low place && nat_lt place high) then 1 else 0) + (min place high - low) ≡ min (place + 1) high - low
one_more low high place = grind (arith, nat_tests)

at_most_one : (b : Bool) → (if b then 1 else 0) ≤ 1
at_most_one true = omega arith
at_most_one false = omega arith

abbrev flag : Bool → ℕ
flag b = if b then 1 else 0

length_four : (a b c d : Bool) (word : ℕ) → length (byte_if a 0 word (byte_if b 1 word (byte_if c 2 word (byte_if d 3 word [])))) ≡ flag a + (flag b + (flag c + (flag d + 0)))
length_four a b c d word =
    length_byte_if a 0 word (byte_if b 1 word (byte_if c 2 word (byte_if d 3 word [])))
    ∙ ap (λ (n : ℕ). flag a + n)
    (length_byte_if b 1 word (byte_if c 2 word (byte_if d 3 word []))
    ∙ ap (λ (n : ℕ). flag b + n)
    (length_byte_if c 2 word (byte_if d 3 word []) ∙ ap (λ (n : ℕ). flag c + n) (length_byte_if d 3 word [])))

one_more_at : (low high place from next : ℕ) → place ≡ from → next ≡ place + 1 → flag (nat_le low place && nat_lt place high) + (min from high - low) ≡ min next high - low
one_more_at low high place from next here there =
    let P : ℕ → ℕ → Type 0 = λ f n. flag (nat_le low place && nat_lt place high) + (min f high - low) ≡ min n high - low in
    subst (λ (f : ℕ). P f next) here (subst (λ (n : ℕ). P place n) (sym there) (one_more low high place))

sum_of : (a b c d x0 x1 x2 x3 x4 : ℕ) → a + x0 ≡ x1 → b + x1 ≡ x2 → c + x2 ≡ x3 → d + x3 ≡ x4 → (a + (b + (c + (d + 0)))) + x0 ≡ x4
sum_of a b c d x0 x1 x2 x3 x4 p q r s = omega arith

-- how many bytes a word has of the buffer
pub length_gather : (start count index word : ℕ) → length (gather start count index word) + (min (4 * index) (start % 4 + count) - start % 4) ≡ min (4 * index + 4) (start % 4 + count) - start % 4
length_gather start count index word =
    let a = one_more_at (start % 4) (start % 4 + count) (4 * index + 0) (4 * index) (4 * index + 1) (omega arith) (omega arith) in
    let b = one_more_at (start % 4) (start % 4 + count) (4 * index + 1) (4 * index + 1) (4 * index + 2) refl (omega arith) in
    let c = one_more_at (start % 4) (start % 4 + count) (4 * index + 2) (4 * index + 2) (4 * index + 3) refl (omega arith) in
    let d = one_more_at (start % 4) (start % 4 + count) (4 * index + 3) (4 * index + 3) (4 * index + 4) refl (omega arith) in
    let P : ℕ → Type 0 = λ n. n + (min (4 * index) (start % 4 + count) - start % 4) ≡ min (4 * index + 4) (start % 4 + count) - start % 4 in
    subst P (sym (length_four (covers start count index 0) (covers start count index 1) (covers start count index 2) (covers start count index 3) word))
    (sum_of (flag (covers start count index 0)) (flag (covers start count index 1)) (flag (covers start count index 2)) (flag (covers start count index 3)) _ _ _ _ _ a b c d)

pub length_gather_le : (start count index word : ℕ) → length (gather start count index word) ≤ 4
length_gather_le start count index word =
    let a = at_most_one (covers start count index 0) in
    let b = at_most_one (covers start count index 1) in
    let c = at_most_one (covers start count index 2) in
    let d = at_most_one (covers start count index 3) in
    simp length_byte_if (omega (arith, a, b, c, d))
