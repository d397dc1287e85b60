-- What the instructions of a hart leave in its registers and in a word stays below 2^32, where all before is.
use Rattle.std.proofs.Common.{◌≡◌, ℕ, zero, suc, ◌+◌, ◌-◌, ◌*◌, ◌/◌, ◌%◌, ◌^◌, ◌<◌, ◌≤◌, Bool, true, false, ℤ, pos, negsuc, neg_ℤ, ◌*ℤ◌, refl, arith, if◌then◌else◌}
use Rattle.std.specs.Prelude.{◌==◌, ◌&&◌, nat_lt, nat_le, unsigned_abs, int_div, int_rem, bit_and}
use Rattle.std.specs.Int.{int_shr}
use Rattle.std.proofs.Math.Nat.{div-le_self, mod-le}
use Rattle.std.proofs.lemmas.Nat.{or_of_32, xor_of_32, and_le_l, and_le_r, mul-le}
use Rattle.std.proofs.lemmas.Int.{unsigned_abs-mul}
use Rattle.std.proofs.lemmas.Bool.Decides.{nat_tests}
use Rattle.rv_decode.specs.declared.insn.AmoKind.{AmoKind}
use Rattle.rv_decode.specs.declared.insn.AmoKind.TheVariants.{Add as AmoAdd, Swap, Xor as AmoXor, Or as AmoOr, And as AmoAnd, Min, Max, Minu, Maxu}
use Rattle.rv_decode.specs.declared.insn.LoadKind.{LoadKind}
use Rattle.rv_decode.specs.declared.insn.LoadKind.TheVariants.{Lb, Lh, Lw, Lbu, Lhu}
use Rattle.rv_decode.specs.declared.insn.RegKind.{RegKind}
use Rattle.rv_decode.specs.declared.insn.RegKind.TheVariants.{Add, Sll, Slt, Sltu, Xor, Srl, Or, And, Sub, Sra, Mul, Mulh, Mulhsu, Mulhu, Div, Divu, Rem, Remu}
use Rattle.rv_decode.specs.Fields.{sign_extended}
use Rattle.rv_execute.specs.declared.op.Op.{Op}
use Rattle.rv_execute.specs.declared.op.Op.TheVariants.{Read, Write, Amo, Sc, TakeInput, Place, Break}
use Rattle.rv_execute.specs.Words.{wrapped, signed, pattern, flag, signed_lt, upper_half}
use Rattle.rv_execute.specs.Results.{result_of, shift_of}
use Rattle.rv_execute.specs.Payloads.{masked, combined, changed, loaded}

abbrev pub IsWord : ℕ → Type 0
IsWord n = n < 2 ^ 32

pub either : (b : Bool) (x y : ℕ) → IsWord x → IsWord y → IsWord (if b then x else y)
either true x y small other = small
either false x y small other = other

-- ---- whole numbers as words

pub wrapped_word : (n : ℕ) → IsWord (wrapped n)
wrapped_word n = omega arith

pub pattern_word : (z : ℤ) → unsigned_abs z < 2 ^ 32 → IsWord (pattern z)
pattern_word (pos n) h = h
pattern_word (negsuc n) h = omega arith

abs_neg : (n : ℕ) → unsigned_abs (neg_ℤ (pos n)) ≡ n
abs_neg zero = refl
abs_neg (suc n) = refl

abs_by : (x : ℕ) (b : Bool) → nat_lt x (2 ^ 31) ≡ b → x < 2 ^ 32 → unsigned_abs (signed x) ≤ 2 ^ 31
abs_by x true e h = rw e (grind (arith, nat_tests))
abs_by x false e h = rw e (let low : 2 ^ 31 ≤ x = grind (arith, nat_tests) in omega arith)

abs_signed : (x : ℕ) → x < 2 ^ 32 → unsigned_abs (signed x) ≤ 2 ^ 31
abs_signed x h = abs_by x (nat_lt x (2 ^ 31)) refl h

abs_shifted : (z : ℤ) (k : ℕ) → unsigned_abs (int_shr z k) ≤ unsigned_abs z
abs_shifted (pos n) k = div-le_self n (2 ^ k)
abs_shifted (negsuc n) k = let less : n / 2 ^ k ≤ n = div-le_self n (2 ^ k) in omega arith

abs_upper : (z : ℤ) → unsigned_abs z ≤ 2 ^ 63 → unsigned_abs (int_shr z 32) < 2 ^ 32
abs_upper (pos n) h = omega arith
abs_upper (negsuc n) h = omega arith

abs_quotient : (a b : ℤ) → unsigned_abs (int_div a b) ≤ unsigned_abs a
abs_quotient (pos a) (pos b) = div-le_self a b
abs_quotient (pos a) (negsuc b) = rw (abs_neg (a / suc b)) (div-le_self a (suc b))
abs_quotient (negsuc a) (pos b) = rw (abs_neg (suc a / b)) (div-le_self (suc a) b)
abs_quotient (negsuc a) (negsuc b) = div-le_self (suc a) (suc b)

abs_remainder : (a b : ℤ) → unsigned_abs (int_rem a b) ≤ unsigned_abs a
abs_remainder (pos a) b = mod-le a (unsigned_abs b)
abs_remainder (negsuc a) b = rw (abs_neg (suc a % unsigned_abs b)) (mod-le (suc a) (unsigned_abs b))

-- ---- results

product_upper : (a b : ℤ) → unsigned_abs a ≤ 2 ^ 31 → unsigned_abs b ≤ 2 ^ 32 → IsWord (upper_half (a *ℤ b))
product_upper a b h k =
    let most : unsigned_abs a * unsigned_abs b ≤ 2 ^ 31 * 2 ^ 32 = mul-le (unsigned_abs a) (unsigned_abs b) (2 ^ 31) (2 ^ 32) h k in
    pattern_word (int_shr (a *ℤ b) 32) (abs_upper (a *ℤ b) (rw (unsigned_abs-mul a b) (omega (arith, most))))

flag_word : (b : Bool) → IsWord (flag b)
flag_word true = omega arith
flag_word false = omega arith

pub result_word : (kind : RegKind) (a b : ℕ) → IsWord a → IsWord b → IsWord (result_of kind a b)
result_word Add a b h k = wrapped_word (a + b)
result_word Sll a b h k = wrapped_word (a * 2 ^ shift_of b)
result_word Slt a b h k = flag_word (signed_lt a b)
result_word Sltu a b h k = flag_word (nat_lt a b)
result_word Xor a b h k = xor_of_32 a b h k
result_word Srl a b h k = let less : a / 2 ^ shift_of b ≤ a = div-le_self a (2 ^ shift_of b) in omega arith
result_word Or a b h k = or_of_32 a b h k
result_word And a b h k = let less : bit_and a b ≤ a = and_le_l a b in omega arith
result_word Sub a b h k = wrapped_word (a + (4294967296 - b))
result_word Sra a b h k =
    let less : unsigned_abs (int_shr (signed a) (shift_of b)) ≤ unsigned_abs (signed a) = abs_shifted (signed a) (shift_of b) in
    pattern_word (int_shr (signed a) (shift_of b)) (omega (arith, abs_signed a h, less))
result_word Mul a b h k = wrapped_word (a * b)
result_word Mulh a b h k = product_upper (signed a) (signed b) (abs_signed a h) (omega (arith, abs_signed b k))
result_word Mulhsu a b h k = product_upper (signed a) (pos b) (abs_signed a h) (omega arith)
result_word Mulhu a b h k =
    let most : a * b ≤ 4294967295 * 4294967295 = mul-le a b 4294967295 4294967295 (omega arith) (omega arith) in
    omega arith
result_word Div a b h k =
    either (b == 0) 4294967295 _ (omega arith)
    (pattern_word (int_div (signed a) (signed b)) (omega (arith, abs_quotient (signed a) (signed b), abs_signed a h)))
result_word Divu a b h k = either (b == 0) 4294967295 (a / b) (omega arith) (let less : a / b ≤ a = div-le_self a b in omega arith)
result_word Rem a b h k =
    either (b == 0) a _ h
    (pattern_word (int_rem (signed a) (signed b)) (omega (arith, abs_remainder (signed a) (signed b), abs_signed a h)))
result_word Remu a b h k = either (b == 0) a (a % b) h (let less : a % b ≤ a = mod-le a b in omega arith)

-- ---- words of memory

-- the sign extension of a number of some bits
extended_by : (n half : ℕ) (b : Bool) → n < 2 ^ 32 → IsWord (pattern (if b then pos n else negsuc (2 * half - 1 - n)))
extended_by n half true h = h
extended_by n half false h = omega arith

extended_word : (n half : ℕ) → n < 2 ^ 32 → IsWord (pattern (sign_extended half n))
extended_word n half h = extended_by n half (nat_lt n half) h

pub loaded_word : (kind : LoadKind) (offset found : ℕ) → IsWord found → IsWord (loaded kind offset found)
loaded_word Lb offset found h = extended_word (found / 256 ^ offset % 256) (2 ^ 7) (omega arith)
loaded_word Lh offset found h = extended_word (found / 256 ^ offset % 65536) (2 ^ 15) (omega arith)
loaded_word Lw offset found h = h
loaded_word Lbu offset found h = omega arith
loaded_word Lhu offset found h = omega arith

pub masked_word : (mask value old : ℕ) → IsWord mask → IsWord old → IsWord (masked mask value old)
masked_word mask value old h k =
    let outside : bit_and old (4294967295 - mask) ≤ old = and_le_l old (4294967295 - mask) in
    let inside : bit_and value mask ≤ mask = and_le_r value mask in
    or_of_32 (bit_and old (4294967295 - mask)) (bit_and value mask) (omega arith) (omega arith)

combined_word : (kind : AmoKind) (old value : ℕ) → IsWord old → IsWord value → IsWord (combined kind old value)
combined_word AmoAdd old value h k = wrapped_word (old + value)
combined_word Swap old value h k = k
combined_word AmoXor old value h k = xor_of_32 old value h k
combined_word AmoOr old value h k = or_of_32 old value h k
combined_word AmoAnd old value h k = let less : bit_and old value ≤ old = and_le_l old value in omega arith
combined_word Min old value h k = either (signed_lt value old) value old k h
combined_word Max old value h k = either (signed_lt old value) value old k h
combined_word Minu old value h k = either (nat_lt value old) value old k h
combined_word Maxu old value h k = either (nat_lt old value) value old k h

-- the numbers of an operation that it may leave in its word
abbrev pub IsOfWords : Op → Type 0
IsOfWords Read = Unit {0}
IsOfWords (Write mask value) = IsWord mask
IsOfWords (Amo kind value) = IsWord value
IsOfWords (Sc asked value) = IsWord value
IsOfWords (TakeInput want total) = IsWord total
IsOfWords (Place len) = Unit {0}
IsOfWords (Break want low high) = IsWord want

pub changed_word : (op : Op) (number payload : ℕ) → IsOfWords op → IsWord payload → IsWord (changed op number payload)
changed_word Read number payload h k = k
changed_word (Write mask value) number payload h k = masked_word mask value payload h k
changed_word (Amo kind value) number payload h k = combined_word kind payload value k h
changed_word (Sc asked value) number payload h k = either (number == asked) value payload h k
changed_word (TakeInput want total) number payload h k = omega arith
changed_word (Place len) number payload h k = wrapped_word (payload + len)
changed_word (Break want low high) number payload h k = either (nat_le low want && nat_le want high) want payload h k
