-- What an access makes of the word that it finds, and what a load takes of it
-- (RISC-V Unprivileged ISA, "Load and Store Instructions", and "A Extension for Atomic Instructions"; the claims are this project's own).
use Rattle.std.specs.Prelude.{ℕ, ◌+◌, ◌-◌, ◌*◌, ◌/◌, ◌%◌, ◌^◌, min, ◌&&◌, if◌then◌else◌, ◌==◌, nat_lt, nat_le, bit_and, bit_or, bit_xor}
use Rattle.rv_decode.specs.declared.insn.AmoKind.{AmoKind}
use Rattle.rv_decode.specs.declared.insn.AmoKind.TheVariants.{Add, Swap, Xor, Or, And, Min, Max, Minu, Maxu}
use Rattle.rv_decode.specs.declared.insn.LoadKind.{LoadKind}
use Rattle.rv_decode.specs.declared.insn.LoadKind.TheVariants.{Lb, Lh, Lw, Lbu, Lhu}
use Rattle.rv_decode.specs.declared.insn.StoreKind.{StoreKind}
use Rattle.rv_decode.specs.declared.insn.StoreKind.TheVariants.{Sb, Sh, Sw}
use Rattle.rv_execute.specs.declared.op.Op.{Op}
use Rattle.rv_execute.specs.declared.op.Op.TheVariants.{Read, Write, Sc, TakeInput, Place, Break}
use Rattle.rv_execute.specs.declared.op.Op.TheVariants.{Amo as ByAmo}
use Rattle.rv_decode.specs.Fields.{sign_extended}
use Rattle.rv_execute.specs.Words.{wrapped, pattern, plus, signed_lt}

-- the bits of the old word outside the mask, and those of the value inside
abbrev pub masked : ℕ → ℕ → ℕ → ℕ
masked mask value old = bit_or (bit_and old (4294967295 - mask)) (bit_and value mask)

-- what an atomic memory operation stores, of the old word and its register operand
abbrev pub combined : AmoKind → ℕ → ℕ → ℕ
combined Add old value = plus old value
combined Swap old value = value
combined Xor old value = bit_xor old value
combined Or old value = bit_or old value
combined And old value = bit_and old value
combined Min old value = if signed_lt value old then value else old
combined Max old value = if signed_lt old value then value else old
combined Minu old value = if nat_lt value old then value else old
combined Maxu old value = if nat_lt old value then value else old

-- the word after the access with this number that finds this payload
abbrev pub changed : Op → ℕ → ℕ → ℕ
changed Read number payload = payload
changed (Write mask value) number payload = masked mask value payload
changed (ByAmo kind value) number payload = combined kind payload value
changed (Sc asked value) number payload = if number == asked then value else payload
changed (TakeInput want total) number payload = payload + min want (total - payload)
changed (Place len) number payload = wrapped (payload + len)
changed (Break want low high) number payload = if nat_le low want && nat_le want high then want else payload

-- what a load at an offset in its word gives, of the word found
abbrev pub loaded : LoadKind → ℕ → ℕ → ℕ
loaded Lb offset found = pattern (sign_extended (2 ^ 7) (found / 256 ^ offset % 256))
loaded Lh offset found = pattern (sign_extended (2 ^ 15) (found / 256 ^ offset % 65536))
loaded Lw offset found = found
loaded Lbu offset found = found / 256 ^ offset % 256
loaded Lhu offset found = found / 256 ^ offset % 65536

-- what a store at an offset in its word writes, of its register operand
abbrev pub stored : StoreKind → ℕ → ℕ → Op
stored Sb offset value = Write (255 * 256 ^ offset) (value % 256 * 256 ^ offset)
stored Sh offset value = Write (65535 * 256 ^ offset) (value % 65536 * 256 ^ offset)
stored Sw offset value = Write 4294967295 value

-- how many bytes they have
abbrev pub load_size : LoadKind → ℕ
load_size Lb = 1
load_size Lh = 2
load_size Lw = 4
load_size Lbu = 1
load_size Lhu = 2

abbrev pub store_size : StoreKind → ℕ
store_size Sb = 1
store_size Sh = 2
store_size Sw = 4
