-- Operations on words leave words, and instructions leave words in registers and bytes in memory.
use Rattle.std.proofs.Common.{ℕ, zero, suc, ◌-◌, ◌%◌, ◌^◌, ◌<◌, ◌≤◌, ℤ, pos, negsuc, neg_ℤ, w32, w64, FitsSigned, arith, rules, div-le_self}
use Rattle.std.specs.Prelude.{int_div, int_rem, unsigned_abs, ◌≤ℤ◌, ◌<ℤ◌}
use Rattle.std.specs.Int.{cast_unsigned, cast_signed, int_shr}
use Rattle.std.specs.Int.Signed.{mag_rem, mag_shr}
use Rattle.std.proofs.lemmas.Bool.Decides.{nat_tests}
use Rattle.std.proofs.lemmas.Nat.{xor_lt, or_lt, and_le_l, shr_le}
use Rattle.std.proofs.lemmas.Int.{fits_signed_mul, ints}
use Rattle.rv32im.specs.Words.{plus, offset}
use Rattle.rv32im.proofs.Bytes.{put_below}
use Rattle.rv32im.specs.Memory.{Memory, put_byte}
use Rattle.rv32im.specs.Acts.{imm_value, reg_value, upper_word, loaded, stored, Registers, register, with_register, Hart, HoldsWords, at_next, after_write, after_jump, ActsKeepsWords}
use Rattle.rv32im.specs.Table.{IsWithin, IsImmInRange}
use Rattle.rv32im.specs.declared.instructions.Instr.TheVariants.{Lui, Auipc, Jal, Jalr, Branch, Load, Store, OpImm, OpReg, Fence, FenceI, Ecall, Ebreak}
use Rattle.rv32im.specs.declared.instructions.LoadKind.{LoadKind}
use Rattle.rv32im.specs.declared.instructions.LoadKind.TheVariants.{Lb, Lh, Lw, Lbu, Lhu}
use Rattle.rv32im.specs.declared.instructions.StoreKind.{StoreKind}
use Rattle.rv32im.specs.declared.instructions.StoreKind.TheVariants.{Sb, Sh, Sw}
use Rattle.rv32im.specs.declared.instructions.ImmKind.{ImmKind}
use Rattle.rv32im.specs.declared.instructions.ImmKind.TheVariants.{Addi, Slti, Sltiu, Xori, Ori, Andi, Slli, Srli, Srai}
use Rattle.rv32im.specs.declared.instructions.RegKind.{RegKind}
use Rattle.rv32im.specs.declared.instructions.RegKind.TheVariants.{Add, Sub, Sll, Slt, Sltu, Xor, Srl, Sra, Or, And, Mul, Mulh, Mulhsu, Mulhu, Div, Divu, Rem, Remu}

-- ---- signed numbers as words

pub fitting : (z : ℤ) → FitsSigned w32 z → cast_unsigned w32 z < 4294967296
fitting (pos n) fits = omega arith
fitting (negsuc n) fits = omega arith

shifted : (a k : ℕ) → a < 4294967296 → cast_unsigned w32 (int_shr (cast_signed w32 a) k) < 4294967296
shifted a k word =
    let fits : FitsSigned w32 (cast_signed w32 a) = search rules in
    let less = mag_shr (cast_signed w32 a) (2 ^ k) in
    let still : FitsSigned w32 (int_shr (cast_signed w32 a) k) = record { sfits = omega arith } in
    fitting (int_shr (cast_signed w32 a) k) still

-- the magnitude of a signed word
small : (a : ℕ) → a < 4294967296 → unsigned_abs (cast_signed w32 a) ≤ 2 ^ 31
small a word = grind (arith, nat_tests)

upper : (z : ℤ) → FitsSigned w64 z → upper_word z < 4294967296
upper (pos n) fits = omega arith
upper (negsuc n) fits = omega arith

negated : (n : ℕ) → cast_unsigned w32 (neg_ℤ (pos n)) < 4294967296
negated zero = omega arith
negated (suc n) = omega arith

divided : (x y : ℤ) → FitsSigned w32 x → cast_unsigned w32 (int_div x y) < 4294967296
divided (pos a) (pos b) fits = omega (arith, div-le_self a b)
divided (pos a) (negsuc b) fits = negated _
divided (negsuc a) (pos b) fits = negated _
divided (negsuc a) (negsuc b) fits = omega (arith, div-le_self (suc a) (suc b))

left : (x y : ℤ) → FitsSigned w32 x → cast_unsigned w32 (int_rem x y) < 4294967296
left x y fits =
    let less = mag_rem x y in
    let still : FitsSigned w32 (int_rem x y) = record { sfits = omega arith } in
    fitting (int_rem x y) still

-- ---- operations

imm_word : (kind : ImmKind) (a : ℕ) (imm : ℤ) → a < 4294967296 → FitsSigned w32 imm → imm_value kind a imm < 4294967296
imm_word Addi a imm word fits = omega arith
imm_word Slti a imm word fits = grind (arith, nat_tests)
imm_word Sltiu a imm word fits = grind (arith, nat_tests)
imm_word Xori a imm word fits = xor_lt 32 a _ word (fitting imm fits)
imm_word Ori a imm word fits = or_lt 32 a _ word (fitting imm fits)
imm_word Andi a imm word fits = omega (arith, and_le_l a (cast_unsigned w32 imm))
imm_word Slli a imm word fits = omega arith
imm_word Srli a imm word fits = omega (arith, shr_le a (cast_unsigned w32 imm % 32))
imm_word Srai a imm word fits = shifted a _ word

reg_word : (kind : RegKind) (a b : ℕ) → a < 4294967296 → b < 4294967296 → reg_value kind a b < 4294967296
reg_word Add a b a_word b_word = omega arith
reg_word Sub a b a_word b_word = omega arith
reg_word Sll a b a_word b_word = omega arith
reg_word Slt a b a_word b_word = grind (arith, nat_tests)
reg_word Sltu a b a_word b_word = grind (arith, nat_tests)
reg_word Xor a b a_word b_word = xor_lt 32 a b a_word b_word
reg_word Srl a b a_word b_word = omega (arith, shr_le a (b % 32))
reg_word Sra a b a_word b_word = shifted a _ a_word
reg_word Or a b a_word b_word = or_lt 32 a b a_word b_word
reg_word And a b a_word b_word = omega (arith, and_le_l a b)
reg_word Mul a b a_word b_word = omega arith
reg_word Mulh a b a_word b_word =
    upper _ (fits_signed_mul w64 (cast_signed w32 a) (cast_signed w32 b) (2 ^ 31) (2 ^ 31) (small a a_word) (small b b_word) (omega arith))
reg_word Mulhsu a b a_word b_word =
    upper _ (fits_signed_mul w64 (cast_signed w32 a) (pos b) (2 ^ 31) (2 ^ 32 - 1) (small a a_word) (omega arith) (omega arith))
reg_word Mulhu a b a_word b_word = search rules
reg_word Div a b a_word b_word =
    let fits : FitsSigned w32 (cast_signed w32 a) = search rules in
    let whole = divided (cast_signed w32 a) (cast_signed w32 b) fits in
    grind (arith, nat_tests)
reg_word Divu a b a_word b_word = grind (arith, nat_tests)
reg_word Rem a b a_word b_word =
    let fits : FitsSigned w32 (cast_signed w32 a) = search rules in
    let rest = left (cast_signed w32 a) (cast_signed w32 b) fits in
    grind (arith, nat_tests)
reg_word Remu a b a_word b_word = grind (arith, nat_tests)

load_word : (kind : LoadKind) (mem : Memory) (at : ℕ) → ((a : ℕ) → mem a < 256) → loaded kind mem at < 4294967296
load_word Lb mem at bytes = grind (arith, nat_tests)
load_word Lh mem at bytes = grind (arith, nat_tests)
load_word Lw mem at bytes = omega (arith, bytes at, bytes (plus at 1), bytes (plus at 2), bytes (plus at 3))
load_word Lbu mem at bytes = omega (arith, bytes at)
load_word Lhu mem at bytes = omega (arith, bytes at, bytes (plus at 1))

store_bytes : (kind : StoreKind) (mem : Memory) (at x : ℕ) → ((a : ℕ) → mem a < 256) → (a : ℕ) → stored kind mem at x a < 256
store_bytes Sb mem at x bytes = put_below 256 mem at _ bytes (omega arith)
store_bytes Sh mem at x bytes =
    put_below 256 (put_byte mem at x) (plus at 1) _ (put_below 256 mem at _ bytes (omega arith)) (omega arith)
store_bytes Sw mem at x bytes =
    put_below 256 _ (plus at 3) _
    (put_below 256 _ (plus at 2) _
    (put_below 256 (put_byte mem at x) (plus at 1) _ (put_below 256 mem at _ bytes (omega arith)) (omega arith))
    (omega arith))
    (omega arith)

-- ---- registers

read_word : (f : Registers) (k : ℕ) → ((j : ℕ) → f j < 4294967296) → register f k < 4294967296
read_word f k words = let here = words k in grind (arith, nat_tests)

write_words : (f : Registers) (rd x : ℕ) → ((k : ℕ) → f k < 4294967296) → x < 4294967296 → (k : ℕ) → with_register f rd x k < 4294967296
write_words f rd x words fits k =
    let there = put_below 4294967296 f rd x words fits k in
    let here = words k in
    grind (arith, nat_tests)

-- an immediate in range is a signed word
within : (imm : ℤ) → IsWithin 2048 imm → FitsSigned w32 imm
within (pos n) small = record { sfits = omega arith }
within (negsuc n) small = record { sfits = omega arith }

places : (imm : ℤ) → (pos 0 ≤ℤ imm) × (imm <ℤ pos 32) → FitsSigned w32 imm
places imm small = omega (arith, ints)

pub imm_fits : (kind : ImmKind) (imm : ℤ) → IsImmInRange kind imm → FitsSigned w32 imm
imm_fits Addi imm range = within imm range
imm_fits Slti imm range = within imm range
imm_fits Sltiu imm range = within imm range
imm_fits Xori imm range = within imm range
imm_fits Ori imm range = within imm range
imm_fits Andi imm range = within imm range
imm_fits Slli imm range = places imm range
imm_fits Srli imm range = places imm range
imm_fits Srai imm range = places imm range

-- ---- instructions

after : (h : Hart) (rd x : ℕ) → HoldsWords h → x < 4294967296 → HoldsWords (after_write h rd x)
after h rd x words fits = record { pc = omega arith; regs = write_words h.regs rd x words.regs fits; mem = words.mem }

landed : (h : Hart) (rd target : ℕ) → HoldsWords h → target < 4294967296 → HoldsWords (after_jump h rd target)
landed h rd target words fits = record { pc = fits; regs = write_words h.regs rd (plus h.pc 4) words.regs (omega arith); mem = words.mem }

next : (h : Hart) → HoldsWords h → HoldsWords (at_next h)
next h words = record { pc = omega arith; regs = words.regs; mem = words.mem }

pub keeps_words : ActsKeepsWords
keeps_words (Lui rd imm) h range words = after h rd _ words (omega arith)
keeps_words (Auipc rd imm) h range words = after h rd _ words (omega arith)
keeps_words (Jal rd off) h range words = landed h rd _ words (omega arith)
keeps_words (Jalr rd rs1 imm) h range words = landed h rd _ words (omega arith)
keeps_words (Branch kind rs1 rs2 off) h range words =
    record { pc = grind (arith, nat_tests); regs = words.regs; mem = words.mem }
keeps_words (Load kind rd rs1 imm) h range words =
    after h rd _ words (load_word kind h.mem (offset (register h.regs rs1) imm) words.mem)
keeps_words (Store kind rs1 rs2 imm) h range words =
    record {
      pc = omega arith;
      regs = words.regs;
      mem = store_bytes kind h.mem (offset (register h.regs rs1) imm) (register h.regs rs2) words.mem;
    }
keeps_words (OpImm kind rd rs1 imm) h range words =
    after h rd _ words (imm_word kind (register h.regs rs1) imm (read_word h.regs rs1 words.regs) (imm_fits kind imm range.2))
keeps_words (OpReg kind rd rs1 rs2) h range words =
    after h rd _ words
    (reg_word kind (register h.regs rs1) (register h.regs rs2) (read_word h.regs rs1 words.regs) (read_word h.regs rs2 words.regs))
keeps_words (Fence bits) h range words = next h words
keeps_words (FenceI bits) h range words = next h words
keeps_words Ecall h range words = next h words
keeps_words Ebreak h range words = next h words
