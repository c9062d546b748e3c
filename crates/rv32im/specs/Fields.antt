-- The fields of a 32-bit instruction word, as quotients and remainders
-- (RISC-V Unprivileged ISA, "RV32I", "Base Instruction Formats" and "Immediate Encoding Variants").
use Rattle.std.specs.Prelude.{ℕ, ◌+◌, ◌*◌, ◌/◌, ◌%◌, ℤ}
use Rattle.rv32im.specs.Words.{signed}

-- bits 6..0
abbrev pub opcode_of : ℕ → ℕ
opcode_of w = w % 128

-- bits 11..7
abbrev pub rd_of : ℕ → ℕ
rd_of w = w / 128 % 32

-- bits 14..12
abbrev pub funct3_of : ℕ → ℕ
funct3_of w = w / 4096 % 8

-- bits 19..15
abbrev pub rs1_of : ℕ → ℕ
rs1_of w = w / 32768 % 32

-- bits 24..20, also the places of a shift by an immediate
abbrev pub rs2_of : ℕ → ℕ
rs2_of w = w / 1048576 % 32

-- bits 31..25
abbrev pub funct7_of : ℕ → ℕ
funct7_of w = w / 33554432 % 128

-- I: bits 31..20
abbrev pub i_immediate : ℕ → ℤ
i_immediate w = signed 2048 (w / 1048576 % 4096)

-- S: bits 31..25 and 11..7
abbrev pub s_immediate : ℕ → ℤ
s_immediate w = signed 2048 (funct7_of w * 32 + rd_of w)

-- B: imm[12] at bit 31, imm[11] at bit 7, imm[10:5] at bits 30..25 and imm[4:1] at bits 11..8;
-- imm[0] is 0
abbrev pub b_immediate : ℕ → ℤ
b_immediate w =
    signed 4096
    (w / 2147483648 % 2 * 4096 + w / 128 % 2 * 2048 + w / 33554432 % 64 * 32 + w / 256 % 16 * 2)

-- J: imm[20] at bit 31, imm[19:12] at bits 19..12, imm[11] at bit 20 and imm[10:1] at bits 30..21;
-- imm[0] is 0
abbrev pub j_immediate : ℕ → ℤ
j_immediate w =
    signed 1048576
    (w / 2147483648 % 2 * 1048576 + w / 4096 % 256 * 4096 + w / 1048576 % 2 * 2048
    + w / 2097152 % 1024 * 2)

-- U: bits 31..12, the upper part of a word
abbrev pub u_immediate : ℕ → ℕ
u_immediate w = w / 4096 % 1048576

-- the word without its opcode and funct3, each bit in its place
abbrev pub fence_bits_of : ℕ → ℕ
fence_bits_of w = w / 32768 % 131072 * 32768 + rd_of w * 128
