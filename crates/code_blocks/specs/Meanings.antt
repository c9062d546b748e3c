-- Which words mean an instruction, as a test (RISC-V Unprivileged ISA, "RV32/64G Instruction Set
-- Listings": RV32I, Zifencei and RV32M).
use Rattle.std.specs.Prelude.{ℕ, ◌==◌, nat_lt, Bool, not, ◌&&◌, ◌||◌}
use Rattle.rv32im.specs.Fields.{opcode_of, funct3_of, funct7_of}
use Rattle.code_blocks.specs.Words.{is_branch, is_jal, is_jalr, is_auipc}

-- LB, LH, LW, LBU and LHU; SB, SH and SW
abbrev pub is_load : ℕ → Bool
is_load w = (opcode_of w == 3) && (nat_lt (funct3_of w) 3 || (funct3_of w == 4) || (funct3_of w == 5))

abbrev pub is_store : ℕ → Bool
is_store w = (opcode_of w == 35) && nat_lt (funct3_of w) 3

-- an operation with an immediate: a shift has funct7 0, or 32 for SRAI
abbrev pub is_shift_immediate : ℕ → Bool
is_shift_immediate w =
    (funct3_of w == 1) && (funct7_of w == 0)
    || (funct3_of w == 5) && ((funct7_of w == 0) || (funct7_of w == 32))

abbrev pub is_immediate_operation : ℕ → Bool
is_immediate_operation w =
    (opcode_of w == 19) && (not ((funct3_of w == 1) || (funct3_of w == 5)) || is_shift_immediate w)

-- an operation on registers: funct7 is 0, 1 for RV32M, or 32 for SUB and SRA
abbrev pub is_register_operation : ℕ → Bool
is_register_operation w =
    (opcode_of w == 51)
    && (nat_lt (funct7_of w) 2 || (funct7_of w == 32) && ((funct3_of w == 0) || (funct3_of w == 5)))

-- FENCE and FENCE.I; ECALL and EBREAK
abbrev pub is_fence : ℕ → Bool
is_fence w = (opcode_of w == 15) && nat_lt (funct3_of w) 2

abbrev pub is_ebreak : ℕ → Bool
is_ebreak w = w == 1048691

abbrev pub is_system : ℕ → Bool
is_system w = (w == 115) || is_ebreak w

-- a word means an instruction
abbrev pub has_meaning : ℕ → Bool
has_meaning w =
    (opcode_of w == 55)
    || is_auipc w
    || is_jal w
    || is_jalr w
    || is_branch w
    || is_load w
    || is_store w
    || is_immediate_operation w
    || is_register_operation w
    || is_fence w
    || is_system w
