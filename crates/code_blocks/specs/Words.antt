-- What a word of code does to the flow of control (RISC-V Unprivileged ISA, "Control Transfer
-- Instructions").
use Rattle.std.specs.Prelude.{ℕ, ◌+◌, ◌*◌, ◌/◌, ◌==◌, nat_lt, Bool, not, ◌&&◌, ◌||◌, length}
use Rattle.rv32im.specs.Words.{plus, offset}
use Rattle.list_checks.specs.Tests.{any_below, lies_in}
use Rattle.rv32im.specs.Fields.{opcode_of, rd_of, funct3_of, u_immediate, i_immediate, b_immediate, j_immediate}
use Rattle.elf_reader.specs.File.{PlainView}
use Rattle.elf_reader.specs.Loaded.{section_at}
use Rattle.loaded_file.specs.Code.{is_code_range, image_word}

-- BEQ, BNE, BLT, BGE, BLTU and BGEU; JAL; JALR; AUIPC
abbrev pub is_branch : ℕ → Bool
is_branch w = (opcode_of w == 99) && not ((funct3_of w == 2) || (funct3_of w == 3))

abbrev pub is_jal : ℕ → Bool
is_jal w = opcode_of w == 111

abbrev pub is_jalr : ℕ → Bool
is_jalr w = (opcode_of w == 103) && (funct3_of w == 0)

abbrev pub is_auipc : ℕ → Bool
is_auipc w = opcode_of w == 23

-- a jump links where it writes a register other than x0
abbrev pub links : ℕ → Bool
links w = nat_lt 0 (rd_of w)

-- where the branch or the JAL at `a` goes
abbrev pub branch_target : PlainView → ℕ → ℕ
branch_target v a = offset a (b_immediate (image_word v a))

abbrev pub jal_target : PlainView → ℕ → ℕ
jal_target v a = offset a (j_immediate (image_word v a))

-- where an AUIPC at `a` and the JALR behind it go, if its base is what the AUIPC makes; bit 0 is kept
abbrev pub pair_target : PlainView → ℕ → ℕ
pair_target v a =
    offset (plus a (4096 * u_immediate (image_word v a))) (i_immediate (image_word v (a + 4)))

-- the first multiple of 4 in code range `k`, and word `i` from there on
abbrev pub first_word : PlainView → ℕ → ℕ
first_word v k = ((section_at v k).addr + 3) / 4 * 4

abbrev pub code_word : PlainView → ℕ → ℕ → ℕ
code_word v k i = first_word v k + 4 * i

-- word `i` lies in code range `k` and passes the test
abbrev pub passes_at : PlainView → (ℕ → Bool) → ℕ → ℕ → Bool
passes_at v test k i =
    lies_in (section_at v k).addr (section_at v k).size (code_word v k i) 4 && test (code_word v k i)

-- a word of code range `k` passes the test
abbrev pub passes_in : PlainView → (ℕ → Bool) → ℕ → Bool
passes_in v test k = is_code_range v k && any_below (passes_at v test k) ((section_at v k).size / 4 + 1)

-- a word of code passes the test
abbrev pub any_code_word : PlainView → (ℕ → Bool) → Bool
any_code_word v test = any_below (passes_in v test) (length v.sections)
