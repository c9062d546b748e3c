-- The generated workload: a main function that calls each kernel ten times, and kernels that each sum a
-- table of their own some times over. Sizes and counts are drawn from a seed.
use Rattle.std.specs.Prelude.{ℕ, pos, zero, suc, ◌+◌, ◌-◌, ◌*◌, ◌/◌, ◌%◌, List, [], ◌∷◌, ◌++◌, codes, decimal}
use Rattle.elf_reader.specs.declared.view.Reloc.{Reloc}
use Rattle.rv32im.specs.Words.{upper_half}
use Rattle.workload_gen.specs.Plan.{SectionPlan, SymbolPlan, FilePlan}
use Rattle.elf_writer.specs.Pieces.{words_bytes}

-- the state of the generator behind one that is `x`: a linear congruence modulo 2 ^ 32
abbrev pub next_state : ℕ → ℕ
next_state x = (x * 1664525 + 1013904223) % 4294967296

-- the state behind n draws. A draw gives the upper half of its new state
abbrev pub state_after : ℕ → ℕ → ℕ
state_after seed zero = seed
state_after seed (suc n) = next_state (state_after seed n)

abbrev pub drawn : ℕ → ℕ → ℕ
drawn seed n = state_after seed (n + 1) / 65536

-- how many words the table of kernel i has, and how many times the kernel sums it
abbrev pub table_words : ℕ → ℕ → ℕ
table_words seed i = 16 + 16 * (drawn seed (2 * i) % 4)

abbrev pub passes : ℕ → ℕ → ℕ
passes seed i = 4 + drawn seed (2 * i + 1) % 8

-- where the sections begin
abbrev pub text_start : ℕ
text_start = 65536

abbrev pub tables_start : ℕ
tables_start = 73728

abbrev pub out_start : ℕ
out_start = 98304

-- the bytes of main, which calls k kernels, and of a kernel
abbrev pub main_size : ℕ → ℕ
main_size k = 4 * (14 + k)

abbrev pub kernel_size : ℕ
kernel_size = 44

-- where kernel i of k begins
abbrev pub kernel_start : ℕ → ℕ → ℕ
kernel_start k i = text_start + main_size k + kernel_size * i

-- the bytes of the first n tables, which stand one behind the other
abbrev pub tables_size : ℕ → ℕ → ℕ
tables_size seed zero = 0
tables_size seed (suc n) = tables_size seed n + 4 * table_words seed n

abbrev pub table_start : ℕ → ℕ → ℕ
table_start seed i = tables_start + tables_size seed i

-- `lui rd, %hi(a)`, and `addi rd, rs, imm` with the low twelve bits of `imm` (RISC-V manual, "RV32I
-- Base Integer Instruction Set": U-type and I-type)
abbrev pub lui : ℕ → ℕ → ℕ
lui rd a = upper_half a * 4096 + rd * 128 + 55

abbrev pub addi : ℕ → ℕ → ℕ → ℕ
addi rd rs imm = imm % 4096 * 1048576 + rs * 32768 + rd * 128 + 19

-- -1 in twelve bits
abbrev pub minus_one : ℕ
minus_one = 4095

-- `jal rd, distance` with a distance of 0 to 2 ^ 20 bytes forward (J-type)
abbrev pub jal : ℕ → ℕ → ℕ
jal rd distance =
    distance / 2 % 1024 * 2097152 + distance / 2048 % 2 * 1048576 + distance / 4096 % 256 * 4096 + rd * 128 + 111

-- `bne rs1, rs2` to a place `distance` bytes before it, of 2 to 4,096 (B-type)
abbrev pub bne_back : ℕ → ℕ → ℕ → ℕ
bne_back rs1 rs2 distance =
    let offset = 8192 - distance in
    offset / 4096 % 2 * 2147483648
    + offset / 32 % 64 * 33554432
    + rs2 * 1048576
    + rs1 * 32768
    + 1 * 4096
    + offset / 2 % 16 * 256
    + offset / 2048 % 2 * 128
    + 99

-- `lw rd, 0(rs)` and `sw rs2, 0(rs1)` (I-type and S-type)
abbrev pub lw : ℕ → ℕ → ℕ
lw rd rs = rs * 32768 + 2 * 4096 + rd * 128 + 3

abbrev pub sw : ℕ → ℕ → ℕ
sw rs2 rs1 = rs2 * 1048576 + rs1 * 32768 + 2 * 4096 + 35

-- `add rd, rs1, rs2` (R-type)
abbrev pub add : ℕ → ℕ → ℕ → ℕ
add rd rs1 rs2 = rs2 * 1048576 + rs1 * 32768 + rd * 128 + 51

-- `ecall`, and `jalr x0, 0(x1)`, which returns
abbrev pub ecall : ℕ
ecall = 115

abbrev pub ret : ℕ
ret = 32871

-- main: x8 counts ten rounds, and x9 takes up what the kernels add
abbrev pub calls_below : ℕ → ℕ → List ℕ
calls_below k zero = []
calls_below k (suc i) = calls_below k i ++ jal 1 (kernel_start k i - (text_start + 8 + 4 * i)) ∷ []

-- the end of main
abbrev pub main_end : ℕ → List ℕ
main_end k =
    addi 8 8 minus_one
    ∷ bne_back 8 0 (4 * (k + 1))
    ∷ lui 11 out_start
    ∷ addi 11 11 out_start
    ∷ sw 9 11
    ∷ addi 12 0 4
    ∷ addi 17 0 64
    ∷ ecall
    ∷ addi 10 0 0
    ∷ addi 17 0 93
    ∷ ecall
    ∷ jal 0 0
    ∷ []

-- ten rounds of all calls; x9 is stored at `out`, and its four bytes are written (call 64); exit with 0
-- (call 93)
abbrev pub main_words : ℕ → List ℕ
main_words k =
    addi 8 0 10
    ∷ addi 9 0 0
    ∷ []
    ++ calls_below k k
    ++ main_end k

-- a kernel: x14 counts the passes; x10 goes through the table to its end, x11; each word is added to x9
abbrev pub kernel_loop : ℕ → ℕ → ℕ → List ℕ
kernel_loop pass_count table_at word_count =
    addi 14 0 pass_count
    ∷ lui 10 table_at
    ∷ addi 10 10 table_at
    ∷ addi 11 10 (4 * word_count)
    ∷ lw 13 10
    ∷ add 9 9 13
    ∷ addi 10 10 4
    ∷ bne_back 10 11 12
    ∷ addi 14 14 minus_one
    ∷ bne_back 14 0 32
    ∷ ret
    ∷ []

abbrev pub kernel_words : ℕ → ℕ → List ℕ
kernel_words seed i = kernel_loop (passes seed i) (table_start seed i) (table_words seed i)

abbrev pub kernels_below : ℕ → ℕ → List ℕ
kernels_below seed zero = []
kernels_below seed (suc i) = kernels_below seed i ++ kernel_words seed i

-- word j of table i is i + j
abbrev pub table_below : ℕ → ℕ → List ℕ
table_below i zero = []
table_below i (suc j) = table_below i j ++ (i + j) ∷ []

abbrev pub tables_below : ℕ → ℕ → List ℕ
tables_below seed zero = []
tables_below seed (suc i) = tables_below seed i ++ table_below i (table_words seed i)

-- the numbers of the symbols: main, the kernels, the tables, out
abbrev pub table_symbol : ℕ → ℕ → ℕ
table_symbol k i = 1 + k + (i + 1)

abbrev pub out_symbol : ℕ → ℕ
out_symbol k = 2 + 2 * k

-- the address of a symbol in a LUI at `at` (R_RISCV_HI20, 26) and the ADDI behind it (R_RISCV_LO12_I, 27)
abbrev pub address_relocations : ℕ → ℕ → List Reloc
address_relocations at symbol =
    record { at = at; kind = 26; symbol = symbol; addend = pos 0; section = 0 }
    ∷ record { at = at + 4; kind = 27; symbol = symbol; addend = pos 0; section = 0 }
    ∷ []

abbrev pub kernel_relocations_below : ℕ → ℕ → List Reloc
kernel_relocations_below k zero = []
kernel_relocations_below k (suc i) =
    kernel_relocations_below k i ++ address_relocations (kernel_start k i + 4) (table_symbol k i)

abbrev pub text_relocations : ℕ → List Reloc
text_relocations k =
    address_relocations (text_start + 4 * (k + 4)) (out_symbol k) ++ kernel_relocations_below k k

-- a letter and a number
abbrev pub numbered : ℕ → ℕ → List ℕ
numbered letter i = letter ∷ decimal i

-- the symbol of kernel i of k
abbrev pub kernel_symbol_plan : ℕ → ℕ → SymbolPlan
kernel_symbol_plan k i =
    record { name = numbered 107 i; value = kernel_start k i; size = kernel_size; kind = 2; section = 1 }

abbrev pub kernel_symbols_below : ℕ → ℕ → List SymbolPlan
kernel_symbols_below k zero = []
kernel_symbols_below k (suc i) =
    kernel_symbols_below k i ++ kernel_symbol_plan k i ∷ []

abbrev pub table_symbols_below : ℕ → ℕ → List SymbolPlan
table_symbols_below seed zero = []
table_symbols_below seed (suc i) =
    table_symbols_below seed i
    ++ record { name = numbered 116 i; value = table_start seed i; size = 4 * table_words seed i; kind = 1; section = 2 }
    ∷ []

-- the symbols of a program of `k` kernels with these of its tables
abbrev pub symbols_with : ℕ → List SymbolPlan → List SymbolPlan
symbols_with k tables =
    record { name = codes "main"; value = text_start; size = main_size k; kind = 2; section = 1 }
    ∷ []
    ++ kernel_symbols_below k k
    ++ tables
    ++ record { name = codes "out"; value = out_start; size = 4; kind = 1; section = 3 }
    ∷ []

abbrev pub workload_symbols : ℕ → ℕ → List SymbolPlan
workload_symbols seed k = symbols_with k (table_symbols_below seed k)

-- a section of words
abbrev pub words_plan : List ℕ → ℕ → ℕ → List ℕ → List Reloc → SectionPlan
words_plan name addr flags words relocs =
    record { name = name; addr = addr; flags = flags; content = words_bytes words; empty = 0; relocs = relocs }

-- the section of the instructions, of the tables, and of the sum
abbrev pub text_plan : ℕ → List ℕ → SectionPlan
text_plan k words = words_plan (codes ".text") text_start 6 words (text_relocations k)

abbrev pub tables_plan : List ℕ → SectionPlan
tables_plan words = words_plan (codes ".rodata") tables_start 2 words []

abbrev pub out_plan : SectionPlan
out_plan = words_plan (codes ".data") out_start 3 (0 ∷ []) []

-- the plan of the workload of `k` kernels
abbrev pub workload_plan : ℕ → ℕ → FilePlan
workload_plan seed k =
    record {
      entry = text_start;
      sections =
          text_plan k (main_words k ++ kernels_below seed k) ∷ tables_plan (tables_below seed k) ∷ out_plan ∷ [];
      symbols = workload_symbols seed k;
    }
