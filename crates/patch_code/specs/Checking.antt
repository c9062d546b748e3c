-- The checking stub: it passes where its region is current, and else calls the switch routine. Its body stands behind it.
use Rattle.std.specs.Prelude.{ℕ, ◌+◌, ◌==◌, if◌then◌else◌, List, [], ◌∷◌, ◌++◌, pos}
use Rattle.rv32im.specs.Words.{upper_half, lower_half}
use Rattle.rv32im.specs.declared.instructions.Instr.{Instr}
use Rattle.rv32im.specs.declared.instructions.Instr.TheVariants.{Lui, Load, Store, OpImm, Branch, Jal}
use Rattle.rv32im.specs.declared.instructions.LoadKind.TheVariants.{Lw}
use Rattle.rv32im.specs.declared.instructions.StoreKind.TheVariants.{Sw}
use Rattle.rv32im.specs.declared.instructions.ImmKind.TheVariants.{Addi}
use Rattle.rv32im.specs.declared.instructions.BranchKind.TheVariants.{Beq}
use Rattle.rv32im.specs.Sequences.{distance}
use Rattle.flat_machine.specs.declared.events.FlatAccess.{FlatAccess}
use Rattle.patch_code.specs.Told.{read_at, write_at}
use Rattle.patch_code.specs.Parts.{minus_imm}

-- the registers that a switch uses. Their words are kept in the control words behind the first
abbrev pub saved_registers : List ℕ
saved_registers = 5 ∷ 6 ∷ 7 ∷ 28 ∷ 29 ∷ 30 ∷ 31 ∷ []

-- they are stored from `at` on, by an address in the register `t`
abbrev pub saves : ℕ → List ℕ → ℕ → List Instr
saves t [] at = []
saves t (x ∷ xs) at = Store Sw t x (lower_half at) ∷ saves t xs (at + 4)

-- and loaded from there. The load for `t` itself goes to x0
abbrev pub restores : ℕ → List ℕ → ℕ → List Instr
restores t [] at = []
restores t (x ∷ xs) at = Load Lw (if x == t then 0 else x) t (lower_half at) ∷ restores t xs (at + 4)

-- `t` gets the control word less the region `r`; where that is 0, control goes to the body
abbrev pub tests : ℕ → ℕ → ℕ → List Instr
tests base t r =
    Lui t (upper_half base) ∷ Load Lw t t (lower_half base) ∷ OpImm Addi t t (minus_imm r) ∷ Branch Beq t 0 (pos 76) ∷ []

-- x30 gets the region, and the routine at `switch` is called
abbrev pub calls : ℕ → ℕ → ℕ → List Instr
calls r at switch = OpImm Addi 30 0 (pos r) ∷ Jal 29 (distance at switch) ∷ []

-- the stub at `at` of region `r`, whose register is `t`, for control words at `base`
unfoldable pub checking : ℕ → ℕ → ℕ → ℕ → ℕ → List Instr
checking base t r at switch =
    tests base t r
    ++ (Lui t (upper_half base) ∷ saves t saved_registers (base + 4)
    ++ (calls r (at + 52) switch ++ (Lui t (upper_half base) ∷ restores t saved_registers (base + 4))))

-- ---- accesses

-- a word for each of these registers is written, or read, from an address on
abbrev pub saves_accesses : List ℕ → ℕ → List FlatAccess
saves_accesses [] at = []
saves_accesses (x ∷ xs) at = write_at at ∷ saves_accesses xs (at + 4)

abbrev pub restores_accesses : List ℕ → ℕ → List FlatAccess
restores_accesses [] at = []
restores_accesses (x ∷ xs) at = read_at at ∷ restores_accesses xs (at + 4)
