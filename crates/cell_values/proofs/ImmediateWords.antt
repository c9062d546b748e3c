-- Operations with immediates are those with registers that hold them.
use Rattle.std.proofs.Common.{◌≡◌, ℕ, ◌<◌, false, ℤ, refl}
use Rattle.std.specs.Int.{cast_unsigned, w32}
use Rattle.rv32im.specs.Table.{IsImmInRange}
use Rattle.rv32im.specs.Acts.{imm_value, reg_value}
use Rattle.rv32im.specs.declared.instructions.ImmKind.{ImmKind}
use Rattle.rv32im.specs.declared.instructions.ImmKind.TheVariants.{Slti}
use Rattle.rv32im.proofs.WordLemmas.{fitting, imm_fits}
use Rattle.cell_values.specs.Objects.{Objects}
use Rattle.rv32im.specs.Operations.{operation_of}
use Rattle.cell_values.specs.Operations.{op_reg}
use Rattle.cell_values.specs.declared.values.Val.{Val}
use Rattle.cell_values.specs.declared.values.Val.TheVariants.{Int}
use Rattle.cell_values.specs.Origins.{Origin, ByLui, takes_low}
use Rattle.cell_values.specs.Stands.{Places, Fit, Uppers, MakesByLui, Stands}
use Rattle.cell_values.specs.WordLaws.{ImmediatesStand}
use Rattle.cell_values.proofs.OperationWords.{operations_stand}

-- the word of an immediate
imm_word : (kind : ImmKind) (imm : ℤ) → IsImmInRange kind imm → cast_unsigned w32 imm < 4294967296
imm_word kind imm range = fitting imm (imm_fits kind imm range)

-- what is left of a word and an immediate is what is left of the word and the immediate's word. Of the
-- comparison with sign this is not needed: it knows numbers alone
abbrev pub IsByRegisters : ImmKind → Type 0
IsByRegisters kind = (w : ℕ) (imm : ℤ) → imm_value kind w imm ≡ reg_value (operation_of kind) w (cast_unsigned w32 imm)

by_registers : (kind : ImmKind) → IsByRegisters kind → (os : Objects) (place : Places) (up : Uppers) → Fit os place → MakesByLui place up → (m k : Origin) (x : Val) (imm : ℤ) (w : ℕ) → w < 4294967296 → IsImmInRange kind imm → takes_low os (operation_of kind) m x ByLui (Int 0) ≡ false → Stands os place up m x w → Stands os place up k (op_reg os (operation_of kind) x (Int (cast_unsigned w32 imm))) (imm_value kind w imm)
by_registers kind same os place up fit makes m k x imm w word range disjoint stands =
    let fits = imm_word kind imm range in
    rw (same w imm)
    (operations_stand os place up fit makes (operation_of kind) m ByLui k x (Int (cast_unsigned w32 imm)) w
    (cast_unsigned w32 imm) word fits disjoint stands refl)

pub immediates_stand : ImmediatesStand
immediates_stand os place up fit makes kind m k (Int n) imm w word range disjoint stands = cc
immediates_stand os place up fit makes Slti m k x imm w word range disjoint stands = tt
immediates_stand os place up fit makes kind m k x imm w word range disjoint stands =
    by_registers kind (λ a i. refl) os place up fit makes m k x imm w word range disjoint stands
