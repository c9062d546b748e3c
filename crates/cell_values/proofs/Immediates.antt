-- An immediate as a number.
use Rattle.std.proofs.Common.{◌≡◌, ℕ, ℤ, pos, negsuc, w32, FitsSigned, ◌<◌, ap, refl, arith}
use Rattle.std.specs.Int.{cast_unsigned}
use Rattle.std.proofs.lemmas.Int.{to_z-of_z}
use Rattle.rv32im.specs.Acts.{imm_value, reg_value}
use Rattle.rv32im.specs.declared.instructions.ImmKind.{ImmKind}
use Rattle.rv32im.specs.declared.instructions.ImmKind.TheVariants.{Addi, Slti}
use Rattle.cell_values.specs.Laws.{ImmediatesAreNumbers}
use Rattle.rv32im.specs.Operations.{operation_of}
use Rattle.cell_values.specs.declared.values.Val.TheVariants.{Int}

pub immediate_word : (imm : ℤ) → FitsSigned w32 imm → cast_unsigned w32 imm < 4294967296
immediate_word (pos n) fits = omega arith
immediate_word (negsuc n) fits = omega arith

-- of numbers alone; SLTI reads the immediate with its sign
same_number : (kind : ImmKind) (n : ℕ) (imm : ℤ) → FitsSigned w32 imm → imm_value kind n imm ≡ reg_value (operation_of kind) n (cast_unsigned w32 imm)
same_number Slti n imm fits = rw (to_z-of_z w32 imm fits) refl
same_number kind n imm fits = refl

same_int : (kind : ImmKind) (n : ℕ) (imm : ℤ) → FitsSigned w32 imm → Int (imm_value kind n imm) ≡ Int (reg_value (operation_of kind) n (cast_unsigned w32 imm))
same_int kind n imm fits = ap Int (same_number kind n imm fits)

pub immediates_are_numbers : ImmediatesAreNumbers
immediates_are_numbers os Addi (Int n) imm fits = same_int Addi n imm fits
immediates_are_numbers os kind (Int n) imm fits = same_int kind n imm fits
immediates_are_numbers os kind a imm fits = refl
