-- Laws of operations on values and of values in memory.
use Rattle.std.specs.Prelude.{◌≡◌, ℕ, ◌<◌, List, [], ◌∷◌, ℤ, FitsSigned}
use Rattle.std.specs.Int.{cast_unsigned, w32}
use Rattle.rv32im.specs.declared.instructions.ImmKind.{ImmKind}
use Rattle.rv32im.specs.declared.instructions.RegKind.{RegKind}
use Rattle.cell_values.specs.Objects.{Objects, IsGrain}
use Rattle.rv32im.specs.Operations.{operation_of}
use Rattle.cell_values.specs.Operations.{op_imm, op_reg}
use Rattle.cell_values.specs.Cells.{split, join}
use Rattle.cell_values.specs.declared.values.Val.{Val}
use Rattle.cell_values.specs.declared.values.Val.TheVariants.{Int, Addr, Hi, Low, Piece, Unknown}
use Rattle.cell_values.specs.declared.values.Cell.{Cell}

-- the word of a list of four cells
abbrev pub joined : List Cell → Val
joined (first ∷ second ∷ third ∷ fourth ∷ []) = join first second third fourth
joined cells = Unknown

-- a number, an address and an upper part that were stored and are loaded again are the same
abbrev pub SplitJoins : Type 0
SplitJoins =
    ((n : ℕ) → n < 4294967296 → joined (split (Int n)) ≡ Int n)
    × ((o d : ℕ) → joined (split (Addr o d)) ≡ Addr o d)
    × ((o d : ℕ) → joined (split (Hi o d)) ≡ Hi o d)

-- numbers and offsets in a value are words
abbrev pub HoldsWord : Val → Type 0
HoldsWord (Int n) = n < 4294967296
HoldsWord (Addr o d) = d < 4294967296
HoldsWord (Hi o d) = d < 4294967296
HoldsWord (Low n) = n < 4294967296
HoldsWord (Piece hi o d k) = d < 4294967296
HoldsWord Unknown = Unit {0}

-- an operation with an immediate does what the one on registers does with the immediate as a number
abbrev pub ImmediatesAreNumbers : Type 0
ImmediatesAreNumbers =
    (os : Objects) (kind : ImmKind) (a : Val) (imm : ℤ) → FitsSigned w32 imm
    → op_imm os kind a imm ≡ op_reg os (operation_of kind) a (Int (cast_unsigned w32 imm))

-- operations on values that hold words leave such values
abbrev pub RegistersKeepWords : Type 0
RegistersKeepWords =
    (os : Objects) (kind : RegKind) (a b : Val) → IsGrain os.grain → HoldsWord a → HoldsWord b
    → HoldsWord (op_reg os kind a b)

abbrev pub ImmediatesKeepWords : Type 0
ImmediatesKeepWords =
    (os : Objects) (kind : ImmKind) (a : Val) (imm : ℤ) → IsGrain os.grain → HoldsWord a → FitsSigned w32 imm
    → HoldsWord (op_imm os kind a imm)

abbrev pub OperationsKeepWords : Type 0
OperationsKeepWords = RegistersKeepWords × ImmediatesKeepWords
