-- What a run of a program asks of its file, its board and its tables has at most one proof.
use Rattle.std.proofs.Common.{◌⊎◌, inl, inr, ap, arith, ℕ, ℤ}
use Rattle.std.specs.Option.{MatchOption, MatchOption-prop}
use Rattle.rv32im.specs.Table.{Means, MeansNothing, HasImm}
use Rattle.rv32im.specs.declared.instructions.Instr.{Instr}
use Rattle.rv32im.specs.declared.instructions.Instr.TheVariants.{Lui, Auipc, Jal, Jalr, Branch, Load, Store, OpImm, OpReg, Fence, FenceI, Ecall, Ebreak}
use Rattle.rv32im.specs.declared.instructions.ImmKind.{ImmKind}
use Rattle.rv32im.specs.declared.instructions.ImmKind.TheVariants.{Addi, Slti, Sltiu, Xori, Ori, Andi, Slli, Srli, Srai}
use Rattle.elf_reader.specs.File.{PlainView}
use Rattle.board_config.specs.Board.{IsLawful, IsGrain}
use Rattle.board_config.specs.declared.board.Board.{Board}
use Rattle.object_graph.specs.Graphs.{IsGraph}
use Rattle.object_graph.specs.declared.parts.Graph.{Graph}
use Rattle.code_blocks.specs.Blocks.{IsCode, IsUnit}
use Rattle.code_blocks.specs.declared.parts.Code.{Code}
use Rattle.code_blocks.specs.declared.parts.Unit.{Unit}
use denote.Struct.Props.{props}

pub IsGraph-prop : (v : PlainView) (board : Board) (g : Graph) → IsProp (IsGraph v board g)
IsGraph-prop v board g = hlevel props

HasImm-prop : (w : ℕ) (kind : ImmKind) (imm : ℤ) → IsProp (HasImm w kind imm)
HasImm-prop w Addi imm = hlevel props
HasImm-prop w Slti imm = hlevel props
HasImm-prop w Sltiu imm = hlevel props
HasImm-prop w Xori imm = hlevel props
HasImm-prop w Ori imm = hlevel props
HasImm-prop w Andi imm = hlevel props
HasImm-prop w Slli imm = hlevel props
HasImm-prop w Srli imm = hlevel props
HasImm-prop w Srai imm = hlevel props

Means-prop : (w : ℕ) (i : Instr) → IsProp (Means w i)
Means-prop w (Lui rd imm) = hlevel props
Means-prop w (Auipc rd imm) = hlevel props
Means-prop w (Jal rd off) = hlevel props
Means-prop w (Jalr rd rs1 imm) = hlevel props
Means-prop w (Branch kind rs1 rs2 off) = hlevel props
Means-prop w (Load kind rd rs1 imm) = hlevel props
Means-prop w (Store kind rs1 rs2 imm) = hlevel props
Means-prop w (OpImm kind rd rs1 imm) = hlevel (props, HasImm-prop)
Means-prop w (OpReg kind rd rs1 rs2) = hlevel props
Means-prop w (Fence bits) = hlevel props
Means-prop w (FenceI bits) = hlevel props
Means-prop w Ecall = hlevel props
Means-prop w Ebreak = hlevel props

IsUnit-prop : (v : PlainView) (u : Unit) → IsProp (IsUnit v u)
IsUnit-prop v u =
    let instr : IsProp (MatchOption u.instr (MeansNothing u.raw) (Means u.raw)) =
    MatchOption-prop u.instr (MeansNothing u.raw) (Means u.raw) (hlevel props) (Means-prop u.raw) in
    hlevel (props, instr)

pub IsCode-prop : (v : PlainView) (c : Code) → IsProp (IsCode v c)
IsCode-prop v c = hlevel (props, IsUnit-prop, MatchOption-prop)

either_prop : {A B : Type 0} → IsProp A → IsProp B → (A → B → ⊥) → IsProp (A ⊎ B)
either_prop one other apart (inl a) (inl b) = ap inl (one a b)
either_prop one other apart (inl a) (inr b) = absurd (apart a b)
either_prop one other apart (inr a) (inl b) = absurd (apart b a)
either_prop one other apart (inr a) (inr b) = ap inr (other a b)

IsGrain-prop : (grain : ℕ) → IsProp (IsGrain grain)
IsGrain-prop grain =
    either_prop (hlevel props) (either_prop (hlevel props) (hlevel props) (λ a b. omega (arith, a, b))) (λ a b. omega (arith, a, b))

pub IsLawful-prop : (board : Board) → IsProp (IsLawful board)
IsLawful-prop board = hlevel (props, IsGrain-prop)
