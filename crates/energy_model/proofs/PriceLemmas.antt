-- Prices of units and blocks.
use Rattle.std.proofs.Common.{◌≡◌, ◌∙◌, ℕ, ◌<◌, ◌≤◌, false, List, length, slice_index_or, Option, Some, None, sym, ap, arith}
use Rattle.std.proofs.lemmas.List.{get_or-map}
use Rattle.std.proofs.lemmas.Nat.{mul-le}
use Rattle.rv32im.specs.declared.instructions.Instr.{Instr}
use Rattle.rv32im.specs.declared.instructions.Instr.TheVariants.{Lui, Auipc, Jal, Jalr, Branch, Load, Store, OpImm, OpReg, Fence, FenceI, Ecall, Ebreak}
use Rattle.board_config.specs.Board.{AreLawfulPrices}
use Rattle.board_config.specs.declared.board.Prices.{Prices}
use Rattle.code_blocks.specs.declared.parts.Unit.{Unit}
use Rattle.code_blocks.specs.declared.parts.Block.{Block}
use Rattle.block_splitter.specs.Forms.{Body, body_of, no_body, body_at}
use Rattle.energy_model.specs.Energy.{data_price}
use Rattle.energy_model.specs.Priced.{unit_price}

pub body_here : (blocks : List Block) (k : ℕ) (d : Block) → k < length blocks → d ≡ slice_index_or blocks k d → body_at blocks k ≡ body_of d
body_here blocks k d below is = get_or-map body_of blocks k d no_body below ∙ ap body_of (sym is)

pub units_here : (blocks : List Block) (k : ℕ) (d : Block) → k < length blocks → d ≡ slice_index_or blocks k d → (body_at blocks k).units ≡ d.units.items
units_here blocks k d below is = ap (λ (b : Body). b.units) (body_here blocks k d below is)

access_small : (prices : Prices) (instr : Option Instr) → AreLawfulPrices prices → data_price prices false instr ≤ 10000
access_small prices None lawful = omega arith
access_small prices (Some (Lui rd imm)) lawful = omega arith
access_small prices (Some (Auipc rd imm)) lawful = omega arith
access_small prices (Some (Jal rd off)) lawful = omega arith
access_small prices (Some (Jalr rd rs1 imm)) lawful = omega arith
access_small prices (Some (Branch kind rs1 rs2 off)) lawful = omega arith
access_small prices (Some (Load kind rd rs1 imm)) lawful = lawful.main_read
access_small prices (Some (Store kind rs1 rs2 imm)) lawful = lawful.main_write
access_small prices (Some (OpImm kind rd rs1 imm)) lawful = omega arith
access_small prices (Some (OpReg kind rd rs1 rs2)) lawful = omega arith
access_small prices (Some (Fence bits)) lawful = omega arith
access_small prices (Some (FenceI bits)) lawful = omega arith
access_small prices (Some Ecall) lawful = omega arith
access_small prices (Some Ebreak) lawful = omega arith

pub unit_small : (prices : Prices) (u : Unit) → AreLawfulPrices prices → u.words ≤ 2 → unit_price prices u ≤ 30000
unit_small prices u lawful words =
    let fetches = mul-le u.words prices.main_fetch 2 10000 words lawful.main_fetch in
    let access = access_small prices u.instr lawful in
    omega (arith, fetches, access)
