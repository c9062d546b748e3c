-- Which registers may hold an address of an object at a unit of the code, and which objects' addresses may
-- stand in memory: the least relations that the rules below close.
use Rattle.std.specs.Prelude.{◌≡◌, ◌⊎◌, ℕ, suc, ◌<◌, ◌==◌, Bool, true, List, [], ◌∷◌, length, slice_index_or, Option, Some, None, if◌then◌else◌}
use Rattle.std.specs.List.{Contains}
use Rattle.rv32im.specs.Acts.{defined}
use Rattle.rv32im.specs.Operations.{operation_of, takes_low_bits}
use Rattle.rv32im.specs.declared.instructions.Instr.{Instr}
use Rattle.rv32im.specs.declared.instructions.Instr.TheVariants.{Lui, Auipc, Load, Store, OpImm, OpReg}
use Rattle.rv32im.specs.declared.instructions.LoadKind.TheVariants.{Lw}
use Rattle.rv32im.specs.declared.instructions.ImmKind.{ImmKind}
use Rattle.rv32im.specs.declared.instructions.ImmKind.TheVariants.{Addi}
use Rattle.object_graph.specs.declared.parts.SiteKind.{SiteKind}
use Rattle.object_graph.specs.declared.parts.SiteKind.TheVariants.{Hi, LowI}
use Rattle.object_graph.specs.declared.parts.Site.{Site}
use Rattle.object_graph.specs.declared.parts.DataWord.{DataWord}
use Rattle.object_graph.specs.declared.parts.Graph.{Graph}
use Rattle.code_blocks.specs.Numbers.{start_at}
use Rattle.code_blocks.specs.Leads.{units_at, no_unit, IsBlockOf, LeadsOn, LeadsAnywhere}
use Rattle.code_blocks.specs.declared.parts.Unit.{Unit}
use Rattle.code_blocks.specs.declared.parts.Code.{Code}

-- ---- units by number

-- x1 to x31 hold what is written to them; x0 never holds an address
abbrev pub IsHolder : ℕ → Type 0
IsHolder x = (0 < x) × (x < 32)

-- unit `k` of block `b`
abbrev pub unit_of : Code → ℕ → ℕ → Unit
unit_of c b k = slice_index_or (units_at c b) k no_unit

-- what it means, if anything: a call of two words is its AUIPC, which defines its register
abbrev pub instr_of : Code → ℕ → ℕ → Option Instr
instr_of c b k = (unit_of c b k).instr

-- the site at an address
abbrev pub site_at : List Site → ℕ → Option Site
site_at [] a = None
site_at (s ∷ sites) a = if s.at == a then Some s else site_at sites a

-- the site that unit `k` of block `b` is
abbrev pub site_of : Code → Graph → ℕ → ℕ → Option Site
site_of c g b k = site_at g.sites.items (unit_of c b k).at

-- ---- what a unit does with addresses

-- a Hi site in a LUI or an AUIPC, or a low site in an ADDI, makes a part of its object's address in `x`
abbrev pub MakesIn : SiteKind → Option Instr → ℕ → Type 0
MakesIn Hi (Some (Lui rd imm)) x = x ≡ rd
MakesIn Hi (Some (Auipc rd imm)) x = x ≡ rd
MakesIn LowI (Some (OpImm Addi rd rs1 imm)) x = x ≡ rd
MakesIn kind instr x = ⊥

abbrev pub Makes : Option Site → Option Instr → ℕ → ℕ → Type 0
Makes None instr o x = ⊥
Makes (Some s) instr o x = (s.object ≡ o) × MakesIn s.kind instr x

-- an ADDI, XORI, ORI or ANDI that is no site leaves in `z` what it made of `x`
abbrev pub is_move : ImmKind → Bool
is_move kind = takes_low_bits (operation_of kind)

abbrev pub Moves : Option Site → Option Instr → ℕ → ℕ → Type 0
Moves None (Some (OpImm kind rd rs1 imm)) x z = (is_move kind ≡ true) × (x ≡ rs1) × (z ≡ rd)
Moves site instr x z = ⊥

-- an ADD, SUB, XOR, OR or AND leaves in `z` what it made of `x` and another register
abbrev pub Sums : Option Instr → ℕ → ℕ → Type 0
Sums (Some (OpReg kind rd rs1 rs2)) x z = (takes_low_bits kind ≡ true) × ((x ≡ rs1) ⊎ (x ≡ rs2)) × (z ≡ rd)
Sums instr x z = ⊥

-- a store, of any width, puts `x` into memory
abbrev pub Stores : Option Instr → ℕ → Type 0
Stores (Some (Store kind rs1 rs2 imm)) x = x ≡ rs2
Stores instr x = ⊥

-- an LW leaves a word of memory in `z`
abbrev pub Loads : Option Instr → ℕ → Type 0
Loads (Some (Load Lw rd rs1 imm)) z = z ≡ rd
Loads instr z = ⊥

-- `x` is defined anew
abbrev pub Defines : Option Instr → ℕ → Type 0
Defines None x = ⊥
Defines (Some i) x = Contains (defined i) x

-- ---- the relations

-- register `x` may hold an address of the object when the first `k` units of block `b` have run; or an address
-- of it may stand in memory: it escapes
pub data Fact : Type 0 where
  Held : ℕ → ℕ → ℕ → Fact
  Escaped : Fact

-- the facts about object `o`, by a rule each
pub data Derives (c : Code) (g : Graph) (o : ℕ) : Fact → Type 0 where
  site : (b k x : ℕ) → k < length (units_at c b) → IsHolder x → Makes (site_of c g b k) (instr_of c b k) o x → Derives c g o (Held b (suc k) x)
  move : (b k x z : ℕ) → k < length (units_at c b) → IsHolder z → Moves (site_of c g b k) (instr_of c b k) x z → Derives c g o (Held b k x) → Derives c g o (Held b (suc k) z)
  sum : (b k x z : ℕ) → k < length (units_at c b) → IsHolder z → Sums (instr_of c b k) x z → Derives c g o (Held b k x) → Derives c g o (Held b (suc k) z)
  store : (b k x : ℕ) → k < length (units_at c b) → Stores (instr_of c b k) x → Derives c g o (Held b k x) → Derives c g o Escaped
  load : (b k z : ℕ) → k < length (units_at c b) → IsHolder z → Loads (instr_of c b k) z → Derives c g o Escaped → Derives c g o (Held b (suc k) z)
  word : (d : DataWord) → Contains g.data_words.items d → d.object ≡ o → Derives c g o Escaped
  keep : (b k x : ℕ) → k < length (units_at c b) → (Defines (instr_of c b k) x → ⊥) → Derives c g o (Held b k x) → Derives c g o (Held b (suc k) x)
  next : (b d x : ℕ) → LeadsOn c b d → Derives c g o (Held b (length (units_at c b)) x) → Derives c g o (Held d 0 x)
  anywhere : (b d x : ℕ) → LeadsAnywhere c b d → Derives c g o (Held b (length (units_at c b)) x) → Derives c g o (Held d 0 x)

-- before and after unit `k` of block `b`
abbrev pub Before : Code → Graph → ℕ → ℕ → ℕ → ℕ → Type 0
Before c g b k x o = Derives c g o (Held b k x)

abbrev pub After : Code → Graph → ℕ → ℕ → ℕ → ℕ → Type 0
After c g b k x o = Derives c g o (Held b (suc k) x)

-- register `x` may hold an address of object `o` where the block at `leader` begins
abbrev pub MayHold : Code → Graph → ℕ → ℕ → ℕ → Type 0
MayHold c g leader x o = (b : ℕ) × IsBlockOf c b × (start_at c b ≡ leader) × Before c g b 0 x o

abbrev pub Escapes : Code → Graph → ℕ → Type 0
Escapes c g o = Derives c g o Escaped
