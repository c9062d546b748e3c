-- Which registers matter at an address: those that are live at the unit of the code that stands there.
use Rattle.std.specs.Prelude.{◌≡◌, ℕ, suc, ◌+◌, ◌*◌, true, List, Option}
use Rattle.elf_reader.specs.File.{PlainView, view_in}
use Rattle.board_config.specs.declared.board.Board.{Board}
use Rattle.rv32im.specs.declared.instructions.Instr.{Instr}
use Rattle.loaded_file.specs.Code.{is_code_word}
use Rattle.object_graph.specs.declared.parts.Graph.{Graph}
use Rattle.code_blocks.specs.Blocks as code_units
use Rattle.code_blocks.specs.Blocks.{IsCode}
use Rattle.code_blocks.specs.Numbers.{start_at}
use Rattle.code_blocks.specs.Leads.{units_at, IsBlockOf}
use Rattle.code_blocks.specs.declared.parts.Unit.{Unit}
use Rattle.code_blocks.specs.declared.parts.Code.{Code}
use Rattle.dataflow.specs.Live.{unit_in, IsUnitOf, Next, LiveAt}
use Rattle.result_laws.specs.CopyLaws.{IsLow}
use Rattle.object_machine.specs.declared.events.Outcome.TheVariants.{GoesOn}
use Rattle.object_machine.specs.Program.{Program}
use Rattle.object_machine.specs.State.{SourceState}
use Rattle.object_machine.specs.Step.{Reads, next_state}
use Rattle.simulation.specs.Rules.{LiveRules}
use Rattle.simulation.specs.Laws.{IsUnit}
use Rattle.result_laws.specs.HomeLaws.{IsAccepted, unnamed_in}

-- ---- units and their addresses

-- unit `k` of block `b`
abbrev pub code_unit : Code → ℕ → ℕ → Unit
code_unit c b k = unit_in (units_at c b) k

-- it stands at an address
pub record StandsThere (c : Code) (a b k : ℕ) : Type 0 where
  pub is : IsUnitOf c b k
  pub at : (code_unit c b k).at ≡ a

-- the units of a code stand one behind the other in their blocks, no two at one address; each lies in code and tells
-- what stands there; and a run of the program may find each
pub record UnitsStand (v : PlainView) (p : Program) (c : Code) : Type 0 where
  pub inside : (b k : ℕ) → IsUnitOf c b k → IsBlockOf c b
  pub first : (b : ℕ) → IsBlockOf c b → StandsThere c (start_at c b) b 0
  pub at : (b k : ℕ) → IsUnitOf c b k → (code_unit c b k).at ≡ start_at c b + 4 * k
  pub behind : (b k : ℕ) → IsUnitOf c b (suc k) → (code_unit c b (suc k)).at ≡ (code_unit c b k).at + 4 * (code_unit c b k).words
  pub one : (a b k d j : ℕ) → StandsThere c a b k → StandsThere c a d j → (b ≡ d) × (k ≡ j)
  pub tells : (b k : ℕ) → IsUnitOf c b k → code_units.IsUnit v (code_unit c b k)
  pub code : (b k : ℕ) → IsUnitOf c b k → is_code_word v (code_unit c b k).at ≡ true
  pub low : (b k : ℕ) → IsUnitOf c b k → IsLow (code_unit c b k)
  pub found : (a b k : ℕ) → StandsThere c a b k → IsUnit p a

abbrev pub CodeUnitsStand : Type 0
CodeUnitsStand =
    (file : List ℕ) (board : Board) (g : Graph) (c : Code) → IsAccepted file board g → IsCode (view_in file) c
    → UnitsStand (view_in file) (unnamed_in file board g) c

-- ---- steps

-- the unit at an address runs next behind unit `k` of block `b`
pub record ComesNext (c : Code) (b k a : ℕ) : Type 0 where
  pub block : ℕ
  pub unit : ℕ
  pub next : Next c b k block unit
  pub there : StandsThere c a block unit

-- so does the one at the pc behind a step of a unit that goes on
abbrev pub StepsLeadOn : Type 0
StepsLeadOn =
    (file : List ℕ) (board : Board) (g : Graph) (c : Code) (s : SourceState) (read : Option Instr) (b k : ℕ)
    → IsAccepted file board g → IsCode (view_in file) c → StandsThere c s.pc b k
    → Reads ((unnamed_in file board g).word s.pc) read
    → (next_state (unnamed_in file board g) s read).outcome ≡ GoesOn
    → ComesNext c b k (next_state (unnamed_in file board g) s read).pc

-- ---- liveness

-- a register matters at an address where it is live at the unit that stands there, if one does
abbrev pub live_at : Code → ℕ → ℕ → Type 0
live_at c a x = (b k : ℕ) → StandsThere c a b k → LiveAt c x b k

-- steps keep the rules of the registers that matter
abbrev pub LivenessKeeps : Type 0
LivenessKeeps =
    (file : List ℕ) (board : Board) (g : Graph) (c : Code) → IsAccepted file board g → IsCode (view_in file) c
    → LiveRules (unnamed_in file board g) (live_at c)
