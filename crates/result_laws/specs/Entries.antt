-- By which blocks control comes to another region of the code, and what holds there.
use Rattle.std.specs.Prelude.{◌≡◌, ◌⊎◌, ℕ, Bool, true, List, Option}
use Rattle.elf_reader.specs.File.{PlainView, view_in}
use Rattle.board_config.specs.declared.board.Board.{Board}
use Rattle.rv32im.specs.declared.instructions.Instr.{Instr}
use Rattle.object_graph.specs.declared.parts.Graph.{Graph}
use Rattle.code_blocks.specs.Blocks.{IsCode}
use Rattle.code_blocks.specs.Leads.{IsBlockOf}
use Rattle.code_blocks.specs.declared.parts.Code.{Code}
use Rattle.dataflow.specs.Live.{LiveAt}
use Rattle.dataflow.specs.Overlaid.{region_in, is_border, MayBeOverlaid}
use Rattle.region_former.specs.Borders as regions_of
use Rattle.region_former.specs.Regions.{IsFormed}
use Rattle.region_former.specs.declared.table.RegionTable.{RegionTable}
use Rattle.object_machine.specs.declared.events.Outcome.TheVariants.{GoesOn}
use Rattle.object_machine.specs.State.{SourceState}
use Rattle.object_machine.specs.Step.{Reads, next_state}
use Rattle.result_laws.specs.HomeLaws.{IsAccepted, unnamed_in}
use Rattle.result_laws.specs.LiveUnits.{StandsThere, live_at}
use Rattle.simulation.specs.Names.{StateNamesNone}
use Rattle.result_laws.specs.Held.{IsHeld}

-- ---- control

-- a list tells of each block whether control enters its region there
abbrev pub TellsBorders : Code → List ℕ → List Bool → Type 0
TellsBorders c regions borders =
    (b : ℕ) → IsBlockOf c b → is_border borders b ≡ regions_of.is_border c regions b

-- so do those of a program's regions
abbrev pub RegionsTellBorders : Type 0
RegionsTellBorders =
    (v : PlainView) (c : Code) (board : Board) (has_dead : List Bool) (t : RegionTable)
    → IsFormed v c board has_dead t → TellsBorders c t.of_block.items t.border.items

-- block `b` may run while a region is current: it is of this region, or of none
abbrev pub RunsIn : List ℕ → ℕ → ℕ → Type 0
RunsIn regions b current = (region_in regions b ≡ 0) ⊎ (region_in regions b ≡ current)

-- the unit at an address is of a block that may run in the current region, or it begins one by which control enters
-- another
pub record ComesIn (c : Code) (regions : List ℕ) (borders : List Bool) (current a : ℕ) : Type 0 where
  pub block : ℕ
  pub unit : ℕ
  pub there : StandsThere c a block unit
  pub enters : RunsIn regions block current ⊎ ((unit ≡ 0) × (is_border borders block ≡ true))

abbrev pub EntersAtBorders : Type 0
EntersAtBorders =
    (file : List ℕ) (board : Board) (g : Graph) (c : Code) (regions : List ℕ) (borders : List Bool)
    (s : SourceState) (read : Option Instr) (b k current : ℕ)
    → IsAccepted file board g → IsCode (view_in file) c → TellsBorders c regions borders
    → StandsThere c s.pc b k → RunsIn regions b current
    → Reads ((unnamed_in file board g).word s.pc) read
    → (next_state (unnamed_in file board g) s read).outcome ≡ GoesOn
    → ComesIn c regions borders current (next_state (unnamed_in file board g) s read).pc

-- no region is current before the first unit
abbrev pub StartsAtBorder : Type 0
StartsAtBorder =
    (file : List ℕ) (board : Board) (g : Graph) (c : Code) (regions : List ℕ) (borders : List Bool)
    → IsAccepted file board g → IsCode (view_in file) c → TellsBorders c regions borders
    → ComesIn c regions borders 0 (view_in file).entry

-- ---- addresses

-- `these` are objects that may be overlaid
abbrev pub BordersAreFree : Type 0
BordersAreFree =
    (file : List ℕ) (board : Board) (g : Graph) (c : Code) (regions : List ℕ) (borders : List Bool)
    (these : ℕ → Bool) (s : SourceState) (b : ℕ)
    → IsAccepted file board g → IsCode (view_in file) c → IsHeld c g s
    → StandsThere c s.pc b 0 → is_border borders b ≡ true
    → ((o : ℕ) → these o ≡ true → MayBeOverlaid (λ d x. LiveAt c x d 0) c g regions borders o)
    → StateNamesNone these (live_at c s.pc) s
