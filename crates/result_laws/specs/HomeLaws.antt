-- What holds of an accepted file that is loaded as it is.
use Rattle.std.specs.Prelude.{◌≡◌, ℕ, ◌*◌, List, None}
use Rattle.elf_reader.specs.File.{PlainView, view_in}
use Rattle.elf_reader.specs.Faults.{first_fault}
use Rattle.elf_reader.specs.Loadable.{AreBytes}
use Rattle.board_config.specs.Board.{mapped_ranges, IsLawful}
use Rattle.board_config.specs.declared.board.Board.{Board}
use Rattle.flat_machine.specs.State.{State}
use Rattle.flat_machine.specs.Start as flat_start
use Rattle.object_graph.specs.LayoutFaults.{layout_fault}
use Rattle.object_graph.specs.Graphs.{IsGraph}
use Rattle.object_graph.specs.declared.parts.Graph.{Graph}
use Rattle.code_blocks.specs.Blocks.{code_fault}
use Rattle.object_machine.specs.Program.{Program, program_of}
use Rattle.object_machine.specs.State.{SourceState}
use Rattle.object_machine.specs.Start.{start_of}
use Rattle.object_machine.specs.Paired.{at_start, PairedSteps}
use Rattle.simulation.specs.Setups.{Setup, Sound}
use Rattle.simulation.specs.Relation.{Alike}
use Rattle.simulation.specs.Rules.{all_live}
use Rattle.simulation.specs.Laws.{IsUnit, AllAtHome, Keeps}
use Rattle.simulation.specs.Unnamed.{unnamed}
use Rattle.result_laws.specs.Home.{home_setup}

-- no check of the file, of its layout on a board or of its code fails, and a graph is its graph
pub record IsAccepted (file : List ℕ) (board : Board) (g : Graph) : Type 0 where
  pub bytes : AreBytes file
  pub none : first_fault file ≡ None
  pub lawful : IsLawful board
  pub layout : layout_fault (view_in file) board ≡ None
  pub graph : IsGraph (view_in file) board g
  pub code : code_fault (view_in file) ≡ None

-- its program
abbrev pub program_in : List ℕ → Board → Graph → Program
program_in file board g = program_of (view_in file) board g

-- the same program with all upper parts made by a LUI, as in a result in which something moves
abbrev pub unnamed_in : List ℕ → Board → Graph → Program
unnamed_in file board g = unnamed (program_in file board g)

-- its setup
abbrev pub setup_in : List ℕ → Board → Graph → Setup
setup_in file board g = home_setup (view_in file) board g

-- the setup meets what the simulation asks of one
abbrev pub HomeIsSound : Type 0
HomeIsSound =
    (file : List ℕ) (board : Board) (g : Graph) → IsAccepted file board g
    → Sound (program_in file board g) (setup_in file board g) 0

-- all units that a run may reach stand at their homes
abbrev pub UnitsAreHome : Type 0
UnitsAreHome =
    (file : List ℕ) (board : Board) (g : Graph) → IsAccepted file board g
    → AllAtHome (program_in file board g) (setup_in file board g) 0

-- where both machines start
abbrev pub source_start : List ℕ → Board → Graph → List ℕ → SourceState
source_start file board g input = start_of (view_in file) (program_in file board g) g input

abbrev pub file_start : List ℕ → Board → List ℕ → State
file_start file board input =
    flat_start.start_of (view_in file).entry (view_in file).segments (mapped_ranges board) input

-- they start alike, and at a unit
abbrev pub StartIsAlike : Type 0
StartIsAlike =
    (file : List ℕ) (board : Board) (g : Graph) (input : List ℕ) → IsAccepted file board g → AreBytes input
    → Alike (program_in file board g) (setup_in file board g) all_live 0 (view_in file).entry
    (source_start file board g input) at_start (file_start file board input)
    × IsUnit (program_in file board g) (view_in file).entry

-- the flat machine keeps what `n` paired steps from the start do
abbrev pub FileKeeps : Type 0
FileKeeps =
    (file : List ℕ) (board : Board) (g : Graph) (input : List ℕ) (n : ℕ) (s : SourceState)
    → IsAccepted file board g → AreBytes input
    → PairedSteps (program_in file board g) n (source_start file board g input) at_start s
    → Keeps n (n * 2) s (file_start file board input)

-- ---- one graph

-- two graphs say the same
pub record SayTheSame (g h : Graph) : Type 0 where
  pub grain : g.grain ≡ h.grain
  pub objects : g.objects.items ≡ h.objects.items
  pub sites : g.sites.items ≡ h.sites.items
  pub data_words : g.data_words.items ≡ h.data_words.items
  pub code : g.code.items ≡ h.code.items

-- all graphs of a view on a board do
abbrev pub OneGraph : Type 0
OneGraph =
    (v : PlainView) (board : Board) (g h : Graph) → IsGraph v board g → IsGraph v board h
    → SayTheSame g h

-- so a file has one program on a board, and starts in one state with an input
abbrev pub OneRun : Type 0
OneRun =
    (file : List ℕ) (board : Board) (g h : Graph) (input : List ℕ)
    → IsGraph (view_in file) board g → IsGraph (view_in file) board h
    → (program_in file board g ≡ program_in file board h)
    × (source_start file board g input ≡ source_start file board h input)
