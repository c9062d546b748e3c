-- A result keeps the meaning of a program: on the flat machine it does what the program does on the machine
-- whose objects have no addresses.
use Rattle.std.specs.Prelude.{◌≡◌, ℕ, ◌+◌, ◌*◌, List, None}
use Rattle.elf_reader.specs.File.{view_in}
use Rattle.elf_reader.specs.Loadable.{AreBytes}
use Rattle.board_config.specs.Board.{IsLawful}
use Rattle.board_config.specs.declared.board.Board.{Board}
use Rattle.object_graph.specs.Graphs.{IsGraph}
use Rattle.object_graph.specs.declared.parts.Graph.{Graph}
use Rattle.object_machine.specs.State.{SourceState}
use Rattle.object_machine.specs.Paired.{at_start, PairedSteps}
use Rattle.simulation.specs.Laws.{Keeps}
use Rattle.result_laws.specs.HomeLaws.{program_in, source_start, file_start}
use Rattle.result_laws.specs.Absolute.{IsAbsolute}
use Rattle.result_laws.specs.ResultLaws.{most_steps, KeepsRuns}
use Rattle.relink_core.specs.Faults.{analyse_fault}

-- What a program does on an input in `n` paired steps, its result does in at most `n + 1` times `most_steps` steps, and
-- in no fewer than `n` where the program goes on: it writes the same bytes, and exits with the same code, traps or goes
-- on as the program does. Nothing is said of a run that ends in an address fault.
abbrev pub KeepsPaired : List ℕ → List ℕ → Board → Type 0
KeepsPaired file out board =
    (g : Graph) (input : List ℕ) (n : ℕ) (s : SourceState)
    → IsGraph (view_in file) board g → AreBytes input
    → PairedSteps (program_in file board g) n (source_start file board g input) at_start s
    → Keeps n ((n + 1) * most_steps board) s (file_start out board input)

-- where the code makes addresses by absolute relocations alone, that is every run
abbrev pub AbsoluteKeepsRuns : Type 0
AbsoluteKeepsRuns =
    (file out : List ℕ) (board : Board) → IsAbsolute (view_in file) → KeepsPaired file out board → KeepsRuns file out board

-- where no check of the analysis fails, a file that is handed on as it is keeps its own meaning
abbrev pub UnmovedFileKeeps : Type 0
UnmovedFileKeeps =
    (file : List ℕ) (board : Board) → AreBytes file → IsLawful board → analyse_fault file board ≡ None
    → KeepsPaired file file board
