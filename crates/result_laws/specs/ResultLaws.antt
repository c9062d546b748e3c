-- What a result keeps of the runs of its program.
use Rattle.std.specs.Prelude.{ℕ, ◌+◌, ◌*◌, List}
use Rattle.elf_reader.specs.File.{view_in}
use Rattle.elf_reader.specs.Loadable.{AreBytes}
use Rattle.board_config.specs.declared.board.Board.{Board}
use Rattle.object_graph.specs.Graphs.{IsGraph}
use Rattle.object_graph.specs.declared.parts.Graph.{Graph}
use Rattle.object_machine.specs.State.{SourceState}
use Rattle.object_machine.specs.Runs.{Steps}
use Rattle.simulation.specs.Laws.{Keeps}
use Rattle.result_laws.specs.HomeLaws.{program_in, source_start, file_start}

-- How many steps of a result are enough for one of its program: those of the unit itself, of the pads and stubs
-- that lead to it, and of copying what moves out of the scratchpad and into it, where the region changes
abbrev pub most_steps : Board → ℕ
most_steps board = 12 * board.spm.size + 256

-- What a program does on an input in `n` steps, its result does in at most `n + 1` times `most_steps` steps, and in no
-- fewer than `n` where the program goes on: it writes the same bytes, and exits with the same code, traps or goes on as
-- the program does. Nothing is said of a run that ends in an address fault.
abbrev pub KeepsRuns : List ℕ → List ℕ → Board → Type 0
KeepsRuns file out board =
    (g : Graph) (input : List ℕ) (n : ℕ) (s : SourceState)
    → IsGraph (view_in file) board g → AreBytes input
    → Steps (program_in file board g) n (source_start file board g input) s
    → Keeps n ((n + 1) * most_steps board) s (file_start out board input)
