-- What `compare` tells of a file and a file that it was relinked to, a board and an input.
use Rattle.std.specs.Prelude.{◌≡◌, ◌⊎◌, ℕ, List, [], ◌∷◌, ◌++◌, codes, Option, Some, None}
use Rattle.elf_reader.specs.File.{view_in}
use Rattle.elf_reader.specs.Faults.{first_fault}
use Rattle.elf_reader.specs.declared.fault.ElfFault.{ElfFault}
use Rattle.board_config.specs.declared.board.Board.{Board}
use Rattle.object_graph.specs.Graphs.{IsGraph}
use Rattle.object_graph.specs.declared.parts.Graph.{Graph}
use Rattle.object_machine.specs.declared.events.Outcome.{Outcome}
use Rattle.compare_runner.specs.Laws.{ComparesFiles}
use Rattle.compare_runner.specs.declared.comparing.Comparison.{Comparison}
use Rattle.compare_runner.specs.declared.comparing.Comparison.TheVariants.{Same, Differs, SourceFault}
use Rattle.command_language.specs.FaultLine.{Parts, elf_parts, differs_parts, source_parts, parts_of}
use Rattle.command_line.specs.Analysed.{Accepts, ReportsAnalysed}
use Rattle.printed_lines.specs.Endings.{IsAddressFault, ending_text}
use Rattle.command_language.specs.declared.faults.CommandFault.{CommandFault}
use Rattle.command_language.specs.declared.faults.CommandFault.TheVariants as command_fault

-- the comparison of both, for the board's steps of the program
pub record Compared (file relinked : List ℕ) (board : Board) (input : List ℕ) (c : Comparison) : Type 0 where
  pub graph : Graph
  pub is_graph : IsGraph (view_in file) board graph
  pub compares : ComparesFiles file relinked board graph input board.steps c

-- `same`, and the line that tells how the program stands
abbrev pub same_text : Outcome → List ℕ
same_text outcome = codes "same\n" ++ (ending_text outcome ++ 10 ∷ [])

-- both do the same, and the lines tell so
pub record ComparesTo (file relinked board_text input text : List ℕ) : Type 0 where
  pub board : Board
  pub accepts : Accepts board_text file board
  pub sound : first_fault relinked ≡ None
  pub outcome : Outcome
  pub compared : Compared file relinked board input (Same outcome)
  pub text_is : text ≡ same_text outcome

-- what is told of a comparison that is rejected
abbrev pub told_of : Comparison → Option Parts
told_of (Same outcome) = None
told_of (Differs at) = Some (differs_parts at)
told_of (SourceFault pc why) = Some (source_parts pc why)

-- what is told of the first fault, if there is one: those of the board and the file come first, then those of the
-- relinked file, and the comparison is last
pub data ReportsCompared (board_text file relinked input : List ℕ) (told : Option Parts) : Type 0 where
  of_files : (parts : Parts) → ReportsAnalysed board_text file parts → told ≡ Some parts
      → ReportsCompared board_text file relinked input told
  of_relinked : (board : Board) (fault : ElfFault) → Accepts board_text file board → first_fault relinked ≡ Some fault
      → told ≡ Some (elf_parts fault) → ReportsCompared board_text file relinked input told
  of_comparison : (board : Board) (c : Comparison) → Accepts board_text file board → first_fault relinked ≡ None
      → Compared file relinked board input c → told ≡ told_of c
      → ReportsCompared board_text file relinked input told

-- a computation on the inputs was rejected: for want of memory, or by the first fault
abbrev pub RejectsCompared : List ℕ → List ℕ → List ℕ → List ℕ → CommandFault → Type 0
RejectsCompared board_text file relinked input fault =
    (fault ≡ command_fault.Memory) ⊎ ReportsCompared board_text file relinked input (Some (parts_of fault))

-- ---- a comparison alone

-- where both do the same, it is no address fault that they do
abbrev pub HasEnding : Comparison → Type 0
HasEnding (Same outcome) = IsAddressFault outcome → ⊥
HasEnding (Differs at) = Unit {0}
HasEnding (SourceFault pc why) = Unit {0}

abbrev pub AnswersComparison : Comparison → List ℕ → Type 0
AnswersComparison (Same outcome) text = text ≡ same_text outcome
AnswersComparison (Differs at) text = ⊥
AnswersComparison (SourceFault pc why) text = ⊥

abbrev pub RejectsComparison : Comparison → CommandFault → Type 0
RejectsComparison c fault = (fault ≡ command_fault.Memory) ⊎ (told_of c ≡ Some (parts_of fault))
