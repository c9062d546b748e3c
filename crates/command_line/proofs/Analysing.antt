-- A board and a file that is analysed for it: what rejects them, and what a run of the file's program asks.
use Rattle.std.proofs.Common.{◌≡◌, ◌⊎◌, inl, inr, ℕ, List, Some, None, refl}
use Rattle.elf_reader.specs.File.{plain_view, view_in}
use Rattle.board_config.specs.Board.{IsBoard}
use Rattle.board_config.specs.Faults.{plain_fault}
use Rattle.board_config.specs.Keys.{first_key}
use Rattle.board_config.specs.declared.board.Board.{Board}
use Rattle.board_config.specs.declared.board.BoardFault.{BoardFault}
use Rattle.board_config.specs.declared.board.BoardFault.TheVariants as board
use Rattle.loaded_file.proofs.WordLemmas.{same_view}
use Rattle.relink_core.specs.Faults.{IsFirst}
use Rattle.relink_core.specs.declared.fault.AnalyseFault.{AnalyseFault}
use Rattle.relink_core.specs.declared.fault.AnalyseFault.TheVariants as analyse
use Rattle.command_language.specs.FaultLine.{parts_of, board_command_fault, analyse_command_fault}
use Rattle.command_line.specs.Analysed.{IsOpened, RejectsAnalysed, of_board, of_analysis}
use Rattle.command_line.specs.ProgramRun.{RejectsProfiled}
use Rattle.command_line.specs.ProgramRun as program
use Rattle.command_line.specs.CompareFiles.{RejectsCompared}
use Rattle.command_line.specs.CompareFiles as compared
use Rattle.command_line.specs.declared.opened.Opened.{Opened}
use Rattle.command_language.specs.declared.faults.CommandFault.{CommandFault}
use Rattle.command_language.specs.declared.faults.CommandFault.TheVariants as command_fault

-- the view of a file that was opened
abbrev pub opened_view : (board_text file : List ℕ) (o : Opened) → IsOpened board_text file o → plain_view o.analysis.view ≡ view_in file
opened_view board_text file o is = same_view file o.analysis.view is.analysed.is_file

-- ---- faults

board_told : (board_text file : List ℕ) (fault : BoardFault) → (fault ≡ board.Memory) ⊎ (first_key board_text ≡ Some (plain_fault fault))
    → (fault ≡ board.Memory → ⊥) → RejectsAnalysed board_text file (command_fault.Board fault)
board_told board_text file fault (inl memory) other = absurd (other memory)
board_told board_text file fault (inr first) other = inr (of_board (plain_fault fault) first refl)

pub board_rejected : (board_text file : List ℕ) (fault : BoardFault) → (fault ≡ board.Memory) ⊎ (first_key board_text ≡ Some (plain_fault fault))
    → RejectsAnalysed board_text file (board_command_fault fault)
board_rejected board_text file board.NotToml told = board_told board_text file board.NotToml told (λ e. cc)
board_rejected board_text file (board.Missing key) told = board_told board_text file (board.Missing key) told (λ e. cc)
board_rejected board_text file (board.WrongType key) told = board_told board_text file (board.WrongType key) told (λ e. cc)
board_rejected board_text file (board.OutOfRange key) told = board_told board_text file (board.OutOfRange key) told (λ e. cc)
board_rejected board_text file (board.UnknownKey name) told = board_told board_text file (board.UnknownKey name) told (λ e. cc)
board_rejected board_text file board.Memory told = inl refl

module _ (board_text file : List ℕ) (b : Board) (is : IsBoard board_text b) (sound : first_key board_text ≡ None) where
  analysis_told : (fault : AnalyseFault) → (fault ≡ analyse.Memory) ⊎ IsFirst file b fault
      → (fault ≡ analyse.Memory → ⊥) → RejectsAnalysed board_text file (command_fault.Analyse fault)
  analysis_told fault (inl memory) other = absurd (other memory)
  analysis_told fault (inr first) other = inr (of_analysis b fault is sound first refl)

  pub analysis_rejected : (fault : AnalyseFault) → (fault ≡ analyse.Memory) ⊎ IsFirst file b fault
      → RejectsAnalysed board_text file (analyse_command_fault fault)
  analysis_rejected (analyse.Elf fault) told = analysis_told (analyse.Elf fault) told (λ e. cc)
  analysis_rejected (analyse.Graph fault) told = analysis_told (analyse.Graph fault) told (λ e. cc)
  analysis_rejected (analyse.PatchTooSmall need have) told = analysis_told (analyse.PatchTooSmall need have) told (λ e. cc)
  analysis_rejected (analyse.Code fault) told = analysis_told (analyse.Code fault) told (λ e. cc)
  analysis_rejected (analyse.Region fault) told = analysis_told (analyse.Region fault) told (λ e. cc)
  analysis_rejected analyse.Memory told = inl refl

-- it rejects a command that runs the program, and one that compares it
pub profiled_rejected : (board_text file input : List ℕ) (fault : CommandFault) → RejectsAnalysed board_text file fault → RejectsProfiled board_text file input fault
profiled_rejected board_text file input fault (inl memory) = inl memory
profiled_rejected board_text file input fault (inr told) = inr (program.of_files (parts_of fault) told refl)

pub compared_rejected : (board_text file relinked input : List ℕ) (fault : CommandFault) → RejectsAnalysed board_text file fault
    → RejectsCompared board_text file relinked input fault
compared_rejected board_text file relinked input fault (inl memory) = inl memory
compared_rejected board_text file relinked input fault (inr told) = inr (compared.of_files (parts_of fault) told refl)
