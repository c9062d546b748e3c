-- A file to which a segment may be added, and one that is written over it.
use Rattle.std.specs.Prelude.{◌≡◌, ℕ, ◌≤◌, List, map, Some, None}
use Rattle.elf_reader.specs.Layout.{program_header_count}
use Rattle.elf_reader.specs.File.{PlainView, view_in}
use Rattle.object_graph.specs.declared.parts.Graph.{Graph}
use Rattle.elf_writer.specs.declared.parts.SymbolMove.{SymbolMove}
use Rattle.elf_writer.specs.Parts.{NewSegment}
use Rattle.elf_writer.specs.Written.{written}
use Rattle.elf_writer.specs.View.{written_view}
use Rattle.elf_writer.specs.Conditions.{HasWords}
use Rattle.board_config.specs.declared.board.Board.{Board}
use Rattle.result_laws.specs.HomeLaws.{IsAccepted}
use Rattle.relink_core.specs.Faults.{headers_fault, least_patch}
use Rattle.relink_core.specs.Making.{patch_of}

-- an accepted file, with room for a program header more, and a patch range with room for the start stub
pub record IsExtendable (file : List ℕ) (board : Board) (g : Graph) : Type 0 where
  pub accepted : IsAccepted file board g
  pub headers : headers_fault (program_header_count file) ≡ None
  pub patch : least_patch board.fence_i ≤ board.patch.size

-- a file is written over that of a view, with words at addresses, moved symbols and a segment, whose numbers fit into words
pub record IsWrittenOf (v : PlainView) (padded : List (ℕ × ℕ)) (moves : List SymbolMove) (s : NewSegment) (out : List ℕ) : Type 0 where
  pub bytes : out ≡ written v (map (patch_of v) padded) (Some s) moves
  pub reads : view_in out ≡ written_view v (map (patch_of v) padded) (Some s) moves
  pub fit : HasWords (Some s) moves
