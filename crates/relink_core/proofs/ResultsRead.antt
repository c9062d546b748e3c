-- A result is read but for its size: it is its file, or written over this.
use Rattle.std.proofs.Common.{◌≡◌, ◌∙◌, ℕ, nat_le, Bool, true, false, List, length, Some, None, refl, sym, ap, subst}
use Rattle.list_checks.specs.First.{◌or_else◌, unless}
use Rattle.elf_reader.specs.Layout.{program_header_count}
use Rattle.elf_reader.specs.File.{view_in}
use Rattle.elf_reader.specs.HeaderChecks.{capped}
use Rattle.elf_reader.specs.ProgramHeaderChecks.{memory_below, memory_fault}
use Rattle.elf_reader.specs.Faults.{first_fault}
use Rattle.elf_reader.specs.declared.fault.ElfFault.TheVariants.{OverLimit}
use Rattle.elf_writer.specs.Laws.{length_fault}
use Rattle.elf_writer.proofs.WrittenFaults.{written_faults}
use Rattle.board_config.specs.declared.board.Board.{Board}
use Rattle.object_graph.specs.declared.parts.Graph.{Graph}
use Rattle.result_laws.specs.ChosenPlacement.{ChosenPlacement}
use Rattle.relink_core.specs.Written.{placed_segment, IsWrittenFor}
use Rattle.relink_core.specs.Placed.{hands_on, moves}
use Rattle.relink_core.specs.ResultFaults.{IsOfSize, no_fault, too_long, too_large, ResultsAreRead}

-- what two checks of size tell
of_size : (short small : Bool) (bytes memory : ℕ) → IsOfSize (unless short (OverLimit 1 bytes) or_else unless small (OverLimit 4 memory))
of_size true true bytes memory = no_fault refl
of_size true false bytes memory = too_large memory refl
of_size false small bytes memory = too_long bytes refl

sizes : (out : List ℕ) → IsOfSize (length_fault out or_else memory_fault out)
sizes out =
    let total = memory_below out (program_header_count out) in
    of_size (nat_le (length out) 67108864) (nat_le total 16777216) (capped (length out)) (capped total)

written_is_read : (file : List ℕ) (board : Board) (g : Graph) (pl : ChosenPlacement) (words out : List ℕ) → first_fault file ≡ None → IsWrittenFor (view_in file) board g pl words out → IsOfSize (first_fault out)
written_is_read file board g pl words out none is =
    let v = view_in file in
    let fault : first_fault out ≡ length_fault out or_else memory_fault out =
    subst (λ (xs : List ℕ). first_fault xs ≡ length_fault xs or_else memory_fault xs) (sym is.bytes)
    (written_faults file is.patches (Some (placed_segment v board g pl words)) is.moves none is.writable is.fit) in
    subst IsOfSize (sym fault) (sizes out)

pub results_are_read : ResultsAreRead
results_are_read file out board g c t taken none (hands_on off items same) = no_fault (ap first_fault same ∙ none)
results_are_read file out board g c t taken none (moves some moved) =
    written_is_read file board g moved.pl moved.shows.words out none moved.written
