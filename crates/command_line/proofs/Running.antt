-- A run of a view is a run of its file.
use Rattle.std.proofs.Common.{◌≡◌, ℕ, List, None, refl, subst}
use Rattle.elf_reader.specs.File.{PlainSegment}
use Rattle.elf_reader.specs.Faults.{first_fault}
use Rattle.board_config.specs.Keys.{first_key}
use Rattle.board_config.specs.declared.board.Range.{Range}
use Rattle.flat_machine.specs.Start.{start_of}
use Rattle.command_line.specs.RunFile.{RunsFrom, first_command_fault}

pub ran_of_view : (entry entry' : ℕ) (segments segments' : List PlainSegment) (map : List Range) (input : List ℕ) (steps : ℕ) (output line : List ℕ)
    → entry ≡ entry' → segments ≡ segments'
    → RunsFrom (start_of entry segments map input) steps output line → RunsFrom (start_of entry' segments' map input) steps output line
ran_of_view entry entry' segments segments' map input steps output line same_entry same_segments ran =
    subst (λ (e : ℕ). RunsFrom (start_of e segments' map input) steps output line) same_entry
    (subst (λ (s : List PlainSegment). RunsFrom (start_of entry s map input) steps output line) same_segments ran)

pub nothing_rejected : (board file : List ℕ) → first_key board ≡ None → first_fault file ≡ None → first_command_fault board file ≡ None
nothing_rejected board file no_key no_fault = rw (no_key, no_fault) refl
