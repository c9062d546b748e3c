use Rattle.std.proofs.Common.{◌+◌, ◌-◌, ◌/◌}
use Rattle.elf_reader.specs.File.{plain_view}
use Rattle.elf_reader.specs.Loaded.{section_at}
use Rattle.code_blocks.proofs.StepLemmas.{IsWalked}
use Rattle.code_blocks.proofs.walking.walk_in.Given as goal

abbrev pub invariant-loop-i : goal.invariant-loop-i
invariant-loop-i l =
    IsWalked (plain_view l.file.view.now) l.start (((section_at (plain_view l.file.view.now) l.k).addr + (section_at (plain_view l.file.view.now) l.k).size - l.start) / 4) l.i l.units.items
