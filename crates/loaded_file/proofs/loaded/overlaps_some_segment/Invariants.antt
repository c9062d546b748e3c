use Rattle.std.proofs.Common.{◌≡◌, false}
use Rattle.list_checks.specs.Tests.{any_below}
use Rattle.elf_reader.specs.File.{plain_view}
use Rattle.elf_reader.specs.Loaded.{overlaps_segment}
use Rattle.loaded_file.proofs.loaded.overlaps_some_segment.Given as goal

abbrev pub invariant-loop-h : goal.invariant-loop-h
invariant-loop-h l = any_below (overlaps_segment (plain_view l.view) l.g l.section.offset l.section.size) l.h ≡ false
