use Rattle.std.proofs.Common.{◌≡◌, false}
use Rattle.list_checks.specs.Tests.{any_below}
use Rattle.elf_reader.specs.File.{plain_view}
use Rattle.elf_reader.specs.Loaded.{loads}
use Rattle.loaded_file.proofs.loaded.is_loaded.Given as goal

abbrev pub invariant-loop-g : goal.invariant-loop-g
invariant-loop-g l = any_below (loads (plain_view l.view) l.k) l.g ≡ false
