use Rattle.std.proofs.Common.{◌≡◌, Bool}
use Rattle.std.specs.List.{list_any}
use Rattle.list_checks.specs.Tests.{any_below}
use Rattle.elf_reader.specs.File.{plain_view}
use Rattle.loaded_file.specs.Reaches.{passes_own}
use Rattle.loaded_file.specs.declared.reaches.Reach.{Reach}
use Rattle.loaded_file.proofs.reaches.own_reaches.Given as goal

abbrev pub invariant-loop-k : goal.invariant-loop-k
invariant-loop-k l =
    (asked : Reach → Bool) → list_any asked l.reaches.items ≡ any_below (passes_own l.kind (plain_view l.view) asked) l.k
