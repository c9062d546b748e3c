-- Which relocations of a view are of a rewritable kind, one by one.
use Rattle.std.specs.Prelude.{ℕ, Bool, List, length}
use Rattle.list_checks.specs.Tests.{marks_below}
use Rattle.elf_reader.specs.File.{PlainView}
use Rattle.object_graph.specs.Rewritable.{is_rewritable_kind}

-- whether each of the first n relocations is
abbrev pub rewritable_below : PlainView → ℕ → List Bool
rewritable_below v n = marks_below (is_rewritable_kind v) n

-- whether each relocation is
abbrev pub all_rewritable : PlainView → List Bool
all_rewritable v = rewritable_below v (length v.relocs)
