use Rattle.std.proofs.Common.{◌≡◌, None}
use Rattle.list_checks.specs.First.{first_below}
use Rattle.elf_reader.specs.File.{plain_view}
use Rattle.region_former.specs.Naming.{named_by}
use Rattle.region_former.proofs.naming.function_named.Given as goal

abbrev pub invariant-loop-k : goal.invariant-loop-k
invariant-loop-k l = first_below (named_by (plain_view l.view) l.code.functions.items l.name) l.k ≡ None
