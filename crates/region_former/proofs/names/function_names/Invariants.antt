use Rattle.std.proofs.Common.{◌≡◌, ℕ, List}
use Rattle.list_checks.specs.First.{first_below}
use Rattle.elf_reader.specs.File.{plain_view}
use Rattle.region_former.specs.Naming.{named_by}
use Rattle.region_former.specs.Named.{place_named}
use Rattle.region_former.proofs.names.function_names.Given as goal

abbrev pub invariant-loop-k : goal.invariant-loop-k
invariant-loop-k l = record {
  view : l.names.view.now ≡ l.view;
  code : l.names.code.now ≡ l.code;
  places : (name : List ℕ) → place_named l.names.places name ≡ first_below (named_by (plain_view l.view) l.code.functions.items name) l.k;
}
