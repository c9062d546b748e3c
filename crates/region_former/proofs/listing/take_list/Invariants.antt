use Rattle.std.proofs.Common.{◌≡◌, None}
use Rattle.list_checks.specs.First.{first_below}
use Rattle.elf_reader.specs.File.{plain_view}
use Rattle.region_former.specs.Listing.{name_fault}
use Rattle.region_former.specs.Listed.{plain_lists, AreListed}
use Rattle.region_former.proofs.listing.take_list.Given as goal

abbrev pub invariant-loop-j : goal.invariant-loop-j
invariant-loop-j l = record {
  none : first_below (name_fault (plain_view l.names.view.now) l.names.code.now.functions.items (plain_lists l.lists) l.i) l.j ≡ None;
  listed : AreListed (plain_view l.names.view.now) l.names.code.now.functions.items (plain_lists l.lists) l.i l.j l.regions;
}
