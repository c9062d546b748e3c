use Rattle.std.proofs.Common.{◌≡◌, None}
use Rattle.list_checks.specs.First.{first_below}
use Rattle.elf_reader.specs.File.{plain_view}
use Rattle.region_former.specs.Listing.{list_fault}
use Rattle.region_former.specs.Listed.{plain_lists, AreListed}
use Rattle.region_former.proofs.listing.take_lists.Given as goal

abbrev pub invariant-loop-i : goal.invariant-loop-i
invariant-loop-i l = record {
  none : first_below (list_fault (plain_view l.names.view.now) l.names.code.now.functions.items (plain_lists l.lists)) l.i ≡ None;
  listed : AreListed (plain_view l.names.view.now) l.names.code.now.functions.items (plain_lists l.lists) l.i 0 l.regions;
}
