use Rattle.std.proofs.Common.{◌<◌, length, arith}
use Rattle.std.proofs.lemmas.List.{length-map}
use Rattle.elf_reader.specs.File.{plain_view}
use Rattle.board_config.specs.Board.{plain_texts}
use Rattle.region_former.specs.Listing.{list_fault}
use Rattle.region_former.specs.Listed.{plain_lists}
use Rattle.region_former.proofs.ListingLemmas.{tells_first}
use Rattle.region_former.proofs.listing.take_lists.Goals as goal

pub returns-in-Err-clause-fault : goal.returns-in-Err-clause-fault
returns-in-Err-clause-fault c =
    let lists = plain_lists c.args.lists.now in
    let functions = c.args.names.now.code.now.functions.items in
    let count = length-map c.args.lists.now plain_texts in
    let below : c.loop-i.i < length lists = omega (arith, count, c.loop-i-test.true) in
    tells_first (list_fault (plain_view c.args.names.now.view.now) functions lists) (length lists) c.loop-i.i c.in-Err.fault below c.loop-i.invariant.none c.in-Err.ensures.fault
