use Rattle.std.proofs.Common.{◌≡◌, ◌<◌, length, add-one, arith}
use Rattle.elf_reader.specs.File.{plain_view}
use Rattle.region_former.specs.Listing.{list_at, name_fault}
use Rattle.region_former.specs.Listed.{plain_lists}
use Rattle.region_former.proofs.ListingLemmas.{tells_first, listed_whole}
use Rattle.region_former.proofs.listing.take_list.Goals as goal

pub returns-in-Err-clause-fault : goal.returns-in-Err-clause-fault
returns-in-Err-clause-fault c =
    let lists = plain_lists c.args.lists.now in
    let functions = c.args.names.now.code.now.functions.items in
    let below : c.loop-j.j < length (list_at lists c.args.i) = omega (arith, c.loop-j-test.true, c.names_in-j-end.ensures) in
    tells_first (name_fault (plain_view c.args.names.now.view.now) functions lists c.args.i) (length (list_at lists c.args.i)) c.loop-j.j c.in-Err.fault below c.loop-j.invariant.none c.in-Err.ensures.fault

pub returns-clause-listed : goal.returns-clause-listed
returns-clause-listed c =
    let lists = plain_lists c.args.lists.now in
    let whole : c.loop-j.j ≡ length (list_at lists c.args.i) = omega (arith, c.loop-j-test.false, c.loop-j.auto.j-end, c.names_in-j-end.ensures) in
    rw add-one (listed_whole (plain_view c.args.names.now.view.now) c.args.names.now.code.now.functions.items lists c.args.i c.loop-j.j c.loop-j.regions whole c.loop-j.invariant.listed)
