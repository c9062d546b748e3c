use Rattle.std.proofs.Common.{◌<◌, ◌+◌, ◌%◌, ◌/◌, arith}
use Rattle.paged_store.proofs.Paging.{room_of_pages, pages_of_room}
use Rattle.paged_store.proofs.page_store.PageStore.make_pages.Goals as goal

pub returns-in_err-make_page-clause-fits : goal.returns-in_err-make_page-clause-fits
returns-in_err-make_page-clause-fits c room =
    let inside : c.loop-k.k < (c.args.at % 4096 + c.args.n + 4095) / 4096 = omega arith in
    let some : 0 < c.args.n = omega arith in
    let page = c.loop-k.invariant.grows _ (pages_of_room c.args.self.now.directory.items c.args.at c.args.n c.loop-k.k some inside room) in
    let fails = c.in_err-make_page.ensures.fits page in cc

pub returns-clause-ok : goal.returns-clause-ok
returns-clause-ok c k h =
    room_of_pages c.loop-k.self.directory.items c.args.at c.args.n
    (λ j inside. c.loop-k.invariant.made j (omega arith)) k h
