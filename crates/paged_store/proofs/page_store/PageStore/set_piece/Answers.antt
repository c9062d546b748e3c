use Rattle.std.proofs.Common.{arith}
use Rattle.paged_store.proofs.Paging.{paged_bytes-piece, page_inside, zeros_stay}
use Rattle.paged_store.proofs.page_store.PageStore.set_piece.Goals as goal

pub place-place-requires : goal.place-place-requires
place-place-requires c = omega (arith, page_inside c.args.self.now.directory.items _ c.requires.page)

pub invariant_of-self-clause-zero_page : goal.invariant_of-self-clause-zero_page
invariant_of-self-clause-zero_page c =
    let old = c.args.self.now in
    rw c.put_piece.ensures.items (zeros_stay old.bytes.items c.args.piece.now c.place-place.result (omega arith) (omega arith) old.zero_page)

pub returns-clause-bytes : goal.returns-clause-bytes
returns-clause-bytes c =
    let old = c.args.self.now in
    rw c.put_piece.ensures.items
    (paged_bytes-piece old.directory.items old.bytes.items c.args.piece.now c.args.at c.place-place.result old.disjoint c.requires.page c.requires.inside c.place-place.ensures.place (omega arith))
