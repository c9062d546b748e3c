use Rattle.std.proofs.Common.{◌∙◌, arith}
use Rattle.paged_store.proofs.Puts.{put_bytes_more}
use Rattle.paged_store.proofs.Paging.{page_at}
use Rattle.paged_store.proofs.page_store.PageStoreByteStore.set_bytes.Goals as goal

pub set_piece-requires-clause-page : goal.set_piece-requires-clause-page
set_piece-requires-clause-page c =
    page_at c.loop-done.self.directory.items c.args.at _ c.loop-done.done _ c.loop-done.invariant.room (omega arith) (omega arith)

pub loop-done-preserved : goal.loop-done-preserved
loop-done-preserved c =
    record {
      inside = omega arith;
      bytes = put_bytes_more _ _ c.args.at c.loop-done.done c.min-count.result c.args.bytes.now (omega arith) c.set_piece.ensures.bytes ∙ c.loop-done.invariant.bytes;
      room = rw c.set_piece.ensures.directory c.loop-done.invariant.room;
      grows = rw c.set_piece.ensures.directory c.loop-done.invariant.grows;
    }
