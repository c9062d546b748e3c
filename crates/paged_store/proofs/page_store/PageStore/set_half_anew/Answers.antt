use Rattle.std.proofs.Common.{arith}
use Rattle.paged_store.proofs.Paging.{room_at}
use Rattle.paged_store.proofs.page_store.PageStore.set_half_anew.Goals as goal

pub unwrap-requires : goal.unwrap-requires
unwrap-requires c =
    c.set.ensures.fits (room_at c.room.new.self.directory.items c.args.at 2 0 c.args.at c.in_ok-room.ensures.ok (omega arith) (omega arith))
