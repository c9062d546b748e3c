use Rattle.std.proofs.Common.{arith}
use Rattle.paged_store.proofs.Paging.{room_at}
use Rattle.paged_store.proofs.page_store.PageStore.set_word_anew.Goals as goal

pub unwrap-requires : goal.unwrap-requires
unwrap-requires c =
    c.set.ensures.fits (room_at c.room.new.self.directory.items c.args.at 4 0 c.args.at c.in_ok-room.ensures.ok (omega arith) (omega arith))

pub unwrap-requires-3 : goal.unwrap-requires-3
unwrap-requires-3 c =
    c.set-3.ensures.fits (c.set-2.ensures.grows _ (c.set.ensures.grows _ (c.in_ok-room.ensures.ok 2 (omega arith))))

pub unwrap-requires-4 : goal.unwrap-requires-4
unwrap-requires-4 c =
    c.set-4.ensures.fits (c.set-3.ensures.grows _ (c.set-2.ensures.grows _ (c.set.ensures.grows _ (c.in_ok-room.ensures.ok 3 (omega arith)))))
