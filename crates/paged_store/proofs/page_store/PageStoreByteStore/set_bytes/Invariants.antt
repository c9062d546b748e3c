use Rattle.std.proofs.Common.{◌≡◌, ◌+◌, ◌-◌, ◌≤◌, drop, length}
use Rattle.rv32im.specs.Memory.{put_bytes}
use Rattle.paged_store.specs.Room.{HasRoom, RoomGrows}
use Rattle.paged_store.specs.Pages.{paged_bytes, has_page}
use Rattle.paged_store.proofs.page_store.PageStoreByteStore.set_bytes.Given as goal

-- what is left to put leads to what is wanted
abbrev pub invariant-loop-done : goal.invariant-loop-done
invariant-loop-done l = record {
  inside : l.done ≤ length l.bytes;
  bytes : put_bytes (paged_bytes l.self.directory.items l.self.bytes.items) (l.at + l.done) (drop l.done l.bytes) ≡ put_bytes (paged_bytes l.fn.self.directory.items l.fn.self.bytes.items) l.at l.bytes;
  room : HasRoom (has_page l.self.directory.items) l.at (length l.bytes);
  grows : RoomGrows (has_page l.fn.self.directory.items) (has_page l.self.directory.items);
}

abbrev pub decreases-loop-done : goal.decreases-loop-done
decreases-loop-done l = length l.initial.bytes - l.done
