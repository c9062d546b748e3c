use Rattle.std.proofs.Common.{◌≡◌}
use Rattle.paged_store.specs.Entries.{bytes_of, has_entry}
use Rattle.paged_store.specs.Room.{HasRoom, RoomGrows}
use Rattle.paged_store.proofs.list_store.ListStoreByteStore.room.Given as goal

-- no byte changed, and the addresses so far have room
abbrev pub invariant-loop-k : goal.invariant-loop-k
invariant-loop-k l = record {
  bytes : bytes_of l.self.entries.items ≡ bytes_of l.fn.self.entries.items;
  room : HasRoom (has_entry l.self.entries.items) l.at l.k;
  grows : RoomGrows (has_entry l.fn.self.entries.items) (has_entry l.self.entries.items);
}
