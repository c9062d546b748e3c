use Rattle.std.proofs.Common.{◌≡◌, ◌+◌, drop, length}
use Rattle.rv32im.specs.Memory.{put_bytes}
use Rattle.paged_store.specs.Room.{HasRoom, RoomGrows}
use Rattle.paged_store.proofs.byte_store.ByteStore.set_bytes.Given as goal

-- what is left to put leads to what is wanted
abbrev pub invariant-loop-i : goal.invariant-loop-i
invariant-loop-i g l = record {
  bytes : put_bytes (g.Self.ByteStore.byte_at l.self) (l.at + l.i) (drop l.i l.bytes) ≡ put_bytes (g.Self.ByteStore.byte_at l.fn.self) l.at l.bytes;
  room : HasRoom (g.Self.ByteStore.has_room l.self) l.at (length l.bytes);
  grows : RoomGrows (g.Self.ByteStore.has_room l.fn.self) (g.Self.ByteStore.has_room l.self);
}
