use Rattle.std.proofs.Common.{◌≡◌, ◌+◌, ◌≤◌, ◌++◌, vec_len}
use Rattle.std.specs.Vec.{vec_capacity}
use Rattle.rv32im.specs.Memory.{bytes_at}
use Rattle.paged_store.proofs.spans.append_span.Given as goal

-- the bytes so far stand at the end, and there is room for the rest
abbrev pub invariant-loop-i : goal.invariant-loop-i
invariant-loop-i g l = record {
  bytes : l.out.items ≡ l.fn.out.items ++ bytes_at (g.S.ByteStore.byte_at l.s) l.at l.i;
  room : vec_len l.out + l.n ≤ vec_capacity l.out + l.i;
}
