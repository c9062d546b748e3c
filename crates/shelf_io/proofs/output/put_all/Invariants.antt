use Rattle.std.proofs.Common.{◌≤◌, length, take}
use Rattle.std.specs.Io.KnownBytes.{Appends}
use Rattle.shelf_io.proofs.output.put_all.Given as goal

-- so far the writer took the front of the piece
abbrev pub invariant-loop : goal.invariant-loop
invariant-loop g l = record {
  within : l.done ≤ length l.piece;
  taken : Appends (g.W.Write.contents l.fn.out) (g.W.Write.contents l.out) (take l.done l.piece);
}
