use Rattle.std.proofs.Common.{ℕ, ◌+◌, ◌-◌, List, Option, length, length-drop, take, drop, arith}
use Rattle.std.specs.Io.KnownBytes.{Appends}
use Rattle.std.proofs.KnownBytes.{Appends-trans, Appends-kept}
use Rattle.std.proofs.Math.Seq.{take-add}
use Rattle.std.proofs.lemmas.List.{take_rest, length-take}
use Rattle.shelf_io.proofs.output.put_all.Goals as goal
use Rattle.shelf_io.proofs.output.put_all.Goals.{in-Ok, in-Err}

-- the writer took the front of a piece, and then n bytes of the rest
Appends-more : (a b c : Option (List ℕ)) (piece : List ℕ) (done n : ℕ) → Appends a b (take done piece) → Appends b c (take n (take (length piece - done) (drop done piece))) → Appends a c (take (done + n) piece)
Appends-more a b c piece done n front next =
    rw (take-add done n piece) (Appends-trans a b c (take done piece) (take n (drop done piece)) front (rw (take_rest piece done) at next))

pub loop-preserved : goal.loop-preserved
loop-preserved g c =
    let contents = g.W.Write.contents in
    let before = contents c.args.out.now in
    let now = contents c.loop.out in
    let after = contents c.write.new.self in
    let front = c.loop.invariant.taken in
    elim c.match-write.branch [
      | in-Ok w ↦ rw w.done-is record {
        within = omega (arith, w.in-Ok.ensures.bound, length-take {A = ℕ}, length-drop {A = ℕ});
        taken = Appends-more before now after c.args.piece.now c.loop.done w.in-Ok.taken front w.in-Ok.ensures.bytes;
      }
      | in-Err w ↦ rw w.done-is record { within = c.loop.invariant.within; taken = Appends-kept before now after (take c.loop.done c.args.piece.now) front w.in-Err.ensures.bytes }
    ]
