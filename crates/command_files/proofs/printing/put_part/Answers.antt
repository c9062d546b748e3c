use Rattle.std.proofs.Common.{ℕ, List, subst}
use Rattle.shelf_io.specs.Sink.{PutAll}
use Rattle.command_files.proofs.Puttings.{put_next}
use Rattle.command_files.proofs.printing.put_part.Goals as goal

pub returns-in-Ok : goal.returns-in-Ok
returns-in-Ok g c =
    put_next c.args.part.now.before.items c.args.part.now.name.now _ _ _ _
    (subst (λ (bytes : List ℕ). PutAll bytes (g.K.Sink.view c.args.out.now) (g.K.Sink.view c.put_piece.new.out)) c.deref.ensures.value c.in-Ok.ensures)
    c.put_piece-in-Ok.ensures
