use Rattle.command_files.proofs.Puttings.{put_rest, put_up_to}
use Rattle.command_files.proofs.printing.put_text.Goals as goal

pub returns-in-Err : goal.returns-in-Err
returns-in-Err g c =
    put_up_to c.args.text.now c.deref-part-items.result.now c.loop-part.part-index c.part-item.result _ _ _
    c.deref-part-items.ensures.value c.loop-part-test.true c.part-item.is c.loop-part.invariant c.in-Err.ensures

pub returns : goal.returns
returns g c =
    put_rest c.args.text.now c.deref-part-items.result.now c.deref.result.now c.loop-part.part-index _ _ _ c.put_piece.result
    c.deref-part-items.ensures.value c.deref.ensures.value c.loop-part-test.false c.loop-part.invariant c.put_piece.ensures
