use Rattle.std.proofs.Common.{arith, rules}
use Rattle.std.proofs.lemmas.List.{length-drop}
use Rattle.hex_image.specs.Text.{pieces_of}
use Rattle.hex_image.proofs.TextLemmas.{text_after_piece, piece_before}
use Rattle.hex_image.proofs.writing.push_block.Goals as goal

pub loop-rest-init : goal.loop-rest-init
unfolding pieces_of
loop-rest-init c = search rules

pub loop-rest-preserved : goal.loop-rest-preserved
loop-rest-preserved c =
    let first = c.args.block.now.start in
    let address = c.loop-rest.address in
    let bytes = c.loop-rest.rest.now in
    let size = c.min-size.result in
    let until = c.until_cut.ensures in
    let pieces = piece_before first address c.until_cut.result size bytes until.some (search rules) (search rules) until.inside until.cut in
    record {
      reached = omega arith;
      placed = rw c.split_at.ensures.back (omega (arith, length-drop size bytes));
      written = λ more. rw c.split_at.ensures.back (text_after_piece c.loop-rest.text c.push_piece.new.text c.args.text.now first address size bytes _ c.loop-rest.invariant.written (rw c.split_at.ensures.front at c.in_ok-push_piece.ensures) pieces more);
    }
