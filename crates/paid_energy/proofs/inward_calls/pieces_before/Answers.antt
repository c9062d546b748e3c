use Rattle.std.proofs.Common.{rules}
use Rattle.std.proofs.lemmas.List.Sorted.{IsPartitionPoint-from_clause}
use Rattle.block_splitter.specs.declared.piece.Piece.{Piece}
use Rattle.block_splitter.specs.Pieces.{range_of}
use Rattle.relink_core.specs.Copies.{comes_before}
use Rattle.relink_core.proofs.PieceSearch.{pieces_rise}
use Rattle.paid_energy.proofs.inward_calls.pieces_before.Goals as goal

pub returns : goal.returns
returns c =
    IsPartitionPoint-from_clause (λ (p : Piece). comes_before (range_of p) c.args.range.now) c.args.pieces.now c.partition_point.result c.partition_point.ensures.partitioned
    (pieces_rise c.args.pieces.now c.args.range.now c.requires) (λ a r q k. search rules)
