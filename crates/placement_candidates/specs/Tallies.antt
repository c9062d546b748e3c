-- What is counted of pieces where there is overlay.
use Rattle.std.specs.Prelude.{◌≡◌, ℕ, ◌<◌, List, length, slice_index_or}
use Rattle.block_splitter.specs.declared.piece.Piece.{Piece}
use Rattle.energy_model.specs.Priced.{range}
use Rattle.energy_model.specs.Counts.{IsPieceCount}
use Rattle.energy_model.specs.Entering.{IsEnteringCount}
use Rattle.placement_candidates.specs.declared.measured.Measured.{Measured}
use Rattle.placement_candidates.specs.declared.tallies.PieceTally.{PieceTally}

-- what a piece ran, and what is counted of its blocks by which control enters a region
pub record IsTally (m : Measured) (p : Piece) (tally : PieceTally) : Type 0 where
  pub run : IsPieceCount m.code.now m.graph.now m.profile.now (range p.first p.last) tally.run
  pub entering : IsEnteringCount m.code.now m.graph.now m.profile.now m.regions.now.border.items (range p.first p.last) tally.entering

-- the same of the first `n` pieces
pub record AreTallies (m : Measured) (n : ℕ) (tallies : List PieceTally) : Type 0 where
  pub size : length tallies ≡ n
  pub each : (k : ℕ) (p : Piece) (t : PieceTally) → k < n → IsTally m (slice_index_or m.pieces.now k p) (slice_index_or tallies k t)
