-- The stubs of a result for a choice of both sides.
use Rattle.std.specs.Prelude.{◌≡◌, ℕ, ◌+◌, List, [], ◌∷◌, length, map}
use Rattle.list_checks.specs.Sorted.{collected}
use Rattle.object_graph.specs.declared.parts.Graph.{Graph}
use Rattle.code_blocks.specs.declared.parts.Code.{Code}
use Rattle.patch_code.specs.Serving.{ServingStub, serving_size}
use Rattle.result_laws.specs.PlacedPieces.{PlacedPiece}
use Rattle.result_laws.specs.ChosenPlacement.{ChosenPlacement}
use Rattle.result_laws.specs.PlacedView.{is_served, Serves}
use Rattle.relink_core.specs.declared.code_regions.CodeRegions.{CodeRegions}
use Rattle.relink_core.specs.declared.copy_source.CopySource.{CopySource}
use Rattle.relink_core.specs.declared.placed_copy.PlacedCopy.{PlacedCopy}

-- ---- placements

-- a piece but for its image
abbrev pub without_image : PlacedPiece → PlacedPiece
without_image x = record { range = x.range; at = x.at; image = 0; words = x.words; starts = x.starts }

abbrev pub piece_with : PlacedCopy → PlacedPiece
piece_with x =
    record { range = x.range; at = x.at; image = 0; words = x.code.words.items; starts = x.code.starts.items }

-- a placement has the words of sites, the regions and the copies
pub record IsPlacedWith (s : CopySource) (regions : CodeRegions) (copies : List PlacedCopy) (pl : ChosenPlacement) : Type 0 where
  pub words : pl.sites ≡ s.sites.now
  pub of_blocks : pl.regions ≡ regions.of_block.now
  pub at_borders : pl.borders ≡ regions.border.now
  pub are_pieces : map without_image pl.pieces ≡ map piece_with copies

abbrev pub served_blocks : Code → ChosenPlacement → List ℕ
served_blocks c pl = collected (is_served c pl) (λ b. b) (length c.blocks.items)

-- stubs serve some blocks, one behind the other from `at` on. The body of one that tests for a region stands behind its
-- test; that of any other is a jump, which does the same wherever it stands
abbrev pub AreStubsFrom : Code → Graph → ChosenPlacement → ℕ → List ℕ → List ServingStub → Type 0
AreStubsFrom c g pl at [] [] = Unit {0}
AreStubsFrom c g pl at [] (stub ∷ stubs) = ⊥
AreStubsFrom c g pl at (b ∷ bs) [] = ⊥
AreStubsFrom c g pl at (b ∷ bs) (stub ∷ stubs) =
    Serves c g pl (at + 88) b stub × AreStubsFrom c g pl (at + serving_size stub) bs stubs
