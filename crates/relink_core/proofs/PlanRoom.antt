-- The room of a plan before it exists: what it takes at most is no more than the patch range has.
use Rattle.std.proofs.Common.{◌≡◌, ◌∙◌, ℕ, ◌+◌, ◌*◌, ◌≤◌, List, [], ◌∷◌, length, map, refl, sym, ap, arith}
use Rattle.std.specs.List.{sum_by}
use Rattle.std.proofs.lemmas.List.Sums.{sum_by-cons}
use Rattle.board_config.specs.declared.board.Board.{Board}
use Rattle.object_graph.specs.declared.parts.Graph.{Graph}
use Rattle.code_blocks.specs.declared.parts.Code.{Code}
use Rattle.region_former.specs.declared.table.RegionTable.{RegionTable}
use Rattle.block_splitter.specs.declared.piece.Piece.{Piece}
use Rattle.placement_programme.specs.declared.variables.VarName.{VarName}
use Rattle.patch_code.specs.declared.stub_plan.Stub.{Stub}
use Rattle.patch_code.specs.Serving.{ServingStub}
use Rattle.patch_code.specs.StubPlans.{serving_stub}
use Rattle.result_laws.specs.PlacedPieces.{piece_bytes}
use Rattle.result_laws.specs.ChosenPlacement.{ChosenPlacement, slots_in}
use Rattle.relink_core.specs.declared.placed_copy.PlacedCopy.{PlacedCopy}
use Rattle.relink_core.specs.Serving.{served_blocks, AreStubsFrom}
use Rattle.relink_core.specs.declared.items.PlannedItems.{PlannedItems}
use Rattle.relink_core.specs.Counting.{all_jobs, most_bytes}
use Rattle.relink_core.specs.Naming.{name_in, placed_piece, placed_pieces, copied_bytes}
use Rattle.relink_core.specs.Planning.{plan_bytes}
use Rattle.relink_core.specs.PlanLaws.{IsPlacementOf}
use Rattle.relink_core.proofs.JobCounts.{names_listed}
use Rattle.relink_core.proofs.BlockRoom.{stubs_within}
use Rattle.relink_core.proofs.Room.{choice_bytes}

pub pieces_summed : (image : ℕ) (xs : List PlacedCopy) → sum_by piece_bytes (placed_pieces image xs) ≡ sum_by copied_bytes xs
pieces_summed image [] = refl
pieces_summed image (x ∷ xs) =
    let next = image + 4 * length x.code.words.items in
    let one = sum_by-cons piece_bytes (placed_piece image x) (placed_pieces next xs) in
    let other = sum_by-cons copied_bytes x xs in
    let rest = pieces_summed next xs in
    omega (arith, one, other, rest)

module _ (file : List ℕ) (board : Board) (g : Graph) (c : Code) (t : RegionTable) (pieces : List Piece) (pl : ChosenPlacement) (is : IsPlacementOf file board g c t pieces pl) where
  abbrev names : List VarName
  names = map name_in (slots_in board pl)

  -- a plan with stubs of all blocks that are served takes at most the patch range
  pub plan_room : (at : ℕ) (stubs : List ServingStub) → AreStubsFrom c g pl at (served_blocks c pl) stubs → most_bytes board g pl.count names stubs (sum_by piece_bytes pl.pieces) ≤ board.patch.size
  plan_room at stubs are =
      let whole = choice_bytes file board g c t pieces pl is in
      let within = stubs_within g c pl at (served_blocks c pl) stubs are in
      let listed = names_listed (all_jobs g pl.count) (slots_in board pl) in
      omega (arith, whole, within, listed)

  -- so does one of items of the placement
  pub items_room : (items : PlannedItems) (stubs : List Stub) (at image : ℕ) → items.graph.now ≡ g → items.names.now ≡ names → items.regions ≡ pl.count → pl.pieces ≡ placed_pieces image items.copies.now → AreStubsFrom c g pl at (served_blocks c pl) (map serving_stub stubs) → plan_bytes board items stubs ≤ board.patch.size
  items_room items stubs at image graph named count made are =
      let whole = plan_room at (map serving_stub stubs) are in
      let bytes : sum_by piece_bytes pl.pieces ≡ sum_by copied_bytes items.copies.now = ap (sum_by piece_bytes) made ∙ pieces_summed image items.copies.now in
      let same : plan_bytes board items stubs ≡ most_bytes board g pl.count names (map serving_stub stubs) (sum_by piece_bytes pl.pieces) =
      λ i. most_bytes board (graph i) (count i) (named i) (map serving_stub stubs) (sym bytes i) in
      omega (arith, whole, same)
