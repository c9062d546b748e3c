-- What the parts of a result for a choice of both sides ask of each other: its pads, and the file that is written.
use Rattle.std.proofs.Common.{◌≡◌, ◌∙◌, ℕ, List, map, length, Some, sym, ap, subst}
use Rattle.std.proofs.lemmas.List.{length-map}
use Rattle.elf_reader.specs.File.{PlainView, plain_symbol, plain_view, view_in}
use Rattle.elf_reader.specs.declared.view.ElfView.{ElfView}
use Rattle.elf_writer.specs.declared.parts.SymbolMove.{SymbolMove}
use Rattle.elf_writer.specs.Parts.{NewSegment, new_segment}
use Rattle.elf_writer.specs.Written.{written}
use Rattle.elf_writer.specs.View.{written_view}
use Rattle.elf_writer.specs.Conditions.{IsWritable, HasWords}
use Rattle.board_config.specs.declared.board.Board.{Board}
use Rattle.object_graph.specs.declared.parts.Graph.{Graph}
use Rattle.code_blocks.specs.Blocks.{IsCode}
use Rattle.code_blocks.specs.declared.parts.Code.{Code}
use Rattle.block_splitter.specs.Copies.{Patch}
use Rattle.patch_code.specs.declared.stub_plan.Stub.{Stub}
use Rattle.patch_code.specs.declared.stub_plan.StubPlan.{StubPlan}
use Rattle.patch_code.specs.StubPlans.{serving_stub, overlay_plan}
use Rattle.patch_code.specs.Serving.{serving_home}
use Rattle.patch_code.specs.Overlay.{serving_place}
use Rattle.relocator.specs.declared.places.Places.{Places}
use Rattle.relink_core.specs.Padding.{home_of, ReachAll, ArePadded}
use Rattle.result_laws.specs.ChosenPlacement.{ChosenPlacement}
use Rattle.result_laws.specs.PlacedView.{IsPlanFor, IsPlacedView}
use Rattle.relink_core.specs.Making.{patch_of, moves_below}
use Rattle.relink_core.specs.Extending.{IsExtendable, IsWrittenOf}
use Rattle.relink_core.specs.Written.{IsPatchSegment, static_objects, IsWrittenFor}
use Rattle.relink_core.specs.declared.segments.PatchSegment.{PatchSegment}
use Rattle.relink_core.proofs.PlacedHomes as pads
use Rattle.relink_core.proofs.PlacedWritten as made
use Rattle.relink_core.proofs.PlacedWritten.{IsMadeFor, same_segment}
use Rattle.relink_core.proofs.PlacedView as result
use Rattle.relink_core.proofs.MapLemmas.{map_twice}

-- ---- stubs as the code has them

-- their homes are those of the plan
pub same_homes : (stubs : List Stub) → map serving_home (map serving_stub stubs) ≡ map home_of stubs
same_homes stubs = map_twice serving_home serving_stub stubs

-- and a pad reaches it
pub stubs_reached : (file : List ℕ) (board : Board) (g : Graph) (c : Code) (pl : ChosenPlacement) (q : StubPlan) (r : PatchSegment) → IsExtendable file board g → IsCode (view_in file) c → IsPlanFor (view_in file) board g c pl (overlay_plan q) → IsPatchSegment (overlay_plan q) r → ReachAll (map home_of q.stubs.items) r.stub_at.items
stubs_reached file board g c pl q r extendable code planned patch =
    subst (λ (homes : List ℕ). ReachAll homes r.stub_at.items) (same_homes q.stubs.items)
    (subst (ReachAll (map serving_home (overlay_plan q).stubs)) (sym patch.stubs)
    (pads.pads_reach file board g c pl (overlay_plan q) extendable code planned))

-- ---- the file

module _ (file : List ℕ) (board : Board) (g : Graph) (c : Code) (pl : ChosenPlacement) (places : Places) (region_at : List ℕ) (entries : List Patch) (q : StubPlan) (r : PatchSegment) (patch : IsPatchSegment (overlay_plan q) r) (is : IsMadeFor file board g c pl places region_at entries (overlay_plan q) patch.words) (padded : List Patch) (padding : ArePadded entries (map home_of q.stubs.items) r.stub_at.items padded) where
  abbrev v : PlainView
  v = view_in file

  padding_is : ArePadded entries (map serving_home (overlay_plan q).stubs) (map (serving_place (overlay_plan q)) (overlay_plan q).stubs) padded
  padding_is =
      subst (λ (homes : List ℕ). ArePadded entries homes (map (serving_place (overlay_plan q)) (overlay_plan q).stubs) padded) (sym (same_homes q.stubs.items))
      (subst (λ (at : List ℕ). ArePadded entries (map home_of q.stubs.items) at padded) patch.stubs padding)

  same_new : new_segment r.segment ≡ made.segment file board g c pl places region_at entries (overlay_plan q) patch.words is
  same_new = same_segment v board g c pl (overlay_plan q) r is.planned patch

  same_moves : (view : ElfView) (objects : List ℕ) → plain_view view ≡ v → objects ≡ static_objects board pl → moves_below (plain_view view) g places objects (length view.symbols.items) ≡ moves_below v g places (static_objects board pl) (length v.symbols)
  same_moves view objects same same_objects =
      ap (moves_below (plain_view view) g places objects) (sym (length-map view.symbols.items plain_symbol))
      ∙ ap (λ (w : PlainView). moves_below w g places objects (length w.symbols)) same
      ∙ ap (λ (ns : List ℕ). moves_below v g places ns (length v.symbols)) same_objects

  pub may_write : (view : ElfView) (objects : List ℕ) → plain_view view ≡ v → objects ≡ static_objects board pl → IsWritable (plain_view view) (map (patch_of (plain_view view)) padded) (Some (new_segment r.segment)) (moves_below (plain_view view) g places objects (length view.symbols.items))
  may_write view objects same same_objects =
      subst (IsWritable (plain_view view) (map (patch_of (plain_view view)) padded) (Some (new_segment r.segment))) (sym (same_moves view objects same same_objects))
      (subst (λ (w : PlainView). IsWritable w (map (patch_of w) padded) (Some (new_segment r.segment)) (moves_below v g places (static_objects board pl) (length v.symbols))) (sym same)
      (subst (λ (s : NewSegment). IsWritable v (map (patch_of v) padded) (Some s) (moves_below v g places (static_objects board pl) (length v.symbols))) (sym same_new)
      (made.writable file board g c pl places region_at entries (overlay_plan q) patch.words is padded padding_is)))

  module _ (view : ElfView) (objects : List ℕ) (out : List ℕ) (same : plain_view view ≡ v) (same_objects : objects ≡ static_objects board pl) (written_is : IsWrittenOf (plain_view view) padded (moves_below (plain_view view) g places objects (length view.symbols.items)) (new_segment r.segment) out) where
    abbrev moves : List SymbolMove
    moves = moves_below v g places (static_objects board pl) (length v.symbols)

    abbrev segment : NewSegment
    segment = made.segment file board g c pl places region_at entries (overlay_plan q) patch.words is

    bytes : out ≡ written v (map (patch_of v) padded) (Some segment) moves
    bytes =
        written_is.bytes
        ∙ ap (written (plain_view view) (map (patch_of (plain_view view)) padded) (Some (new_segment r.segment))) (same_moves view objects same same_objects)
        ∙ ap (λ (w : PlainView). written w (map (patch_of w) padded) (Some (new_segment r.segment)) moves) same
        ∙ ap (λ (s : NewSegment). written v (map (patch_of v) padded) (Some s) moves) same_new

    reads : view_in out ≡ written_view v (map (patch_of v) padded) (Some segment) moves
    reads =
        written_is.reads
        ∙ ap (written_view (plain_view view) (map (patch_of (plain_view view)) padded) (Some (new_segment r.segment))) (same_moves view objects same same_objects)
        ∙ ap (λ (w : PlainView). written_view w (map (patch_of w) padded) (Some (new_segment r.segment)) moves) same
        ∙ ap (λ (s : NewSegment). written_view v (map (patch_of v) padded) (Some s) moves) same_new

    fit : HasWords (Some segment) moves
    fit =
        subst (λ (s : NewSegment). HasWords (Some s) moves) same_new
        (subst (HasWords (Some (new_segment r.segment))) (same_moves view objects same same_objects) written_is.fit)

    -- it shows what is asked of a result, and is the file of the choice with the same words in the patch range
    pub is_placed : (shows : IsPlacedView v (view_in out) board g c pl) × (IsWrittenFor v board g pl shows.words out × (shows.plan ≡ overlay_plan q))
    is_placed =
        let (shows, (same, plan_is)) = result.shown file board g c pl places region_at entries (overlay_plan q) patch.words is padded padding_is (view_in out) reads in
        let is_of : IsWrittenFor v board g pl patch.words out =
        made.written_for file board g c pl places region_at entries (overlay_plan q) patch.words is padded padding_is out bytes reads fit in
        (shows, (subst (λ (ws : List ℕ). IsWrittenFor v board g pl ws out) (sym same) is_of, plan_is))
