-- The patch range has room for the plan of a placement.
use Rattle.std.proofs.Common.{◌≡◌, ◌∙◌, ℕ, zero, suc, ◌+◌, ◌*◌, ◌≤◌, ◌==◌, Bool, true, false, List, [], ◌∷◌, length, map, refl, ap, subst, arith, if◌then◌else◌}
use Rattle.std.specs.List.{sum_by, concat}
use Rattle.std.proofs.lemmas.List.{length-append}
use Rattle.std.proofs.lemmas.List.Sums.{sum_by-cons, sum_by-append, sum_by-le-sum_by}
use Rattle.list_checks.specs.Sorted.{sum_below}
use Rattle.list_checks.proofs.SumLemmas.{sum_zero}
use Rattle.elf_reader.specs.File.{view_in}
use Rattle.board_config.specs.declared.board.Board.{Board}
use Rattle.object_graph.specs.declared.parts.Graph.{Graph}
use Rattle.code_blocks.specs.declared.parts.Code.{Code}
use Rattle.region_former.specs.declared.table.RegionTable.{RegionTable}
use Rattle.dataflow.specs.Overlaid.{is_border}
use Rattle.block_splitter.specs.declared.piece.Piece.{Piece}
use Rattle.placement_programme.specs.Rows.{start_bytes as least_bytes, checking_stub_bytes, pairs_of}
use Rattle.placement_programme.specs.Plain.{PlainVar}
use Rattle.placement_programme.specs.Programme.{side_for}
use Rattle.patch_code.specs.declared.job.CopyJob.{CopyJob}
use Rattle.patch_code.specs.Jobs.{fences}
use Rattle.patch_code.specs.Start.{StartPlan, start_at, start_bytes}
use Rattle.patch_code.specs.Layout.{image_bytes}
use Rattle.patch_code.specs.Overlay.{OverlayPlan, switching, switch_bytes}
use Rattle.patch_code.proofs.WordLemmas.{bytes_are}
use Rattle.relocator.specs.Slots.{items_of, vars_for, first_slots}
use Rattle.result_laws.specs.ChosenJobs.{is_static, start_jobs}
use Rattle.result_laws.specs.PatchLaws.{LiesInPatch}
use Rattle.result_laws.specs.PlacedPieces.{PlacedPiece, piece_bytes}
use Rattle.result_laws.specs.Choices.{displaced_at, border_words, side_layout}
use Rattle.result_laws.specs.ChosenPlacement.{ChosenPlacement, slots_in, images_in}
use Rattle.result_laws.specs.PlacementLaws.{regions_on}
use Rattle.result_laws.specs.PlacedView.{words_in, start_plan}
use Rattle.relink_core.specs.declared.code_regions.CodeRegions.{CodeRegions}
use Rattle.relink_core.specs.declared.copy_source.CopySource.{CopySource}
use Rattle.relink_core.specs.declared.placed_copy.PlacedCopy.{PlacedCopy}
use Rattle.relink_core.specs.StubBlocks.{stub_blocks, stub_size}
use Rattle.relink_core.specs.Serving.{IsPlacedWith, served_blocks}
use Rattle.relink_core.specs.PlanLaws.{borders_on, IsPlacementOf, IsPlanned, StubsHaveRoom}
use Rattle.relink_core.proofs.Sums.{sum_exchanged}
use Rattle.relink_core.specs.Counting.{counts_into, all_jobs, routine_fixed, served_size}
use Rattle.relink_core.proofs.JobCounts.{planned_jobs, by_name, entering_count, jobs_counted}
use Rattle.relink_core.proofs.RoutineRoom.{routine_fits}
use Rattle.relink_core.proofs.Weights.{fixed_on}
use Rattle.relink_core.proofs.StubSizes.{bare_at, jump_bytes, saved_bytes, room_summed}
use Rattle.relink_core.proofs.BlockRoom.{all_within, served_summed, stubs_summed}
use Rattle.relink_core.proofs.PieceBytes.{jumps_of, saves_of}
use Rattle.relink_core.proofs.VarRoom.{ArePiecesOf, matched, names_summed, jobs_at, choice_room}

-- the words of all images
pub images_summed : (xs : List PlacedPiece) → image_bytes (map words_in xs) ≡ sum_by piece_bytes xs
images_summed [] = refl
images_summed (x ∷ xs) =
    let whole = length-append x.words (concat (map words_in xs)) in
    let rest = images_summed xs in
    let one = sum_by-cons piece_bytes x xs in
    omega (arith, whole, rest, one)

-- the stubs of borders without copies are among the fixed bytes
bare_summed : (g : Graph) (c : Code) (borders : List Bool) (n : ℕ) → sum_below (bare_at g c borders) n ≡ sum_by checking_stub_bytes (border_words g c borders n)
bare_summed g c borders zero = refl
bare_summed g c borders (suc n) =
    let whole = sum_by-append checking_stub_bytes (border_words g c borders n) (if is_border borders n then displaced_at g c n ∷ [] else []) in
    let earlier = bare_summed g c borders n in
    let here = last (is_border borders n) (displaced_at g c n) in
    omega (arith, whole, earlier, here)
  where
    last : (b : Bool) (words : ℕ) → sum_by checking_stub_bytes (if b then words ∷ [] else []) ≡ (if b then 88 + 4 * words else 0)
    last true words = let one = sum_by-cons checking_stub_bytes words [] in omega (arith, one)
    last false words = refl

-- the fixed bytes of a side: control words and start stub, checking stubs, and the routine
fence_bytes : (b : Bool) → (if b then 4 else 0) ≡ 4 * length (fences b)
fence_bytes true = refl
fence_bytes false = refl

fixed_parts : (on : Bool) (board : Board) (g : Graph) (c : Code) (t : RegionTable) (regions : ℕ) → regions ≡ regions_on on t → 84 + 4 * length (fences board.fence_i) + sum_below (bare_at g c (borders_on on t)) (length c.blocks.items) + routine_fixed board.fence_i board.twins regions ≤ fixed_on on (side_layout on board g c t)
fixed_parts false board g c t regions is =
    let none = sum_zero (bare_at g c []) (length c.blocks.items) (λ b below. refl) in
    let fence = fence_bytes board.fence_i in
    let empty : routine_fixed board.fence_i board.twins regions ≡ 0 = ap (λ (r : ℕ). routine_fixed board.fence_i board.twins r) is in
    omega (arith, none, fence, empty)
fixed_parts true board g c t regions is =
    let bare = bare_summed g c t.border.items (length c.blocks.items) in
    let fence = fence_bytes board.fence_i in
    let most : routine_fixed board.fence_i board.twins regions ≤ 4 * (5 + 6 * t.count) + 4 * length (fences board.fence_i) + 48 * pairs_of board.twins t.count =
    subst (λ (r : ℕ). routine_fixed board.fence_i board.twins regions ≤ 4 * (5 + 6 * r) + 4 * length (fences board.fence_i) + 48 * pairs_of board.twins r) is (at_most (regions == 0) (4 * (5 + 6 * regions) + 4 * length (fences board.fence_i) + 48 * pairs_of board.twins regions)) in
    omega (arith, bare, fence, most)
  where
    at_most : (b : Bool) (n : ℕ) → (if b then 0 else n) ≤ n
    at_most true n = omega arith
    at_most false n = omega arith

least_of : (on : Bool) (board : Board) (g : Graph) (c : Code) (t : RegionTable) → least_bytes (side_layout false board g c t) ≤ board.patch.size → least_bytes (side_layout on board g c t) ≤ board.patch.size
least_of false board g c t least = least
least_of true board g c t least = least

module _ (file : List ℕ) (board : Board) (g : Graph) (c : Code) (t : RegionTable) (pieces : List Piece) (pl : ChosenPlacement) (is : IsPlacementOf file board g c t pieces pl) where
  abbrev on : Bool
  on = pl.choice.on

  abbrev take : List ℕ
  take = pl.choice.take

  abbrev vars : List PlainVar
  vars = vars_for (side_for pl.programme on)

  abbrev jobs : ℕ
  jobs = sum_by (jobs_at g c (borders_on on t) pl.regions pl.sites pl.count vars) take

  are_pieces : ArePiecesOf vars pl.regions take pl.pieces
  are_pieces =
      matched vars pl.regions (first_slots board.spm.base (items_of pl.programme pl.choice)) take pl.pieces is.placement.many
      (λ k of. (is.placement.stand k of).named)

  weighed : fixed_on on (side_layout on board g c t) + 44 * jobs + (sum_by piece_bytes pl.pieces + sum_by (jumps_of c) pl.pieces) ≤ board.patch.size + sum_by (saves_of g c (borders_on on t)) pl.pieces
  weighed =
      choice_room on board g c t pieces is.pieces_are pl.regions pl.sites pl.count take pl.pieces (side_for pl.programme on)
      (least_of on board g c t is.least) is.choice_is.side is.choice_is.feasible are_pieces is.placement.pieces

  -- the jobs of all names
  abbrev named_jobs : ℕ
  named_jobs = sum_by (by_name (all_jobs g pl.count)) (slots_in board pl)

  jobs_are : named_jobs ≡ jobs
  jobs_are = names_summed vars (all_jobs g pl.count) (first_slots board.spm.base (items_of pl.programme pl.choice)) take

  -- the stubs of all blocks that are served
  abbrev stubs : ℕ
  stubs = sum_by (served_size c g pl) (served_blocks c pl)

  stubs_are : stubs + sum_by (saves_of g c (borders_on on t)) pl.pieces ≤ sum_below (bare_at g c (borders_on on t)) (length c.blocks.items) + sum_by (jumps_of c) pl.pieces
  stubs_are =
      let n = length c.blocks.items in
      let within = served_summed g c pl is.placement.borders is.placement.pieces is.placement.blocks in
      let room = room_summed g c pl is.placement.borders is.placement.pieces is.placement.blocks n in
      let gains = sum_exchanged (jump_bytes c) pl.pieces n in
      let losses = sum_exchanged (saved_bytes g c pl.borders) pl.pieces n in
      let saves = ap (λ (bs : List Bool). sum_by (saves_of g c bs) pl.pieces) is.borders_are in
      let bare = ap (λ (bs : List Bool). sum_below (bare_at g c bs) n) is.borders_are in
      omega (arith, within, room, gains, losses, saves, bare)

  -- the control words and the start stub, all jobs, stubs, the routine, and all images
  pub choice_bytes : 84 + 4 * length (fences board.fence_i) + 44 * named_jobs + stubs + routine_fixed board.fence_i board.twins pl.count + sum_by piece_bytes pl.pieces ≤ board.patch.size
  choice_bytes =
      let fixed = fixed_parts on board g c t pl.count is.count_is in
      let named = jobs_are in
      let served = stubs_are in
      let weights = weighed in
      omega (arith, fixed, named, served, weights)

  -- behind the start stub
  start_few : length (start_jobs g (images_in pl) (slots_in board pl)) ≤ named_jobs
  start_few =
      let start = entering_count is_static g (images_in pl) 0 (slots_in board pl) in
      let most = sum_by-le-sum_by (by_name (counts_into is_static)) (by_name (all_jobs g pl.count)) (slots_in board pl) (λ s. omega arith) in
      omega (arith, start, most)

  pub stubs_room : start_at (start_plan (view_in file) board g pl) + start_bytes (start_plan (view_in file) board g pl) + stubs ≤ board.patch.base + board.patch.size
  stubs_room =
      let bytes = bytes_are (start_plan (view_in file) board g pl) in
      let few = start_few in
      let whole = choice_bytes in
      omega (arith, bytes, few, whole)

module _ (file : List ℕ) (board : Board) (g : Graph) (c : Code) (t : RegionTable) (pieces : List Piece) (pl : ChosenPlacement) (plan : OverlayPlan) (is : IsPlacementOf file board g c t pieces pl) (planned : IsPlanned (view_in file) board g c pl plan) where
  -- the start, and the routine
  start_parts : start_at plan.start + start_bytes plan.start ≡ board.patch.base + 84 + 4 * length (fences board.fence_i) + 44 * length plan.start.jobs
  start_parts =
      let base = ap (λ (s : StartPlan). s.base) planned.start in
      let fence = ap (λ (s : StartPlan). length (fences s.fence_i)) planned.start in
      let bytes = bytes_are plan.start in
      omega (arith, base, fence, bytes)

  routine_parts : switch_bytes plan ≤ routine_fixed board.fence_i board.twins pl.count + 44 * sum_below (planned_jobs (switching plan)) pl.count
  routine_parts =
      let whole = routine_fits plan in
      let count : plan.regions ≡ pl.count = planned.jobs.count in
      let fence : plan.start.fence_i ≡ board.fence_i = ap (λ (s : StartPlan). s.fence_i) planned.start in
      let fixed : routine_fixed plan.start.fence_i plan.twins plan.regions ≡ routine_fixed board.fence_i board.twins pl.count = λ i. routine_fixed (fence i) (planned.twins i) (count i) in
      let counted = ap (λ (n : ℕ). sum_below (planned_jobs (switching plan)) n) count in
      omega (arith, whole, fixed, counted)

  pub lies : LiesInPatch board.patch plan
  lies =
      let images = ap image_bytes planned.images ∙ images_summed pl.pieces in
      let start = start_parts in
      let routine = routine_parts in
      let count = ap (λ (js : List CopyJob). length js) (ap (λ (s : StartPlan). s.jobs) planned.start) in
      let jobs = jobs_counted g (images_in pl) (slots_in board pl) pl.count (switching plan) planned.jobs in
      let stubs = all_within g c pl plan plan.stubs planned.apart planned.stubs.only in
      let whole = choice_bytes file board g c t pieces pl is in
      record {
        base = ap (λ (s : StartPlan). s.base) planned.start;
        ends = omega (arith, images, start, routine, count, jobs, stubs, whole);
      }

pub stubs_have_room_so : StubsHaveRoom
stubs_have_room_so file board g c t pieces pl is = stubs_room file board g c t pieces pl is

-- ---- stubs that code makes

-- stubs that code makes behind the start stub end in the patch range
pub stubs_end : (file : List ℕ) (board : Board) (t : RegionTable) (pieces : List Piece) (pl : ChosenPlacement) (s : CopySource) (regions : CodeRegions) (copies : List PlacedCopy)
    → IsPlacementOf file board s.graph.now s.code.now t pieces pl → IsPlacedWith s regions copies pl
    → start_at (start_plan (view_in file) board s.graph.now pl) + start_bytes (start_plan (view_in file) board s.graph.now pl)
    + sum_by (stub_size s regions copies) (stub_blocks s.code.now regions copies)
    ≤ board.patch.base + board.patch.size
stubs_end file board t pieces pl s regions copies is placed =
    let room = stubs_room file board s.graph.now s.code.now t pieces pl is in
    let same = stubs_summed s regions copies pl placed in
    omega (arith, room, same)
