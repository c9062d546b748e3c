-- The plan of a placement can stand in the patch range.
use Rattle.std.proofs.Common.{◌≡◌, ◌∙◌, ℕ, zero, suc, ◌+◌, ◌%◌, ◌<◌, ◌≤◌, Bool, true, false, List, [], ◌∷◌, length, get_or, refl, sym, ap, subst, arith, if◌then◌else◌}
use Rattle.std.specs.List.{All, sum_by}
use Rattle.std.proofs.lemmas.Bool.Decides.{nat_tests}
use Rattle.std.proofs.lemmas.List.Sums.{sum_by-cons}
use Rattle.rv32im.proofs.SequenceLemmas.{in_reach}
use Rattle.elf_reader.specs.File.{PlainView, view_in}
use Rattle.board_config.specs.declared.board.Board.{Board}
use Rattle.object_graph.specs.declared.parts.Graph.{Graph}
use Rattle.object_graph.specs.Sites.{no_area}
use Rattle.code_blocks.specs.declared.parts.Code.{Code}
use Rattle.dataflow.specs.Overlaid.{region_in, is_border}
use Rattle.region_former.specs.declared.table.RegionTable.{RegionTable}
use Rattle.block_splitter.specs.declared.piece.Piece.{Piece}
use Rattle.block_splitter.specs.Forms.{holds_block}
use Rattle.block_splitter.specs.Copies.{address_of, words_before}
use Rattle.block_splitter.proofs.CopySizeLemmas.{range_is, held}
use Rattle.block_splitter.proofs.SumLemmas.{part_below}
use Rattle.patch_code.specs.Jobs.{IsJob}
use Rattle.patch_code.specs.Start.{StartPlan, CanStart, Spares, jump_at}
use Rattle.patch_code.specs.Layout.{image_bytes, image_places}
use Rattle.patch_code.specs.Serving.{StubBody, ServingStub, test_bytes, serving_size, serving_bytes, serving_home}
use Rattle.patch_code.specs.Overlay.{OverlayPlan, switch_at, serving_place, overlay_images_at, SparesWords, CanEnd, Reaches, CanServe, CanChange, CanHold}
use Rattle.patch_code.specs.Served.{body_at as stub_body_at}
use Rattle.patch_code.proofs.Order.{below_fits}
use Rattle.patch_code.proofs.Serves.{size_aligned, before_aligned}
use Rattle.patch_code.proofs.WordLemmas.{bytes_are}
use Rattle.relocator.specs.declared.slots.Slot.{Slot}
use Rattle.relocator.specs.Laws.{IsLaidOut, slot_at}
use Rattle.result_laws.specs.ChosenJobs.{code_number}
use Rattle.result_laws.specs.Memories.{IsOfCode, AreImages}
use Rattle.result_laws.specs.SwitchLaws.{CanStart as JobsCanStart}
use Rattle.result_laws.specs.JobLaws.{HaveBytes}
use Rattle.result_laws.specs.PatchLaws.{IsOffPatch, LieInPatch, LiesInPatch}
use Rattle.result_laws.proofs.JobChosen.{slot_ends}
use Rattle.result_laws.proofs.JobNumbers.{code_numbers_so}
use Rattle.result_laws.proofs.PatchHomes.{images_lie_so}
use Rattle.result_laws.proofs.PatchJobs.{jobs_spare_so}
use Rattle.result_laws.specs.PlacedPieces.{piece_bytes}
use Rattle.result_laws.specs.ChosenPlacement.{ChosenPlacement, slots_in, images_in, no_piece, piece_of, copy_in}
use Rattle.result_laws.specs.PlacementLaws.{regions_on}
use Rattle.result_laws.specs.PlacedView.{HasBody, ToCopy, Displaced}
use Rattle.relink_core.specs.PlanLaws.{IsPlacementOf, IsPlanned, PlansFit}
use Rattle.relink_core.proofs.Near.{IsNear, is_near, patch_small, jump_place}
use Rattle.relink_core.proofs.Pieces.{some_copied, LiesAmong, images_among, slot_of}
use Rattle.relink_core.proofs.Room.{images_summed, lies}

-- ---- even places

sizes_even : (stubs : List ServingStub) → serving_bytes stubs % 4 ≡ 0
sizes_even [] = refl
sizes_even (stub ∷ stubs) =
    let one = sum_by-cons serving_size stub stubs in
    let size = size_aligned stub in
    let rest = sizes_even stubs in
    omega (arith, one, size, rest)

-- a stub with a region has at least the bytes of its test
test_there : (r : ℕ) (stub : ServingStub) → stub.region ≡ suc r → 88 ≤ serving_size stub
test_there r stub region =
    let test : test_bytes stub.region ≡ 88 = ap test_bytes region ∙ grind (arith, nat_tests) in
    omega (arith, test)

few_regions : (on : Bool) (t : RegionTable) → t.count ≤ 8 → regions_on on t ≤ 8
few_regions false t few = omega arith
few_regions true t few = few

module _ (file : List ℕ) (board : Board) (g : Graph) (c : Code) (t : RegionTable) (pieces : List Piece) (pl : ChosenPlacement) (plan : OverlayPlan) (is : IsPlacementOf file board g c t pieces pl) (planned : IsPlanned (view_in file) board g c pl plan) where
  abbrev v : PlainView
  v = view_in file

  abbrev slots : List Slot
  slots = slots_in board pl

  near : IsNear v board
  near = is_near file board g is.accepted

  laid : IsLaidOut v board g
  laid = record { lawful = is.accepted.lawful; layout = is.accepted.layout; graph = is.accepted.graph }

  lying : LiesInPatch board.patch plan
  lying = lies file board g c t pieces pl plan is planned

  -- ---- images and jobs

  number_below : (k : ℕ) → IsOfCode slots k → code_number slots k < length pl.pieces
  number_below k of =
      let below = (code_numbers_so slots k of).0 in
      let many = is.placement.many in
      omega (arith, below, many)

  image_lies : (k : ℕ) → IsOfCode slots k → LiesAmong (overlay_images_at plan) (overlay_images_at plan + sum_by piece_bytes pl.pieces) (piece_of pl (code_number slots k))
  image_lies k of = images_among (overlay_images_at plan) pl.pieces (planned.places ∙ ap (image_places (overlay_images_at plan)) planned.images) (code_number slots k) no_piece (number_below k of)

  images_lie : LieInPatch board.patch slots (images_in pl)
  images_lie = record {
    some = λ k of.
        let chosen = is.placement.pieces (code_number slots k) no_piece (number_below k of) in
        let x = piece_of pl (code_number slots k) in
        let some = some_copied v c g x.range is.code (range_is c x.range chosen.copied.shape) in
        let count = chosen.copy.count in
        omega (arith, some, count);
    fit = λ k of. (is.placement.stand k of).room;
    from = λ k of.
        let from = (image_lies k of).from in
        let base = lying.base in
        omega (arith, from, base);
    to = λ k of.
        let to = (image_lies k of).to in
        let ends = lying.ends in
        let bytes = ap image_bytes planned.images ∙ images_summed pl.pieces in
        omega (arith, to, ends, bytes);
  }

  images_are : AreImages board.spm g slots (images_in pl) × HaveBytes slots (images_in pl) × IsOffPatch board.spm board.patch g slots (images_in pl)
  images_are = images_lie_so v board g slots (images_in pl) laid images_lie

  jobs_can : JobsCanStart v g pl.count board pl.programme pl.choice (images_in pl)
  jobs_can = record { laid = laid; can = is.placement.can; fitting = images_are.0 }

  start_jobs_are : All IsJob plan.start.jobs × All (Spares plan.start) plan.start.jobs × All (SparesWords plan) plan.start.jobs
  start_jobs_are =
      jobs_spare_so.start v g pl.count board pl.programme pl.choice (images_in pl) plan jobs_can images_are.1 images_are.2 lying
      (ap (λ (s : StartPlan). s.jobs) planned.start)

  changes : (i : ℕ) → i < plan.regions → CanChange plan i
  changes i below =
      let count : plan.regions ≡ pl.count = planned.jobs.count in
      jobs_spare_so.regions v g pl.count board pl.programme pl.choice (images_in pl) plan i jobs_can images_are.1 images_are.2 lying planned.jobs
      (omega (arith, below, count))

  -- ---- the start

  start_can : CanStart plan.start
  start_can =
      let base : plan.start.base ≡ board.patch.base = lying.base in
      let entry : plan.start.entry ≡ v.entry = ap (λ (s : StartPlan). s.entry) planned.start in
      let jump = jump_place plan.start in
      let ends = lying.ends in
      let end = near.ends in
      let aligned = near.base in
      let even = near.entry in
      let above = near.above in
      let below = near.below in
      let small = near.small in
      record {
        aligned = omega (arith, aligned, base);
        entry = omega (arith, small, entry);
        jobs = start_jobs_are.0;
        spared = start_jobs_are.1;
        ends = omega (arith, ends, end);
        reach = in_reach 1048576 (jump_at plan.start) plan.start.entry (omega arith) (omega (arith, jump, ends, end)) (omega (arith, small, entry)) (omega (arith, above, entry, base)) (omega (arith, jump, ends, below, entry))
            (omega (arith, aligned, base)) (omega (arith, even, entry));
      }

  -- ---- stubs

  -- a copy stands in the scratchpad
  copy_ends : (n b : ℕ) → n < length pl.pieces → holds_block b (piece_of pl n).range ≡ true → address_of (copy_in c g pl n) (words_before (copy_in c g pl n) b) < 4294967296
  copy_ends n b below holds =
      let x = piece_of pl n in
      let many = is.placement.many in
      let slot = slot_of slots n (omega (arith, below, many)) in
      let stands = is.placement.stand slot.k slot.of in
      let at : x.at ≡ (slot_at slots slot.k).at = ap (λ (m : ℕ). (piece_of pl m).at) (sym slot.number) ∙ stands.at in
      let room : piece_bytes x ≤ (slot_at slots slot.k).span = subst (λ (m : ℕ). piece_bytes (piece_of pl m) ≤ (slot_at slots slot.k).span) slot.number stands.room in
      let inside = slot_ends v g pl.count board pl.programme pl.choice laid is.placement.can slot.k slot.of.0 in
      let to = inside.to in
      let ends = (is.accepted.lawful.ranges 1 no_area (omega arith)).within in
      let chosen = is.placement.pieces n no_piece below in
      let range = range_is c x.range chosen.copied.shape in
      let last = range.below in
      let in_range = (held b x.range holds).1 in
      let before = part_below c g x.range b (omega (arith, last, in_range)) in
      let count = chosen.copy.count in
      let some = some_copied v c g x.range is.code range in
      omega (arith, at, room, to, ends, before, count)

  ends_well : (at b : ℕ) (stub : ServingStub) → HasBody c g pl at b stub → CanEnd stub.body
  ends_well at b stub (ToCopy n below holds body) =
      let aligned = (is.placement.pieces n no_piece below).aligned in
      let there : (address_of (copy_in c g pl n) (words_before (copy_in c g pl n) b) % 4 ≡ 0) × (address_of (copy_in c g pl n) (words_before (copy_in c g pl n) b) < 4294967296) =
      (omega (arith, aligned), copy_ends n b below holds) in
      subst (λ (body : StubBody). CanEnd body) (sym body) there
  ends_well at b stub (Displaced words none body are) = subst (λ (body : StubBody). CanEnd body) (sym body) tt

  region_few : (b r : ℕ) → r ≡ (if is_border pl.borders b then region_in pl.regions b else 0) → r ≤ plan.regions
  region_few b r same =
      let count : plan.regions ≡ pl.count = planned.jobs.count in
      let below = is.placement.below b in
      let most = by (is_border pl.borders b) (region_in pl.regions b) in
      omega (arith, same, count, below, most)
    where
      by : (t : Bool) (n : ℕ) → (if t then n else 0) ≤ n
      by true n = omega arith
      by false n = omega arith

  reaches : (k r : ℕ) (d : ServingStub) → k < length plan.stubs → (get_or plan.stubs k d).region ≡ r → Reaches (serving_place plan (get_or plan.stubs k d)) (switch_at plan) r
  reaches k zero d below region = tt
  reaches k (suc r) d below region =
      let stub = get_or plan.stubs k d in
      let fits = below_fits serving_home serving_size plan.stubs k d below in
      let test = test_there r stub region in
      let before = before_aligned stub.home plan.stubs in
      let whole = sizes_even plan.stubs in
      let start = bytes_are plan.start in
      let base = lying.base in
      let ends = lying.ends in
      let end = near.ends in
      let aligned = near.base in
      let small = patch_small v board is.accepted.layout in
      in_reach 1048576 (serving_place plan stub + 52) (switch_at plan) (omega arith) (omega (arith, fits, test, ends, end)) (omega (arith, ends, end)) (omega (arith, ends, base, small)) (omega (arith, fits, test))
      (omega (arith, before, start, base, aligned)) (omega (arith, whole, start, base, aligned))

  serves : All (CanServe plan) plan.stubs
  serves k d below =
      let some = planned.stubs.only k d below in
      let from = some.serves.free.from in
      let under = some.serves.free.below in
      record {
        above = from;
        below = omega (arith, under);
        region = region_few some.block (get_or plan.stubs k d).region some.serves.region;
        body = ends_well (stub_body_at plan (get_or plan.stubs k d)) some.block (get_or plan.stubs k d) some.serves.body;
        reach = reaches k (get_or plan.stubs k d).region d below refl;
      }

  pub holds : CanHold plan
  holds =
      let count : plan.regions ≡ pl.count = planned.jobs.count in
      let few = few_regions pl.choice.on t is.few in
      let side = is.count_is in
      let ends = lying.ends in
      let end = near.ends in
      record {
        start = start_can;
        few = omega (arith, count, few, side);
        stubs = serves;
        apart = planned.apart;
        jobs = changes;
        spared = start_jobs_are.2;
        ends = omega (arith, ends, end);
      }

pub plans_fit_so : PlansFit
plans_fit_so file board g c t pieces pl plan is planned = record {
  start = planned.start;
  jobs = planned.jobs;
  twins = planned.twins;
  stubs = planned.stubs;
  images = planned.images;
  places = planned.places;
  can = holds file board g c t pieces pl plan is planned;
  lies = lies file board g c t pieces pl plan is planned;
}
