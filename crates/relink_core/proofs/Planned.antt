-- A plan of named jobs is the plan of slots, and its images begin where one with any images says.
use Rattle.std.proofs.Common.{◌≡◌, ◌∙◌, ℕ, ◌+◌, ◌<◌, ◌≤◌, ◌==◌, Bool, true, ◌&&◌, List, [], length, map, get_or, refl, sym, ap, subst, arith}
use Rattle.std.specs.List.{All, sum_by}
use Rattle.std.proofs.lemmas.Bool.Decides.{nat_tests}
use Rattle.std.proofs.lemmas.List.{length-map, get_or-map}
use Rattle.list_checks.specs.Sorted.{sum_below}
use Rattle.board_config.specs.declared.board.Board.{Board}
use Rattle.object_graph.specs.declared.parts.Graph.{Graph}
use Rattle.placement_programme.specs.declared.variables.VarName.{VarName}
use Rattle.placement_programme.specs.declared.variables.VarName.TheVariants.{StaticData, StaticCode, OverlayData, OverlayCode, KeptData}
use Rattle.patch_code.specs.declared.job.CopyJob.{CopyJob}
use Rattle.patch_code.specs.Jobs.{fences}
use Rattle.patch_code.specs.declared.stub_plan.Stub.{Stub}
use Rattle.patch_code.specs.declared.stub_plan.StubPlan.{StubPlan}
use Rattle.patch_code.specs.Start.{StartPlan, start_bytes}
use Rattle.patch_code.specs.Serving.{serving_bytes}
use Rattle.patch_code.specs.Layout.{image_bytes, image_places}
use Rattle.patch_code.specs.Overlay.{switching, rest_bytes, overlay_images_at}
use Rattle.patch_code.specs.StubPlans.{serving_stub, HasLists, overlay_plan}
use Rattle.patch_code.proofs.WordLemmas.{bytes_are}
use Rattle.relocator.specs.declared.slots.Slot.{Slot}
use Rattle.relocator.specs.Slots.{pair_of, code_slots}
use Rattle.result_laws.specs.ChosenJobs.{Images, start_jobs, entering, leaving, HasTwins, IsPlanOf}
use Rattle.relink_core.specs.declared.items.Phase.{Phase}
use Rattle.relink_core.specs.declared.items.Phase.TheVariants.{Start, Overlaid, Kept}
use Rattle.relink_core.specs.declared.items.PlannedItems.{PlannedItems}
use Rattle.relink_core.specs.Counting.{all_jobs, routine_fixed}
use Rattle.relink_core.specs.Naming.{in_phase, phase_region, images_of, copied_words, name_in, AreSlotted, IsKnown, CanPlan, images_at, named_entering, named_leaving, phase_entering, phase_leaving}
use Rattle.relink_core.specs.Planning.{HasJobs, pieces_in, IsChosen, plan_bytes, IsPlanMade}
use Rattle.relink_core.proofs.JobCounts.{planned_jobs, by_name, names_listed, jobs_counted}
use Rattle.relink_core.proofs.RoutineRoom.{routine_fits}
use Rattle.relink_core.proofs.Slotted.{PutsAt, Stands, entering_same, leaving_same}
use Rattle.relink_core.proofs.Made.{images_summed, pieces_words, pieces_places, images_are, phase_long, AreAsLong, routine_same}

-- ---- phases

both_true : (a b : Bool) → a ≡ true → b ≡ true → a && b ≡ true
both_true a b first second = rw (first, second) refl

same_number : (n : ℕ) → (n == n) ≡ true
same_number n = grind (arith, nat_tests)

passes : (phase : Phase) (name : VarName) → in_phase phase name ≡ true → PutsAt (phase_region phase) name
passes Start (StaticData o) on = same_number o
passes Start (StaticCode first last) on = tt
passes Start (OverlayData own o) on = absurd (cc (on))
passes Start (OverlayCode own first last) on = tt
passes Start (KeptData pair o) on = absurd (cc (on))
passes (Overlaid r) (StaticData o) on = absurd (cc (on))
passes (Overlaid r) (StaticCode first last) on = tt
passes (Overlaid r) (OverlayData own o) on = both_true (o == o) (own == r) (same_number o) on
passes (Overlaid r) (OverlayCode own first last) on = tt
passes (Overlaid r) (KeptData pair o) on = absurd (cc (on))
passes (Kept r) (StaticData o) on = absurd (cc (on))
passes (Kept r) (StaticCode first last) on = tt
passes (Kept r) (OverlayData own o) on = absurd (cc (on))
passes (Kept r) (OverlayCode own first last) on = tt
passes (Kept r) (KeptData pair o) on = both_true (o == o) (pair_of r == pair) (same_number o) on

module _ (items : PlannedItems) (slots : List Slot) (slotted : AreSlotted items slots) (can : CanPlan items) where
  abbrev g : Graph
  g = items.graph.now

  known : All (λ s. IsKnown g s.name) slots
  known k d below =
      let count = length-map slots name_in in
      let names = ap (λ (ns : List VarName). length ns) slotted.names in
      let is = can.known k d.name (omega (arith, below, count, names)) in
      let same : get_or items.names.now k d.name ≡ (get_or slots k d).name = ap (λ (ns : List VarName). get_or ns k d.name) slotted.names ∙ get_or-map name_in slots k d d.name below in
      subst (λ (name : VarName). IsKnown g name) same is

  stands : (images : Images) (r : ℕ) → r ≤ items.regions → All (Stands g items.places.now images r) slots
  stands images r within k d below o inside puts_it =
      slotted.places.table.exact o r inside within ∙ slotted.stand r o within k d below puts_it

  code : (j : ℕ) → j < length (code_slots slots) → get_or items.places.now.code.items (0 + j) 0 ≡ get_or (code_slots slots) j 0
  code j below =
      let number : 0 + j ≡ j = omega arith in
      ap (λ (n : ℕ). get_or items.places.now.code.items n 0) number ∙ ap (λ (ns : List ℕ). get_or ns j 0) slotted.places.code

  pub entering_is : (phase : Phase) (places : List ℕ) → phase_region phase ≤ items.regions → phase_entering phase items places ≡ entering (in_phase phase) g (images_at places items.copies.now) 0 slots
  entering_is phase places within =
      let images = images_at places items.copies.now in
      ap (λ (ns : List VarName). named_entering (in_phase phase) g items.places.now images (phase_region phase) 0 ns) slotted.names
      ∙ entering_same g items.places.now images (phase_region phase) (in_phase phase) (passes phase) 0 slots known (stands images (phase_region phase) within) code

  pub leaving_is : (phase : Phase) → phase_region phase ≤ items.regions → phase_leaving phase items ≡ leaving (in_phase phase) g slots
  leaving_is phase within =
      let images = images_at [] items.copies.now in
      ap (λ (ns : List VarName). named_leaving (in_phase phase) g items.places.now (phase_region phase) ns) slotted.names
      ∙ leaving_same g items.places.now images (phase_region phase) (in_phase phase) (passes phase) slots known (stands images (phase_region phase) within)

  names_summed : (f : VarName → ℕ) → sum_by f items.names.now ≡ sum_by (by_name f) slots
  names_summed f = ap (sum_by f) slotted.names ∙ names_listed f slots

-- ---- a plan

module _ (entry : ℕ) (board : Board) (items : PlannedItems) (stubs : List Stub) (places : List ℕ) (plan : StubPlan) (has : HasJobs entry board items stubs places plan) where
  pub lists_are : HasLists plan
  lists_are =
      let count = has.count in
      let leave = has.leave.many in
      let enter = has.enter.many in
      let kept_leave = has.kept_leave.many in
      let kept_enter = has.kept_enter.many in
      record { leave = omega (arith, leave, count); enter = omega (arith, enter, count); kept_leave = omega (arith, kept_leave, count); kept_enter = omega (arith, kept_enter, count) }

  module _ (slots : List Slot) (chosen : IsChosen board items slots) (can : CanPlan items) where
    pub planned : IsPlanOf items.graph.now (images_at places items.copies.now) slots items.regions (switching (overlay_plan plan))
    planned = record {
      count = has.count;
      twins = subst (λ (b : Bool). All (λ s. HasTwins b s.name) slots) (sym has.twins) chosen.kept;
      leave = λ i below. has.leave.each i below ∙ leaving_is items slots chosen.slotted can (Overlaid (i + 1)) (omega (arith, below));
      enter = λ i below. has.enter.each i below ∙ entering_is items slots chosen.slotted can (Overlaid (i + 1)) places (omega (arith, below));
      kept_leave = λ i below. has.kept_leave.each i below ∙ leaving_is items slots chosen.slotted can (Kept (i + 1)) (omega (arith, below));
      kept_enter = λ i below. has.kept_enter.each i below ∙ entering_is items slots chosen.slotted can (Kept (i + 1)) places (omega (arith, below));
    }

    pub start_is : phase_entering Start items places ≡ start_jobs items.graph.now (images_at places items.copies.now) slots
    start_is = entering_is items slots chosen.slotted can Start places (omega arith)

    -- how many bytes it takes
    pub bytes_fit : 64 + start_bytes (overlay_plan plan).start + rest_bytes (overlay_plan plan) ≤ plan_bytes board items stubs
    bytes_fit =
        let p = overlay_plan plan in
        let start : length p.start.jobs ≡ length (phase_entering Start items places) = ap (λ (s : StartPlan). length s.jobs) has.start in
        let jobs = ap (λ (js : List CopyJob). length js) start_is in
        let all = jobs_counted items.graph.now (images_at places items.copies.now) slots items.regions (switching p) planned in
        let names = names_summed items slots chosen.slotted can (all_jobs items.graph.now items.regions) in
        let start_size = bytes_are p.start in
        let fence : p.start.fence_i ≡ board.fence_i = ap (λ (s : StartPlan). s.fence_i) has.start in
        let fence_words = ap (λ (b : Bool). length (fences b)) fence in
        let routine = routine_fits p in
        let fixed : routine_fixed p.start.fence_i p.twins p.regions ≡ routine_fixed board.fence_i board.twins items.regions = λ i. routine_fixed (fence i) (has.twins i) (has.count i) in
        let summed : sum_below (planned_jobs (switching p)) p.regions ≡ sum_below (planned_jobs (switching p)) items.regions = ap (sum_below (planned_jobs (switching p))) has.count in
        let served : serving_bytes p.stubs ≡ serving_bytes (map serving_stub stubs) = ap (λ (ss : List Stub). serving_bytes (map serving_stub ss)) has.stubs_are in
        let images = ap image_bytes has.words ∙ images_summed items.copies.now in
        omega (arith, start, jobs, all, names, start_size, fence_words, routine, fixed, summed, served, images)

-- ---- two of them

pub begins_same : (entry : ℕ) (board : Board) (items : PlannedItems) (stubs : List Stub) (one other : List ℕ) (plan next : StubPlan) → HasJobs entry board items stubs one plan → HasJobs entry board items stubs other next → overlay_images_at (overlay_plan plan) ≡ overlay_images_at (overlay_plan next)
begins_same entry board items stubs one other plan next has had =
    let p = overlay_plan plan in
    let q = overlay_plan next in
    let long = phase_long Start items one other in
    let jobs_p : length p.start.jobs ≡ length (phase_entering Start items one) = ap (λ (s : StartPlan). length s.jobs) has.start in
    let jobs_q : length q.start.jobs ≡ length (phase_entering Start items other) = ap (λ (s : StartPlan). length s.jobs) had.start in
    let bytes_p = bytes_are p.start in
    let bytes_q = bytes_are q.start in
    let fence : p.start.fence_i ≡ q.start.fence_i = ap (λ (s : StartPlan). s.fence_i) has.start ∙ sym (ap (λ (s : StartPlan). s.fence_i) had.start) in
    let fence_words = ap (λ (b : Bool). length (fences b)) fence in
    let base : p.start.base ≡ q.start.base = ap (λ (s : StartPlan). s.base) has.start ∙ sym (ap (λ (s : StartPlan). s.base) had.start) in
    let served : serving_bytes p.stubs ≡ serving_bytes q.stubs = ap (λ (ss : List Stub). serving_bytes (map serving_stub ss)) (has.stubs_are ∙ sym had.stubs_are) in
    let count = has.count in
    let as_long : AreAsLong (switching p) (switching q) p.regions = record {
      leave = λ i below. let inside : i < items.regions = omega (arith, below, count) in ap (λ (js : List CopyJob). length js) (has.leave.each i inside ∙ sym (had.leave.each i inside));
      enter = λ i below. let inside : i < items.regions = omega (arith, below, count) in
          ap (λ (js : List CopyJob). length js) (has.enter.each i inside) ∙ (phase_long (Overlaid (i + 1)) items one other ∙ sym (ap (λ (js : List CopyJob). length js) (had.enter.each i inside)));
      kept_leave = λ i below. let inside : i < items.regions = omega (arith, below, count) in ap (λ (js : List CopyJob). length js) (has.kept_leave.each i inside ∙ sym (had.kept_leave.each i inside));
      kept_enter = λ i below. let inside : i < items.regions = omega (arith, below, count) in
          ap (λ (js : List CopyJob). length js) (has.kept_enter.each i inside) ∙ (phase_long (Kept (i + 1)) items one other ∙ sym (ap (λ (js : List CopyJob). length js) (had.kept_enter.each i inside)));
    } in
    let routine = routine_same p q fence (has.twins ∙ sym had.twins) (has.count ∙ sym had.count) as_long in
    omega (arith, long, jobs_p, jobs_q, bytes_p, bytes_q, fence_words, base, served, routine)

-- so the second one is made, where its images stand as the first one says
pub plan_made : (entry : ℕ) (board : Board) (items : PlannedItems) (stubs : List Stub) (one other : List ℕ) (plan next : StubPlan) (first : ℕ) (slots : List Slot) → CanPlan items → HasJobs entry board items stubs one plan → HasJobs entry board items stubs other next → first ≡ overlay_images_at (overlay_plan plan) → other ≡ image_places first (map copied_words items.copies.now) → IsChosen board items slots → IsPlanMade entry board items slots stubs next
plan_made entry board items stubs one other plan next first slots can has had begins places chosen =
    let g = items.graph.now in
    let xs = items.copies.now in
    let at = overlay_images_at (overlay_plan next) in
    let same : first ≡ at = begins ∙ begins_same entry board items stubs one other plan next has had in
    let stand : other ≡ image_places at (map copied_words xs) = places ∙ ap (λ (n : ℕ). image_places n (map copied_words xs)) same in
    let images : images_at other xs ≡ images_of (pieces_in items next) = ap (λ (ns : List ℕ). images_at ns xs) stand ∙ images_are at xs in
    record {
      lists = lists_are entry board items stubs other next had;
      start = had.start ∙ ap (λ (js : List CopyJob). record { base = board.patch.base; entry = entry; fence_i = board.fence_i; jobs = js })
          (start_is entry board items stubs other next had slots chosen can ∙ ap (λ (is : Images). start_jobs g is slots) images);
      jobs = subst (λ (is : Images). IsPlanOf g is slots items.regions (switching (overlay_plan next))) images (planned entry board items stubs other next had slots chosen can);
      twins = had.twins;
      stubs_are = had.stubs_are;
      images = had.words ∙ pieces_words at xs;
      places = pieces_places at xs ∙ ap (image_places at) (sym had.words);
    }
