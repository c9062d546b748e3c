-- All jobs of a plan fit, and those of each region take at most the scratchpad's room.
use Rattle.std.proofs.Common.{◌≡◌, inl, inr, ℕ, ◌+◌, ◌<◌, ◌≤◌, Bool, true, false, List, ◌++◌, length, sym, subst, arith}
use Rattle.std.specs.Prelude.{All}
use Rattle.std.proofs.lemmas.List.Elements.{All-append, All-weaker}
use Rattle.std.proofs.lemmas.List.Sums.{sum_by-append}
use Rattle.elf_reader.specs.File.{PlainView}
use Rattle.board_config.specs.declared.board.Board.{Board}
use Rattle.object_graph.specs.declared.parts.Graph.{Graph}
use Rattle.cell_values.specs.Objects.{object_of}
use Rattle.placement_programme.specs.declared.variables.VarName.{VarName}
use Rattle.placement_programme.specs.Plain.{PlainProgramme, PlainChoice}
use Rattle.patch_code.specs.declared.job.CopyJob.{CopyJob}
use Rattle.patch_code.specs.Parts.{SwitchPlan}
use Rattle.patch_code.specs.Counts.{FitsRoom, span, spans}
use Rattle.relocator.specs.declared.items.Item.{Item}
use Rattle.relocator.specs.declared.slots.Slot.{Slot}
use Rattle.relocator.specs.Slots.{region_lane, pair_lane, pair_of, bytes_in, first_slots, items_of}
use Rattle.relocator.specs.Placing.{chosen_slots}
use Rattle.relocator.specs.Laws.{slot_at}
use Rattle.result_laws.specs.ChosenJobs.{Images, is_overlaid, is_kept, is_static, start_jobs, code_number, IsPlanOf}
use Rattle.result_laws.specs.SwitchLaws.{CanStart}
use Rattle.result_laws.specs.JobLaws.{HaveBytes, GoesIn, GoesHome, AreJobsOf, room_left, JobsFit}
use Rattle.result_laws.proofs.ListLemmas.{job_at, homes_at}
use Rattle.result_laws.proofs.Moved.{IsThere, into_is, image_is, moved_is, static_is, homes_span}
use Rattle.result_laws.proofs.JobChosen.{grain_is, room_for, whole_slot, static_room, region_room}
use Rattle.result_laws.proofs.Fitting.{overlaid_moved, kept_moved, all_in, all_home, overlaid_in, kept_in}
use Rattle.result_laws.proofs.Room.{span_least, entering_span, leaving_span, static_lane, overlaid_lane, kept_lane}

module _ (v : PlainView) (g : Graph) (regions : ℕ) (board : Board) (p : PlainProgramme) (c : PlainChoice) (images : Images) (can : CanStart v g regions board p c images) where
  abbrev slots : List Slot
  slots = chosen_slots board p c

  pub start_fit : HaveBytes slots images → All (GoesIn board.spm g slots images) (start_jobs g images slots)
  start_fit have = all_in v g regions board p c images can have is_static 0 (omega arith) static_is

  -- a job takes at most its slot's span
  into_span : (which : VarName → Bool) (region : ℕ) → ((name : VarName) → which name ≡ true → IsThere region name) → (k : ℕ) → k < length slots → which (slot_at slots k).name ≡ true → span (job_at g images (0 + code_number slots k) slots k) ≤ (slot_at slots k).span
  into_span which region there k below passes =
      subst (λ (m : ℕ). span (job_at g images m slots k) ≤ (slot_at slots k).span) (omega arith) (by (there (slot_at slots k).name passes))
    where
      by : IsThere region (slot_at slots k).name → span (job_at g images (code_number slots k) slots k) ≤ (slot_at slots k).span
      by (inl put) =
          let room = (room_for v g regions board p c can.laid can.can k region put.0 below put.1).room in
          subst (λ (job : CopyJob). span job ≤ (slot_at slots k).span)
          (sym (into_is g images (code_number slots k) (slot_at slots k).at region (slot_at slots k).name put.0 put.1))
          (span_least g.grain (object_of g put.0).size (slot_at slots k).span (grain_is v g board can.laid) (whole_slot v g regions board p c can.laid can.can k below) (omega (arith, room)))
      by (inr code) =
          subst (λ (job : CopyJob). span job ≤ (slot_at slots k).span)
          (sym (image_is g images (code_number slots k) (slot_at slots k).at (slot_at slots k).name code.0))
          (span_least g.grain (images.bytes (code_number slots k)) (slot_at slots k).span (grain_is v g board can.laid) (whole_slot v g regions board p c can.laid can.can k below)
          (can.fitting.fit k (below, code.0)))

  home_span : (which : VarName → Bool) (region : ℕ) → ((name : VarName) → which name ≡ true → IsThere region name) → (k : ℕ) → k < length slots → which (slot_at slots k).name ≡ true → spans (homes_at g slots k) ≤ (slot_at slots k).span
  home_span which region there k below passes =
      homes_span region g (slot_at slots k).at (slot_at slots k).span (slot_at slots k).name (there (slot_at slots k).name passes)
      (λ o is.
      let room = (room_for v g regions board p c can.laid can.can k region o below is).room in
      span_least g.grain (object_of g o).size (slot_at slots k).span (grain_is v g board can.laid) (whole_slot v g regions board p c can.laid can.can k below) (omega (arith, room)))

  abbrev items : List Item
  items = items_of p c

  abbrev next : ℕ → ℕ
  next = first_slots board.spm.base items

  start_span : spans (start_jobs g images slots) ≤ bytes_in 0 items
  start_span = entering_span is_static 0 static_lane g images next 0 items (into_span is_static 0 static_is)

  pub start_takes : spans (start_jobs g images slots) ≤ board.spm.size
  start_takes =
      let first = start_span in
      let room = static_room v g regions board p c can.laid can.can in
      omega (arith, first, room)

  module _ (have : HaveBytes slots images) (w : SwitchPlan (List CopyJob)) (plan : IsPlanOf g images slots regions w) (i : ℕ) (below : i < regions) where
    abbrev region : ℕ
    region = i + 1

    within : region ≤ regions
    within = omega (arith, below)

    pub region_fits : AreJobsOf board.spm g slots images w i
    region_fits = record {
      leave = subst (λ (js : List CopyJob). All (GoesHome board.spm g) js) (sym (plan.leave i below)) (all_home v g regions board p c images can (is_overlaid region) region within (overlaid_moved v g regions board p c images can region));
      enter = subst (λ (js : List CopyJob). All (GoesIn board.spm g slots images) js) (sym (plan.enter i below)) (overlaid_in v g regions board p c images can have region within);
      kept_leave = subst (λ (js : List CopyJob). All (GoesHome board.spm g) js) (sym (plan.kept_leave i below)) (all_home v g regions board p c images can (is_kept region) region within (kept_moved v g regions board p c images can region));
      kept_enter = subst (λ (js : List CopyJob). All (GoesIn board.spm g slots images) js) (sym (plan.kept_enter i below)) (kept_in v g regions board p c images can have region within);
    }

    overlaid_there : (name : VarName) → is_overlaid region name ≡ true → IsThere region name
    overlaid_there name is = moved_is false region 0 g name (overlaid_moved v g regions board p c images can region name is)

    kept_there : (name : VarName) → is_kept region name ≡ true → IsThere region name
    kept_there name is = moved_is false region 0 g name (kept_moved v g regions board p c images can region name is)

    two_spans : (xs ys : List CopyJob) → spans xs ≤ bytes_in (region_lane region) items → spans ys ≤ bytes_in (pair_lane (pair_of region)) items → spans (xs ++ ys) ≤ room_left board g images slots
    two_spans xs ys first second =
        let whole = sum_by-append span xs ys in
        let start = start_span in
        let room = region_room v g regions board p c can.laid can.can region (omega arith) within in
        omega (arith, whole, start, first, second, room)

    some_home : (jobs : List CopyJob) → All (GoesHome board.spm g) jobs → All (λ (job : CopyJob). 1 ≤ job.bytes) jobs
    some_home jobs go = All-weaker (GoesHome board.spm g) (λ (job : CopyJob). 1 ≤ job.bytes) (λ job is. is.is.some) jobs go

    some_in : (jobs : List CopyJob) → All (GoesIn board.spm g slots images) jobs → All (λ (job : CopyJob). 1 ≤ job.bytes) jobs
    some_in jobs go = All-weaker (GoesIn board.spm g slots images) (λ (job : CopyJob). 1 ≤ job.bytes) (λ job is. is.is.some) jobs go

    pub region_takes : FitsRoom w (room_left board g images slots) i
    region_takes = record {
      leave =
          two_spans (w.leave i) (w.kept_leave i)
          (subst (λ (js : List CopyJob). spans js ≤ bytes_in (region_lane region) items) (sym (plan.leave i below))
          (leaving_span (is_overlaid region) (region_lane region) (overlaid_lane region) g next items (home_span (is_overlaid region) region overlaid_there)))
          (subst (λ (js : List CopyJob). spans js ≤ bytes_in (pair_lane (pair_of region)) items) (sym (plan.kept_leave i below))
          (leaving_span (is_kept region) (pair_lane (pair_of region)) (kept_lane region) g next items (home_span (is_kept region) region kept_there)));
      enter =
          two_spans (w.enter i) (w.kept_enter i)
          (subst (λ (js : List CopyJob). spans js ≤ bytes_in (region_lane region) items) (sym (plan.enter i below))
          (entering_span (is_overlaid region) (region_lane region) (overlaid_lane region) g images next 0 items (into_span (is_overlaid region) region overlaid_there)))
          (subst (λ (js : List CopyJob). spans js ≤ bytes_in (pair_lane (pair_of region)) items) (sym (plan.kept_enter i below))
          (entering_span (is_kept region) (pair_lane (pair_of region)) (kept_lane region) g images next 0 items (into_span (is_kept region) region kept_there)));
      leave_some = All-append (λ (job : CopyJob). 1 ≤ job.bytes) (w.leave i) (w.kept_leave i) (some_home (w.leave i) region_fits.leave) (some_home (w.kept_leave i) region_fits.kept_leave);
      enter_some = All-append (λ (job : CopyJob). 1 ≤ job.bytes) (w.enter i) (w.kept_enter i) (some_in (w.enter i) region_fits.enter) (some_in (w.kept_enter i) region_fits.kept_enter);
    }

pub jobs_fit_so : JobsFit
jobs_fit_so = record {
  start = start_fit;
  start_room = start_takes;
  regions = λ v g regions board p c images w i can have plan below. region_fits v g regions board p c images can have w plan i below;
  room = λ v g regions board p c images w i can have plan below. region_takes v g regions board p c images can have w plan i below;
}
