-- The jobs of a choice in a plan of the patch range.
use Rattle.std.proofs.Common.{◌≡◌, ◌⊎◌, inl, inr, ℕ, zero, suc, ◌+◌, ◌-◌, ◌*◌, ◌<◌, ◌≤◌, List, [], length, Option, Some, None, refl, sym, ap, subst, arith}
use Rattle.std.specs.Prelude.{All}
use Rattle.std.proofs.lemmas.Bool.{cases_eq}
use Rattle.std.proofs.lemmas.Bool.Decides.{nat_tests}
use Rattle.std.proofs.lemmas.List.Elements.{All-weaker}
use Rattle.elf_reader.specs.File.{PlainView}
use Rattle.board_config.specs.declared.board.Board.{Board}
use Rattle.rv32im.specs.declared.instructions.Instr.{Instr}
use Rattle.object_graph.specs.declared.parts.Graph.{Graph}
use Rattle.object_graph.specs.Sites.{no_area}
use Rattle.cell_values.specs.Objects.{object_of}
use Rattle.placement_programme.specs.Plain.{PlainProgramme, PlainChoice}
use Rattle.patch_code.specs.declared.job.CopyJob.{CopyJob}
use Rattle.patch_code.specs.Jobs.{AreDisjoint, IsJob}
use Rattle.patch_code.specs.Parts.{SwitchPlan, twin_in}
use Rattle.patch_code.specs.Switching.{routine, jobs_code}
use Rattle.patch_code.specs.Counts.{kept_words, region_words, first_words}
use Rattle.patch_code.proofs.Counts.{routine_count_so}
use Rattle.patch_code.specs.Start.{Spares, start_at, start_bytes}
use Rattle.patch_code.specs.Overlay.{OverlayPlan, switching, switch_code, switch_bytes, serving_at, rest_bytes, SparesWords, CanMove, CanChange}
use Rattle.relocator.specs.declared.slots.Slot.{Slot}
use Rattle.relocator.specs.Placing.{chosen_slots}
use Rattle.result_laws.specs.ChosenJobs.{Images, start_jobs, IsPlanOf}
use Rattle.result_laws.specs.SwitchLaws.{CanStart}
use Rattle.result_laws.specs.JobLaws.{HaveBytes, ReadsHome, ReadsImage, GoesIn, GoesHome}
use Rattle.result_laws.specs.PatchLaws.{IsOffPatch, LiesInPatch, JobsSpare}
use Rattle.result_laws.proofs.JobChosen.{among}
use Rattle.result_laws.proofs.Fitting.{disjoint_of}
use Rattle.result_laws.proofs.Plans.{kept_none}
use Rattle.result_laws.proofs.JobsFit.{start_fit, region_fits}

-- a range that is disjoint from another is so from all parts of that
part_of : (a n b m at size : ℕ) → AreDisjoint a n b m → b ≤ at → at + size ≤ b + m → AreDisjoint a n at size
part_of a n b m at size (inl before) from to = inl (omega (arith, before, from))
part_of a n b m at size (inr behind) from to = inr (omega (arith, behind, to))

-- ---- how many jobs

region_among : (w : SwitchPlan (List CopyJob)) (n i : ℕ) → i < n → region_words w i ≤ first_words w n
region_among w zero i below = absurd (omega (arith, below))
region_among w (suc n) i below = elim (cases_eq i n) [
  | inl same ↦ subst (λ (k : ℕ). region_words w k ≤ first_words w (suc n)) (sym same) (omega arith)
  | inr other ↦ let rest = region_among w n i (omega (arith, below, other)) in omega (arith, rest)
]

-- kept jobs are counted, or there are none
kept_counted : (twin : Option ℕ) (jobs : List CopyJob) → (twin ≡ None → jobs ≡ []) → 11 * length jobs ≤ kept_words twin jobs
kept_counted None jobs none = let empty : length jobs ≡ 0 = ap (λ (js : List CopyJob). length js) (none refl) in omega (arith, empty)
kept_counted (Some k) jobs none = omega arith

module _ (v : PlainView) (g : Graph) (regions : ℕ) (board : Board) (q : PlainProgramme) (c : PlainChoice) (images : Images) (p : OverlayPlan) (can : CanStart v g regions board q c images) (have : HaveBytes (chosen_slots board q c) images) (off : IsOffPatch board.spm board.patch g (chosen_slots board q c) images) (lies : LiesInPatch board.patch p) where
  abbrev slots : List Slot
  slots = chosen_slots board q c

  patch_some : 1 ≤ board.patch.size
  patch_some = (can.laid.lawful.ranges 2 no_area (omega arith)).some

  in_scratchpad : (at n : ℕ) → 1 ≤ n → board.spm.base ≤ at → at + n ≤ board.spm.base + board.spm.size → AreDisjoint at n board.patch.base board.patch.size
  in_scratchpad at n some from to =
      disjoint_of at n board.patch.base board.patch.size some patch_some
      (λ i j inside inside_too same. off.scratchpad (at + i - board.spm.base) j (omega (arith, from, to, inside)) inside_too (omega (arith, from, same)))

  at_home : (at n o : ℕ) → 1 ≤ n → at ≡ (object_of g o).home → n ≡ (object_of g o).size → AreDisjoint at n board.patch.base board.patch.size
  at_home at n o some from bytes =
      disjoint_of at n board.patch.base board.patch.size some patch_some
      (λ i j inside inside_too same. off.homes o i j (omega (arith, bytes, inside)) inside_too (omega (arith, from, same)))

  -- parts of the patch range
  control : (a n : ℕ) → AreDisjoint a n board.patch.base board.patch.size → AreDisjoint a n p.start.base 64
  control a n apart =
      let base = lies.base in
      let ends = lies.ends in
      part_of a n board.patch.base board.patch.size p.start.base 64 apart (omega (arith, base)) (omega (arith, base, ends))

  code : (a n : ℕ) → AreDisjoint a n board.patch.base board.patch.size → AreDisjoint a n (start_at p.start) (start_bytes p.start + rest_bytes p)
  code a n apart =
      let base = lies.base in
      let ends = lies.ends in
      part_of a n board.patch.base board.patch.size (start_at p.start) (start_bytes p.start + rest_bytes p) apart (omega (arith, base)) (omega (arith, ends))

  stub : (a n : ℕ) → AreDisjoint a n board.patch.base board.patch.size → AreDisjoint a n p.start.base (64 + start_bytes p.start)
  stub a n apart =
      let base = lies.base in
      let ends = lies.ends in
      part_of a n board.patch.base board.patch.size p.start.base (64 + start_bytes p.start) apart (omega (arith, base)) (omega (arith, ends))

  words : (a n : ℕ) → AreDisjoint a n board.patch.base board.patch.size → AreDisjoint a n (serving_at p) (rest_bytes p)
  words a n apart =
      let base = lies.base in
      let ends = lies.ends in
      part_of a n board.patch.base board.patch.size (serving_at p) (rest_bytes p) apart (omega (arith, base)) ends

  -- ---- one job

  target_in : (job : CopyJob) → GoesIn board.spm g slots images job → AreDisjoint job.to job.bytes board.patch.base board.patch.size
  target_in job is = in_scratchpad job.to job.bytes is.is.some is.from is.to

  source_in : (job : CopyJob) → GoesIn board.spm g slots images job → AreDisjoint job.from job.bytes p.start.base 64
  source_in job is = by is.source
    where
      by : ReadsHome g job ⊎ ReadsImage slots images job → AreDisjoint job.from job.bytes p.start.base 64
      by (inl home) = control job.from job.bytes (at_home job.from job.bytes home.o is.is.some home.from home.bytes)
      by (inr image) =
          let behind = off.images_behind image.k image.of in
          let from = image.from in
          let base = lies.base in
          inr (omega (arith, behind, from, base))

  moves_in : (job : CopyJob) → GoesIn board.spm g slots images job → CanMove p job
  moves_in job is =
      let target = target_in job is in
      record { is = is.is; control = control job.to job.bytes target; code = code job.to job.bytes target; source = source_in job is }

  moves_home : (job : CopyJob) → GoesHome board.spm g job → CanMove p job
  moves_home job is =
      let target = at_home job.to job.bytes is.o is.is.some is.target is.bytes in
      record {
        is = is.is;
        control = control job.to job.bytes target;
        code = code job.to job.bytes target;
        source = control job.from job.bytes (in_scratchpad job.from job.bytes is.is.some is.from is.to);
      }

  -- ---- all jobs

  pub start_spares : p.start.jobs ≡ start_jobs g images slots → All IsJob p.start.jobs × All (Spares p.start) p.start.jobs × All (SparesWords p) p.start.jobs
  start_spares same =
      let all = subst (λ (js : List CopyJob). All (GoesIn board.spm g slots images) js) (sym same) (start_fit v g regions board q c images can have) in (
        All-weaker (GoesIn board.spm g slots images) IsJob (λ job is. is.is) p.start.jobs all,
        All-weaker (GoesIn board.spm g slots images) (Spares p.start) (λ job is. stub job.to job.bytes (target_in job is)) p.start.jobs all,
        All-weaker (GoesIn board.spm g slots images) (SparesWords p) (λ job is. words job.to job.bytes (target_in job is)) p.start.jobs all,
      )

  module _ (plan : IsPlanOf g images slots regions (switching p)) (i : ℕ) (below : i < regions) where
    inside : i < p.regions
    inside = let count = plan.count in omega (arith, count, below)

    routine_there : switch_code p ≡ routine jobs_code (switching p)
    routine_there = let some = inside in grind (arith, nat_tests, some)

    none : twin_in (switching p) (i + 1) ≡ None → (p.kept_leave i ≡ []) × (p.kept_enter i ≡ [])
    none alone = kept_none g slots images regions (switching p) plan (among v g regions board q c can.laid can.can) i below alone

    counted : 44 * (length (p.leave i) + length (p.enter i)) + 44 * (length (p.kept_leave i) + length (p.kept_enter i)) + 44 ≤ switch_bytes p
    counted =
        let whole = routine_count_so (switching p) in
        let bytes : switch_bytes p ≡ 4 * length (routine jobs_code (switching p)) = ap (λ (is : List Instr). 4 * length is) routine_there in
        let region = region_among (switching p) p.regions i inside in
        let out = kept_counted (twin_in (switching p) (i + 1)) (p.kept_leave i) (λ alone. (none alone).0) in
        let in_too = kept_counted (twin_in (switching p) (i + 1)) (p.kept_enter i) (λ alone. (none alone).1) in
        omega (arith, whole, bytes, region, out, in_too)

    few : switch_bytes p + 64 ≤ 1048576
    few =
        let ends = lies.ends in
        let base = lies.base in
        let most = can.laid.lawful.patch.most_size in
        omega (arith, ends, base, most)

    pub region_changes : CanChange p i
    region_changes =
        let fits = region_fits v g regions board q c images can have (switching p) plan i below in
        let all = counted in
        let most = few in
        record {
          leave = All-weaker (GoesHome board.spm g) (CanMove p) moves_home (p.leave i) fits.leave;
          enter = All-weaker (GoesIn board.spm g slots images) (CanMove p) moves_in (p.enter i) fits.enter;
          kept_leave = All-weaker (GoesHome board.spm g) (CanMove p) moves_home (p.kept_leave i) fits.kept_leave;
          kept_enter = All-weaker (GoesIn board.spm g slots images) (CanMove p) moves_in (p.kept_enter i) fits.kept_enter;
          short_leave = omega (arith, all, most);
          short_enter = omega (arith, all, most);
        }

pub jobs_spare_so : JobsSpare
jobs_spare_so = record {
  start = λ v g regions board q c images p can have off lies same. start_spares v g regions board q c images p can have off lies same;
  regions = λ v g regions board q c images p i can have off lies plan below. region_changes v g regions board q c images p can have off lies plan i below;
}
