-- The code of a plan stands in the setup of a choice.
use Rattle.std.proofs.Common.{◌≡◌, ◌∙◌, inl, inr, ℕ, ◌+◌, ◌-◌, ◌*◌, ◌<◌, ◌≤◌, true, List, length, sym, ap, subst, arith}
use Rattle.std.specs.Prelude.{All}
use Rattle.std.proofs.lemmas.Bool.{cond-true}
use Rattle.std.proofs.lemmas.Bool.Decides.{nat_tests}
use Rattle.std.proofs.lemmas.List.Elements.{All-weaker}
use Rattle.rv32im.specs.Words.{byte_of}
use Rattle.rv32im.specs.Memory.{Memory}
use Rattle.board_config.specs.Board.{mapped_ranges}
use Rattle.board_config.specs.declared.board.Board.{Board}
use Rattle.object_graph.specs.Sites.{in_range}
use Rattle.object_graph.specs.declared.parts.Graph.{Graph}
use Rattle.code_blocks.proofs.LeaderLemmas.{left_passes, right_passes}
use Rattle.cell_values.specs.Objects.{object_of}
use Rattle.placement_programme.specs.Plain.{PlainProgramme, PlainChoice}
use Rattle.flat_machine.specs.Mapping.{is_mapped}
use Rattle.flat_machine.specs.Lines.{AreMapped}
use Rattle.patch_code.specs.declared.job.CopyJob.{CopyJob}
use Rattle.patch_code.specs.Jobs.{CanCopy}
use Rattle.patch_code.specs.Start.{start_bytes}
use Rattle.patch_code.specs.Overlay.{OverlayPlan, switching, rest_bytes}
use Rattle.patch_code.specs.Served.{HoldsCode}
use Rattle.patch_code.proofs.WholePlaces.{overlay_stands_so}
use Rattle.result_laws.specs.ChosenJobs.{Images}
use Rattle.result_laws.specs.JobLaws.{ReadsImage, GoesIn, GoesHome, AreJobsOf}
use Rattle.result_laws.specs.SwitchLaws.{CanStart}
use Rattle.result_laws.proofs.Setting.{choice_setting}
use Rattle.result_laws.proofs.JobsFit.{jobs_fit_so}
use Rattle.result_laws.proofs.PatchHomes.{images_lie_so}
use Rattle.result_laws.specs.Pads.{PlanStands}
use Rattle.result_laws.specs.Home.{is_code_byte}
use Rattle.result_laws.specs.OverlaySetup.{is_stub_byte, source_below, is_number_byte}
use Rattle.result_laws.proofs.HomeSound.{sound_home}
use Rattle.result_laws.proofs.Ranges.{lies_in_range, spm_mapped, patch_mapped, patch_lawful}
use Rattle.result_laws.proofs.Words.{same_word}
use Rattle.result_laws.specs.SetupLaws.{IsOverlay}
use Rattle.result_laws.specs.Plans.{HoldsPlan, PlanOfChoice}
use Rattle.result_laws.proofs.Copies.{inside_at}
use Rattle.result_laws.proofs.SetupParts.{laid}
use Rattle.result_laws.proofs.OfChoice.{stub_stands}

module _ (file : List ℕ) (board : Board) (g : Graph) (regions : ℕ) (q : PlainProgramme) (c : PlainChoice) (images : Images) (mem : Memory) (is : IsOverlay file board g regions q c images) where
  open (choice_setting file board g q c images mem) use {v, l, slots}

  pub starts : CanStart v g regions board q c images
  starts =
      let laid_out = laid file board g regions q c images mem is in
      record { laid = laid_out; can = is.can; fitting = (images_lie_so v board g slots images laid_out is.lie).0 }

  -- ---- jobs

  home_mapped : (job : CopyJob) (o : ℕ) (at : ℕ) → at ≡ (object_of g o).home → job.bytes ≡ (object_of g o).size → AreMapped (mapped_ranges board) at job.bytes
  home_mapped job o at from bytes i below =
      subst (λ n. is_mapped (mapped_ranges board) (n + i) ≡ true) (sym from)
      ((sound_home file board g is.accepted).objects_mapped o i (subst (λ n. i < n) bytes below))

  scratchpad_mapped : (at bytes : ℕ) → board.spm.base ≤ at → at + bytes ≤ board.spm.base + board.spm.size → AreMapped (mapped_ranges board) at bytes
  scratchpad_mapped at bytes from to i below = spm_mapped board (at + i) (lies_in_range board.spm 0 bytes at i from to below)

  image_mapped : (job : CopyJob) → ReadsImage slots images job → AreMapped (mapped_ranges board) job.from job.bytes
  image_mapped job x i below =
      let from = is.lie.from x.k x.of in
      let to = is.lie.to x.k x.of in
      let at = x.from in
      let bytes = x.bytes in
      patch_mapped board (job.from + i)
      (lies_in_range board.patch 0 job.bytes job.from i (omega (arith, from, at)) (omega (arith, to, at, bytes)) below)

  goes_in : (job : CopyJob) → GoesIn board.spm g slots images job → CanCopy (mapped_ranges board) job
  goes_in job x =
      let to = scratchpad_mapped job.to job.bytes x.from x.to in
      elim x.source [
        | inl home ↦ (home_mapped job home.o job.from home.from home.bytes, to)
        | inr image ↦ (image_mapped job image, to)
      ]

  goes_home : (job : CopyJob) → GoesHome board.spm g job → CanCopy (mapped_ranges board) job
  goes_home job x = (scratchpad_mapped job.from job.bytes x.from x.to, home_mapped job x.o job.to x.target x.bytes)

  pub all_in : (jobs : List CopyJob) → All (GoesIn board.spm g slots images) jobs → All (CanCopy (mapped_ranges board)) jobs
  all_in jobs go = All-weaker (GoesIn board.spm g slots images) (CanCopy (mapped_ranges board)) goes_in jobs go

  all_home : (jobs : List CopyJob) → All (GoesHome board.spm g) jobs → All (CanCopy (mapped_ranges board)) jobs
  all_home jobs go = All-weaker (GoesHome board.spm g) (CanCopy (mapped_ranges board)) goes_home jobs go

  -- ---- the plan

  module _ (plan : OverlayPlan) (words : List ℕ) (holds : HoldsPlan board g slots images regions plan words mem) where
    abbrev base : ℕ
    base = plan.start.base

    jobs_of : (i : ℕ) → i < plan.regions → AreJobsOf board.spm g slots images (switching plan) i
    jobs_of i below =
        let count = holds.jobs.count in
        let laid_out = laid file board g regions q c images mem is in
        jobs_fit_so.regions v g regions board q c images (switching plan) i starts (images_lie_so v board g slots images laid_out is.lie).1 holds.jobs
        (omega (arith, below, count))

    patch_holds : 4 * length words ≤ board.patch.size
    patch_holds =
        let count = overlay_stands_so.count plan words holds.are in
        let ends : base + 64 + start_bytes plan.start + rest_bytes plan ≤ board.patch.base + board.patch.size = holds.lies.ends in
        let same = holds.lies.base in
        omega (arith, count, ends, same)

    in_patch : (i : ℕ) → i < 4 * length words → in_range board.patch (base + i) ≡ true
    in_patch i below =
        let room = patch_holds in
        subst (λ n. in_range board.patch (n + i) ≡ true) (sym holds.lies.base)
        (inside_at board.patch.base board.patch.size i (omega (arith, below, room)))

    is_stub : (i : ℕ) → 64 ≤ i → i < 4 * length words → is_stub_byte board (base + i) ≡ true
    is_stub i from below =
        let room = patch_holds in
        let within : i < board.patch.size = omega (arith, below, room) in
        subst (λ n. is_stub_byte board (n + i) ≡ true) (sym holds.lies.base) (grind (arith, nat_tests, from, within))

    module _ (r : ℕ) where
      code_byte : (i : ℕ) → 64 ≤ i → i < 4 * length words → l.still r (base + i) ≡ mem (base + i)
      code_byte i from below = (stub_stands file board g regions q c images mem is r (base + i) (is_stub i from below)).1

      code_still : HoldsCode (l.still r) base words
      code_still k from below =
          let room = patch_holds in
          let same = holds.lies.base in
          let ends = (patch_lawful board is.accepted.lawful).within in
          let high : base + 4 * k + 3 < 4294967296 = omega (arith, room, same, ends, below) in
          same_word (l.still r) mem (base + 4 * k) (base + 4 * k) high high
          (λ i less.
          let there : base + (4 * k + i) ≡ base + 4 * k + i = omega arith in
          subst (λ a. l.still r a ≡ mem a) there (code_byte (4 * k + i) (omega (arith, from)) (omega (arith, below, less))))
          ∙ holds.code k from below

      number_byte : (k : ℕ) → k < 4 → is_number_byte board (base + k) ≡ true
      number_byte k less =
          subst (λ n. is_number_byte board (n + k) ≡ true) (sym holds.lies.base) (inside_at board.patch.base 4 k less)

      number_is : (k : ℕ) → k < 4 → l.still r (base + k) ≡ byte_of r k
      number_is k less =
          let a : ℕ = base + k in
          let same = holds.lies.base in
          let offset : a - board.patch.base ≡ k = omega (arith, same) in
          cond-true (is_number_byte board a) (byte_of r (a - board.patch.base)) (mem (source_below slots images r a (length slots))) (number_byte k less)
          ∙ ap (λ j. byte_of r j) offset

      pub plan_stands : r ≤ regions → PlanStands plan words l r
      plan_stands within =
          let count = holds.jobs.count in
          let few = holds.can.few in
          record {
            can = holds.can;
            are = holds.are;
            mapped = λ i below. patch_mapped board (base + i) (in_patch i below);
            still = λ i from below. (stub_stands file board g regions q c images mem is r (base + i) (is_stub i from below)).0;
            code = code_still;
            small = omega (arith, within, count, few);
            control = λ k less.
                right_passes (is_code_byte v (base + k)) _
                (right_passes (is_stub_byte board (base + k)) _ (left_passes (is_number_byte board (base + k)) _ (number_byte k less)));
            number = number_is;
            leave = λ i below. all_home (plan.leave i) (jobs_of i below).leave;
            enter = λ i below. all_in (plan.enter i) (jobs_of i below).enter;
            kept_leave = λ i below. all_home (plan.kept_leave i) (jobs_of i below).kept_leave;
            kept_enter = λ i below. all_in (plan.kept_enter i) (jobs_of i below).kept_enter;
          }

pub plan_of_choice : PlanOfChoice
plan_of_choice file board g regions q c images mem plan words r is holds within =
    plan_stands file board g regions q c images mem is plan words holds r within
