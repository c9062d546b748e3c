-- What the start stub and stubs with a region cost: the jobs by name, and the words and accesses around them.
use Rattle.std.proofs.Common.{◌≡◌, ◌∙◌, ℕ, zero, suc, ◌+◌, ◌-◌, ◌*◌, ◌<◌, ◌≤◌, ◌==◌, Bool, false, not, ◌&&◌, if◌then◌else◌, List, [], ◌∷◌, ◌++◌, length, map, Option, refl, sym, ap, subst, arith}
use Rattle.std.specs.Prelude.{All}
use Rattle.std.specs.List.{sum_by}
use Rattle.std.proofs.lemmas.List.Elements.{All-head, All-tail}
use Rattle.std.proofs.lemmas.List.Sums.{sum_by-cons, sum_by-append}
use Rattle.board_config.specs.declared.board.Board.{Board}
use Rattle.flat_machine.specs.declared.events.FlatAccess.{FlatAccess}
use Rattle.flat_machine.specs.declared.events.FlatEvent.{FlatEvent}
use Rattle.flat_machine.specs.State.{State}
use Rattle.object_graph.specs.declared.parts.Graph.{Graph}
use Rattle.cell_values.specs.Objects.{object_of}
use Rattle.code_blocks.specs.declared.parts.Code.{Code}
use Rattle.placement_programme.specs.declared.variables.VarName.{VarName}
use Rattle.placement_programme.specs.declared.variables.VarName.TheVariants.{OverlayData, KeptData}
use Rattle.patch_code.specs.declared.job.CopyJob.{CopyJob}
use Rattle.patch_code.specs.Jobs.{fences, jobs_run}
use Rattle.patch_code.specs.Told.{Way, accesses, read_at, write_at, jobs_accesses}
use Rattle.patch_code.specs.Parts.{SwitchPlan, twin_in}
use Rattle.patch_code.specs.Switching.{routine_run, switch_jobs}
use Rattle.patch_code.specs.Switches.{switch_accesses}
use Rattle.patch_code.specs.Checking.{saved_registers, saves_accesses, restores_accesses}
use Rattle.patch_code.specs.Counts.{kept_unless, side_jobs}
use Rattle.patch_code.proofs.Counts.{switch_runs_jobs_so}
use Rattle.patch_code.specs.Start.{StartPlan, start_at as stub_start, start_bytes, start_run}
use Rattle.patch_code.specs.Overlay.{switching, rest_bytes}
use Rattle.relocator.specs.Laws.{slot_at}
use Rattle.relocator.proofs.WeightLemmas.{IsAmong}
use Rattle.result_laws.specs.ChosenJobs.{is_overlaid, is_kept, entering, leaving}
use Rattle.energy_model.specs.Energy.{Scene, enter_job, leave_job, kept_enter_job, kept_leave_job, is_of_pair, comes_to_pair, fence_words, switch_words, switch_price, stub_energy, back_price, object_rounds}
use Rattle.result_laws.specs.ChosenPlacement.{ChosenPlacement, images_in}
use Rattle.result_laws.specs.PlacedLaws.{IsPlacedResult}
use Rattle.result_laws.specs.Walks.{PlanRuns}
use Rattle.paid_energy.specs.Costs.{fetch_cost, access_cost, run_cost}
use Rattle.paid_energy.proofs.CostLemmas.{fetches_cost, accesses_cost, accesses_joined, run_cost_parts}
use Rattle.paid_energy.specs.WalkCosts.{placed_scene, placed_names}
use Rattle.paid_energy.proofs.HomePrices.{IsSlow}
use Rattle.paid_energy.proofs.Fetching.{fetch_at}
use Rattle.paid_energy.proofs.JobCosts.{job_paid, jobs_paid}
use Rattle.paid_energy.proofs.KeptSides.{KeptSide, Stays, Moves, kept_side}
use Rattle.paid_energy.proofs.NameJobs.{names_cost, each_among, start_cost, enter_cost, leave_cost, kept_enter_cost, kept_leave_cost, none_enters, none_leaves}
use Rattle.paid_energy.proofs.PlacedPrices.{of_pair, inside_range, patch_slow}
use Rattle.paid_energy.proofs.SlotJobs.{none_costs}
use Rattle.paid_energy.proofs.Tests.{other_numbers}
use Rattle.paid_energy.proofs.SwitchWords.{region_is, fence_is, switch_run}
use Rattle.result_laws.proofs.Setting.{setting}

-- ---- events in main memory

slow_events : (board : Board) (es : List FlatEvent) → All (λ (e : FlatEvent). IsSlow board e.at) es → fetches_cost board (map (λ (e : FlatEvent). e.at) es) ≡ length es * board.prices.main_fetch
slow_events board [] slow = omega arith
slow_events board (e ∷ es) slow =
    let first = fetch_at board e.at false (All-head (λ (x : FlatEvent). IsSlow board x.at) e es slow) in
    let rest = slow_events board es (All-tail (λ (x : FlatEvent). IsSlow board x.at) e es slow) in
    let more = sum_by-cons (λ (a : ℕ). fetch_cost board a) e.at (map (λ (x : FlatEvent). x.at) es) in
    let whole : suc (length es) * board.prices.main_fetch ≡ board.prices.main_fetch + length es * board.prices.main_fetch = grind arith in
    omega (arith, first, rest, more, whole)

pub slow_run : (board : Board) (es : List FlatEvent) (n : ℕ) (told : List FlatAccess) → length es ≡ n → accesses es ≡ told → All (λ (e : FlatEvent). IsSlow board e.at) es → run_cost board es ≡ n * board.prices.main_fetch + accesses_cost board told
slow_run board es n told count all slow =
    run_cost_parts board es
    ∙ (ap (λ (k : ℕ). k + accesses_cost board (accesses es)) (slow_events board es slow)
    ∙ (ap (λ (k : ℕ). k * board.prices.main_fetch + accesses_cost board (accesses es)) count
    ∙ ap (λ (xs : List FlatAccess). n * board.prices.main_fetch + accesses_cost board xs) all))

-- ---- registers that are saved

module _ (board : Board) where
  pub slow_read : (a : ℕ) → IsSlow board a → access_cost board (read_at a) ≡ board.prices.main_read
  slow_read a slow = ap (λ (b : Bool). if b then board.prices.spm_read else board.prices.main_read) slow

  slow_write : (a : ℕ) → IsSlow board a → access_cost board (write_at a) ≡ board.prices.main_write
  slow_write a slow = ap (λ (b : Bool). if b then board.prices.spm_write else board.prices.main_write) slow

  -- accesses to words one behind the other, each of which costs the same
  each_cost : (access : ℕ → FlatAccess) (all : List ℕ → ℕ → List FlatAccess) (price : ℕ) → ((at : ℕ) → all [] at ≡ []) → ((x : ℕ) (xs : List ℕ) (at : ℕ) → all (x ∷ xs) at ≡ access at ∷ all xs (at + 4)) → ((a : ℕ) → IsSlow board a → access_cost board (access a) ≡ price) → (xs : List ℕ) (at : ℕ) → ((a : ℕ) → at ≤ a → a < at + 4 * length xs → IsSlow board a) → accesses_cost board (all xs at) ≡ length xs * price
  each_cost access all price none some cost [] at slow =
      let empty = ap (accesses_cost board) (none at) in omega (arith, empty)
  each_cost access all price none some cost (x ∷ xs) at slow =
      let parts = ap (accesses_cost board) (some x xs at) in
      let first = cost at (slow at (omega arith) (omega arith)) in
      let rest = each_cost access all price none some cost xs (at + 4) (λ a low high. slow a (omega (arith, low)) (omega (arith, high))) in
      let more = sum_by-cons (access_cost board) (access at) (all xs (at + 4)) in
      let whole : suc (length xs) * price ≡ price + length xs * price = grind arith in
      omega (arith, parts, first, rest, more, whole)

  saves_cost : (xs : List ℕ) (at : ℕ) → ((a : ℕ) → at ≤ a → a < at + 4 * length xs → IsSlow board a) → accesses_cost board (saves_accesses xs at) ≡ length xs * board.prices.main_write
  saves_cost = each_cost write_at saves_accesses board.prices.main_write (λ at. refl) (λ x xs at. refl) slow_write

  restores_cost : (xs : List ℕ) (at : ℕ) → ((a : ℕ) → at ≤ a → a < at + 4 * length xs → IsSlow board a) → accesses_cost board (restores_accesses xs at) ≡ length xs * board.prices.main_read
  restores_cost = each_cost read_at restores_accesses board.prices.main_read (λ at. refl) (λ x xs at. refl) slow_read

  -- nine reads and eight writes, and those of the jobs
  switch_accessed : (w : SwitchPlan (List CopyJob)) (s r : ℕ) → ((a : ℕ) → w.base ≤ a → a < w.base + 64 → IsSlow board a) → accesses_cost board (switch_accesses w s r) ≡ 9 * board.prices.main_read + 8 * board.prices.main_write + accesses_cost board (jobs_accesses (switch_jobs w s r))
  switch_accessed w s r slow =
      let base : ℕ = w.base in
      let jobs : List FlatAccess = jobs_accesses (switch_jobs w s r) in
      let saved : List FlatAccess = saves_accesses saved_registers (base + 4) in
      let restored : List FlatAccess = restores_accesses saved_registers (base + 4) in
      let first = slow_read base (slow base (omega arith) (omega arith)) in
      let last = slow_write base (slow base (omega arith) (omega arith)) in
      let saves = saves_cost saved_registers (base + 4) (λ a low high. slow a (omega (arith, low)) (omega (arith, high))) in
      let restores = restores_cost saved_registers (base + 4) (λ a low high. slow a (omega (arith, low)) (omega (arith, high))) in
      let one = sum_by-cons (access_cost board) (read_at base) (saved ++ (read_at base ∷ jobs ++ (write_at base ∷ restored))) in
      let two = accesses_joined board saved (read_at base ∷ jobs ++ (write_at base ∷ restored)) in
      let three = sum_by-cons (access_cost board) (read_at base) (jobs ++ (write_at base ∷ restored)) in
      let four = accesses_joined board jobs (write_at base ∷ restored) in
      let five = sum_by-cons (access_cost board) (write_at base) restored in
      omega (arith, first, last, saves, restores, one, two, three, four, five)

module _ (file out : List ℕ) (board : Board) (g : Graph) (c : Code) (pl : ChosenPlacement) (result : IsPlacedResult file out board g c pl) where
  open (setting file out board g c pl result) use {plan, slots}

  abbrev p : SwitchPlan (List CopyJob)
  p = switching plan

  abbrev w : Scene
  w = placed_scene board g c pl

  abbrev pay : CopyJob → ℕ
  pay = job_paid board

  abbrev cost_of : (VarName → ℕ) → ℕ
  cost_of price = names_cost file out board g c pl result price

  -- ---- the patch range

  pub control_slow : (a : ℕ) → p.base ≤ a → a < p.base + 64 → IsSlow board a
  control_slow a low high =
      let lies = result.view.planned.lies in
      let base = lies.base in
      let ends = lies.ends in
      patch_slow file out board g c pl result a (inside_range board.patch a (omega (arith, base, low)) (omega (arith, base, ends, high)))

  pub plan_slow : (a : ℕ) → stub_start plan.start ≤ a → a < stub_start plan.start + (start_bytes plan.start + rest_bytes plan) → IsSlow board a
  plan_slow a low high =
      let lies = result.view.planned.lies in
      let base = lies.base in
      let ends = lies.ends in
      patch_slow file out board g c pl result a (inside_range board.patch a (omega (arith, base, low)) (omega (arith, base, ends, high)))

  pub plan_run : (n : ℕ) (told : List FlatAccess) (es : List FlatEvent) → PlanRuns plan n told es → run_cost board es ≡ n * board.prices.main_fetch + accesses_cost board told
  plan_run n told es runs =
      slow_run board es n told runs.count runs.accesses (λ k d below. plan_slow _ (runs.fetched k d below).low (runs.fetched k d below).high)

  -- ---- the start stub

  pub start_costs : (s t : State) → (way : Way (stub_start plan.start) (start_bytes plan.start) (start_run plan.start) (jobs_accesses plan.start.jobs) s t) → run_cost board way.events ≡ stub_energy w (placed_names board pl)
  start_costs s t way =
      let planned = result.view.planned.start in
      let run =
      slow_run board way.events (start_run plan.start) (jobs_accesses plan.start.jobs) way.count way.all
      (λ k d below. let low = (way.fetched k d below).low in let high = (way.fetched k d below).high in plan_slow _ low (omega (arith, high))) in
      let jobs = jobs_paid board plan.start.jobs in
      let names = ap (sum_by pay) (ap (λ (x : StartPlan). x.jobs) planned) ∙ start_cost file out board g c pl result in
      let fence : length (fences plan.start.fence_i) ≡ fence_words board = fence_is plan.start.fence_i ∙ ap (λ (b : Bool). if b then 1 else 0) (ap (λ (x : StartPlan). x.fence_i) planned) in
      let f : ℕ = board.prices.main_fetch in
      let words : start_run plan.start * f ≡ jobs_run plan.start.jobs * f + (5 + length (fences plan.start.fence_i)) * f = grind arith in
      let fenced : (5 + length (fences plan.start.fence_i)) * f ≡ (5 + fence_words board) * f = ap (λ (n : ℕ). (5 + n) * f) fence in
      omega (arith, run, jobs, names, words, fenced)

  -- ---- the jobs of a switch

  no_region : (r : ℕ) → 1 ≤ r → (0 == r) ≡ false
  no_region r some = other_numbers 0 r (λ same. omega (arith, same, some))

  none_left : (k : ℕ) → k < length slots → (name : VarName) → (slot_at slots k).name ≡ name → leave_job w 0 name ≡ 0
  none_left k below (OverlayData own o) is =
      let among : IsAmong pl.count (OverlayData own o) = subst (IsAmong pl.count) is (each_among file out board g c pl result k below) in
      ap (λ (b : Bool). if b && (object_of g o).writable then back_price board.prices (object_rounds (object_of g o)) else 0) (no_region own among.0)
  none_left k below name is = refl

  none_paired : (other k pair o : ℕ) → k < length slots → (slot_at slots k).name ≡ KeptData pair o → comes_to_pair pair other 0 ≡ false
  none_paired other k pair o below is =
      let among : IsAmong pl.count (KeptData pair o) = subst (IsAmong pl.count) is (each_among file out board g c pl result k below) in
      let some = among.0 in
      let test : is_of_pair pair 0 ≡ false = of_pair pair 0 some ∙ no_region pair some in
      ap (λ (b : Bool). b && not (is_of_pair pair other)) test

  -- those that leave a region
  kept_left : (i r : ℕ) → suc i ≤ pl.count → (twin : Option ℕ) → KeptSide slots twin r (suc i) → sum_by pay (kept_unless twin r (leaving (is_kept (suc i)) g slots)) ≡ cost_of (kept_leave_job w (suc i) r)
  kept_left i r within twin (Stays none stays) =
      ap (sum_by pay) (none (leaving (is_kept (suc i)) g slots)) ∙ sym (none_leaves file out board g c pl result (suc i) within r stays)
  kept_left i r within twin (Moves all moves) =
      ap (sum_by pay) (all (leaving (is_kept (suc i)) g slots)) ∙ kept_leave_cost file out board g c pl result (suc i) within r moves

  kept_entered : (i s : ℕ) → suc i ≤ pl.count → (twin : Option ℕ) → KeptSide slots twin s (suc i) → sum_by pay (kept_unless twin s (entering (is_kept (suc i)) g (images_in pl) 0 slots)) ≡ cost_of (kept_enter_job w s (suc i))
  kept_entered i s within twin (Stays none stays) =
      ap (sum_by pay) (none (entering (is_kept (suc i)) g (images_in pl) 0 slots)) ∙ sym (none_enters file out board g c pl result (suc i) within s stays)
  kept_entered i s within twin (Moves all moves) =
      ap (sum_by pay) (all (entering (is_kept (suc i)) g (images_in pl) 0 slots)) ∙ kept_enter_cost file out board g c pl result (suc i) within s moves

  side : (i other : ℕ) → suc i ≤ pl.count → (other ≡ suc i → ⊥) → KeptSide slots (twin_in p (suc i)) other (suc i)
  side i other within differs =
      let jobs = result.view.planned.jobs in
      let count = jobs.count in
      kept_side p slots jobs.twins
      (λ k below. subst (λ (n : ℕ). IsAmong n (slot_at slots k).name) (sym count) (each_among file out board g c pl result k below)) i other
      (omega (arith, count, within)) differs

  -- a part of a region's jobs
  part_by : (always kept : ℕ → List CopyJob) (i other : ℕ) (first last : List CopyJob) → suc i ≤ p.regions → always i ≡ first → kept i ≡ last → sum_by pay (side_jobs p always kept (suc i) other) ≡ sum_by pay first + sum_by pay (kept_unless (twin_in p (suc i)) other last)
  part_by always kept i other first last within is_first is_last =
      let at : suc i - 1 ≡ i = omega arith in
      ap (λ (b : Bool). sum_by pay (if b then always (suc i - 1) ++ kept_unless (twin_in p (suc i)) other (kept (suc i - 1)) else [])) (region_is p.regions i within)
      ∙ (ap (λ (n : ℕ). sum_by pay (always n ++ kept_unless (twin_in p (suc i)) other (kept n))) at
      ∙ (ap (λ (js : List CopyJob). sum_by pay (js ++ kept_unless (twin_in p (suc i)) other (kept i))) is_first
      ∙ (ap (λ (js : List CopyJob). sum_by pay (first ++ kept_unless (twin_in p (suc i)) other js)) is_last
      ∙ sum_by-append pay first (kept_unless (twin_in p (suc i)) other last))))

  left_cost : (s r : ℕ) → s ≤ pl.count → (r ≡ s → ⊥) → sum_by pay (side_jobs p p.leave p.kept_leave s r) ≡ cost_of (leave_job w s) + cost_of (kept_leave_job w s r)
  left_cost zero r within differs =
      let none = none_costs (leave_job w 0) slots (λ k below. none_left k below (slot_at slots k).name refl) in
      let kept = none_leaves file out board g c pl result 0 (omega arith) r (none_paired r) in
      omega (arith, none, kept)
  left_cost (suc i) r within differs =
      let jobs = result.view.planned.jobs in
      let count = jobs.count in
      let number : i + 1 ≡ suc i = omega arith in
      let parts =
      part_by p.leave p.kept_leave i r (leaving (is_overlaid (suc i)) g slots) (leaving (is_kept (suc i)) g slots) (omega (arith, count, within))
      (jobs.leave i (omega (arith, within)) ∙ ap (λ (n : ℕ). leaving (is_overlaid n) g slots) number)
      (jobs.kept_leave i (omega (arith, within)) ∙ ap (λ (n : ℕ). leaving (is_kept n) g slots) number) in
      let always = leave_cost file out board g c pl result (suc i) within in
      let kept = kept_left i r within (twin_in p (suc i)) (side i r within differs) in
      omega (arith, parts, always, kept)

  entered_cost : (r s : ℕ) → 1 ≤ r → r ≤ pl.count → (s ≡ r → ⊥) → sum_by pay (side_jobs p p.enter p.kept_enter r s) ≡ cost_of (enter_job w r) + cost_of (kept_enter_job w s r)
  entered_cost zero s some within differs = absurd (omega (arith, some))
  entered_cost (suc i) s some within differs =
      let jobs = result.view.planned.jobs in
      let count = jobs.count in
      let number : i + 1 ≡ suc i = omega arith in
      let parts =
      part_by p.enter p.kept_enter i s (entering (is_overlaid (suc i)) g (images_in pl) 0 slots) (entering (is_kept (suc i)) g (images_in pl) 0 slots)
      (omega (arith, count, within))
      (jobs.enter i (omega (arith, within)) ∙ ap (λ (n : ℕ). entering (is_overlaid n) g (images_in pl) 0 slots) number)
      (jobs.kept_enter i (omega (arith, within)) ∙ ap (λ (n : ℕ). entering (is_kept n) g (images_in pl) 0 slots) number) in
      let always = enter_cost file out board g c pl result (suc i) within in
      let kept = kept_entered i s within (twin_in p (suc i)) (side i s within differs) in
      omega (arith, parts, always, kept)

  switch_jobs_cost : (s r : ℕ) → s ≤ pl.count → 1 ≤ r → r ≤ pl.count → (s ≡ r → ⊥) → sum_by pay (switch_jobs p s r) ≡ cost_of (leave_job w s) + cost_of (enter_job w r) + cost_of (kept_leave_job w s r) + cost_of (kept_enter_job w s r)
  switch_jobs_cost s r from some to differs =
      let both =
      ap (sum_by pay) (switch_runs_jobs_so p s r)
      ∙ sum_by-append pay (side_jobs p p.leave p.kept_leave s r) (side_jobs p p.enter p.kept_enter r s) in
      let left = left_cost s r from (λ same. differs (sym same)) in
      let entered = entered_cost r s some to differs in
      omega (arith, both, left, entered)

  -- ---- a switch

  -- its words and accesses cost the test of a stub, and the switch
  pub switch_costs : (s r : ℕ) (es : List FlatEvent) → s ≤ pl.count → 1 ≤ r → r ≤ pl.count → (s ≡ r → ⊥) → PlanRuns plan (22 + routine_run p s r) (switch_accesses p s r) es → run_cost board es ≡ 4 * board.prices.main_fetch + board.prices.main_read + switch_price w (placed_names board pl).names s r
  switch_costs s r es from some to differs runs =
      let f : ℕ = board.prices.main_fetch in
      let planned = result.view.planned in
      let count = planned.jobs.count in
      let run = plan_run (22 + routine_run p s r) (switch_accesses p s r) es runs in
      let words =
      switch_run p w s r count (ap (λ (x : StartPlan). x.fence_i) planned.start) planned.twins (omega (arith, count, from)) (omega (arith, count, to)) in
      let paid : (22 + routine_run p s r) * f ≡ (4 + switch_words w s r + jobs_run (switch_jobs p s r)) * f = ap (λ (n : ℕ). n * f) words in
      let split : (4 + switch_words w s r + jobs_run (switch_jobs p s r)) * f ≡ 4 * f + switch_words w s r * f + jobs_run (switch_jobs p s r) * f = grind arith in
      let told = switch_accessed board p s r control_slow in
      let jobs = jobs_paid board (switch_jobs p s r) in
      let names = switch_jobs_cost s r from some to differs in
      omega (arith, run, paid, split, told, jobs, names)
