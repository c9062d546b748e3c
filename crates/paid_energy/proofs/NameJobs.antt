-- The jobs of the slots of a result cost what energies count by name.
use Rattle.std.proofs.Common.{◌≡◌, ◌∙◌, ℕ, ◌+◌, ◌<◌, ◌≤◌, ◌==◌, Bool, true, false, ◌&&◌, if◌then◌else◌, List, [], ◌∷◌, length, map, refl, sym, ap, subst, arith}
use Rattle.std.specs.List.{sum_by}
use Rattle.std.proofs.lemmas.Bool.{eqb-true}
use Rattle.std.proofs.lemmas.List.Sums.{sum_by-cons}
use Rattle.elf_reader.specs.File.{view_in}
use Rattle.board_config.specs.declared.board.Board.{Board}
use Rattle.object_graph.specs.declared.parts.Graph.{Graph}
use Rattle.cell_values.specs.Objects.{object_of}
use Rattle.code_blocks.specs.declared.parts.Code.{Code}
use Rattle.placement_programme.specs.declared.variables.VarName.{VarName}
use Rattle.placement_programme.specs.declared.variables.VarName.TheVariants.{StaticData, StaticCode, OverlayData, OverlayCode, KeptData}
use Rattle.patch_code.specs.declared.job.CopyJob.{CopyJob}
use Rattle.relocator.specs.Slots.{pair_of, is_code}
use Rattle.relocator.specs.Placing.{puts}
use Rattle.relocator.specs.Laws.{IsPresent, slot_at}
use Rattle.relocator.proofs.WeightLemmas.{IsAmong}
use Rattle.result_laws.specs.ChosenJobs.{is_static, is_overlaid, is_kept, home_jobs, back_home, job_into, jobs_home, entering, leaving, code_number, start_jobs}
use Rattle.result_laws.proofs.Setting.{setting}
use Rattle.result_laws.proofs.JobChosen.{among}
use Rattle.result_laws.proofs.ListLemmas.{job_at}
use Rattle.energy_model.specs.Energy.{Scene, object_rounds, piece_rounds, into_price, back_price, start_job, enter_job, leave_job, kept_enter_job, kept_leave_job, comes_to_pair}
use Rattle.result_laws.specs.ChosenPlacement.{ChosenPlacement, piece_of, NamesRange}
use Rattle.relink_core.specs.Names.{name_of_slot}
use Rattle.result_laws.specs.PlacedLaws.{IsPlacedResult}
use Rattle.result_laws.proofs.Standing.{laid}
use Rattle.paid_energy.specs.WalkCosts.{placed_scene}
use Rattle.paid_energy.proofs.JobCosts.{job_paid}
use Rattle.paid_energy.proofs.PlacedJobs.{object_into, object_back, image_into}
use Rattle.result_laws.proofs.HomeNumbers.{same_number}
use Rattle.paid_energy.proofs.Tests.{turned}
use Rattle.paid_energy.proofs.SlotJobs.{entering_cost, leaving_cost, none_costs}

-- ---- tests of regions

both_true : (a b : Bool) → a ≡ true → b ≡ true → a && b ≡ true
both_true a b first second = grind (arith, first, second)

turned_test : (a b : ℕ) (t : Bool) → (a == b) ≡ t → (b == a) ≡ t
turned_test a b t is = turned b a ∙ is

if_and : (test writable : Bool) (x : ℕ) → test ≡ true → (if writable then x else 0) ≡ (if test && writable then x else 0)
if_and test writable x is = ap (λ (b : Bool). if b && writable then x else 0) (sym is)

if_none : (test writable : Bool) (x : ℕ) → test ≡ false → (if test && writable then x else 0) ≡ 0
if_none test writable x is = ap (λ (b : Bool). if b && writable then x else 0) is

if_so : (test : Bool) (x : ℕ) → test ≡ true → x ≡ (if test then x else 0)
if_so test x is = ap (λ (b : Bool). if b then x else 0) (sym is)

if_not : (test : Bool) (x : ℕ) → test ≡ false → (if test then x else 0) ≡ 0
if_not test x is = ap (λ (b : Bool). if b then x else 0) is

module _ (file out : List ℕ) (board : Board) (g : Graph) (c : Code) (pl : ChosenPlacement) (result : IsPlacedResult file out board g c pl) where
  open (setting file out board g c pl result) use {slots, images}

  abbrev w : Scene
  w = placed_scene board g c pl

  abbrev pay : CopyJob → ℕ
  pay = job_paid board

  abbrev pub names_cost : (VarName → ℕ) → ℕ
  names_cost price = sum_by price (map name_of_slot slots)

  abbrev into_object : ℕ → ℕ
  into_object o = into_price board.prices (object_rounds (object_of g o))

  abbrev into_piece : ℕ → ℕ → ℕ
  into_piece first last = into_price board.prices (piece_rounds w (record { first = first; last = last }))

  -- what brings in what a name tells
  abbrev into_of : VarName → ℕ
  into_of (StaticData o) = into_object o
  into_of (StaticCode first last) = into_piece first last
  into_of (OverlayData r o) = into_object o
  into_of (OverlayCode r first last) = into_piece first last
  into_of (KeptData pair o) = into_object o

  pub each_among : (k : ℕ) → k < length slots → IsAmong pl.count (slot_at slots k).name
  each_among k below = among (view_in file) g pl.count board pl.programme pl.choice (laid file out board g c pl result) result.placement.can k below

  -- ---- the job into one slot

  module _ (region k : ℕ) (within : region ≤ pl.count) (below : k < length slots) where
    abbrev at : ℕ
    at = (slot_at slots k).at

    object_job : (o : ℕ) → puts (slot_at slots k).name region o ≡ true → pay (job_into g images (code_number slots k) at (StaticData o)) ≡ into_object o
    object_job o is = object_into file out board g c pl result region o k within below is

    code_job : (first last : ℕ) → is_code (slot_at slots k).name ≡ true → (piece_of pl (code_number slots k)).range ≡ record { first = first; last = last } → pay (job_into g images (code_number slots k) at (StaticCode first last)) ≡ into_piece first last
    code_job first last is named = image_into file out board g c pl result k (below, is) (record { first = first; last = last }) named

    named_range : (name : VarName) → (slot_at slots k).name ≡ name → is_code name ≡ true → NamesRange pl.regions name (piece_of pl (code_number slots k)).range
    named_range name is code =
        subst (λ (n : VarName). NamesRange pl.regions n (piece_of pl (code_number slots k)).range) is
        (result.placement.stand k (below, ap is_code is ∙ code)).named

    into_by : (name : VarName) → (slot_at slots k).name ≡ name → IsPresent region name → pay (job_into g images (code_number slots k) at name) ≡ into_of name
    into_by (StaticData o) is here = object_job o (ap (λ (n : VarName). puts n region o) is ∙ same_number o)
    into_by (StaticCode first last) is here = code_job first last (ap is_code is) (named_range (StaticCode first last) is refl)
    into_by (OverlayData own o) is here =
        object_job o
        (ap (λ (n : VarName). puts n region o) is
        ∙ both_true (o == o) (own == region) (same_number o) (ap (λ (r : ℕ). own == r) (sym here) ∙ same_number own))
    into_by (OverlayCode own first last) is here = code_job first last (ap is_code is) (named_range (OverlayCode own first last) is refl).0
    into_by (KeptData pair o) is here =
        object_job o
        (ap (λ (n : VarName). puts n region o) is
        ∙ both_true (o == o) (pair_of region == pair) (same_number o) (ap (λ (r : ℕ). pair_of region == r) (sym here) ∙ same_number (pair_of region)))

    pub into_cost : IsPresent region (slot_at slots k).name → pay (job_at g images (0 + code_number slots k) slots k) ≡ into_of (slot_at slots k).name
    into_cost here =
        let number : 0 + code_number slots k ≡ code_number slots k = omega arith in
        ap (λ (n : ℕ). pay (job_at g images n slots k)) number ∙ into_by (slot_at slots k).name refl here

    -- ---- the jobs home

    abbrev back_object : ℕ → ℕ
    back_object o = if (object_of g o).writable then back_price board.prices (object_rounds (object_of g o)) else 0

    back_by : (o : ℕ) → puts (slot_at slots k).name region o ≡ true → (writable : Bool) → (object_of g o).writable ≡ writable → sum_by pay (if writable then back_home g at o ∷ [] else []) ≡ (if writable then back_price board.prices (object_rounds (object_of g o)) else 0)
    back_by o is true can =
        let alone = sum_by-cons pay (back_home g at o) [] in
        let job = object_back file out board g c pl result region o k within below is can in
        omega (arith, alone, job)
    back_by o is false other = refl

    pub back_cost : (o : ℕ) → puts (slot_at slots k).name region o ≡ true → sum_by pay (home_jobs g at o) ≡ back_object o
    back_cost o is = back_by o is (object_of g o).writable refl

  -- ---- the start

  start_each : (name : VarName) → is_static name ≡ true → IsPresent 0 name × (into_of name ≡ start_job w name)
  start_each (StaticData o) is = (tt, refl)
  start_each (StaticCode first last) is = (tt, refl)
  start_each (OverlayData own o) is = absurd (cc)
  start_each (OverlayCode own first last) is = absurd (cc)
  start_each (KeptData pair o) is = absurd (cc)

  start_none : (name : VarName) → is_static name ≡ false → start_job w name ≡ 0
  start_none (StaticData o) is = absurd (cc)
  start_none (StaticCode first last) is = absurd (cc)
  start_none (OverlayData own o) is = refl
  start_none (OverlayCode own first last) is = refl
  start_none (KeptData pair o) is = refl

  pub start_cost : sum_by pay (start_jobs g images slots) ≡ names_cost (start_job w)
  start_cost =
      entering_cost is_static pay (start_job w) g images 0 slots
      (λ k below passes.
      let static = start_each (slot_at slots k).name passes in into_cost 0 k (omega arith) below static.0 ∙ static.1)
      (λ k below other. start_none (slot_at slots k).name other)

  -- ---- a region that is entered, or left

  module _ (r : ℕ) (within : r ≤ pl.count) where
    enter_each : (name : VarName) → is_overlaid r name ≡ true → IsPresent r name × (into_of name ≡ enter_job w r name)
    enter_each (StaticData o) is = absurd (cc)
    enter_each (StaticCode first last) is = absurd (cc)
    enter_each (OverlayData own o) is = (eqb-true own r is, if_so (r == own) (into_object o) (turned_test own r true is))
    enter_each (OverlayCode own first last) is = (eqb-true own r is, if_so (r == own) (into_piece first last) (turned_test own r true is))
    enter_each (KeptData pair o) is = absurd (cc)

    enter_none : (name : VarName) → is_overlaid r name ≡ false → enter_job w r name ≡ 0
    enter_none (StaticData o) is = refl
    enter_none (StaticCode first last) is = refl
    enter_none (OverlayData own o) is = if_not (r == own) (into_object o) (turned_test own r false is)
    enter_none (OverlayCode own first last) is = if_not (r == own) (into_piece first last) (turned_test own r false is)
    enter_none (KeptData pair o) is = refl

    pub enter_cost : sum_by pay (entering (is_overlaid r) g images 0 slots) ≡ names_cost (enter_job w r)
    enter_cost =
        entering_cost (is_overlaid r) pay (enter_job w r) g images 0 slots
        (λ k below passes. let overlaid = enter_each (slot_at slots k).name passes in into_cost r k within below overlaid.0 ∙ overlaid.1)
        (λ k below other. enter_none (slot_at slots k).name other)

    leave_by : (k : ℕ) → k < length slots → (name : VarName) → (slot_at slots k).name ≡ name → is_overlaid r name ≡ true → sum_by pay (jobs_home g (slot_at slots k).at name) ≡ leave_job w r name
    leave_by k below (StaticData o) is passes = absurd (cc)
    leave_by k below (StaticCode first last) is passes = absurd (cc)
    leave_by k below (OverlayData own o) is passes =
        back_cost r k within below o (ap (λ (n : VarName). puts n r o) is ∙ both_true (o == o) (own == r) (same_number o) passes)
        ∙ if_and (r == own) (object_of g o).writable (back_price board.prices (object_rounds (object_of g o))) (turned_test own r true passes)
    leave_by k below (OverlayCode own first last) is passes = refl
    leave_by k below (KeptData pair o) is passes = absurd (cc)

    leave_none : (name : VarName) → is_overlaid r name ≡ false → leave_job w r name ≡ 0
    leave_none (StaticData o) is = refl
    leave_none (StaticCode first last) is = refl
    leave_none (OverlayData own o) is =
        if_none (r == own) (object_of g o).writable (back_price board.prices (object_rounds (object_of g o))) (turned_test own r false is)
    leave_none (OverlayCode own first last) is = refl
    leave_none (KeptData pair o) is = refl

    pub leave_cost : sum_by pay (leaving (is_overlaid r) g slots) ≡ names_cost (leave_job w r)
    leave_cost =
        leaving_cost (is_overlaid r) pay (leave_job w r) g slots
        (λ k below passes. leave_by k below (slot_at slots k).name refl passes)
        (λ k below other. leave_none (slot_at slots k).name other)

    -- ---- what is kept for its pair, where that is moved

    module _ (other : ℕ) (moves : (pair : ℕ) → 1 ≤ pair → comes_to_pair pair other r ≡ (pair_of r == pair)) where
      moves_at : (k pair o : ℕ) → k < length slots → (slot_at slots k).name ≡ KeptData pair o → comes_to_pair pair other r ≡ (pair_of r == pair)
      moves_at k pair o below is = let some : IsAmong pl.count (KeptData pair o) = subst (IsAmong pl.count) is (each_among k below) in moves pair some.0

      kept_enter_by : (k : ℕ) → k < length slots → (name : VarName) → (slot_at slots k).name ≡ name → is_kept r name ≡ true → IsPresent r name × (into_of name ≡ kept_enter_job w other r name)
      kept_enter_by k below (StaticData o) is passes = absurd (cc)
      kept_enter_by k below (StaticCode first last) is passes = absurd (cc)
      kept_enter_by k below (OverlayData own o) is passes = absurd (cc)
      kept_enter_by k below (OverlayCode own first last) is passes = absurd (cc)
      kept_enter_by k below (KeptData pair o) is passes =
          (eqb-true (pair_of r) pair passes, if_so (comes_to_pair pair other r) (into_object o) (moves_at k pair o below is ∙ passes))

      kept_enter_none : (k : ℕ) → k < length slots → (name : VarName) → (slot_at slots k).name ≡ name → is_kept r name ≡ false → kept_enter_job w other r name ≡ 0
      kept_enter_none k below (KeptData pair o) is passes = if_not (comes_to_pair pair other r) (into_object o) (moves_at k pair o below is ∙ passes)
      kept_enter_none k below name is passes = refl

      pub kept_enter_cost : sum_by pay (entering (is_kept r) g images 0 slots) ≡ names_cost (kept_enter_job w other r)
      kept_enter_cost =
          entering_cost (is_kept r) pay (kept_enter_job w other r) g images 0 slots
          (λ k below passes.
          let kept = kept_enter_by k below (slot_at slots k).name refl passes in into_cost r k within below kept.0 ∙ kept.1)
          (λ k below not_so. kept_enter_none k below (slot_at slots k).name refl not_so)

      kept_leave_by : (k : ℕ) → k < length slots → (name : VarName) → (slot_at slots k).name ≡ name → is_kept r name ≡ true → sum_by pay (jobs_home g (slot_at slots k).at name) ≡ kept_leave_job w r other name
      kept_leave_by k below (StaticData o) is passes = absurd (cc)
      kept_leave_by k below (StaticCode first last) is passes = absurd (cc)
      kept_leave_by k below (OverlayData own o) is passes = absurd (cc)
      kept_leave_by k below (OverlayCode own first last) is passes = absurd (cc)
      kept_leave_by k below (KeptData pair o) is passes =
          back_cost r k within below o (ap (λ (n : VarName). puts n r o) is ∙ both_true (o == o) (pair_of r == pair) (same_number o) passes)
          ∙ if_and (comes_to_pair pair other r) (object_of g o).writable (back_price board.prices (object_rounds (object_of g o)))
          (moves_at k pair o below is ∙ passes)

      kept_leave_none : (k : ℕ) → k < length slots → (name : VarName) → (slot_at slots k).name ≡ name → is_kept r name ≡ false → kept_leave_job w r other name ≡ 0
      kept_leave_none k below (KeptData pair o) is passes =
          if_none (comes_to_pair pair other r) (object_of g o).writable (back_price board.prices (object_rounds (object_of g o)))
          (moves_at k pair o below is ∙ passes)
      kept_leave_none k below name is passes = refl

      pub kept_leave_cost : sum_by pay (leaving (is_kept r) g slots) ≡ names_cost (kept_leave_job w r other)
      kept_leave_cost =
          leaving_cost (is_kept r) pay (kept_leave_job w r other) g slots
          (λ k below passes. kept_leave_by k below (slot_at slots k).name refl passes)
          (λ k below not_so. kept_leave_none k below (slot_at slots k).name refl not_so)

    -- ---- and where it stays

    module _ (other : ℕ) (stays : (k pair o : ℕ) → k < length slots → (slot_at slots k).name ≡ KeptData pair o → comes_to_pair pair other r ≡ false) where
      stays_enter : (k : ℕ) → k < length slots → (name : VarName) → (slot_at slots k).name ≡ name → kept_enter_job w other r name ≡ 0
      stays_enter k below (KeptData pair o) is = if_not (comes_to_pair pair other r) (into_object o) (stays k pair o below is)
      stays_enter k below name is = refl

      stays_leave : (k : ℕ) → k < length slots → (name : VarName) → (slot_at slots k).name ≡ name → kept_leave_job w r other name ≡ 0
      stays_leave k below (KeptData pair o) is =
          if_none (comes_to_pair pair other r) (object_of g o).writable (back_price board.prices (object_rounds (object_of g o))) (stays k pair o below is)
      stays_leave k below name is = refl

      pub none_enters : names_cost (kept_enter_job w other r) ≡ 0
      none_enters = none_costs (kept_enter_job w other r) slots (λ k below. stays_enter k below (slot_at slots k).name refl)

      pub none_leaves : names_cost (kept_leave_job w r other) ≡ 0
      none_leaves = none_costs (kept_leave_job w r other) slots (λ k below. stays_leave k below (slot_at slots k).name refl)
