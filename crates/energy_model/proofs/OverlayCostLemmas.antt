-- The tables of a run's profile can be counted for overlay, and what is counted is what the run costs more.
use Rattle.std.proofs.Common.{◌≡◌, ◌∙◌, ℕ, suc, ◌+◌, ◌≤◌, ◌==◌, Bool, true, false, not, ◌&&◌, List, [], length, arith, if◌then◌else◌}
use Rattle.list_checks.specs.Sorted.{sum_below}
use Rattle.rv32im.specs.Table.{OneInstruction}
use Rattle.elf_reader.specs.declared.view.ElfView.{ElfView}
use Rattle.board_config.specs.declared.board.Board.{Board}
use Rattle.object_graph.specs.declared.parts.Graph.{Graph}
use Rattle.code_blocks.specs.declared.parts.Code.{Code}
use Rattle.region_former.specs.declared.table.RegionTable.{RegionTable}
use Rattle.profile_runner.specs.declared.counts.Profile.{Profile}
use Rattle.profile_runner.specs.Transition.{Transition, transition_at}
use Rattle.profile_runner.specs.Standing.{begins, current}
use Rattle.profile_runner.specs.Counts.{plain_rows, IsTable, IsList, is_access_to, accesses_of, switches_of}
use Rattle.profile_runner.proofs.CountLemmas.{count_few}
use Rattle.energy_model.specs.Energy.{starts_of, nothing_taken, stub_energy, steps_energy, side_energy}
use Rattle.energy_model.specs.Scenes.{scene_of, AreOfSameFile}
use Rattle.energy_model.specs.Together.{taken}
use Rattle.energy_model.specs.Copied.{arrivals_in}
use Rattle.energy_model.specs.Overlay.{is_entered}
use Rattle.energy_model.specs.OverlayCost.{most_steps, IsSmallTable, IsSmallList, CountsOverlay, overlay_cost}
use Rattle.energy_model.proofs.SumLemmas.{sum_small}
use Rattle.energy_model.proofs.WordLemmas.{IsCountedRun}
use Rattle.energy_model.proofs.BaseLemmas.{few_transitions}
use Rattle.energy_model.proofs.CountsLemmas.{counted_run}
use Rattle.energy_model.proofs.ArrivalLemmas.{began_where, few_stay_to}
use Rattle.energy_model.proofs.OverlayLemmas.{overlay_counted}
use Rattle.energy_model.proofs.ChangeCounts.{few_enters, few_leaves}
use Rattle.energy_model.proofs.DisplacedLemmas.{first_checked, first_paid}

abbrev Given : ElfView → Board → Graph → Code → RegionTable → Profile → List Transition → Type 0
Given view board g c t q ms = AreOfSameFile view board g c t q ms

-- ---- tables

small_table : (rows : List (List ℕ)) (height width : ℕ) (count : ℕ → ℕ → ℕ) → IsTable rows height width count → ((j k : ℕ) → count j k ≤ most_steps) → IsSmallTable rows height width
small_table rows height width count is few =
    record {
      height_is = is.height_is;
      widths = is.widths;
      small = λ j k row column. let here = is.counts j k row column in let small = few j k in omega (arith, here, small);
    }

small_list : (counts : List ℕ) (size steps : ℕ) (each : ℕ → ℕ) → IsList counts size each → ((k : ℕ) → each k ≤ steps) → steps ≤ most_steps → IsSmallList counts size
small_list counts size steps each is few small =
    record {
      size_is = is.size_is;
      small = λ k below.
          let here = is.each k below in
          let at_most = few k in
          omega (arith, here, at_most, small);
    }

began_once : (b : Bool) → ◌≤◌ (if true then (if b then 1 else 0) else 0) 1
began_once true = omega arith
began_once false = omega arith

few_switches : (starts regions : List ℕ) (ms : List Transition) (s r : ℕ) → length ms ≤ most_steps → switches_of starts regions ms s r ≤ most_steps
few_switches starts regions ms s r steps =
    let few = count_few (λ i. not (s == r) && ((current starts regions ms i == s) && (current starts regions ms (suc i) == r))) (length ms) in
    omega (arith, few, steps)

few_accesses : (starts regions : List ℕ) (ms : List Transition) (write : Bool) (o r : ℕ) → length ms ≤ most_steps → accesses_of starts regions ms write o r ≤ most_steps
few_accesses starts regions ms write o r steps =
    let few = count_few (λ i. is_access_to write o (transition_at ms i).access && (current starts regions ms (suc i) == r)) (length ms) in
    omega (arith, few, steps)

began_all : (c : Code) (g : Graph) (t : RegionTable) (board : Board) (q : Profile) (ms : List Transition) → IsCountedRun c g t board q ms → sum_below (arrivals_in q) (length c.blocks.items) ≤ length ms
began_all c g t board q ms run =
    let w = scene_of g c t board in
    let is = began_where c g t board q ms (λ b. true) run in
    let small = sum_small (λ i. if true then (if begins (starts_of w) ms i then 1 else 0) else 0) 1 (length ms) (λ i below. began_once (begins (starts_of w) ms i)) in
    omega (arith, is, small)

-- ---- the tables of a run

pub counts_overlay : OneInstruction → (view : ElfView) (board : Board) (g : Graph) (c : Code) (t : RegionTable) (q : Profile) (ms : List Transition) → Given view board g c t q ms → CountsOverlay c t g q
counts_overlay one view board g c t q ms given =
    let w = scene_of g c t board in
    let run = counted_run one view board g c t q ms given in
    let steps = few_transitions view board g c t q ms given in
    let tables = given.run.profile in
    let starts = starts_of w in
    let count = switches_of starts w.regions ms in
    let began = began_all c g t board q ms run in
    record {
      borders = t.same ∙ given.regions;
      few = omega (arith, began, steps);
      enough = first_checked c g t board q ms run;
      came = λ range. few_stay_to c g t board q ms range (is_entered t.border.items range) run;
      reads = small_table (plain_rows q.reads.items) (length g.objects.items) (suc t.count) (accesses_of starts w.regions ms false) tables.reads (λ o r. few_accesses starts w.regions ms false o r steps);
      writes = small_table (plain_rows q.writes.items) (length g.objects.items) (suc t.count) (accesses_of starts w.regions ms true) tables.writes (λ o r. few_accesses starts w.regions ms true o r steps);
      switches = small_table (plain_rows q.switches.items) (suc t.count) (suc t.count) count tables.switches (λ s r. few_switches starts w.regions ms s r steps);
      enters = small_list q.enters.items (suc t.count) (length ms) (λ r. sum_below (λ s. count s r) (suc t.count)) tables.enters (few_enters starts w.regions ms (suc t.count)) steps;
      leaves = small_list q.leaves.items (suc t.count) (length ms) (λ s. sum_below (count s) (suc t.count)) tables.leaves (few_leaves starts w.regions ms (suc t.count)) steps;
    }

-- ---- the cost

pub overlay_cost_is : OneInstruction → (view : ElfView) (board : Board) (g : Graph) (c : Code) (t : RegionTable) (q : Profile) (ms : List Transition) → Given view board g c t q ms → side_energy (scene_of g c t board) (taken true []) ms ≡ steps_energy (scene_of g c t board) nothing_taken ms + stub_energy (scene_of g c t board) (taken true []) + overlay_cost c g t board q
overlay_cost_is one view board g c t q ms given =
    let law = overlay_counted one view board g c t q ms given in
    let run = counted_run one view board g c t q ms given in
    let paid = first_paid c q t board.prices (first_checked c g t board q ms run) in
    omega (arith, law, paid)
