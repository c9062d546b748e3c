-- What an object costs that is overlaid in a region is what the tables of a profile count.
use Rattle.std.proofs.Common.{◌≡◌, ◌∙◌, inl, inr, ℕ, zero, suc, ◌+◌, ◌*◌, ◌<◌, ◌≤◌, ◌==◌, Bool, true, false, not, ◌&&◌, List, [], ◌∷◌, length, Option, Some, None, refl, sym, ap, arith, if◌then◌else◌}
use Rattle.std.proofs.lemmas.Bool.{cases_eq}
use Rattle.std.proofs.lemmas.Bool.Decides.{nat_tests}
use Rattle.std.proofs.lemmas.List.Sums.{sum_by-cons}
use Rattle.list_checks.specs.Sorted.{count_below, sum_below}
use Rattle.list_checks.proofs.SumLemmas.{sum_same}
use Rattle.rv32im.specs.Table.{OneInstruction}
use Rattle.elf_reader.specs.declared.view.ElfView.{ElfView}
use Rattle.board_config.specs.declared.board.Board.{Board}
use Rattle.board_config.specs.declared.board.Prices.{Prices}
use Rattle.object_graph.specs.declared.parts.Graph.{Graph}
use Rattle.object_machine.specs.declared.events.Access.{Access}
use Rattle.code_blocks.specs.declared.parts.Code.{Code}
use Rattle.region_former.specs.declared.table.RegionTable.{RegionTable}
use Rattle.placement_programme.specs.declared.variables.VarName.TheVariants.{OverlayData}
use Rattle.profile_runner.specs.declared.counts.Profile.{Profile}
use Rattle.profile_runner.specs.Transition.{Transition, transition_at}
use Rattle.profile_runner.specs.Counts.{same_direction, is_access_to, accesses_of, switches_of}
use Rattle.energy_model.specs.Energy.{Scene, starts_of, region_before, region_with, read_price, write_price, start_job, enter_job, leave_job, step_energy, steps_energy}
use Rattle.energy_model.specs.Scenes.{scene_of, AreOfSameFile}
use Rattle.energy_model.specs.Priced.{direction_price}
use Rattle.energy_model.specs.Together.{taken}
use Rattle.energy_model.specs.Overlay.{reads_in, writes_in, accesses_price, object_copies, ObjectIsCounted}
use Rattle.energy_model.proofs.SceneLemmas.{Follows, follows}
use Rattle.energy_model.proofs.SumLemmas.{sum_two, sum_moved}
use Rattle.energy_model.proofs.PlaceLemmas.{single}
use Rattle.energy_model.proofs.EnergyLemmas.{current_fits}
use Rattle.energy_model.proofs.CountsLemmas.{sum_times}
use Rattle.energy_model.proofs.ChangeLemmas.{changes_counted}
use Rattle.energy_model.proofs.TogetherLemmas.{touch, jobs, slow_price, fast_price, step_more}

-- ---- accesses

in_direction : (prices : Prices) (fast same here write : Bool) → (if same && here then direction_price prices fast write else 0) ≡ (if (same && same_direction false write) && here then 1 else 0) * read_price fast prices + (if (same && same_direction true write) && here then 1 else 0) * write_price fast prices
in_direction prices fast true true true = omega arith
in_direction prices fast true true false = omega arith
in_direction prices fast true false true = omega arith
in_direction prices fast true false false = omega arith
in_direction prices fast false here write = omega arith

touch_is : (prices : Prices) (fast : Bool) (now r o : ℕ) (access : Option Access) → touch prices fast now (OverlayData r o) access ≡ (if is_access_to false o access && (now == r) then 1 else 0) * read_price fast prices + (if is_access_to true o access && (now == r) then 1 else 0) * write_price fast prices
touch_is prices fast now r o None = omega arith
touch_is prices fast now r o (Some a) = in_direction prices fast (a.object == o) (now == r) a.write

-- the accesses to an object while a region is current, of the first `n` transitions
abbrev accessed : Scene → List Transition → Bool → ℕ → ℕ → ℕ → ℕ
accessed w ms write o r n = count_below (λ i. is_access_to write o (transition_at ms i).access && (region_with w ms i == r)) n

abbrev pub touch_at : Scene → List Transition → Bool → ℕ → ℕ → ℕ → ℕ
touch_at w ms fast r o i = touch w.board.prices fast (region_with w ms i) (OverlayData r o) (transition_at ms i).access

pub add_times : (c d x : ℕ) → (c + d) * x ≡ c * x + d * x
add_times c d x = grind arith

touches_below : (w : Scene) (ms : List Transition) (fast : Bool) (r o n : ℕ) → sum_below (touch_at w ms fast r o) n ≡ accessed w ms false o r n * read_price fast w.board.prices + accessed w ms true o r n * write_price fast w.board.prices
touches_below w ms fast r o zero = omega arith
touches_below w ms fast r o (suc n) =
    let earlier = touches_below w ms fast r o n in
    let access = (transition_at ms n).access in
    let now = region_with w ms n in
    let here = touch_is w.board.prices fast now r o access in
    let reads = add_times (accessed w ms false o r n) (if is_access_to false o access && (now == r) then 1 else 0) (read_price fast w.board.prices) in
    let writes = add_times (accessed w ms true o r n) (if is_access_to true o access && (now == r) then 1 else 0) (write_price fast w.board.prices) in
    omega (arith, earlier, here, reads, writes)

pub accesses_counted : (view : ElfView) (board : Board) (g : Graph) (c : Code) (t : RegionTable) (q : Profile) (ms : List Transition) (fast : Bool) (r o : ℕ) → AreOfSameFile view board g c t q ms → r ≤ t.count → o < length g.objects.items → accesses_price board.prices fast (reads_in q o r) (writes_in q o r) ≡ sum_below (touch_at (scene_of g c t board) ms fast r o) (length ms)
accesses_counted view board g c t q ms fast r o given region object =
    let w = scene_of g c t board in
    let tables = given.run.profile in
    let reads : reads_in q o r ≡ accesses_of (starts_of w) w.regions ms false o r = tables.reads.counts o r object (omega (arith, region)) in
    let writes : writes_in q o r ≡ accesses_of (starts_of w) w.regions ms true o r = tables.writes.counts o r object (omega (arith, region)) in
    let sum = touches_below w ms fast r o (length ms) in
    ap (λ n. n * read_price fast board.prices + writes_in q o r * write_price fast board.prices) reads
    ∙ (ap (λ n. accesses_of (starts_of w) w.regions ms false o r * read_price fast board.prices + n * write_price fast board.prices) writes
    ∙ sym sum)

-- ---- copies

-- a value that is 0 elsewhere
pub only_at : (f : ℕ → ℕ) (r m : ℕ) → r < m → ((s : ℕ) → (s == r) ≡ false → f s ≡ 0) → sum_below f m ≡ f r
only_at f r m below none =
    sum_same f (λ s. if r == s then f s else 0) m (λ s inside.
    elim (cases_eq s r) [
      | inl same ↦ let test : (r == s) ≡ true = grind (arith, nat_tests, same) in rw test refl
      | inr differs ↦
          let other : (s == r) ≡ false = grind (arith, nat_tests, differs) in
          let test : (r == s) ≡ false = grind (arith, nat_tests, differs) in
          rw test (none s other)
    ])
    ∙ single f r m below

pub times_none : (n x : ℕ) → x ≡ 0 → n * x ≡ 0
times_none n x is = ap (λ y. n * y) is ∙ omega arith

times_sum : (n x y : ℕ) → n * (x + y) ≡ n * x + n * y
times_sum n x y = grind arith

-- so many changes, of which those from and those to one place have a value
pub from_and_to : (n value : ℕ → ℕ → ℕ) (leave enter : ℕ → ℕ) (r m : ℕ) → r < m → ((s k : ℕ) → value s k ≡ leave s + enter k) → ((s : ℕ) → (s == r) ≡ false → leave s ≡ 0) → ((s : ℕ) → (s == r) ≡ false → enter s ≡ 0) → sum_below (λ s. sum_below (λ k. n s k * value s k) m) m ≡ sum_below (n r) m * leave r + sum_below (λ s. n s r) m * enter r
from_and_to n value leave enter r m below is no_leave no_enter =
    let each = sum_same (λ s. sum_below (λ k. n s k * value s k) m) (λ s. sum_below (n s) m * leave s + n s r * enter r) m (λ s inside.
    let split = sum_same (λ k. n s k * value s k) (λ k. n s k * leave s + n s k * enter k) m (λ k there. ap (λ x. n s k * x) (is s k) ∙ times_sum (n s k) (leave s) (enter k)) in
    let two = sum_two (λ k. n s k * leave s) (λ k. n s k * enter k) m in
    let left = sum_times (n s) (leave s) m in
    let right = only_at (λ k. n s k * enter k) r m below (λ k other. times_none (n s k) (enter k) (no_enter k other)) in
    omega (arith, split, two, left, right)) in
    let two = sum_two (λ s. sum_below (n s) m * leave s) (λ s. n s r * enter r) m in
    let left = only_at (λ s. sum_below (n s) m * leave s) r m below (λ s other. times_none (sum_below (n s) m) (leave s) (no_leave s other)) in
    let right = sum_times (λ s. n s r) (enter r) m in
    omega (arith, each, two, left, right)

abbrev copies_at : Scene → List Transition → ℕ → ℕ → ℕ → ℕ
copies_at w ms r o i =
    if not (region_before w ms i == region_with w ms i) then jobs w (region_before w ms i) (region_with w ms i) (OverlayData r o) else 0

pub no_if : (a b : Bool) (x : ℕ) → a ≡ false → (if a && b then x else 0) ≡ 0
no_if a b x is = rw is refl

pub no_value : (a : Bool) (x : ℕ) → a ≡ false → (if a then x else 0) ≡ 0
no_value a x is = rw is refl

copies_counted : (view : ElfView) (board : Board) (g : Graph) (c : Code) (t : RegionTable) (q : Profile) (ms : List Transition) (r o : ℕ) → AreOfSameFile view board g c t q ms → r ≤ t.count → object_copies (scene_of g c t board) q r o ≡ sum_below (copies_at (scene_of g c t board) ms r o) (length ms)
copies_counted view board g c t q ms r o given region =
    let w = scene_of g c t board in
    let name = OverlayData r o in
    let size = suc t.count in
    let tables = given.run.profile in
    let count = switches_of (starts_of w) w.regions ms in
    let enters = ap (λ n. n * enter_job w r name) (tables.enters.each r (omega (arith, region))) in
    let leaves = ap (λ n. n * leave_job w r name) (tables.leaves.each r (omega (arith, region))) in
    let sums = from_and_to count (λ s k. jobs w s k name) (λ s. leave_job w s name) (λ k. enter_job w k name) r size (omega (arith, region))
    (λ s k. omega arith) (λ s other. no_if (s == r) _ _ other) (λ s other. no_value (s == r) _ other) in
    let run = changes_counted (λ s k. not (s == k)) (λ s k. jobs w s k name) (region_before w ms) (region_with w ms) size size (length ms)
    (λ i below. let fits = current_fits (starts_of w) w.regions ms t.count i t.within in omega (arith, fits))
    (λ i below. let fits = current_fits (starts_of w) w.regions ms t.count (suc i) t.within in omega (arith, fits)) in
    omega (arith, enters, leaves, sums, run)

-- ---- a run

steps_object : (w : Scene) (ms : List Transition) (r o : ℕ) → Follows w ms → steps_energy w (taken true (OverlayData r o ∷ [])) ms + sum_below (touch_at w ms false r o) (length ms) ≡ steps_energy w (taken true []) ms + sum_below (touch_at w ms true r o) (length ms) + sum_below (copies_at w ms r o) (length ms)
steps_object w ms r o all =
    sum_moved (step_energy w (taken true (OverlayData r o ∷ [])) ms) (touch_at w ms false r o) (step_energy w (taken true []) ms) (touch_at w ms true r o) (copies_at w ms r o) (length ms)
    (λ i below.
    let step = step_more w true (OverlayData r o) [] ms i all below tt in
    let slow_is : slow_price w true ms (OverlayData r o) i ≡ touch_at w ms false r o i + 0 = refl in
    let fast_is : fast_price w true ms (OverlayData r o) i ≡ touch_at w ms true r o i + 0 + copies_at w ms r o i = refl in
    omega (arith, step, slow_is, fast_is))

pub object_counted : OneInstruction → ObjectIsCounted
object_counted one view board g c t q ms r o given region object =
    let w = scene_of g c t board in
    let steps = steps_object w ms r o (follows one view board g c t q ms given) in
    let home = accesses_counted view board g c t q ms false r o given region object in
    let fast = accesses_counted view board g c t q ms true r o given region object in
    let copies = copies_counted view board g c t q ms r o given region in
    let stub = sum_by-cons (start_job w) (OverlayData r o) [] in
    let none : start_job w (OverlayData r o) ≡ 0 = refl in
    omega (arith, steps, home, fast, copies, stub, none)
