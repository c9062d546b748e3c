-- What an object costs that is kept for a pair of regions is what the tables of a profile count.
use Rattle.std.proofs.Common.{◌≡◌, ◌∙◌, inl, inr, ℕ, suc, ◌+◌, ◌-◌, ◌*◌, ◌<◌, ◌≤◌, ◌==◌, Bool, true, false, not, ◌&&◌, ◌||◌, List, [], ◌∷◌, length, slice_index_or, Option, Some, None, refl, ap, arith, if◌then◌else◌}
use Rattle.std.proofs.lemmas.Bool.{cases_eq, eq-eqb}
use Rattle.std.proofs.lemmas.Bool.Decides.{nat_tests}
use Rattle.std.proofs.lemmas.List.Sums.{sum_by-cons}
use Rattle.list_checks.specs.Sorted.{sum_below}
use Rattle.list_checks.proofs.SumLemmas.{sum_same, sum_zero, sum_rises}
use Rattle.rv32im.specs.Table.{OneInstruction}
use Rattle.elf_reader.specs.declared.view.ElfView.{ElfView}
use Rattle.board_config.specs.declared.board.Board.{Board}
use Rattle.board_config.specs.declared.board.Prices.{Prices}
use Rattle.object_graph.specs.declared.parts.Graph.{Graph}
use Rattle.object_machine.specs.declared.events.Access.{Access}
use Rattle.cell_values.specs.Objects.{object_of}
use Rattle.code_blocks.specs.declared.parts.Code.{Code}
use Rattle.region_former.specs.declared.table.RegionTable.{RegionTable}
use Rattle.placement_programme.specs.declared.variables.VarName.TheVariants.{OverlayData, KeptData}
use Rattle.placement_programme.specs.Rows.{first_twin, second_twin}
use Rattle.profile_runner.specs.declared.counts.Profile.{Profile}
use Rattle.profile_runner.specs.Transition.{Transition, transition_at}
use Rattle.profile_runner.specs.Counts.{plain_rows, entry, switches_of}
use Rattle.energy_model.specs.Energy.{Scene, starts_of, region_before, region_with, read_price, write_price, object_rounds, into_price, back_price, start_job, step_energy, steps_energy}
use Rattle.energy_model.specs.Scenes.{scene_of, AreOfSameFile}
use Rattle.energy_model.specs.Priced.{direction_price}
use Rattle.energy_model.specs.Together.{taken}
use Rattle.energy_model.specs.Overlay.{reads_in, writes_in, accesses_price, of_both, kept_copies, KeptIsCounted}
use Rattle.energy_model.proofs.SceneLemmas.{Follows, follows}
use Rattle.energy_model.proofs.SumLemmas.{sum_two, sum_moved}
use Rattle.energy_model.proofs.EnergyLemmas.{current_fits}
use Rattle.energy_model.proofs.ChangeLemmas.{changes_counted}
use Rattle.energy_model.proofs.TogetherLemmas.{touch, jobs, slow_price, fast_price, step_more}
use Rattle.energy_model.proofs.ObjectLemmas.{add_times, touch_at, accesses_counted, only_at, times_none, no_if, no_value, from_and_to}

-- ---- two places

no_second : (a b : Bool) → b ≡ false → a && b ≡ false
no_second true b is = is
no_second false b is = refl

not_both : (x first second : ℕ) → first < second → (x == first) && (x == second) ≡ false
not_both x first second less =
    elim (cases_eq x first) [
      | inl same ↦ let other : (x == second) ≡ false = grind (arith, nat_tests, same, less) in no_second (x == first) (x == second) other
      | inr differs ↦ let other : (x == first) ≡ false = grind (arith, nat_tests, differs) in rw other refl
    ]

not_to_itself : (s r x : ℕ) → (s == r) ≡ false → (s == x) && (r == x) ≡ false
not_to_itself s r x differ =
    elim (cases_eq s x) [
      | inl same ↦
          let other : (r == x) ≡ false = grind (arith, nat_tests, same, differ) in no_second (s == x) (r == x) other
      | inr differs ↦ let other : (s == x) ≡ false = grind (arith, nat_tests, differs) in rw other refl
    ]

-- ---- accesses

in_either : (same first second : Bool) (v : ℕ) → first && second ≡ false → (if same && (first || second) then v else 0) ≡ (if same && first then v else 0) + (if same && second then v else 0)
in_either true true true v none = cc
in_either true true false v none = omega arith
in_either true false second v none = omega arith
in_either false first second v none = refl

touch_both : (prices : Prices) (fast : Bool) (now pair o : ℕ) (access : Option Access) → 1 ≤ pair → touch prices fast now (KeptData pair o) access ≡ touch prices fast now (OverlayData (first_twin pair) o) access + touch prices fast now (OverlayData (second_twin pair) o) access
touch_both prices fast now pair o None some = refl
touch_both prices fast now pair o (Some a) some =
    in_either (a.object == o) (now == first_twin pair) (now == second_twin pair) (direction_price prices fast a.write)
    (not_both now (first_twin pair) (second_twin pair) (omega (arith, some)))

abbrev kept_touch_at : Scene → List Transition → Bool → ℕ → ℕ → ℕ → ℕ
kept_touch_at w ms fast pair o i = touch w.board.prices fast (region_with w ms i) (KeptData pair o) (transition_at ms i).access

kept_accesses : (view : ElfView) (board : Board) (g : Graph) (c : Code) (t : RegionTable) (q : Profile) (ms : List Transition) (fast : Bool) (pair o : ℕ) → AreOfSameFile view board g c t q ms → 1 ≤ pair → 2 * pair ≤ t.count → o < length g.objects.items → accesses_price board.prices fast (of_both (reads_in q o) pair) (of_both (writes_in q o) pair) ≡ sum_below (kept_touch_at (scene_of g c t board) ms fast pair o) (length ms)
kept_accesses view board g c t q ms fast pair o given some within object =
    let w = scene_of g c t board in
    let n = length ms in
    let first = first_twin pair in
    let second = second_twin pair in
    let in_first = accesses_counted view board g c t q ms fast first o given (omega (arith, within)) object in
    let in_second = accesses_counted view board g c t q ms fast second o given (omega (arith, within)) object in
    let reads = add_times (reads_in q o first) (reads_in q o second) (read_price fast board.prices) in
    let writes = add_times (writes_in q o first) (writes_in q o second) (write_price fast board.prices) in
    let same = sum_same (kept_touch_at w ms fast pair o) (λ i. touch_at w ms fast first o i + touch_at w ms fast second o i) n
    (λ i below. touch_both board.prices fast (region_with w ms i) pair o (transition_at ms i).access some) in
    let sum = sum_two (touch_at w ms fast first o) (touch_at w ms fast second o) n in
    omega (arith, in_first, in_second, reads, writes, same, sum)

-- ---- copies

abbrev if_written : Bool → ℕ → ℕ
if_written written back = if written then back else 0

-- what an object that is overlaid in region `r` copies, by its jobs; and a change from one region to another
abbrev overlaid_jobs : ℕ → ℕ → ℕ → ℕ → ℕ → ℕ
overlaid_jobs leave enter r s k = (if s == r then leave else 0) + (if k == r then enter else 0)

abbrev one_way : ℕ → ℕ → ℕ → ℕ → ℕ → ℕ
one_way value from to s k = if (s == from) && (k == to) then value else 0

by_tests : (a b c d written : Bool) (back enter : ℕ) → a && b ≡ false → c && d ≡ false → a && c ≡ false → b && d ≡ false → (if ((a || b) && not (c || d)) && written then back else 0) + (if (c || d) && not (a || b) then enter else 0) + (if a && d then if_written written back + enter else 0) + (if b && c then if_written written back + enter else 0) ≡ (if a then if_written written back else 0) + (if c then enter else 0) + ((if b then if_written written back else 0) + (if d then enter else 0))
by_tests true true c d written back enter ab cd ac bd = cc
by_tests true false true d written back enter ab cd ac bd = cc
by_tests true false false true written back enter ab cd ac bd = omega arith
by_tests true false false false true back enter ab cd ac bd = omega arith
by_tests true false false false false back enter ab cd ac bd = omega arith
by_tests false true true true written back enter ab cd ac bd = cc
by_tests false true true false written back enter ab cd ac bd = omega arith
by_tests false true false true written back enter ab cd ac bd = cc
by_tests false true false false true back enter ab cd ac bd = omega arith
by_tests false true false false false back enter ab cd ac bd = omega arith
by_tests false false true true written back enter ab cd ac bd = cc
by_tests false false true false written back enter ab cd ac bd = omega arith
by_tests false false false true written back enter ab cd ac bd = omega arith
by_tests false false false false written back enter ab cd ac bd = omega arith

-- the copies of a run by what each change of the region copies
abbrev changed_at : (ℕ → ℕ → ℕ) → Scene → List Transition → ℕ → ℕ
changed_at value w ms i = if not (region_before w ms i == region_with w ms i) then value (region_before w ms i) (region_with w ms i) else 0

if_same : (test : Bool) (a b c d e : ℕ) → (test ≡ false → a + b + c ≡ d + e) → (if not test then a else 0) + (if not test then b else 0) + (if not test then c else 0) ≡ (if not test then d else 0) + (if not test then e else 0)
if_same true a b c d e is = refl
if_same false a b c d e is = is refl

module _ (view : ElfView) (board : Board) (g : Graph) (c : Code) (t : RegionTable) (q : Profile) (ms : List Transition) (given : AreOfSameFile view board g c t q ms) where
  abbrev w : Scene
  w = scene_of g c t board

  abbrev count : ℕ → ℕ → ℕ
  count = switches_of (starts_of w) w.regions ms

  abbrev size : ℕ
  size = suc t.count

  by_table : (value : ℕ → ℕ → ℕ) → sum_below (λ s. sum_below (λ k. count s k * value s k) size) size ≡ sum_below (changed_at value w ms) (length ms)
  by_table value =
      changes_counted (λ s k. not (s == k)) value (region_before w ms) (region_with w ms) size size (length ms)
      (λ i below. let fits = current_fits (starts_of w) w.regions ms t.count i t.within in omega (arith, fits))
      (λ i below. let fits = current_fits (starts_of w) w.regions ms t.count (suc i) t.within in omega (arith, fits))

  overlaid : (leave enter r : ℕ) → r ≤ t.count → sum_below (changed_at (overlaid_jobs leave enter r) w ms) (length ms) ≡ slice_index_or q.leaves.items r 0 * leave + slice_index_or q.enters.items r 0 * enter
  overlaid leave enter r region =
      let sum = by_table (overlaid_jobs leave enter r) in
      let itself : (r == r) ≡ true = eq-eqb r r refl in
      let sums = from_and_to count (overlaid_jobs leave enter r) (λ s. if s == r then leave else 0) (λ k. if k == r then enter else 0) r size (omega (arith, region))
      (λ s k. refl) (λ s other. no_value (s == r) leave other) (λ k other. no_value (k == r) enter other) in
      let left = ap (λ (b : Bool). sum_below (count r) size * (if b then leave else 0)) itself in
      let right = ap (λ (b : Bool). sum_below (λ s. count s r) size * (if b then enter else 0)) itself in
      let leaves = ap (λ n. n * leave) (given.run.profile.leaves.each r (omega (arith, region))) in
      let enters = ap (λ n. n * enter) (given.run.profile.enters.each r (omega (arith, region))) in
      omega (arith, sum, sums, left, right, leaves, enters)

  switched : (value from to : ℕ) → from ≤ t.count → to ≤ t.count → sum_below (changed_at (one_way value from to) w ms) (length ms) ≡ entry (plain_rows q.switches.items) from to * value
  switched value from to first second =
      let sum = by_table (one_way value from to) in
      let rows = only_at (λ s. sum_below (λ k. count s k * one_way value from to s k) size) from size (omega (arith, first)) (λ s other.
      sum_zero (λ k. count s k * one_way value from to s k) size (λ k inside. times_none (count s k) (one_way value from to s k) (no_if (s == from) (k == to) value other))) in
      let columns = only_at (λ k. count from k * one_way value from to from k) to size (omega (arith, second)) (λ k other.
      times_none (count from k) (one_way value from to from k) (no_value ((from == from) && (k == to)) value (no_second (from == from) (k == to) other))) in
      let itself : (from == from) ≡ true = eq-eqb from from refl in
      let there : (to == to) ≡ true = eq-eqb to to refl in
      let here : count from to * one_way value from to from to ≡ count from to * value = ap (λ (b : Bool). count from to * (if b then value else 0)) (ap (λ (b : Bool). b && (to == to)) itself ∙ there) in
      let table = ap (λ n. n * value) (given.run.profile.switches.counts from to (omega (arith, first)) (omega (arith, second))) in
      omega (arith, sum, rows, columns, here, table)

  -- a switch to a region is one of its enters, and one from a region is one of its leaves
  few_enters : (from to : ℕ) → from ≤ t.count → to ≤ t.count → entry (plain_rows q.switches.items) from to ≤ slice_index_or q.enters.items to 0
  few_enters from to first second =
      let table = given.run.profile.switches.counts from to (omega (arith, first)) (omega (arith, second)) in
      let all = given.run.profile.enters.each to (omega (arith, second)) in
      let one = sum_rises (λ s. count s to) (suc from) size (omega (arith, first)) in
      omega (arith, table, all, one)

  few_leaves : (from to : ℕ) → from ≤ t.count → to ≤ t.count → entry (plain_rows q.switches.items) from to ≤ slice_index_or q.leaves.items from 0
  few_leaves from to first second =
      let table = given.run.profile.switches.counts from to (omega (arith, first)) (omega (arith, second)) in
      let all = given.run.profile.leaves.each from (omega (arith, first)) in
      let one = sum_rises (count from) (suc to) size (omega (arith, second)) in
      omega (arith, table, all, one)

  kept_sum : (pair o : ℕ) → 1 ≤ pair → 2 * pair ≤ t.count → sum_below (changed_at (λ s k. jobs w s k (KeptData pair o)) w ms) (length ms) ≡ kept_copies w q pair o
  kept_sum pair o some within =
      let n = length ms in
      let first = first_twin pair in
      let second = second_twin pair in
      let written = (object_of g o).writable in
      let back = back_price board.prices (object_rounds (object_of g o)) in
      let enter = into_price board.prices (object_rounds (object_of g o)) in
      let leave = if_written written back in
      let kept = changed_at (λ s k. jobs w s k (KeptData pair o)) w ms in
      let there = changed_at (one_way (leave + enter) first second) w ms in
      let again = changed_at (one_way (leave + enter) second first) w ms in
      let one = changed_at (overlaid_jobs leave enter first) w ms in
      let other = changed_at (overlaid_jobs leave enter second) w ms in
      let each = sum_same (λ i. kept i + there i + again i) (λ i. one i + other i) n (λ i below.
      let s = region_before w ms i in
      let k = region_with w ms i in
      if_same (s == k) (jobs w s k (KeptData pair o)) (one_way (leave + enter) first second s k) (one_way (leave + enter) second first s k)
      (overlaid_jobs leave enter first s k) (overlaid_jobs leave enter second s k) (λ differ.
      let order : first < second = omega (arith, some) in
      let tests = by_tests (s == first) (s == second) (k == first) (k == second) written back enter
      (not_both s first second order) (not_both k first second order) (not_to_itself s k first differ) (not_to_itself s k second differ) in
      omega (arith, tests))) in
      let left = sum_two (λ i. kept i + there i) again n in
      let inner = sum_two kept there n in
      let right = sum_two one other n in
      let from_first = overlaid leave enter first (omega (arith, within)) in
      let from_second = overlaid leave enter second (omega (arith, within)) in
      let forth = switched (leave + enter) first second (omega (arith, within)) (omega (arith, within)) in
      let around = switched (leave + enter) second first (omega (arith, within)) (omega (arith, within)) in
      let sums = counted leave enter (entry (plain_rows q.switches.items) first second) (entry (plain_rows q.switches.items) second first)
      (slice_index_or q.enters.items first 0) (slice_index_or q.enters.items second 0) (slice_index_or q.leaves.items first 0) (slice_index_or q.leaves.items second 0)
      (few_enters first second (omega (arith, within)) (omega (arith, within))) (few_enters second first (omega (arith, within)) (omega (arith, within)))
      (few_leaves first second (omega (arith, within)) (omega (arith, within))) (few_leaves second first (omega (arith, within)) (omega (arith, within))) in
      omega (arith, each, left, inner, right, from_first, from_second, forth, around, sums)
    where
      less_times : (a b x : ℕ) → b ≤ a → (a - b) * x + b * x ≡ a * x
      less_times a b x order = let sum = add_times (a - b) b x in let same = ap (λ n. n * x) (rest a b order) in omega (arith, sum, same)
        where
          rest : (a b : ℕ) → b ≤ a → a - b + b ≡ a
          rest a b order = omega (arith, order)

      counted : (leave enter forth around enters_first enters_second leaves_first leaves_second : ℕ) → forth ≤ enters_second → around ≤ enters_first → forth ≤ leaves_first → around ≤ leaves_second → (enters_first + enters_second - (forth + around)) * enter + (leaves_first + leaves_second - (forth + around)) * leave + forth * (leave + enter) + around * (leave + enter) ≡ leaves_first * leave + enters_first * enter + (leaves_second * leave + enters_second * enter)
      counted leave enter forth around enters_first enters_second leaves_first leaves_second a b c d =
          let first = less_times (enters_first + enters_second) (forth + around) enter (omega (arith, a, b)) in
          let second = less_times (leaves_first + leaves_second) (forth + around) leave (omega (arith, c, d)) in
          omega (arith, first, second)

-- ---- a run

steps_kept : (w : Scene) (ms : List Transition) (pair o : ℕ) → Follows w ms → steps_energy w (taken true (KeptData pair o ∷ [])) ms + sum_below (kept_touch_at w ms false pair o) (length ms) ≡ steps_energy w (taken true []) ms + sum_below (kept_touch_at w ms true pair o) (length ms) + sum_below (changed_at (λ s k. jobs w s k (KeptData pair o)) w ms) (length ms)
steps_kept w ms pair o all =
    sum_moved (step_energy w (taken true (KeptData pair o ∷ [])) ms) (kept_touch_at w ms false pair o) (step_energy w (taken true []) ms) (kept_touch_at w ms true pair o) (changed_at (λ s k. jobs w s k (KeptData pair o)) w ms) (length ms)
    (λ i below.
    let step = step_more w true (KeptData pair o) [] ms i all below tt in
    let slow_is : slow_price w true ms (KeptData pair o) i ≡ kept_touch_at w ms false pair o i + 0 = refl in
    let fast_is : fast_price w true ms (KeptData pair o) i ≡ kept_touch_at w ms true pair o i + 0 + changed_at (λ s k. jobs w s k (KeptData pair o)) w ms i = refl in
    omega (arith, step, slow_is, fast_is))

pub kept_counted : OneInstruction → KeptIsCounted
kept_counted one view board g c t q ms pair o given some within object =
    let w = scene_of g c t board in
    let steps = steps_kept w ms pair o (follows one view board g c t q ms given) in
    let home = kept_accesses view board g c t q ms false pair o given some within object in
    let fast = kept_accesses view board g c t q ms true pair o given some within object in
    let copies = kept_sum view board g c t q ms given pair o some within in
    let stub = sum_by-cons (start_job w) (KeptData pair o) [] in
    let none : start_job w (KeptData pair o) ≡ 0 = refl in
    omega (arith, steps, home, fast, copies, stub, none)
