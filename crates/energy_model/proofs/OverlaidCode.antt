-- What a piece costs with overlay, throughout or in a region, is what the tables of a profile count.
use Rattle.std.proofs.Common.{◌≡◌, ◌∙◌, ℕ, suc, ◌+◌, ◌*◌, ◌<◌, ◌≤◌, ◌==◌, Bool, true, false, not, ◌&&◌, List, [], ◌∷◌, length, slice_index_or, Option, Some, None, refl, sym, ap, arith, if◌then◌else◌}
use Rattle.std.proofs.lemmas.List.Sums.{sum_by-cons}
use Rattle.list_checks.specs.Sorted.{sum_below}
use Rattle.list_checks.proofs.SumLemmas.{sum_same, sum_zero}
use Rattle.rv32im.specs.Table.{OneInstruction}
use Rattle.elf_reader.specs.declared.view.ElfView.{ElfView}
use Rattle.board_config.specs.declared.board.Board.{Board}
use Rattle.board_config.specs.declared.board.Prices.{Prices}
use Rattle.object_graph.specs.declared.parts.Graph.{Graph}
use Rattle.object_machine.specs.declared.events.Access.{Access}
use Rattle.code_blocks.specs.declared.parts.Code.{Code}
use Rattle.region_former.specs.declared.table.RegionTable.{RegionTable}
use Rattle.placement_programme.specs.declared.variables.VarName.{VarName}
use Rattle.placement_programme.specs.declared.variables.VarName.TheVariants.{StaticCode, OverlayCode}
use Rattle.profile_runner.specs.declared.counts.Profile.{Profile}
use Rattle.profile_runner.specs.Transition.{Transition, transition_at}
use Rattle.profile_runner.specs.Standing.{begins}
use Rattle.profile_runner.specs.Counts.{switches_of}
use Rattle.block_splitter.specs.declared.block_range.BlockRange.{BlockRange}
use Rattle.block_splitter.specs.Forms.{unit_in, body_at, is_site, kind_of, displaced_words}
use Rattle.energy_model.specs.Energy.{Scene, starts_of, block_in, block_at, unit_number, region_before, region_with, is_internal, arrival_price, start_job, enter_job, leave_job, step_energy, steps_energy}
use Rattle.energy_model.specs.Scenes.{scene_of, AreOfSameFile}
use Rattle.energy_model.specs.Priced.{range}
use Rattle.energy_model.specs.Copied.{home_words}
use Rattle.energy_model.specs.Together.{taken}
use Rattle.energy_model.specs.Overlay.{is_entered, entering_price, entered_words, copied_price, PieceIsCounted}
use Rattle.energy_model.proofs.SceneLemmas.{Follows, follows}
use Rattle.energy_model.proofs.SumLemmas.{sum_two, sum_moved}
use Rattle.energy_model.proofs.EnergyLemmas.{current_fits}
use Rattle.energy_model.proofs.WordLemmas.{IsCountedRun}
use Rattle.energy_model.proofs.CopyLemmas.{home_counted, copy_counted}
use Rattle.energy_model.proofs.ArrivalLemmas.{outside_at, outside_to, begun_at, began_where, came_counted, came_to_counted}
use Rattle.energy_model.proofs.CountsLemmas.{counted_run, sum_times}
use Rattle.energy_model.proofs.ChangeLemmas.{changes_counted}
use Rattle.energy_model.proofs.TakenLemmas.{fetched_at_home, fetched_in_copy, is_held}
use Rattle.energy_model.proofs.TogetherLemmas.{by_piece, touch, jobs, slow_price, fast_price, step_more}
use Rattle.energy_model.proofs.OverlayLemmas.{at_border, ran_first, first_begins, form_parts, way_parts, same_first, ran_is_first, values_to}
use Rattle.energy_model.proofs.ObjectLemmas.{from_and_to}

-- ---- a step of a block that is not copied

abbrev is_entered_at : Scene → BlockRange → List Transition → ℕ → Bool
is_entered_at w p ms i = is_entered w.borders p (block_at w ms i)

abbrev home_at : Scene → BlockRange → List Transition → ℕ → ℕ
home_at w p ms i = if is_held w p ms i then by_piece w true ms i None else 0

abbrev first_words_at : Scene → BlockRange → List Transition → ℕ → ℕ
first_words_at w p ms i =
    if is_entered_at w p ms i then (if ran_first w ms i then (unit_in (block_in w (block_at w ms i)) 0).words else 0) else 0

abbrev displaced_at : Scene → BlockRange → List Transition → ℕ → ℕ
displaced_at w p ms i =
    if is_entered_at w p ms i then (if ran_first w ms i then displaced_words (kind_of (is_site w.graph) (block_in w (block_at w ms i)) 0) else 0) else 0

abbrev checked_at : Scene → BlockRange → List Transition → ℕ → ℕ
checked_at w p ms i = begun_at w (is_entered w.borders p) ms i

abbrev home_words_at : Scene → BlockRange → List Transition → ℕ → ℕ
home_words_at w p ms i = if is_held w p ms i then fetched_at_home w ms i else 0

held_home : (held border : Bool) (all first words check displaced fetch price : ℕ) → all + (if border then first else 0) * fetch ≡ words * fetch + (if border then check else 0) * price + (if border then displaced else 0) * fetch → (if held then all else 0) + (if border && held then first else 0) * fetch ≡ (if held then words else 0) * fetch + (if border && held then check else 0) * price + (if border && held then displaced else 0) * fetch
held_home true true all first words check displaced fetch price is = is
held_home true false all first words check displaced fetch price is = is
held_home false true all first words check displaced fetch price is = omega arith
held_home false false all first words check displaced fetch price is = omega arith

home_step : (w : Scene) (p : BlockRange) (ms : List Transition) (i : ℕ) → Follows w ms → i < length ms → home_at w p ms i + first_words_at w p ms i * w.board.prices.main_fetch ≡ home_words_at w p ms i * w.board.prices.main_fetch + checked_at w p ms i * arrival_price w.board.prices false true + displaced_at w p ms i * w.board.prices.main_fetch
home_step w p ms i all below =
    let body = block_in w (block_at w ms i) in
    let k = unit_number w ms i in
    let goes = (transition_at ms i).goes_on in
    let border = at_border w ms i in
    let begun = begins (starts_of w) ms i in
    let fetch = w.board.prices.main_fetch in
    let read = w.board.prices.main_read in
    let words = (unit_in body k).words in
    let displaced = displaced_words (kind_of (is_site w.graph) body k) in
    let first = first_begins w ms i all below in
    let zero_is = ran_is_first begun goes k first in
    let form = form_parts goes border (k == 0) begun displaced words fetch first in
    let way = way_parts begun border fetch read in
    let whole : by_piece w true ms i None ≡ (if goes then (if border && (k == 0) then displaced else words) else 1) * fetch + (if begun && true then (if border then 5 else 0) * fetch + (if border then read else 0) else 0) = refl in
    let first_cost = ap (λ n. (if border then n else 0) * fetch) (sym (same_first (begun && goes) (λ n. (unit_in body n).words) k zero_is)) in
    let displaced_cost = ap (λ n. (if border then n else 0) * fetch) (sym (same_first (begun && goes) (λ n. displaced_words (kind_of (is_site w.graph) body n)) k zero_is)) in
    held_home (is_held w p ms i) border (by_piece w true ms i None)
    (if begun && goes then (unit_in body 0).words else 0) (fetched_at_home w ms i) (if begun then 1 else 0)
    (if begun && goes then displaced_words (kind_of (is_site w.graph) body 0) else 0) fetch (arrival_price w.board.prices false true)
    (omega (arith, whole, form, way, first_cost, displaced_cost))

-- ---- a step of one that is

abbrev copy_at : Scene → BlockRange → List Transition → ℕ → ℕ
copy_at w p ms i = if is_held w p ms i then by_piece w true ms i (Some p) else 0

abbrev copy_words_at : Scene → BlockRange → List Transition → ℕ → ℕ
copy_words_at w p ms i = if is_held w p ms i then fetched_in_copy w p ms i else 0

abbrev entered_at : Scene → BlockRange → List Transition → ℕ → ℕ
entered_at w p ms i = outside_to w p (is_entered w.borders p) ms i

held_copy : (held border comes : Bool) (words spm fetch read : ℕ) → (if held then words * spm + (if comes then (if border then 7 else 3) * fetch + (if border then read else 0) else 0) else 0) ≡ (if held then words else 0) * spm + (if held then (if comes then 1 else 0) else 0) * (3 * fetch) + (if border && held then (if comes then 1 else 0) else 0) * (4 * fetch + read)
held_copy true true true words spm fetch read = omega arith
held_copy true true false words spm fetch read = omega arith
held_copy true false true words spm fetch read = omega arith
held_copy true false false words spm fetch read = omega arith
held_copy false true comes words spm fetch read = omega arith
held_copy false false comes words spm fetch read = omega arith

copy_step : (w : Scene) (p : BlockRange) (ms : List Transition) (i : ℕ) → copy_at w p ms i ≡ copy_words_at w p ms i * w.board.prices.spm_fetch + outside_at w p ms i * (3 * w.board.prices.main_fetch) + entered_at w p ms i * (4 * w.board.prices.main_fetch + w.board.prices.main_read)
copy_step w p ms i =
    held_copy (is_held w p ms i) (at_border w ms i) (begins (starts_of w) ms i && not (is_internal w p ms i)) (fetched_in_copy w p ms i) w.board.prices.spm_fetch w.board.prices.main_fetch w.board.prices.main_read

-- ---- a run

home_sum : (c : Code) (g : Graph) (t : RegionTable) (board : Board) (q : Profile) (ms : List Transition) (p : BlockRange) → IsCountedRun c g t board q ms → sum_below (home_at (scene_of g c t board) p ms) (length ms) + entered_words c q t.border.items p * board.prices.main_fetch ≡ home_words c g q p * board.prices.main_fetch + entering_price c g board.prices q t.border.items p
home_sum c g t board q ms p run =
    let w = scene_of g c t board in
    let n = length ms in
    let fetch = board.prices.main_fetch in
    let check = arrival_price board.prices false true in
    let to = is_entered t.border.items p in
    let first = λ (i : ℕ). first_words_at w p ms i * fetch in
    let words = λ (i : ℕ). home_words_at w p ms i * fetch in
    let checks = λ (i : ℕ). checked_at w p ms i * check in
    let displaced = λ (i : ℕ). displaced_at w p ms i * fetch in
    let same = sum_same (λ i. home_at w p ms i + first i) (λ i. words i + checks i + displaced i) n (λ i below. home_step w p ms i run.all below) in
    let left = sum_two (home_at w p ms) first n in
    let right = sum_two (λ i. words i + checks i) displaced n in
    let inner = sum_two words checks n in
    let first_is = sum_times (first_words_at w p ms) fetch n ∙ ap (λ x. x * fetch) (sym (values_to c g t board q ms to (λ b. (unit_in (body_at c.blocks.items b) 0).words) run)) in
    let words_is = sum_times (home_words_at w p ms) fetch n ∙ ap (λ x. x * fetch) (sym (home_counted c g t board q ms p run)) in
    let checks_is = sum_times (checked_at w p ms) check n ∙ ap (λ x. x * check) (sym (began_where c g t board q ms to run)) in
    let displaced_is = sum_times (displaced_at w p ms) fetch n ∙ ap (λ x. x * fetch) (sym (values_to c g t board q ms to (λ b. displaced_words (kind_of (is_site g) (body_at c.blocks.items b) 0)) run)) in
    omega (arith, same, left, right, inner, first_is, words_is, checks_is, displaced_is)

copy_sum : (c : Code) (g : Graph) (t : RegionTable) (board : Board) (q : Profile) (ms : List Transition) (p : BlockRange) → IsCountedRun c g t board q ms → sum_below (copy_at (scene_of g c t board) p ms) (length ms) ≡ copied_price c g board.prices q t.border.items p
copy_sum c g t board q ms p run =
    let w = scene_of g c t board in
    let n = length ms in
    let spm = board.prices.spm_fetch in
    let pad = 3 * board.prices.main_fetch in
    let check = 4 * board.prices.main_fetch + board.prices.main_read in
    let words = λ (i : ℕ). copy_words_at w p ms i * spm in
    let came = λ (i : ℕ). outside_at w p ms i * pad in
    let entered = λ (i : ℕ). entered_at w p ms i * check in
    let same = sum_same (copy_at w p ms) (λ i. words i + came i + entered i) n (λ i below. copy_step w p ms i) in
    let two = sum_two (λ i. words i + came i) entered n in
    let inner = sum_two words came n in
    let words_is = sum_times (copy_words_at w p ms) spm n ∙ ap (λ x. x * spm) (sym (copy_counted c g t board q ms p run)) in
    let came_is = sum_times (outside_at w p ms) pad n ∙ ap (λ x. x * pad) (sym (came_counted c g t board q ms p run)) in
    let entered_is = sum_times (entered_at w p ms) check n ∙ ap (λ x. x * check) (sym (came_to_counted c g t board q ms p (is_entered t.border.items p) run)) in
    omega (arith, same, two, inner, words_is, came_is, entered_is)

-- ---- its copies

no_touch_static : (prices : Prices) (fast : Bool) (r first last : ℕ) (access : Option Access) → touch prices fast r (StaticCode first last) access ≡ 0
no_touch_static prices fast r first last None = refl
no_touch_static prices fast r first last (Some a) = refl

no_touch_overlay : (prices : Prices) (fast : Bool) (now r first last : ℕ) (access : Option Access) → touch prices fast now (OverlayCode r first last) access ≡ 0
no_touch_overlay prices fast now r first last None = refl
no_touch_overlay prices fast now r first last (Some a) = refl

abbrev copies_at : Scene → List Transition → VarName → ℕ → ℕ
copies_at w ms name i =
    if not (region_before w ms i == region_with w ms i) then jobs w (region_before w ms i) (region_with w ms i) name else 0

no_value : (a : Bool) (x : ℕ) → a ≡ false → (if a then x else 0) ≡ 0
no_value a x is = rw is refl

no_copies : (test : Bool) → ◌≡◌ {A = ℕ} (if test then 0 else 0) 0
no_copies true = refl
no_copies false = refl

enters_counted : (view : ElfView) (board : Board) (g : Graph) (c : Code) (t : RegionTable) (q : Profile) (ms : List Transition) (first last r : ℕ) → AreOfSameFile view board g c t q ms → r ≤ t.count → slice_index_or q.enters.items r 0 * enter_job (scene_of g c t board) r (OverlayCode r first last) ≡ sum_below (copies_at (scene_of g c t board) ms (OverlayCode r first last)) (length ms)
enters_counted view board g c t q ms first last r given region =
    let w = scene_of g c t board in
    let name = OverlayCode r first last in
    let size = suc t.count in
    let count = switches_of (starts_of w) w.regions ms in
    let enters = ap (λ n. n * enter_job w r name) (given.run.profile.enters.each r (omega (arith, region))) in
    let sums = from_and_to count (λ s k. jobs w s k name) (λ s. leave_job w s name) (λ k. enter_job w k name) r size (omega (arith, region))
    (λ s k. omega arith) (λ s other. refl) (λ s other. no_value (s == r) _ other) in
    let run = changes_counted (λ s k. not (s == k)) (λ s k. jobs w s k name) (region_before w ms) (region_with w ms) size size (length ms)
    (λ i below. let fits = current_fits (starts_of w) w.regions ms t.count i t.within in omega (arith, fits))
    (λ i below. let fits = current_fits (starts_of w) w.regions ms t.count (suc i) t.within in omega (arith, fits)) in
    let none : sum_below (count r) size * leave_job w r name ≡ 0 = times_zero (sum_below (count r) size) in
    omega (arith, enters, sums, run, none)
  where
    times_zero : (n : ℕ) → n * 0 ≡ 0
    times_zero n = omega arith

-- ---- all of it

-- one name more, whose steps are these
steps_more : (w : Scene) (p : BlockRange) (name : VarName) (ms : List Transition) → ((i : ℕ) → i < length ms → step_energy w (taken true (name ∷ [])) ms i + home_at w p ms i ≡ step_energy w (taken true []) ms i + copy_at w p ms i + copies_at w ms name i) → steps_energy w (taken true (name ∷ [])) ms + sum_below (home_at w p ms) (length ms) ≡ steps_energy w (taken true []) ms + sum_below (copy_at w p ms) (length ms) + sum_below (copies_at w ms name) (length ms)
steps_more w p name ms =
    sum_moved (step_energy w (taken true (name ∷ [])) ms) (home_at w p ms) (step_energy w (taken true []) ms) (copy_at w p ms) (copies_at w ms name) (length ms)

pub piece_counted : OneInstruction → PieceIsCounted
piece_counted one view board g c t q ms first last r given region =
    let w = scene_of g c t board in
    let p = range first last in
    let all = follows one view board g c t q ms given in
    let run = counted_run one view board g c t q ms given in
    let home = home_sum c g t board q ms p run in
    let copy = copy_sum c g t board q ms p run in
    let static = StaticCode first last in
    let of_region = OverlayCode r first last in
    let steps = steps_more w p static ms (λ i below.
    let step = step_more w true static [] ms i all below tt in
    let slow = no_touch_static board.prices false (region_with w ms i) first last (transition_at ms i).access in
    let fast = no_touch_static board.prices true (region_with w ms i) first last (transition_at ms i).access in
    let slow_is : slow_price w true ms static i ≡ touch board.prices false (region_with w ms i) static (transition_at ms i).access + home_at w p ms i = refl in
    let fast_is : fast_price w true ms static i ≡ touch board.prices true (region_with w ms i) static (transition_at ms i).access + copy_at w p ms i + copies_at w ms static i = refl in
    omega (arith, step, slow, fast, slow_is, fast_is)) in
    let no_jobs = sum_zero (copies_at w ms static) (length ms) (λ i below. no_copies (not (region_before w ms i == region_with w ms i))) in
    let start = sum_by-cons (start_job w) static [] in
    let region_steps = steps_more w p of_region ms (λ i below.
    let step = step_more w true of_region [] ms i all below tt in
    let slow = no_touch_overlay board.prices false (region_with w ms i) r first last (transition_at ms i).access in
    let fast = no_touch_overlay board.prices true (region_with w ms i) r first last (transition_at ms i).access in
    let slow_is : slow_price w true ms of_region i ≡ touch board.prices false (region_with w ms i) of_region (transition_at ms i).access + home_at w p ms i = refl in
    let fast_is : fast_price w true ms of_region i ≡ touch board.prices true (region_with w ms i) of_region (transition_at ms i).access + copy_at w p ms i + copies_at w ms of_region i = refl in
    omega (arith, step, slow, fast, slow_is, fast_is)) in
    let enters = enters_counted view board g c t q ms first last r given region in
    let region_start = sum_by-cons (start_job w) of_region [] in
    let no_start : start_job w of_region ≡ 0 = refl in
    (omega (arith, home, copy, steps, no_jobs, start), omega (arith, home, copy, region_steps, enters, region_start, no_start))
