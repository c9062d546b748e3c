-- What first units cost at home is no more than what their checks cost.
use Rattle.std.proofs.Common.{◌≡◌, ℕ, zero, suc, ◌+◌, ◌*◌, ◌<◌, ◌≤◌, Bool, true, false, ◌&&◌, List, length, slice_index_or, ap, arith, if◌then◌else◌}
use Rattle.std.proofs.lemmas.Nat.{mul-le}
use Rattle.list_checks.specs.Sorted.{sum_below}
use Rattle.board_config.specs.declared.board.Board.{Board}
use Rattle.board_config.specs.declared.board.Prices.{Prices}
use Rattle.object_graph.specs.declared.parts.Graph.{Graph}
use Rattle.code_blocks.specs.declared.parts.Code.{Code}
use Rattle.region_former.specs.declared.table.RegionTable.{RegionTable}
use Rattle.profile_runner.specs.declared.counts.Profile.{Profile}
use Rattle.profile_runner.specs.Transition.{Transition, transition_at}
use Rattle.profile_runner.specs.Standing.{begins}
use Rattle.block_splitter.specs.Forms.{unit_in, body_at}
use Rattle.energy_model.specs.Energy.{starts_of, block_in, block_at}
use Rattle.energy_model.specs.Scenes.{scene_of}
use Rattle.energy_model.specs.Overlay.{checks_in, first_words, checks_price}
use Rattle.energy_model.proofs.WordLemmas.{IsCountedRun}
use Rattle.energy_model.proofs.CountsLemmas.{sum_times}
use Rattle.energy_model.proofs.OverlayLemmas.{at_border, ran_first, checks_counted, values_to}

pub sum_less : (f g : ℕ → ℕ) (n : ℕ) → ((k : ℕ) → k < n → f k ≤ g k) → sum_below f n ≤ sum_below g n
sum_less f g zero less = omega arith
sum_less f g (suc n) less =
    let earlier = sum_less f g n (λ k below. less k (omega (arith, below))) in
    let here = less n (omega arith) in
    omega (arith, earlier, here)

two_a_check : (border begun goes : Bool) (words : ℕ) → words ≤ 2 → (if border then (if begun && goes then words else 0) else 0) ≤ (if border then (if begun then 1 else 0) else 0) * 2
two_a_check true true true words few = omega (arith, few)
two_a_check true true false words few = omega arith
two_a_check true false goes words few = omega arith
two_a_check false begun goes words few = omega arith

-- a first unit has two words at most, and each time that it runs its block began
pub first_checked : (c : Code) (g : Graph) (t : RegionTable) (board : Board) (q : Profile) (ms : List Transition) → IsCountedRun c g t board q ms → first_words c q t.border.items ≤ 2 * checks_in q t.border.items (length c.blocks.items)
first_checked c g t board q ms run =
    let w = scene_of g c t board in
    let n = length ms in
    let words : ℕ → ℕ = λ i. if at_border w ms i then (if ran_first w ms i then (unit_in (block_in w (block_at w ms i)) 0).words else 0) else 0 in
    let checks : ℕ → ℕ = λ i. if at_border w ms i then (if begins (starts_of w) ms i then 1 else 0) else 0 in
    let first_is = values_to c g t board q ms (λ b. slice_index_or t.border.items b false) (λ b. (unit_in (body_at c.blocks.items b) 0).words) run in
    let checks_are = checks_counted c g t board q ms run in
    let less = sum_less words (λ i. checks i * 2) n (λ i below.
    let transition = run.all.each i below in
    let runs = transition.below in
    let some : 0 < length (block_in w (block_at w ms i)).units = omega (arith, runs) in
    two_a_check (at_border w ms i) (begins (starts_of w) ms i) (transition_at ms i).goes_on (unit_in (block_in w (block_at w ms i)) 0).words (transition.each_words 0 some)) in
    let twice = sum_times checks 2 n in
    omega (arith, first_is, checks_are, less, twice)

-- so a check, of five fetches and a read, costs more
paid : (first checks fetch read : ℕ) → first ≤ 2 * checks → first * fetch ≤ checks * (5 * fetch + read)
paid first checks fetch read few =
    let all = mul-le first fetch (2 * checks) fetch few (omega arith) in
    let split : checks * (5 * fetch + read) ≡ 5 * (checks * fetch) + checks * read = grind arith in
    let two : 2 * checks * fetch ≡ 2 * (checks * fetch) = grind arith in
    omega (arith, all, split, two)

pub first_paid : (c : Code) (q : Profile) (t : RegionTable) (prices : Prices) → first_words c q t.border.items ≤ 2 * checks_in q t.border.items (length c.blocks.items) → first_words c q t.border.items * prices.main_fetch ≤ checks_price prices q t.border.items (length c.blocks.items)
first_paid c q t prices few = paid (first_words c q t.border.items) (checks_in q t.border.items (length c.blocks.items)) prices.main_fetch prices.main_read few

-- the same of what the code counts
pub home_paid : (first checks fetch read f price : ℕ) → first ≤ 2 * checks → f ≡ fetch → price ≡ checks * (5 * fetch + read) → first * f ≤ price
home_paid first checks fetch read f price few is sum =
    let enough = paid first checks fetch read few in
    let same = ap (λ n. first * n) is in
    omega (arith, enough, same, sum)
