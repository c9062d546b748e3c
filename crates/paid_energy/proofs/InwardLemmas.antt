-- Inward calls, by the edges of a profile and by the transitions of its run.
use Rattle.std.proofs.Common.{◌≡◌, ◌∙◌, ℕ, zero, suc, ◌+◌, ◌*◌, ◌<◌, ◌≤◌, ◌==◌, nat_lt, Bool, true, false, ◌&&◌, List, [], ◌∷◌, length, slice_index_or, refl, sym, ap, arith, if◌then◌else◌}
use Rattle.std.specs.List.{All, sum_by}
use Rattle.std.proofs.lemmas.List.{length-map}
use Rattle.std.proofs.lemmas.List.Sums.{sum_by-cons}
use Rattle.rv32im.specs.Table.{OneInstruction}
use Rattle.list_checks.specs.Sorted.{count_below, sum_below}
use Rattle.list_checks.proofs.SumLemmas.{sum_same, sum_zero}
use Rattle.elf_reader.specs.declared.view.ElfView.{ElfView}
use Rattle.board_config.specs.declared.board.Board.{Board}
use Rattle.object_graph.specs.declared.parts.Graph.{Graph}
use Rattle.code_blocks.specs.Blocks.{start_of}
use Rattle.code_blocks.specs.Numbers.{starts_of}
use Rattle.code_blocks.specs.declared.parts.Code.{Code}
use Rattle.region_former.specs.declared.table.RegionTable.{RegionTable}
use Rattle.profile_runner.specs.Transition.{Transition, transition_at}
use Rattle.profile_runner.specs.Standing.{block_of}
use Rattle.profile_runner.specs.declared.counts.Edge.{Edge}
use Rattle.profile_runner.specs.declared.counts.Profile.{Profile}
use Rattle.energy_model.specs.Energy.{Taken}
use Rattle.energy_model.specs.Scenes.{scene_of, AreOfSameFile}
use Rattle.energy_model.specs.Copied.{value_from, edge_in, leaving}
use Rattle.energy_model.proofs.SumLemmas.{sum_two}
use Rattle.energy_model.proofs.PlaceLemmas.{single}
use Rattle.energy_model.proofs.CrossingLemmas.{next_number, crossing, edges_cross, has_number}
use Rattle.energy_model.proofs.SceneLemmas.{follows}
use Rattle.energy_model.proofs.BaseLemmas.{few_transitions}
use Rattle.paid_energy.specs.Inward.{is_inward, leads_inward, inward_calls, inward_count, counted_inward}

-- ---- all edges are those from each block

sum_first : (f : ℕ → ℕ) (n : ℕ) → sum_below f (suc n) ≡ f 0 + sum_below (λ j. f (suc j)) n
sum_first f zero = omega arith
sum_first f (suc n) = let earlier = sum_first f n in omega (arith, earlier)

abbrev weighed : (ℕ → ℕ → ℕ) → Edge → ℕ
weighed value e = e.count * value e.from e.to

from_all : (edges : List Edge) (size : ℕ) (value : ℕ → ℕ → ℕ) → All (λ e. (e.from < size) × (e.to < size)) edges → sum_by (weighed value) edges ≡ sum_below (λ a. leaving edges a (value a)) size
from_all [] size value within = sym (sum_zero (λ a. 0) size (λ a below. refl))
from_all (e ∷ edges) size value within =
    let rest = from_all edges size value (λ k d below. within (suc k) d (omega (arith, below))) in
    let first = sum_by-cons (weighed value) e edges in
    let each = sum_same (λ a. leaving (e ∷ edges) a (value a)) (λ a. (if e.from == a then e.count * value a e.to else 0) + leaving edges a (value a)) size
    (λ a below. sum_first (λ j. value_from a (value a) (edge_in (e ∷ edges) j)) (length edges)) in
    let two = sum_two (λ a. if e.from == a then e.count * value a e.to else 0) (λ a. leaving edges a (value a)) size in
    let one = single (λ a. e.count * value a e.to) e.from size (within 0 e (omega arith)).0 in
    omega (arith, rest, first, each, two, one)

-- ---- counts as sums

count_is_sum : (test : ℕ → Bool) (n : ℕ) → count_below test n ≡ sum_below (λ i. if test i then 1 else 0) n
count_is_sum test zero = refl
count_is_sum test (suc n) = let earlier = count_is_sum test n in omega (arith, earlier)

as_product : (test : Bool) (count : ℕ) → (if test then count else 0) ≡ count * (if test then 1 else 0)
as_product true count = omega arith
as_product false count = omega arith

in_order : (go under test : Bool) → ◌≡◌ {A = ℕ} (if go && under then (if test then 1 else 0) else 0) (if go && (under && test) then 1 else 0)
in_order go under test = grind arith

-- ---- a run

pub inward_counted : OneInstruction → (view : ElfView) (board : Board) (g : Graph) (c : Code) (t : RegionTable) (q : Profile) (transitions : List Transition) (taken : Taken) → AreOfSameFile view board g c t q transitions → counted_inward (scene_of g c t board) c taken q ≡ inward_calls (scene_of g c t board) c taken transitions
inward_counted one view board g c t q transitions taken same =
    let w = scene_of g c t board in
    let starts = starts_of c in
    let all = follows one view board g c t q transitions same in
    let count = length-map c.blocks.items start_of in
    let value : ℕ → ℕ → ℕ = λ a b. if is_inward w c taken a b then 1 else 0 in
    let edges = same.run.profile.edges in
    let products : sum_by (inward_count w c taken) q.edges.items ≡ sum_by (weighed value) q.edges.items =
    λ i. sum_by (λ (e : Edge). as_product (is_inward w c taken e.from e.to) e.count i) q.edges.items in
    let each = from_all q.edges.items (length starts) value edges.within in
    let crossed = edges_cross starts transitions q.edges.items (λ a. true) value edges (λ i below. let inside = (all.each i below).inside in omega (arith, count, inside)) in
    let here = sum_same (crossing starts transitions value) (λ i. if leads_inward w c taken transitions i then 1 else 0) (length transitions)
    (λ i below. leads i) in
    products ∙ (each ∙ (crossed ∙ (here ∙ sym (count_is_sum (leads_inward w c taken transitions) (length transitions)))))
  where
    leads : (i : ℕ) → crossing (starts_of c) transitions (λ a b. if is_inward (scene_of g c t board) c taken a b then 1 else 0) i ≡ (if leads_inward (scene_of g c t board) c taken transitions i then 1 else 0)
    leads i =
        let starts = starts_of c in
        let m = transition_at transitions i in
        let test = is_inward (scene_of g c t board) c taken (block_of starts transitions i) (next_number starts transitions i) in
        let number = has_number starts m.next in
        in_order m.goes_on (nat_lt (next_number starts transitions i) (length starts)) test
        ∙ ap (λ (b : Bool). if m.goes_on && (b && test) then 1 else 0) (sym number)

-- ---- they are few

count_most : (test : ℕ → Bool) (n : ℕ) → count_below test n ≤ n
count_most test zero = omega arith
count_most test (suc n) = let earlier = count_most test n in grind (arith, earlier)

pub few_inward : OneInstruction → (view : ElfView) (board : Board) (g : Graph) (c : Code) (t : RegionTable) (q : Profile) (transitions : List Transition) (taken : Taken) → AreOfSameFile view board g c t q transitions → counted_inward (scene_of g c t board) c taken q ≤ 1000000000
few_inward one view board g c t q transitions taken same =
    let is = inward_counted one view board g c t q transitions taken same in
    let most = count_most (leads_inward (scene_of g c t board) c taken transitions) (length transitions) in
    let few = few_transitions view board g c t q transitions same in
    omega (arith, is, most, few)

-- ---- the edges that are counted

-- each is from a block to a block
pub edge_within : (c : Code) (edges : List Edge) (j : ℕ) (e : Edge) → All (λ e. (e.from < length (starts_of c)) × (e.to < length (starts_of c))) edges → j < length edges → e ≡ slice_index_or edges j e
    → (e.from < length c.blocks.items) × (e.to < length c.blocks.items)
edge_within c edges j e within below is =
    let here = within j e below in
    let count = length-map c.blocks.items start_of in
    let from : e.from ≡ (slice_index_or edges j e).from = ap (λ (x : Edge). x.from) is in
    let to : e.to ≡ (slice_index_or edges j e).to = ap (λ (x : Edge). x.to) is in
    (omega (arith, here.0, count, from), omega (arith, here.1, count, to))
