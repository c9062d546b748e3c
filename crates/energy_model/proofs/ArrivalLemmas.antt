-- How often control comes to a piece from outside is what the tables of a profile count.
use Rattle.std.proofs.Common.{◌≡◌, ◌∙◌, ◌⊎◌, inl, inr, ℕ, zero, suc, ◌+◌, ◌-◌, ◌<◌, ◌≤◌, ◌==◌, nat_lt, Bool, true, false, not, ◌&&◌, List, length, refl, sym, ap, arith, if◌then◌else◌}
use Rattle.std.proofs.lemmas.Bool.Decides.{nat_tests}
use Rattle.std.proofs.lemmas.List.{length-map}
use Rattle.std.specs.List.Sorted.{IsStrictlyIncreasing}
use Rattle.list_checks.proofs.SumLemmas.{sum_same}
use Rattle.list_checks.proofs.TestLemmas.{same_tests}
use Rattle.list_checks.specs.Sorted.{sum_below}
use Rattle.board_config.specs.declared.board.Board.{Board}
use Rattle.object_graph.specs.declared.parts.Graph.{Graph}
use Rattle.code_blocks.specs.Early.{has}
use Rattle.code_blocks.specs.Blocks.{start_of}
use Rattle.code_blocks.specs.Numbers.{starts_of, start_at}
use Rattle.code_blocks.specs.declared.parts.Code.{Code}
use Rattle.region_former.specs.declared.table.RegionTable.{RegionTable}
use Rattle.profile_runner.specs.declared.counts.Profile.{Profile}
use Rattle.profile_runner.specs.Transition.{Transition, transition_at}
use Rattle.profile_runner.specs.Standing.{number_of, begins}
use Rattle.block_splitter.specs.declared.block_range.BlockRange.{BlockRange}
use Rattle.block_splitter.specs.Forms.{body_at, holds_block}
use Rattle.block_splitter.proofs.MeasureLemmas.{one_start}
use Rattle.energy_model.specs.Energy.{Scene, starts_of as scene_starts, block_in, block_at, may_stay, is_internal}
use Rattle.energy_model.specs.Scenes.{scene_of}
use Rattle.energy_model.specs.Copied.{arrivals_in, leaving, coming, sum_in, stayed, stayed_to, pending, pending_inside, pending_to, came_in, came_to}
use Rattle.energy_model.proofs.FollowLemmas.{number_found}
use Rattle.energy_model.proofs.SceneLemmas.{Follows}
use Rattle.energy_model.proofs.SumLemmas.{sum_small, arrived}
use Rattle.energy_model.proofs.PlaceLemmas.{single_below, by_places}
use Rattle.energy_model.proofs.CrossingLemmas.{next_number, crosses, crossing, edges_cross, edges_come, has_number}
use Rattle.energy_model.proofs.TakenLemmas.{comes_in, is_held}
use Rattle.energy_model.proofs.WordLemmas.{IsCountedRun}

cases_bool : (b : Bool) → (b ≡ true) ⊎ (b ≡ false)
cases_bool true = inl refl
cases_bool false = inr refl

one_if : (b : Bool) → b ≡ true → ◌≡◌ {A = ℕ} (if b then 1 else 0) 1
one_if b is = rw is refl

none_if : (b : Bool) (x : ℕ) → b ≡ false → (if b then x else 0) ≡ 0
none_if b x is = rw is refl

value_if : (b : Bool) (x : ℕ) → b ≡ true → (if b then x else 0) ≡ x
value_if b x is = rw is refl

-- ---- the next block

-- where another transition follows, it begins a block just where control crosses to it
next_begins : (w : Scene) (ms : List Transition) (i : ℕ) → Follows w ms → suc i < length ms → begins (scene_starts w) ms (suc i) ≡ crosses (scene_starts w) ms i
next_begins w ms i all more =
    let starts = scene_starts w in
    let goes = all.goes_on i more in
    let both : crosses starts ms i ≡ nat_lt (next_number starts ms i) (length starts) = rw goes refl in
    ap (has starts) (all.next i more) ∙ (has_number starts (transition_at ms i).next ∙ sym both)

next_is : (w : Scene) (ms : List Transition) (i : ℕ) → Follows w ms → suc i < length ms → number_of (scene_starts w) (transition_at ms (suc i)).at ≡ next_number (scene_starts w) ms i
next_is w ms i all more = ap (number_of (scene_starts w)) (all.next i more)

next_block : (w : Scene) (ms : List Transition) (i : ℕ) → begins (scene_starts w) ms (suc i) ≡ true → block_at w ms (suc i) ≡ number_of (scene_starts w) (transition_at ms (suc i)).at
next_block w ms i begun = rw begun refl

-- ---- arrivals: the first, and those by edges but for the last

abbrev into : ℕ → ℕ → ℕ → ℕ
into b a x = if x == b then 1 else 0

abbrev comes_to : Scene → List Transition → ℕ → ℕ → Bool
comes_to w ms b i = begins (scene_starts w) ms i && (number_of (scene_starts w) (transition_at ms i).at == b)

and_if : (begun same : Bool) → ◌≡◌ {A = ℕ} (if begun && same then 1 else 0) (if begun then (if same then 1 else 0) else 0)
and_if true same = refl
and_if false same = refl

arrivals_split : (w : Scene) (ms : List Transition) (b j : ℕ) → Follows w ms → j < length ms → arrived w ms (suc j) b ≡ (if comes_to w ms b 0 then 1 else 0) + sum_below (crossing (scene_starts w) ms (into b)) j
arrivals_split w ms b zero all below = omega arith
arrivals_split w ms b (suc j) all below =
    let starts = scene_starts w in
    let earlier = arrivals_split w ms b j all (omega (arith, below)) in
    let here : ◌≡◌ {A = ℕ} (if comes_to w ms b (suc j) then 1 else 0) (crossing starts ms (into b) j) =
    and_if (begins starts ms (suc j)) (number_of starts (transition_at ms (suc j)).at == b)
    ∙ (ap (λ (go : Bool). if go then into b 0 (number_of starts (transition_at ms (suc j)).at) else 0) (next_begins w ms j all below)
    ∙ ap (λ x. if crosses starts ms j then into b 0 x else 0) (next_is w ms j all below)) in
    omega (arith, earlier, here)

-- a run begins with the block at the entry
first_is : (c : Code) (b e : ℕ) → IsStrictlyIncreasing (starts_of c) → b < length c.blocks.items → has (starts_of c) e ≡ true → (number_of (starts_of c) e == b) ≡ (start_at c b == e)
first_is c b e ascending below found =
    let count = length-map c.blocks.items start_of in
    let number = number_of (starts_of c) e in
    let there = number_found (starts_of c) e 0 found in
    let inside : number < length c.blocks.items = let less = there.0 in omega (arith, less, count) in
    same_tests (number == b) (start_at c b == e)
    (λ is. let same : number ≡ b = grind (arith, nat_tests, is) in let at : start_at c b ≡ e = ap (start_at c) (sym same) ∙ there.1 in grind (arith, nat_tests, at))
    (λ is.
    let at : start_at c b ≡ e = grind (arith, nat_tests, is) in
    let same = one_start c number b ascending inside below (there.1 ∙ sym at) in
    grind (arith, nat_tests, same))

begins_first : (c : Code) (g : Graph) (t : RegionTable) (board : Board) (q : Profile) (ms : List Transition) (b : ℕ) → IsCountedRun c g t board q ms → b < length c.blocks.items → comes_to (scene_of g c t board) ms b 0 ≡ (start_at c b == c.entry)
begins_first c g t board q ms b run below =
    let starts = starts_of c in
    let last = run.last in
    let begun : has starts (transition_at ms 0).at ≡ true = run.all.first (omega (arith, last)) in
    let found : has starts c.entry ≡ true = ap (has starts) (sym run.entry) ∙ begun in
    (rw begun refl) ∙ (ap (λ a. number_of starts a == b) run.entry ∙ first_is c b c.entry run.ascending below found)

all_but_one : (come first arrivals before last : ℕ) → come ≡ before + last → arrivals ≡ first + before → come + first - arrivals ≡ last
all_but_one come first arrivals before last one two = omega (arith, one, two)

-- the edges to a block are those of its arrivals that came by edges, and the last one if the run stopped with that
record ByEdges (come first arrivals before last : ℕ) : Type 0 where
  pub come_is : come ≡ before + last
  pub arrivals_is : arrivals ≡ first + before

edge_parts : (c : Code) (g : Graph) (t : RegionTable) (board : Board) (q : Profile) (ms : List Transition) (b : ℕ) → IsCountedRun c g t board q ms → b < length c.blocks.items → ByEdges (coming q.edges.items b) (if start_at c b == c.entry then 1 else 0) (arrivals_in q b) (sum_below (crossing (starts_of c) ms (into b)) (length ms - 1)) (crossing (starts_of c) ms (into b) (length ms - 1))
edge_parts c g t board q ms b run below =
    let w = scene_of g c t board in
    let starts = starts_of c in
    let i = length ms - 1 in
    let count = length-map c.blocks.items start_of in
    let come = edges_come starts ms q.edges.items b run.edges (λ j inside. let less = (run.all.each j inside).inside in omega (arith, less, count)) in
    let split : sum_below (crossing starts ms (into b)) (length ms) ≡ sum_below (crossing starts ms (into b)) i + crossing starts ms (into b) i = ap (sum_below (crossing starts ms (into b))) run.last in
    let arrivals = run.arrivals b below in
    let whole : arrived w ms (length ms) b ≡ arrived w ms (suc i) b = ap (λ n. arrived w ms n b) run.last in
    let parts = arrivals_split w ms b i run.all (let last = run.last in omega (arith, last)) in
    let first : ◌≡◌ {A = ℕ} (if comes_to w ms b 0 then 1 else 0) (if start_at c b == c.entry then 1 else 0) = ap (λ (x : Bool). if x then 1 else 0) (begins_first c g t board q ms b run below) in
    record { come_is = come ∙ split; arrivals_is = omega (arith, arrivals, whole, parts, first) }

no_more : (come first arrivals before last : ℕ) → ByEdges come first arrivals before last → arrivals ≤ come + first
no_more come first arrivals before last parts =
    let one = parts.come_is in
    let two = parts.arrivals_is in
    omega (arith, one, two)

pub arrivals_enough : (c : Code) (g : Graph) (t : RegionTable) (board : Board) (q : Profile) (ms : List Transition) (b : ℕ) → IsCountedRun c g t board q ms → b < length c.blocks.items → arrivals_in q b ≤ coming q.edges.items b + (if start_at c b == c.entry then 1 else 0)
arrivals_enough c g t board q ms b run below =
    no_more (coming q.edges.items b) (if start_at c b == c.entry then 1 else 0) (arrivals_in q b) (sum_below (crossing (starts_of c) ms (into b)) (length ms - 1)) (crossing (starts_of c) ms (into b) (length ms - 1))
    (edge_parts c g t board q ms b run below)

into_small : (test same : Bool) → (if test then (if same then 1 else 0) else 0) ≤ 1
into_small true true = omega arith
into_small true false = omega arith
into_small false same = omega arith

pub few_coming : (c : Code) (g : Graph) (t : RegionTable) (board : Board) (q : Profile) (ms : List Transition) (b : ℕ) → IsCountedRun c g t board q ms → b < length c.blocks.items → coming q.edges.items b ≤ length ms
few_coming c g t board q ms b run below =
    let starts = starts_of c in
    let count = length-map c.blocks.items start_of in
    let come = edges_come starts ms q.edges.items b run.edges (λ j inside. let less = (run.all.each j inside).inside in omega (arith, less, count)) in
    let few = sum_small (crossing starts ms (into b)) 1 (length ms) (λ i inside. into_small (crosses starts ms i) (next_number starts ms i == b)) in
    omega (arith, come, few)

-- the last edge, if the run stopped with it
pending_is : (c : Code) (g : Graph) (t : RegionTable) (board : Board) (q : Profile) (ms : List Transition) (b : ℕ) → IsCountedRun c g t board q ms → b < length c.blocks.items → pending c q b ≡ crossing (starts_of c) ms (into b) (length ms - 1)
pending_is c g t board q ms b run below =
    let parts = edge_parts c g t board q ms b run below in
    all_but_one (coming q.edges.items b) (if start_at c b == c.entry then 1 else 0) (arrivals_in q b) (sum_below (crossing (starts_of c) ms (into b)) (length ms - 1)) (crossing (starts_of c) ms (into b) (length ms - 1))
    parts.come_is parts.arrivals_is

-- ---- control that stays in a piece, and comes to blocks that pass a test

abbrev pub stays_at : Scene → BlockRange → (ℕ → Bool) → List Transition → ℕ → ℕ
stays_at w p to ms i =
    if is_held w p ms i && may_stay (block_in w (block_at w ms i)).end then crossing (scene_starts w) ms (λ a x. if to x then 1 else 0) i else 0

nested : (held may : Bool) (x : ℕ) → (if held then (if may then x else 0) else 0) ≡ (if held && may then x else 0)
nested true may x = refl
nested false may x = refl

stayed_is : (c : Code) (g : Graph) (t : RegionTable) (board : Board) (q : Profile) (ms : List Transition) (p : BlockRange) (to : ℕ → Bool) → IsCountedRun c g t board q ms → stayed_to c q p to ≡ sum_below (stays_at (scene_of g c t board) p to ms) (length ms)
stayed_is c g t board q ms p to run =
    let starts = starts_of c in
    let count = length-map c.blocks.items start_of in
    let edges = q.edges.items in
    let may = λ (a : ℕ). may_stay (body_at c.blocks.items a).end in
    let value = λ (x : ℕ). if to x then 1 else 0 in
    sum_same (λ a. if holds_block a p then (if may a then leaving edges a value else 0) else 0) (λ a. if holds_block a p && may a then leaving edges a value else 0) (length c.blocks.items)
    (λ a below. nested (holds_block a p) (may a) (leaving edges a value))
    ∙ (ap (sum_below (λ a. if holds_block a p && may a then leaving edges a value else 0)) (sym count)
    ∙ edges_cross starts ms edges (λ a. holds_block a p && may a) (λ a x. value x) run.edges (λ i below. let less = (run.all.each i below).inside in omega (arith, less, count)))

held_single : (holds crosses here : Bool) → ◌≡◌ {A = ℕ} (if holds then (if crosses then (if here then 1 else 0) else 0) else 0) (if here then (if holds then (if crosses then 1 else 0) else 0) else 0)
held_single true true true = refl
held_single true true false = refl
held_single true false true = refl
held_single true false false = refl
held_single false crosses true = refl
held_single false crosses false = refl

below_crosses : (go under holds : Bool) → ◌≡◌ {A = ℕ} (if under then (if holds then (if go && under then 1 else 0) else 0) else 0) (if go && under then (if holds then 1 else 0) else 0)
below_crosses true true holds = refl
below_crosses true false holds = refl
below_crosses false true true = refl
below_crosses false true false = refl
below_crosses false false holds = refl

pending_sum : (c : Code) (g : Graph) (t : RegionTable) (board : Board) (q : Profile) (ms : List Transition) (to : ℕ → Bool) → IsCountedRun c g t board q ms → sum_below (λ b. if to b then pending c q b else 0) (length c.blocks.items) ≡ crossing (starts_of c) ms (λ a x. if to x then 1 else 0) (length ms - 1)
pending_sum c g t board q ms to run =
    let starts = starts_of c in
    let i = length ms - 1 in
    let n = length c.blocks.items in
    let next = next_number starts ms i in
    let goes = crosses starts ms i in
    let count = length-map c.blocks.items start_of in
    let each = sum_same (λ b. if to b then pending c q b else 0) (λ b. if next == b then (if to b then (if goes then 1 else 0) else 0) else 0) n
    (λ b below. ap (λ x. if to b then x else 0) (pending_is c g t board q ms b run below) ∙ held_single (to b) goes (next == b)) in
    let one = single_below (λ b. if to b then (if goes then 1 else 0) else 0) next n in
    let under : (if nat_lt next n then (if to next then (if goes then 1 else 0) else 0) else 0) ≡ (if nat_lt next (length starts) then (if to next then (if goes then 1 else 0) else 0) else 0) =
    ap (λ m. if nat_lt next m then (if to next then (if goes then 1 else 0) else 0) else 0) (sym count) in
    let last = below_crosses (transition_at ms i).goes_on (nat_lt next (length starts)) (to next) in
    each ∙ (one ∙ (under ∙ last))

pub few_pending : (c : Code) (g : Graph) (t : RegionTable) (board : Board) (q : Profile) (ms : List Transition) (p : BlockRange) → IsCountedRun c g t board q ms → sum_in p (pending c q) (length c.blocks.items) ≤ 1
few_pending c g t board q ms p run =
    let is = pending_sum c g t board q ms (λ b. holds_block b p) run in
    let few = into_small (crosses (starts_of c) ms (length ms - 1)) (holds_block (next_number (starts_of c) ms (length ms - 1)) p) in
    omega (arith, is, few)

pending_inside_is : (c : Code) (g : Graph) (t : RegionTable) (board : Board) (q : Profile) (ms : List Transition) (p : BlockRange) (to : ℕ → Bool) → IsCountedRun c g t board q ms → pending_to c q p to ≡ stays_at (scene_of g c t board) p to ms (length ms - 1)
pending_inside_is c g t board q ms p to run =
    let w = scene_of g c t board in
    let i = length ms - 1 in
    let sum = sum_below (λ b. if to b then pending c q b else 0) (length c.blocks.items) in
    ap (λ b. if holds_block b p && may_stay (body_at c.blocks.items b).end then sum else 0) run.block
    ∙ ap (λ x. if is_held w p ms i && may_stay (block_in w (block_at w ms i)).end then x else 0) (pending_sum c g t board q ms to run)

-- ---- arrivals at blocks that pass a test

abbrev pub begun_at : Scene → (ℕ → Bool) → List Transition → ℕ → ℕ
begun_at w to ms i = if to (block_at w ms i) then (if begins (scene_starts w) ms i then 1 else 0) else 0

abbrev pub outside_to : Scene → BlockRange → (ℕ → Bool) → List Transition → ℕ → ℕ
outside_to w p to ms i = if to (block_at w ms i) then (if comes_in w p ms i then 1 else 0) else 0

abbrev pub outside_at : Scene → BlockRange → List Transition → ℕ → ℕ
outside_at w p ms i = if is_held w p ms i then (if comes_in w p ms i then 1 else 0) else 0

begun_block : (begun : Bool) (b k place : ℕ) → (begun ≡ true → place ≡ k) → ◌≡◌ {A = ℕ} (if begun && (k == b) then 1 else 0) (if place == b then (if begun then 1 else 0) else 0)
begun_block true b k place same = ap (λ x. if x == b then 1 else 0) (sym (same refl))
begun_block false b k place same = no_value (place == b)
  where
    no_value : (x : Bool) → ◌≡◌ {A = ℕ} 0 (if x then 0 else 0)
    no_value true = refl
    no_value false = refl

block_begun : (w : Scene) (ms : List Transition) (i : ℕ) → begins (scene_starts w) ms i ≡ true → block_at w ms i ≡ number_of (scene_starts w) (transition_at ms i).at
block_begun w ms zero begun = refl
block_begun w ms (suc i) begun = rw begun refl

pub arrived_sum : (w : Scene) (ms : List Transition) (b n : ℕ) → arrived w ms n b ≡ sum_below (λ i. if block_at w ms i == b then (if begins (scene_starts w) ms i then 1 else 0) else 0) n
arrived_sum w ms b zero = refl
arrived_sum w ms b (suc n) =
    let earlier = arrived_sum w ms b n in
    let here = begun_block (begins (scene_starts w) ms n) b (number_of (scene_starts w) (transition_at ms n).at) (block_at w ms n) (block_begun w ms n) in
    omega (arith, earlier, here)

pub began_where : (c : Code) (g : Graph) (t : RegionTable) (board : Board) (q : Profile) (ms : List Transition) (to : ℕ → Bool) → IsCountedRun c g t board q ms → sum_below (λ b. if to b then arrivals_in q b else 0) (length c.blocks.items) ≡ sum_below (begun_at (scene_of g c t board) to ms) (length ms)
began_where c g t board q ms to run =
    let w = scene_of g c t board in
    sum_same (λ b. if to b then arrivals_in q b else 0) (λ b. if to b then sum_below (λ i. if block_at w ms i == b then (if begins (scene_starts w) ms i then 1 else 0) else 0) (length ms) else 0) (length c.blocks.items)
    (λ b below. ap (λ x. if to b then x else 0) (run.arrivals b below ∙ arrived_sum w ms b (length ms)))
    ∙ by_places to (λ b i. if begins (scene_starts w) ms i then 1 else 0) (block_at w ms) (length c.blocks.items) (length ms) (λ i below. (run.all.each i below).inside)

-- control comes from outside, or stays with the transition before
parts_begun : (held begun internal : Bool) → ◌≡◌ {A = ℕ} (if held then (if begun then 1 else 0) else 0) ((if held then (if begun && not internal then 1 else 0) else 0) + (if held then (if begun && internal then 1 else 0) else 0))
parts_begun held begun internal = grind arith

held_next : (held begun internal next : Bool) → (begun ≡ true → held ≡ next) → ◌≡◌ {A = ℕ} (if held then (if begun && internal then 1 else 0) else 0) (if internal then (if begun then (if next then 1 else 0) else 0) else 0)
held_next held begun internal next same = grind (arith, same)

begun_parts : (w : Scene) (p : BlockRange) (to : ℕ → Bool) (ms : List Transition) (j : ℕ) → Follows w ms → j < length ms → sum_below (begun_at w to ms) (suc j) ≡ sum_below (outside_to w p to ms) (suc j) + sum_below (stays_at w p to ms) j
begun_parts w p to ms zero all below =
    let here = parts_begun (to (block_at w ms 0)) (begins (scene_starts w) ms 0) false in
    let none : ◌≡◌ {A = ℕ} (if to (block_at w ms 0) then (if begins (scene_starts w) ms 0 && false then 1 else 0) else 0) 0 = no_first (to (block_at w ms 0)) (begins (scene_starts w) ms 0) in
    omega (arith, here, none)
  where
    no_first : (held begun : Bool) → ◌≡◌ {A = ℕ} (if held then (if begun && false then 1 else 0) else 0) 0
    no_first true true = refl
    no_first true false = refl
    no_first false begun = refl
begun_parts w p to ms (suc j) all below =
    let starts = scene_starts w in
    let earlier = begun_parts w p to ms j all (omega (arith, below)) in
    let begun = begins starts ms (suc j) in
    let internal = is_internal w p ms (suc j) in
    let next = to (next_number starts ms j) in
    let here = parts_begun (to (block_at w ms (suc j))) begun internal in
    let held = held_next (to (block_at w ms (suc j))) begun internal next
    (λ is. ap to (next_block w ms j is ∙ next_is w ms j all below)) in
    let stays : (if internal then (if begun then (if next then 1 else 0) else 0) else 0) ≡ stays_at w p to ms j = ap (λ (x : Bool). if internal then (if x then (if next then 1 else 0) else 0) else 0) (next_begins w ms j all below) in
    omega (arith, earlier, here, held, stays)

came_parts : (came pending stayed outside before last : ℕ) → came ≡ outside + before → pending ≡ last → stayed ≡ before + last → came + pending ≡ outside + stayed
came_parts came pending stayed outside before last one two three = omega (arith, one, two, three)

-- arrivals, and the last edge where that stays, are those from outside and the edges that stay
came_sum : (c : Code) (g : Graph) (t : RegionTable) (board : Board) (q : Profile) (ms : List Transition) (p : BlockRange) (to : ℕ → Bool) → IsCountedRun c g t board q ms → sum_below (λ b. if to b then arrivals_in q b else 0) (length c.blocks.items) + pending_to c q p to ≡ sum_below (outside_to (scene_of g c t board) p to ms) (length ms) + stayed_to c q p to
came_sum c g t board q ms p to run =
    let w = scene_of g c t board in
    let i = length ms - 1 in
    let arrivals = sum_below (λ b. if to b then arrivals_in q b else 0) (length c.blocks.items) in
    let came : arrivals ≡ sum_below (outside_to w p to ms) (length ms) + sum_below (stays_at w p to ms) i =
    began_where c g t board q ms to run
    ∙ (ap (sum_below (begun_at w to ms)) run.last
    ∙ (begun_parts w p to ms i run.all (let last = run.last in omega (arith, last))
    ∙ ap (λ n. sum_below (outside_to w p to ms) n + sum_below (stays_at w p to ms) i) (sym run.last))) in
    let stays : stayed_to c q p to ≡ sum_below (stays_at w p to ms) i + stays_at w p to ms i = stayed_is c g t board q ms p to run ∙ ap (sum_below (stays_at w p to ms)) run.last in
    came_parts arrivals (pending_to c q p to) (stayed_to c q p to) (sum_below (outside_to w p to ms) (length ms)) (sum_below (stays_at w p to ms) i) (stays_at w p to ms i)
    came (pending_inside_is c g t board q ms p to run) stays

pub came_to_counted : (c : Code) (g : Graph) (t : RegionTable) (board : Board) (q : Profile) (ms : List Transition) (p : BlockRange) (to : ℕ → Bool) → IsCountedRun c g t board q ms → came_to c q p to ≡ sum_below (outside_to (scene_of g c t board) p to ms) (length ms)
came_to_counted c g t board q ms p to run =
    let sum = came_sum c g t board q ms p to run in
    omega (arith, sum)

pub came_counted : (c : Code) (g : Graph) (t : RegionTable) (board : Board) (q : Profile) (ms : List Transition) (p : BlockRange) → IsCountedRun c g t board q ms → came_in c q p ≡ sum_below (outside_at (scene_of g c t board) p ms) (length ms)
came_counted c g t board q ms p run = came_to_counted c g t board q ms p (λ b. holds_block b p) run

pub stays_few : (c : Code) (g : Graph) (t : RegionTable) (board : Board) (q : Profile) (ms : List Transition) (p : BlockRange) → IsCountedRun c g t board q ms → stayed c q p ≤ sum_in p (arrivals_in q) (length c.blocks.items) + pending_inside c q p
stays_few c g t board q ms p run =
    let sum = came_sum c g t board q ms p (λ b. holds_block b p) run in
    omega (arith, sum)

pub arrivals_few : (c : Code) (g : Graph) (t : RegionTable) (board : Board) (q : Profile) (ms : List Transition) (p : BlockRange) → IsCountedRun c g t board q ms → sum_in p (arrivals_in q) (length c.blocks.items) ≤ length ms
arrivals_few c g t board q ms p run =
    let w = scene_of g c t board in
    let is = began_where c g t board q ms (λ b. holds_block b p) run in
    let few = sum_small (begun_at w (λ b. holds_block b p) ms) 1 (length ms) (λ i below. into_small (is_held w p ms i) (begins (scene_starts w) ms i)) in
    omega (arith, is, few)

pub few_stay_to : (c : Code) (g : Graph) (t : RegionTable) (board : Board) (q : Profile) (ms : List Transition) (p : BlockRange) (to : ℕ → Bool) → IsCountedRun c g t board q ms → stayed_to c q p to ≤ sum_below (λ b. if to b then arrivals_in q b else 0) (length c.blocks.items) + pending_to c q p to
few_stay_to c g t board q ms p to run =
    let sum = came_sum c g t board q ms p to run in
    omega (arith, sum)
