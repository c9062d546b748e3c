-- What a piece of code costs at home and copied is what the tables of a profile count.
use Rattle.std.proofs.Common.{◌≡◌, ◌∙◌, ◌⊎◌, inl, inr, ℕ, suc, ◌+◌, ◌-◌, ◌<◌, ◌==◌, nat_lt, Bool, true, false, not, ◌&&◌, List, length, Option, Some, None, refl, sym, ap, arith, if◌then◌else◌}
use Rattle.std.proofs.lemmas.Bool.Decides.{nat_tests}
use Rattle.std.proofs.lemmas.List.{length-map}
use Rattle.list_checks.proofs.SumLemmas.{sum_same}
use Rattle.list_checks.specs.Sorted.{sum_below}
use Rattle.rv32im.specs.declared.instructions.Instr.{Instr}
use Rattle.rv32im.specs.declared.instructions.Instr.TheVariants as instr
use Rattle.board_config.specs.declared.board.Board.{Board}
use Rattle.object_graph.specs.declared.parts.Graph.{Graph}
use Rattle.code_blocks.specs.Early.{has}
use Rattle.code_blocks.specs.Blocks.{start_of}
use Rattle.code_blocks.specs.Numbers.{start_at}
use Rattle.code_blocks.specs.declared.parts.Code.{Code}
use Rattle.region_former.specs.declared.table.RegionTable.{RegionTable}
use Rattle.profile_runner.specs.declared.counts.Profile.{Profile}
use Rattle.profile_runner.specs.Transition.{Transition, transition_at}
use Rattle.block_splitter.specs.declared.block_range.BlockRange.{BlockRange}
use Rattle.block_splitter.specs.declared.unit_kind.UnitKind.{UnitKind}
use Rattle.block_splitter.specs.declared.unit_kind.UnitKind.TheVariants.{Plain, Upper, Branch, Jump, Call, Tail, Indirect, Linking, Halt}
use Rattle.block_splitter.specs.Forms.{Body, is_site, is_last, kind_of, last_kind, straight_kind, unit_in, holds_block, begins_in, copied_words, copy_size, fall_out_words}
use Rattle.energy_model.specs.Energy.{Scene, starts_of, block_in, block_at, unit_number, is_inside, words_in_piece}
use Rattle.energy_model.specs.Scenes.{scene_of}
use Rattle.energy_model.specs.Copied.{exit_words, leaving_words, block_words, leaving, sum_in, edge_words, home_words, copy_words_run}
use Rattle.energy_model.proofs.FollowLemmas.{number_found}
use Rattle.energy_model.proofs.SceneLemmas.{Follows}
use Rattle.energy_model.proofs.SumLemmas.{sum_two}
use Rattle.energy_model.proofs.PlaceLemmas.{by_places}
use Rattle.energy_model.proofs.CrossingLemmas.{next_number, crossing, edges_cross, has_number}
use Rattle.energy_model.proofs.TakenLemmas.{fetched_at_home, fetched_in_copy, is_held}
use Rattle.energy_model.proofs.WordLemmas.{IsCountedRun, words_ran, block_counted}

-- ---- a step in a copy: its words where all is of the copy, and those by which control leaves it

out_words : (b : Bool) → (if b then 3 else 1) ≡ 1 + (if b then 2 else 0)
out_words b = grind arith

jump_words : (b : Bool) → (if b then 1 else 2) ≡ 1 + (if b then 0 else 1)
jump_words b = grind arith

split_words : (inside : ℕ → Bool) (next : ℕ) (kind : UnitKind) → copied_words inside next kind ≡ copy_size (λ a. true) kind + exit_words inside next kind
split_words inside next Plain = refl
split_words inside next (Upper rd value) = refl
split_words inside next (Branch kind rs1 rs2 target) = out_words ((next == target) && not (inside target))
split_words inside next (Jump target) = jump_words (inside target)
split_words inside next (Call target back link) = refl
split_words inside next (Tail target register) = refl
split_words inside next Indirect = refl
split_words inside next (Linking back link base imm) = refl
split_words inside next Halt = refl

upper_exit : (site : Bool) (inside : ℕ → Bool) (next rd value : ℕ) → exit_words inside next (if site then Plain else Upper rd value) ≡ 0
upper_exit true inside next rd value = refl
upper_exit false inside next rd value = refl

pub straight_stays : (sites inside : ℕ → Bool) (next at : ℕ) (i : Option Instr) → exit_words inside next (straight_kind sites at i) ≡ 0
straight_stays sites inside next at None = refl
straight_stays sites inside next at (Some (instr.Auipc rd imm)) = upper_exit (sites at) inside next rd _
straight_stays sites inside next at (Some i) = refl

last_exit : (last : Bool) (x y : ℕ) (first second : UnitKind) (inside : ℕ → Bool) (next : ℕ) → exit_words inside next second ≡ 0 → exit_words inside next (if last then first else second) + (if last then x else 0) ≡ (if last then exit_words inside next (if last then first else second) + x else 0)
last_exit true x y first second inside next none = refl
last_exit false x y first second inside next none = omega (arith, none)

piece_words : (w : Scene) (p : BlockRange) (b : Body) (k next : ℕ) → words_in_piece w p b k next ≡ copy_size (λ a. true) (kind_of (is_site w.graph) b k) + (if is_last b k then leaving_words (is_inside w p) next (kind_of (is_site w.graph) b k) b.end else 0)
piece_words w p b k next =
    let split = split_words (is_inside w p) next (kind_of (is_site w.graph) b k) in
    let none = straight_stays (is_site w.graph) (is_inside w p) next (unit_in b k).at (unit_in b k).instr in
    let parts = last_exit (is_last b k) (fall_out_words (is_inside w p) next b.end) 0 (last_kind (is_site w.graph) b.end (unit_in b k)) (straight_kind (is_site w.graph) (unit_in b k).at (unit_in b k).instr) (is_inside w p) next none in
    let sum : words_in_piece w p b k next ≡ copied_words (is_inside w p) next (kind_of (is_site w.graph) b k) + (if is_last b k then fall_out_words (is_inside w p) next b.end else 0) = refl in
    omega (arith, split, parts, sum)

cases_bool : (b : Bool) → (b ≡ true) ⊎ (b ≡ false)
cases_bool true = inl refl
cases_bool false = inr refl

-- the words by which control leaves a copy, by the numbers of the blocks
abbrev pub left_words : Scene → Code → BlockRange → List Transition → ℕ → ℕ
left_words w c p ms i = crossing (starts_of w) ms (edge_words c w.graph p) i

last_place : (k n : ℕ) → (suc k == n) ≡ true → k ≡ n - 1
last_place k n is = let same : suc k ≡ n = grind (arith, nat_tests, is) in omega (arith, same)

going_step : (c : Code) (g : Graph) (t : RegionTable) (board : Board) (ms : List Transition) (p : BlockRange) (i : ℕ) → Follows (scene_of g c t board) ms → i < length ms → (transition_at ms i).goes_on ≡ true → fetched_in_copy (scene_of g c t board) p ms i ≡ words_ran (scene_of g c t board) ms true i + left_words (scene_of g c t board) c p ms i
going_step c g t board ms p i all below goes =
    let w = scene_of g c t board in
    let starts = starts_of w in
    let next = (transition_at ms i).next in
    let b = block_in w (block_at w ms i) in
    let k = unit_number w ms i in
    let kind = kind_of (is_site g) b k in
    let words = piece_words w p b k next in
    let fetched : fetched_in_copy w p ms i ≡ words_in_piece w p b k next = rw goes refl in
    let ran : words_ran w ms true i ≡ copy_size (λ a. true) kind = rw goes refl in
    let leads = all.leads i below goes in
    let number = has_number starts next in
    elim (cases_bool (is_last b k)) [
      | inl last ↦
          let found : has starts next ≡ true = leads ∙ last in
          let under : nat_lt (next_number starts ms i) (length starts) ≡ true = sym number ∙ found in
          let at : start_at c (next_number starts ms i) ≡ next = (number_found starts next 0 found).1 in
          let place : k ≡ length b.units - 1 = last_place k (length b.units) last in
          let left : left_words w c p ms i ≡ edge_words c g p (block_at w ms i) (next_number starts ms i) = rw (goes, under) refl in
          let same : edge_words c g p (block_at w ms i) (next_number starts ms i) ≡ leaving_words (begins_in starts p) next kind b.end =
          ap (λ a. leaving_words (begins_in starts p) a (kind_of (is_site g) b (length b.units - 1)) b.end) at
          ∙ ap (λ n. leaving_words (begins_in starts p) next (kind_of (is_site g) b n) b.end) (sym place) in
          let more : (if is_last b k then leaving_words (begins_in starts p) next kind b.end else 0) ≡ leaving_words (begins_in starts p) next kind b.end = rw last refl in
          omega (arith, words, fetched, ran, left, same, more)
      | inr inner ↦
          let under : nat_lt (next_number starts ms i) (length starts) ≡ false = sym number ∙ (leads ∙ inner) in
          let left : left_words w c p ms i ≡ 0 = rw (goes, under) refl in
          let more : (if is_last b k then leaving_words (begins_in starts p) next kind b.end else 0) ≡ 0 = rw inner refl in
          omega (arith, words, fetched, ran, left, more)
    ]

copied_step : (c : Code) (g : Graph) (t : RegionTable) (board : Board) (ms : List Transition) (p : BlockRange) (i : ℕ) → Follows (scene_of g c t board) ms → i < length ms → fetched_in_copy (scene_of g c t board) p ms i ≡ words_ran (scene_of g c t board) ms true i + left_words (scene_of g c t board) c p ms i
copied_step c g t board ms p i all below =
    elim (cases_bool (transition_at ms i).goes_on) [
      | inl goes ↦ going_step c g t board ms p i all below goes
      | inr ends ↦
          let w = scene_of g c t board in
          let fetched : fetched_in_copy w p ms i ≡ 1 = rw ends refl in
          let ran : words_ran w ms true i ≡ 1 = rw ends refl in
          let left : left_words w c p ms i ≡ 0 = rw ends refl in
          omega (arith, fetched, ran, left)
    ]

-- ---- all steps in a piece

same_if : (test : Bool) (x y : ℕ) → x ≡ y → (if test then x else 0) ≡ (if test then y else 0)
same_if true x y is = is
same_if false x y is = refl

both_if : (test : Bool) (x y : ℕ) → (if test then x + y else 0) ≡ (if test then x else 0) + (if test then y else 0)
both_if true x y = refl
both_if false x y = refl

inside_all : (c : Code) (g : Graph) (t : RegionTable) (board : Board) (ms : List Transition) → Follows (scene_of g c t board) ms → (i : ℕ) → i < length ms → block_at (scene_of g c t board) ms i < length c.blocks.items
inside_all c g t board ms all i below = (all.each i below).inside

words_in : (c : Code) (g : Graph) (t : RegionTable) (board : Board) (q : Profile) (ms : List Transition) (copied : Bool) (p : BlockRange) → IsCountedRun c g t board q ms → sum_in p (block_words c g q copied) (length c.blocks.items) ≡ sum_below (λ i. if is_held (scene_of g c t board) p ms i then words_ran (scene_of g c t board) ms copied i else 0) (length ms)
words_in c g t board q ms copied p run =
    let w = scene_of g c t board in
    sum_same (λ b. if holds_block b p then block_words c g q copied b else 0)
    (λ b. if holds_block b p then sum_below (λ i. if block_at w ms i == b then words_ran w ms copied i else 0) (length ms) else 0) (length c.blocks.items)
    (λ b below. same_if (holds_block b p) (block_words c g q copied b) (sum_below (λ i. if block_at w ms i == b then words_ran w ms copied i else 0) (length ms)) (block_counted c g t board q ms copied b run below))
    ∙ by_places (λ b. holds_block b p) (λ b i. words_ran w ms copied i) (block_at w ms) (length c.blocks.items) (length ms) (inside_all c g t board ms run.all)

pub home_counted : (c : Code) (g : Graph) (t : RegionTable) (board : Board) (q : Profile) (ms : List Transition) (p : BlockRange) → IsCountedRun c g t board q ms → home_words c g q p ≡ sum_below (λ i. if is_held (scene_of g c t board) p ms i then fetched_at_home (scene_of g c t board) ms i else 0) (length ms)
home_counted c g t board q ms p run = words_in c g t board q ms false p run

left_in : (c : Code) (g : Graph) (t : RegionTable) (board : Board) (q : Profile) (ms : List Transition) (p : BlockRange) → IsCountedRun c g t board q ms → sum_in p (λ b. leaving q.edges.items b (edge_words c g p b)) (length c.blocks.items) ≡ sum_below (λ i. if is_held (scene_of g c t board) p ms i then left_words (scene_of g c t board) c p ms i else 0) (length ms)
left_in c g t board q ms p run =
    let w = scene_of g c t board in
    let starts = starts_of w in
    let count = length-map c.blocks.items start_of in
    ap (sum_in p (λ b. leaving q.edges.items b (edge_words c g p b))) (sym count)
    ∙ edges_cross starts ms q.edges.items (λ b. holds_block b p) (edge_words c g p) run.edges (λ i below. let inside = inside_all c g t board ms run.all i below in omega (arith, count, inside))

pub copy_counted : (c : Code) (g : Graph) (t : RegionTable) (board : Board) (q : Profile) (ms : List Transition) (p : BlockRange) → IsCountedRun c g t board q ms → copy_words_run c g q p ≡ sum_below (λ i. if is_held (scene_of g c t board) p ms i then fetched_in_copy (scene_of g c t board) p ms i else 0) (length ms)
copy_counted c g t board q ms p run =
    let w = scene_of g c t board in
    let n = length c.blocks.items in
    let ran = λ (i : ℕ). if is_held w p ms i then words_ran w ms true i else 0 in
    let left = λ (i : ℕ). if is_held w p ms i then left_words w c p ms i else 0 in
    let words = λ (b : ℕ). if holds_block b p then block_words c g q true b else 0 in
    let out = λ (b : ℕ). if holds_block b p then leaving q.edges.items b (edge_words c g p b) else 0 in
    let blocks = sum_same (λ b. if holds_block b p then block_words c g q true b + leaving q.edges.items b (edge_words c g p b) else 0) (λ b. words b + out b) n
    (λ b below. both_if (holds_block b p) (block_words c g q true b) (leaving q.edges.items b (edge_words c g p b))) in
    let two = sum_two words out n in
    let first = words_in c g t board q ms true p run in
    let second = left_in c g t board q ms p run in
    let steps = sum_same (λ i. if is_held w p ms i then fetched_in_copy w p ms i else 0) (λ i. ran i + left i) (length ms)
    (λ i below. same_if (is_held w p ms i) (fetched_in_copy w p ms i) (words_ran w ms true i + left_words w c p ms i) (copied_step c g t board ms p i run.all below)
    ∙ both_if (is_held w p ms i) (words_ran w ms true i) (left_words w c p ms i)) in
    let sum = sum_two ran left (length ms) in
    omega (arith, blocks, two, first, second, steps, sum)
