-- What is counted of an item is what it saves in the run.
use Rattle.std.proofs.Common.{◌≡◌, ℕ, ◌+◌, ◌*◌, ◌<◌, ◌≤◌, ◌==◌, Bool, true, false, ◌&&◌, pos, ◌-ℤ◌, List, [], ◌∷◌, length, slice_index_or, refl, ap, arith, if◌then◌else◌}
use Rattle.std.proofs.lemmas.Bool.Decides.{nat_tests}
use Rattle.std.proofs.lemmas.List.{length-map}
use Rattle.std.proofs.lemmas.Int.{ints}
use Rattle.list_checks.specs.Sorted.{sum_below}
use Rattle.list_checks.proofs.SumLemmas.{sum_same}
use Rattle.rv32im.specs.Table.{OneInstruction}
use Rattle.elf_reader.specs.declared.view.ElfView.{ElfView}
use Rattle.board_config.specs.declared.board.Board.{Board}
use Rattle.object_graph.specs.declared.parts.Graph.{Graph}
use Rattle.cell_values.specs.Objects.{object_of}
use Rattle.code_blocks.specs.declared.parts.Code.{Code}
use Rattle.region_former.specs.declared.table.RegionTable.{RegionTable}
use Rattle.placement_programme.specs.declared.variables.VarName.TheVariants.{StaticData, StaticCode, OverlayData, OverlayCode, KeptData}
use Rattle.profile_runner.specs.declared.counts.Profile.{Profile}
use Rattle.profile_runner.specs.Transition.{Transition, transition_at}
use Rattle.energy_model.specs.Energy.{Scene, region_with, object_rounds, into_price, back_price, piece_rounds, step_energy, steps_energy, side_energy}
use Rattle.energy_model.specs.Scenes.{scene_of, AreOfSameFile}
use Rattle.energy_model.specs.Priced.{range}
use Rattle.energy_model.specs.Together.{taken}
use Rattle.energy_model.specs.Overlay.{object_copies}
use Rattle.energy_model.specs.OverlayCost.{CountsOverlay}
use Rattle.energy_model.specs.Gains.{HasPlace, overlaid_counts, kept_counts, object_copied, object_saves, piece_saves}
use Rattle.energy_model.proofs.SceneLemmas.{Follows}
use Rattle.energy_model.proofs.SumLemmas.{sum_two}
use Rattle.energy_model.proofs.TogetherLemmas.{touch, changes, slow_price, fast_price, step_more}
use Rattle.energy_model.proofs.ObjectLemmas.{object_counted}
use Rattle.energy_model.proofs.KeptLemmas.{kept_counted}
use Rattle.energy_model.proofs.OverlaidCode.{piece_counted}

abbrev Given : ElfView → Board → Graph → Code → RegionTable → Profile → List Transition → Type 0
Given view board g c t q ms = AreOfSameFile view board g c t q ms

-- ---- places of the tables

-- the tables have a place for each object and region
pub has_place : (c : Code) (t : RegionTable) (g : Graph) (q : Profile) (o r : ℕ) → CountsOverlay c t g q → o < length g.objects.items → r ≤ t.count → HasPlace q o r
has_place c t g q o r counts object region =
    let reads = length-map q.reads.items (λ row. row.items) in
    let writes = length-map q.writes.items (λ row. row.items) in
    let read_height = counts.reads.height_is in
    let write_height = counts.writes.height_is in
    let read_width = counts.reads.widths o object in
    let write_width = counts.writes.widths o object in
    let enters = counts.enters.size_is in
    let leaves = counts.leaves.size_is in
    record {
      read_row = omega (arith, reads, read_height, object);
      read_column = omega (arith, read_width, region);
      write_row = omega (arith, writes, write_height, object);
      write_column = omega (arith, write_width, region);
      enter = omega (arith, enters, region);
      leave = omega (arith, leaves, region);
      reads = counts.reads.small o r object (omega (arith, region));
      writes = counts.writes.small o r object (omega (arith, region));
      enters = counts.enters.small r (omega (arith, region));
      leaves = counts.leaves.small r (omega (arith, region));
    }

-- ---- objects

where_same : (r : ℕ) (x : ℕ) → (if r == r then x else 0) ≡ x
where_same r x = let same : (r == r) ≡ true = grind (arith, nat_tests) in rw same refl

where_same_both : (r : ℕ) (writable : Bool) (x : ℕ) → (if (r == r) && writable then x else 0) ≡ (if writable then x else 0)
where_same_both r writable x = let same : (r == r) ≡ true = grind (arith, nat_tests) in rw same refl

copies_are : (g : Graph) (c : Code) (t : RegionTable) (board : Board) (q : Profile) (r o : ℕ) → object_copies (scene_of g c t board) q r o ≡ object_copied board.prices (object_of g o) (slice_index_or q.enters.items r 0) (slice_index_or q.leaves.items r 0)
copies_are g c t board q r o =
    let object = object_of g o in
    let into = where_same r (into_price board.prices (object_rounds object)) in
    let back = where_same_both r object.writable (back_price board.prices (object_rounds object)) in
    λ i. slice_index_or q.enters.items r 0 * into i + slice_index_or q.leaves.items r 0 * back i

pub overlaid_gain_is : OneInstruction → (view : ElfView) (board : Board) (g : Graph) (c : Code) (t : RegionTable) (q : Profile) (ms : List Transition) (r o : ℕ) → Given view board g c t q ms → r ≤ t.count → o < length g.objects.items → object_saves board.prices (object_of g o) (overlaid_counts q o r) ≡ pos (side_energy (scene_of g c t board) (taken true []) ms) -ℤ pos (side_energy (scene_of g c t board) (taken true (OverlayData r o ∷ [])) ms)
overlaid_gain_is one view board g c t q ms r o given region object =
    let law = object_counted one view board g c t q ms r o given region object in
    let copies = copies_are g c t board q r o in
    omega (arith, ints, law, copies)

pub kept_gain_is : OneInstruction → (view : ElfView) (board : Board) (g : Graph) (c : Code) (t : RegionTable) (q : Profile) (ms : List Transition) (pair o : ℕ) → Given view board g c t q ms → 1 ≤ pair → 2 * pair ≤ t.count → o < length g.objects.items → object_saves board.prices (object_of g o) (kept_counts q o pair) ≡ pos (side_energy (scene_of g c t board) (taken true []) ms) -ℤ pos (side_energy (scene_of g c t board) (taken true (KeptData pair o ∷ [])) ms)
kept_gain_is one view board g c t q ms pair o given some within object =
    let law = kept_counted one view board g c t q ms pair o given some within object in
    omega (arith, ints, law)

-- an object that is in the scratchpad throughout saves with overlay what it saves without

abbrev touch_at : Scene → List Transition → Bool → ℕ → ℕ → ℕ
touch_at w ms fast o i = touch w.board.prices fast (region_with w ms i) (StaticData o) (transition_at ms i).access

no_jobs : (test : Bool) → ◌≡◌ {A = ℕ} (if test then 0 else 0) 0
no_jobs true = refl
no_jobs false = refl

steps_static : (w : Scene) (ms : List Transition) (on : Bool) (o : ℕ) → Follows w ms → steps_energy w (taken on (StaticData o ∷ [])) ms + sum_below (touch_at w ms false o) (length ms) ≡ steps_energy w (taken on []) ms + sum_below (touch_at w ms true o) (length ms)
steps_static w ms on o all =
    let n = length ms in
    let f = step_energy w (taken on (StaticData o ∷ [])) ms in
    let g = step_energy w (taken on []) ms in
    let slow = touch_at w ms false o in
    let fast = touch_at w ms true o in
    let same = sum_same (λ i. f i + slow i) (λ i. g i + fast i) n (λ i below.
    let step = step_more w on (StaticData o) [] ms i all below tt in
    let slow_is : slow_price w on ms (StaticData o) i ≡ slow i + 0 = refl in
    let fast_is : fast_price w on ms (StaticData o) i ≡ fast i + 0 + (if changes w on ms i then 0 else 0) = refl in
    let none = no_jobs (changes w on ms i) in
    omega (arith, step, slow_is, fast_is, none)) in
    let left = sum_two f slow n in
    let right = sum_two g fast n in
    omega (arith, same, left, right)

-- ---- pieces

pub static_piece_gain_is : OneInstruction → (view : ElfView) (board : Board) (g : Graph) (c : Code) (t : RegionTable) (q : Profile) (ms : List Transition) (first last : ℕ) → Given view board g c t q ms → piece_saves c g board.prices q t.border.items (range first last) (into_price board.prices (piece_rounds (scene_of g c t board) (range first last))) ≡ pos (side_energy (scene_of g c t board) (taken true []) ms) -ℤ pos (side_energy (scene_of g c t board) (taken true (StaticCode first last ∷ [])) ms)
static_piece_gain_is one view board g c t q ms first last given =
    let law = (piece_counted one view board g c t q ms first last 0 given (omega arith)).0 in
    omega (arith, ints, law)

pub region_piece_gain_is : OneInstruction → (view : ElfView) (board : Board) (g : Graph) (c : Code) (t : RegionTable) (q : Profile) (ms : List Transition) (first last r : ℕ) → Given view board g c t q ms → r ≤ t.count → piece_saves c g board.prices q t.border.items (range first last) (slice_index_or q.enters.items r 0 * into_price board.prices (piece_rounds (scene_of g c t board) (range first last))) ≡ pos (side_energy (scene_of g c t board) (taken true []) ms) -ℤ pos (side_energy (scene_of g c t board) (taken true (OverlayCode r first last ∷ [])) ms)
region_piece_gain_is one view board g c t q ms first last r given region =
    let law = (piece_counted one view board g c t q ms first last r given region).1 in
    let into = where_same r (into_price board.prices (piece_rounds (scene_of g c t board) (range first last))) in
    let copies = ap (λ x. slice_index_or q.enters.items r 0 * x) into in
    omega (arith, ints, law, copies)
