-- The side with overlay that is counted is the one that the run states, within the bounds.
use Rattle.std.proofs.Common.{◌≡◌, ◌∙◌, ℕ, zero, suc, ◌+◌, ◌*◌, ◌/◌, ◌^◌, ◌<◌, ◌≤◌, ◌==◌, ◌%◌, nat_lt, Bool, true, false, ◌&&◌, ℤ, List, [], ◌∷◌, ◌++◌, length, map, slice_index_or, Option, Some, None, refl, sym, ap, subst, arith, if◌then◌else◌, length-append}
use Rattle.std.specs.Prelude.{unsigned_abs}
use Rattle.std.specs.List.{All, sum_by}
use Rattle.std.proofs.lemmas.Bool.Decides.{nat_tests}
use Rattle.std.proofs.lemmas.List.{length-map}
use Rattle.std.proofs.lemmas.List.Elements.{All-nil, All-cons, All-append, All-map}
use Rattle.std.proofs.lemmas.Nat.{mul-le}
use Rattle.rv32im.specs.Table.{OneInstruction}
use Rattle.elf_reader.specs.declared.view.ElfView.{ElfView}
use Rattle.list_checks.specs.Sorted.{collected}
use Rattle.profile_runner.specs.Transition.{Transition}
use Rattle.block_splitter.specs.declared.piece.Piece.{Piece}
use Rattle.block_splitter.specs.Pieces.{range_of, is_entry}
use Rattle.block_splitter.specs.Forms.{holds_block}
use Rattle.cell_values.specs.Objects.{object_of, datum_of}
use Rattle.placement_candidates.specs.declared.variables.FullVar.{FullVar}
use Rattle.placement_programme.specs.Plain.{PlainFullVar, PlainFullSide, PlainFull}
use Rattle.placement_candidates.specs.FullVars.{plain_full_var}
use Rattle.placement_programme.specs.Bounds.{AreWeights}
use Rattle.placement_programme.specs.Rows.{Candidate, static_data, static_code, overlay_data, overlay_code, kept_data, name_of, pairs_of, first_twin, second_twin, on_capacities, on_weights}
use Rattle.energy_model.specs.Energy.{Scene, stub_energy, nothing_taken, object_rounds, into_price}
use Rattle.energy_model.specs.Together.{taken}
use Rattle.energy_model.specs.Scenes.{layout_of, AreOfSameFile}
use Rattle.energy_model.specs.Priced.{range}
use Rattle.energy_model.specs.OverlayCost.{CountsOverlay, overlay_cost}
use Rattle.energy_model.specs.Counts.{CountsCode}
use Rattle.energy_model.proofs.GainLemmas.{has_place}
use Rattle.energy_model.specs.Gains.{overlaid_counts, kept_counts}
use Rattle.energy_model.proofs.CountsLemmas.{counts_code}
use Rattle.energy_model.proofs.GainBounds.{object_saves_small, piece_saves_small}
use Rattle.energy_model.proofs.OverlayCostLemmas.{counts_overlay, overlay_cost_is}
use Rattle.placement_candidates.specs.declared.measured.Measured.{Measured}
use Rattle.placement_candidates.specs.Stated.{part_of, AreSomePieces, IsStaticFull}
use Rattle.placement_candidates.specs.Counted.{stub_price, CanCountPiece}
use Rattle.placement_candidates.specs.Overlaid.{AreOverlaidObjects, static_objects, static_pieces, static_candidates, overlay_candidates, overlay_gain, overlay_var, overlay_fixed, on_side, has_on_side, IsSmallOn, IsWholeFull}
use Rattle.placement_candidates.specs.OverlayCounted.{scene_in, layout_in, gain_in, on_var, on_vars, counted_on_side, counted_on, CanCountOverlay}
use Rattle.placement_candidates.proofs.LimitLemmas.{blocks_few}
use Rattle.placement_candidates.proofs.SpanLemmas.{objects_small, spans_small}
use Rattle.placement_candidates.proofs.PieceLemmas.{can_count_piece, pieces_few, part_entries, code_span_small, copy_job_small}
use Rattle.placement_candidates.proofs.StatedLemmas.{counts_accesses, gain_small, rounds_few, stub_empty, grain_some}
use Rattle.placement_candidates.proofs.CandidateLemmas.{are_of_layout}
use Rattle.placement_candidates.proofs.EachLemmas.{each_candidate, by_kind, all_most}
use Rattle.placement_candidates.proofs.OverlayGainLemmas.{data_gain, code_gain, region_data_gain, region_code_gain, pair_data_gain}
use Rattle.placement_candidates.proofs.OverlayBoundLemmas.{sum_few, few_numbers, IsLight, are_weights, rows_count, capacities_few}

-- ---- how many there are

objects_count : (w : Scene) (n : ℕ) → length (static_objects w.graph n) ≡ n
objects_count w zero = refl
objects_count w (suc n) =
    let earlier = objects_count w n in
    let sum = length-append (static_objects w.graph n) (static_data (datum_of w.graph n) ∷ []) in
    omega (arith, earlier, sum)

-- variables are behind those of what is taken throughout just where something may be overlaid
pub more_vars : (m : Measured) (objects : List ℕ) (vars : List FullVar) → map plain_full_var vars ≡ on_vars m objects → nat_lt (length m.graph.now.objects.items + length m.pieces.now) (length vars) ≡ nat_lt 0 (length (overlay_candidates (scene_in m) objects m.pieces.now))
more_vars m objects vars are =
    let w = scene_in m in
    let pieces = m.pieces.now in
    let count = ap (λ (vs : List PlainFullVar). length vs) are in
    let plain = length-map vars plain_full_var in
    let mapped = length-map (static_candidates w pieces ++ overlay_candidates w objects pieces) (on_var m) in
    let both_sides = length-append (static_candidates w pieces) (overlay_candidates w objects pieces) in
    let static = length-append (static_objects w.graph (length w.graph.objects.items)) (static_pieces w pieces) in
    let first = objects_count w (length w.graph.objects.items) in
    let second = length-map pieces (λ p. static_code (part_of w p)) in
    let whole : length vars ≡ length m.graph.now.objects.items + length pieces + length (overlay_candidates w objects pieces) = omega (arith, count, plain, mapped, both_sides, static, first, second) in
    rw whole (shifted (length m.graph.now.objects.items + length pieces) (length (overlay_candidates w objects pieces)))
  where
    shifted : (a b : ℕ) → nat_lt a (a + b) ≡ nat_lt 0 b
    shifted a b = grind (arith, nat_tests)

-- ---- whether there is the side

pub side_there : (a b d : Bool) (s : PlainFullSide) → (a && d) ≡ true → b ≡ true → Some s ≡ (if (a && b) && d then Some s else None)
side_there true true true s room some = refl
side_there true true false s room some = cc
side_there true false d s room some = cc
side_there false b d s room some = cc

pub no_side : (a b d : Bool) (s : PlainFullSide) → b ≡ false → None ≡ (if (a && b) && d then Some s else None)
no_side true true d s none = cc
no_side true false d s none = refl
no_side false b d s none = refl

-- ---- of a run

same_map : (f g : Candidate → PlainFullVar) (cs : List Candidate) → All (λ c. f c ≡ g c) cs → map f cs ≡ map g cs
same_map f g [] all = refl
same_map f g (c ∷ cs) all =
    let here = all 0 c (omega arith) in
    let rest = same_map f g cs (λ k d below. all (suc k) d (omega (arith, below))) in
    λ i. here i ∷ rest i

pair_within : (twins : Bool) (count pair : ℕ) → pair ≤ pairs_of twins count → 2 * pair ≤ count
pair_within true count pair few = omega (arith, few)
pair_within false count pair few = omega (arith, few)

pairs_few : (twins : Bool) (count : ℕ) → count ≤ 8 → pairs_of twins count ≤ 4
pairs_few true count few = omega (arith, few)
pairs_few false count few = omega arith

products : (regions pairs most pieces some : ℕ) → regions ≤ 8 → pairs ≤ 4 → most ≤ 4096 → some ≤ 4096 → pieces ≤ 67108864 → most * 5000000000000000000000 + pieces * 1000000000000000000 + regions * (some * 5000000000000000000000) + regions * (pieces * 1000000000000000000) + pairs * (some * 5000000000000000000000) < 2 ^ 90
products regions pairs most pieces some first second third fourth fifth =
    let each = mul-le regions (some * 5000000000000000000000) 8 20480000000000000000000000 first (omega (arith, fourth)) in
    let code_each = mul-le regions (pieces * 1000000000000000000) 8 67108864000000000000000000 first (omega (arith, fifth)) in
    let kept = mul-le pairs (some * 5000000000000000000000) 4 20480000000000000000000000 second (omega (arith, fourth)) in
    omega (arith, each, code_each, kept, third, fifth)

collected_below : (test : ℕ → Bool) (n : ℕ) → All (λ b. b < n) (collected test (λ b. b) n)
collected_below test zero = All-nil (λ (b : ℕ). b < 0)
collected_below test (suc n) =
    let earlier = collected_below test n in
    All-append (λ (b : ℕ). b < suc n) (collected test (λ b. b) n) (if test n then n ∷ [] else []) (λ j d below. let here = earlier j d below in omega (arith, here)) (by_test (test n) n)
  where
    by_test : (passes : Bool) (n : ℕ) → All (λ b. b < suc n) (if passes then n ∷ [] else [])
    by_test true n = All-cons (λ (b : ℕ). b < suc n) n [] (omega arith) (All-nil (λ (b : ℕ). b < suc n))
    by_test false n = All-nil (λ (b : ℕ). b < suc n)

module _ (one : OneInstruction) (view : ElfView) (m : Measured) (objects : List ℕ) (ms : List Transition) (given : AreOfSameFile view m.board.now m.graph.now m.code.now m.regions.now m.profile.now ms) (are : AreSomePieces m.code.now m.graph.now m.pieces.now) (overlaid : AreOverlaidObjects m.code.now m.graph.now m.regions.now objects) where
  abbrev w : Scene
  w = scene_in m

  abbrev cs : List Candidate
  cs = static_candidates w m.pieces.now ++ overlay_candidates w objects m.pieces.now

  numbers : All (λ o. o < length m.graph.now.objects.items) objects
  numbers j d below = (overlaid.each j d below).moves

  -- each gain is the one that is counted
  gains : All (λ c. gain_in m c ≡ overlay_gain w ms (name_of c)) cs
  gains =
      each_candidate (λ c. gain_in m c ≡ overlay_gain w ms (name_of c)) w objects m.pieces.now
      (record {
        object = λ k below. data_gain one view m ms given k below;
        code = λ k d below. code_gain one view m ms given (slice_index_or m.pieces.now k d) (are.each k d below);
        region_data = λ r some region k d below. region_data_gain one view m ms given r (slice_index_or objects k d) region (numbers k d below);
        region_code = λ r some region k d below all. region_code_gain one view m ms given r (slice_index_or m.pieces.now k d) region (are.each k d below);
        pair_data = λ pair some few k d below. pair_data_gain one view m ms given pair (slice_index_or objects k d) some (pair_within m.board.now.twins m.regions.now.count pair few) (numbers k d below);
      })

  vars_are : on_vars m objects ≡ map (overlay_var w (layout_in m) ms) cs
  vars_are =
      same_map (on_var m) (overlay_var w (layout_in m) ms) cs
      (λ k d below. ap (λ (z : ℤ). record { name = name_of (slice_index_or cs k d); gain = z; weights = on_weights (layout_in m) (slice_index_or cs k d) }) (gains k d below))

  fixed_is : stub_price m.board.now + overlay_cost m.code.now m.graph.now m.regions.now m.board.now m.profile.now ≡ overlay_fixed w ms
  fixed_is =
      let cost = overlay_cost_is one view m.board.now m.graph.now m.code.now m.regions.now m.profile.now ms given in
      let stub = stub_empty w in
      let same : stub_energy w (taken true []) ≡ stub_energy w nothing_taken = refl in
      omega (arith, cost, stub, same)

  pub side_is : counted_on_side m objects ≡ on_side w (layout_in m) objects m.pieces.now ms
  side_is = λ i. record { fixed = fixed_is i; rows = on_capacities (layout_in m); vars = vars_are i }

  pub whole_is : (f : PlainFull) → IsStaticFull w (layout_of m.graph.now m.code.now m.regions.now m.board.now) m.pieces.now ms f → (on : Option PlainFullSide) → on ≡ counted_on m objects → IsSmallOn on → IsWholeFull w (layout_in m) objects m.pieces.now ms (record f { on = on })
  whole_is f static on is small =
      let base = ap (λ (g : PlainFull). g.base) static.is in
      let off = ap (λ (g : PlainFull). g.off) static.is in
      let there = is ∙ ap (λ (s : PlainFullSide). if has_on_side w (layout_in m) objects m.pieces.now then Some s else None) side_is in
      record {
        is = λ i. record { base = base i; off = off i; on = there i };
        base_small = static.base_small;
        off_small = static.off_small;
        on_small = small;
      }

  -- ---- bounds

  rounds_small : (o : ℕ) → o < length m.graph.now.objects.items → object_rounds (object_of m.graph.now o) ≤ 16777216
  rounds_small o below =
      let object = object_of m.graph.now o in
      let small = objects_small view m.board.now m.graph.now given.read given.graph o below in
      let rounds = rounds_few (object.home % 4 == 0) (object.size % 4 == 0) object.size in
      omega (arith, rounds, small)

  code : CountsCode m.code.now m.graph.now m.profile.now
  code = counts_code one view m.board.now m.graph.now m.code.now m.regions.now m.profile.now ms given

  overlay : CountsOverlay m.code.now m.regions.now m.graph.now m.profile.now
  overlay = counts_overlay one view m.board.now m.graph.now m.code.now m.regions.now m.profile.now ms given

  copies_small : (n : ℕ) → n ≤ 4096 → into_price m.board.now.prices (n / 4) ≤ 400000000
  copies_small n few = copy_job_small m.board.now.prices (n / 4) given.lawful.prices (omega (arith, few))

  countable : All (CanCountPiece m.code.now) m.pieces.now
  countable = can_count_piece view m.board.now m.graph.now m.code.now m.regions.now m.profile.now ms m.pieces.now given are

  few_object : (r o : ℕ) → r ≤ m.regions.now.count → o < length m.graph.now.objects.items → unsigned_abs (gain_in m (overlay_data r (datum_of m.graph.now o))) ≤ 5000000000000000000000
  few_object r o region below =
      let place = has_place m.code.now m.regions.now m.graph.now m.profile.now o r overlay below region in
      let reads = place.reads in
      let writes = place.writes in
      let enters = place.enters in
      let leaves = place.leaves in
      let small = object_saves_small m.board.now.prices (object_of m.graph.now o) (overlaid_counts m.profile.now o r) 16777216 given.lawful.prices
      (record { reads = omega (arith, reads); writes = omega (arith, writes); enters = omega (arith, enters); leaves = omega (arith, leaves) }) (rounds_small o below) in
      omega (arith, small)

  few_kept : (pair o : ℕ) → 1 ≤ pair → 2 * pair ≤ m.regions.now.count → o < length m.graph.now.objects.items → unsigned_abs (gain_in m (kept_data pair (datum_of m.graph.now o))) ≤ 5000000000000000000000
  few_kept pair o some within below =
      let first = has_place m.code.now m.regions.now m.graph.now m.profile.now o (first_twin pair) overlay below (omega (arith, within)) in
      let second = has_place m.code.now m.regions.now m.graph.now m.profile.now o (second_twin pair) overlay below (omega (arith, within)) in
      let first_reads = first.reads in
      let first_writes = first.writes in
      let first_enters = first.enters in
      let first_leaves = first.leaves in
      let second_reads = second.reads in
      let second_writes = second.writes in
      let second_enters = second.enters in
      let second_leaves = second.leaves in
      let small = object_saves_small m.board.now.prices (object_of m.graph.now o) (kept_counts m.profile.now o pair) 16777216 given.lawful.prices
      (record { reads = omega (arith, first_reads, second_reads); writes = omega (arith, first_writes, second_writes); enters = omega (arith, first_enters, second_enters); leaves = omega (arith, first_leaves, second_leaves) }) (rounds_small o below) in
      omega (arith, small)

  few_code : (k : ℕ) (d : Piece) → k < length m.pieces.now → unsigned_abs (gain_in m (static_code (part_of w (slice_index_or m.pieces.now k d)))) ≤ 1000000000000000000
  few_code k d below =
      let p = slice_index_or m.pieces.now k d in
      let copies = copies_small p.bytes (countable k d below).bytes in
      let small = piece_saves_small m.code.now m.regions.now m.graph.now m.profile.now m.board.now.prices (range p.first p.last) (into_price m.board.now.prices (p.bytes / 4)) code overlay given.lawful.prices in
      omega (arith, small, copies)

  few_region_code : (r : ℕ) (k : ℕ) (d : Piece) → r ≤ m.regions.now.count → k < length m.pieces.now → unsigned_abs (gain_in m (overlay_code r (part_of w (slice_index_or m.pieces.now k d)))) ≤ 1000000000000000000
  few_region_code r k d region below =
      let p = slice_index_or m.pieces.now k d in
      let enters = overlay.enters.small r (omega (arith, region)) in
      let copies = mul-le (slice_index_or m.profile.now.enters.items r 0) (into_price m.board.now.prices (p.bytes / 4)) 1000000000 400000000 enters (copies_small p.bytes (countable k d below).bytes) in
      let small = piece_saves_small m.code.now m.regions.now m.graph.now m.profile.now m.board.now.prices (range p.first p.last) (slice_index_or m.profile.now.enters.items r 0 * into_price m.board.now.prices (p.bytes / 4)) code overlay given.lawful.prices in
      omega (arith, small, copies)

  few_gains : All (λ c. unsigned_abs (gain_in m c) ≤ by_kind 5000000000000000000000 1000000000000000000 c) cs
  few_gains =
      each_candidate (λ c. unsigned_abs (gain_in m c) ≤ by_kind 5000000000000000000000 1000000000000000000 c) w objects m.pieces.now
      (record {
        object = λ k below. let small = gain_small view m.board.now m.graph.now m.code.now m.regions.now m.profile.now ms k given below in omega (arith, small);
        code = few_code;
        region_data = λ r some region k d below. few_object r (slice_index_or objects k d) region (numbers k d below);
        region_code = λ r some region k d below all. few_region_code r k d region below;
        pair_data = λ pair some few k d below. few_kept pair (slice_index_or objects k d) some (pair_within m.board.now.twins m.regions.now.count pair few) (numbers k d below);
      })

  light : All (IsLight (layout_in m)) cs
  light =
      let spans = spans_small view m.board.now m.graph.now given.read given.lawful given.graph in
      each_candidate (IsLight (layout_in m)) w objects m.pieces.now
      (record {
        object = spans;
        code = light_part;
        region_data = λ r some region k d below. spans (slice_index_or objects k d) (numbers k d below);
        region_code = λ r some region k d below all. light_part k d below;
        pair_data = λ pair some few k d below. spans (slice_index_or objects k d) (numbers k d below);
      })
    where
      light_part : All (λ p. IsLight (layout_in m) (static_code (part_of w p))) m.pieces.now
      light_part k d below =
          let p = slice_index_or m.pieces.now k d in
          let can = countable k d below in
          let bytes = can.bytes in
          let entries = can.entries in
          let both_kinds = part_entries w p in
          (code_span_small m.board.now.grain p.bytes given.lawful.grain bytes, omega (arith, bytes, entries, both_kinds))

  weigh : All (λ v. AreWeights (length (on_capacities (layout_in m))) v.weights) (on_vars m objects)
  weigh =
      All-map (λ (v : PlainFullVar). AreWeights (length (on_capacities (layout_in m))) v.weights) (on_var m) cs
      (λ k d below. are_weights (layout_in m) (slice_index_or cs k d) (are_of_layout m.board.now m.graph.now m.code.now m.regions.now objects m.pieces.now are overlaid k d below) (light k d below))

  gains_small : length m.graph.now.objects.items ≤ 4096 → sum_by (λ v. unsigned_abs v.gain) (on_vars m objects) < 2 ^ 90
  gains_small few =
      let sum = sum_few (on_var m) (by_kind 5000000000000000000000 1000000000000000000) cs few_gains in
      let most = all_most 5000000000000000000000 1000000000000000000 w objects m.pieces.now in
      let regions = m.regions.now.few in
      let pairs = pairs_few m.board.now.twins m.regions.now.count regions in
      let some = few_numbers objects (length m.graph.now.objects.items) overlaid.ascending numbers in
      let pieces = pieces_few m.code.now m.graph.now m.pieces.now (blocks_few view m.code.now given.read given.code given.no_code_fault) code.filled are in
      let all = products m.regions.now.count (pairs_of m.board.now.twins m.regions.now.count) (length m.graph.now.objects.items) (length m.pieces.now) (length objects) regions pairs few (omega (arith, some, few)) pieces in
      omega (arith, sum, most, all)

  pub can_overlay : length m.graph.now.objects.items ≤ 4096 → CanCountOverlay m objects
  can_overlay few =
      let blocks = blocks_few view m.code.now given.read given.code given.no_code_fault in
      let spm = given.lawful.spm.most_size in
      let patch = given.lawful.patch.most_size in
      let gains = gains_small few in
      record {
        weigh = record {
          graph = code.graph;
          filled = code.filled;
          regions = given.regions;
          blocks = blocks;
          objects = few;
          grain = grain_some m.board.now.grain given.lawful.grain;
        };
        gain = record {
          code = code;
          overlay = overlay;
          accesses = counts_accesses view m.board.now m.graph.now m.code.now m.regions.now m.profile.now ms given;
        };
        pieces = λ k d below.
            let can = countable k d below in
            record {
              count = can;
              ordered = can.range.is_range.ordered;
              below = can.range.is_range.below;
              few = can.entries;
              entries = entries_below k d below;
            };
        numbers = numbers;
        gains_small = gains;
        side = record {
          fixed = omega arith;
          gains = omega (arith, gains);
          few_rows = rows_count (layout_in m) m.regions.now.few blocks few;
          capacities = capacities_few (layout_in m) (omega (arith, spm)) (omega (arith, patch));
          weights = weigh;
        };
      }
    where
      entries_below : (k : ℕ) (d : Piece) → k < length m.pieces.now → All (λ b. b < length m.code.now.blocks.items) (slice_index_or m.pieces.now k d).entries.items
      entries_below k d below =
          let is = are.each k d below in
          subst (λ (xs : List ℕ). All (λ b. b < length m.code.now.blocks.items) xs) (sym is.entries) (collected_below (λ b. holds_block b (range_of (slice_index_or m.pieces.now k d)) && is_entry m.code.now (range_of (slice_index_or m.pieces.now k d)) b) (length m.code.now.blocks.items))
