-- What a candidate saves with overlay is counted.
use Rattle.std.proofs.Common.{◌≡◌, ◌∙◌, ℕ, ◌+◌, ◌*◌, ◌/◌, ◌<◌, ◌≤◌, ◌==◌, not, Bool, true, false, pos, ◌-ℤ◌, List, [], ◌∷◌, length, slice_index_or, Option, Some, None, refl, sym, ap, arith, if◌then◌else◌}
use Rattle.std.proofs.lemmas.Int.{ints}
use Rattle.std.proofs.lemmas.List.Sums.{sum_by-cons}
use Rattle.list_checks.proofs.SumLemmas.{sum_same}
use Rattle.rv32im.specs.Table.{OneInstruction}
use Rattle.elf_reader.specs.declared.view.ElfView.{ElfView}
use Rattle.board_config.specs.declared.board.Board.{Board}
use Rattle.board_config.specs.declared.board.Prices.{Prices}
use Rattle.object_graph.specs.declared.parts.Graph.{Graph}
use Rattle.code_blocks.specs.declared.parts.Code.{Code}
use Rattle.region_former.specs.declared.table.RegionTable.{RegionTable}
use Rattle.object_machine.specs.declared.events.Access.{Access}
use Rattle.profile_runner.specs.declared.counts.Profile.{Profile}
use Rattle.profile_runner.specs.Transition.{Transition, transition_at}
use Rattle.placement_programme.specs.declared.variables.VarName.TheVariants.{StaticData, KeptData}
use Rattle.block_splitter.specs.declared.piece.Piece.{Piece}
use Rattle.cell_values.specs.Objects.{object_of, datum_of}
use Rattle.energy_model.specs.Energy.{Scene, steps_energy, start_job, step_energy, region_before, region_with, into_price, nothing_taken, stub_energy, piece_rounds}
use Rattle.energy_model.specs.Scenes.{scene_of, AreOfSameFile}
use Rattle.energy_model.specs.Priced.{touches_price, touch_price, range}
use Rattle.energy_model.specs.Together.{taken}
use Rattle.energy_model.specs.Gains.{kept_counts, object_saves}
use Rattle.energy_model.proofs.SceneLemmas.{Follows, follows}
use Rattle.energy_model.proofs.SumLemmas.{sum_two}
use Rattle.energy_model.proofs.TogetherLemmas.{touch, slow_price, fast_price, step_more}
use Rattle.energy_model.proofs.TakenLemmas.{one_more}
use Rattle.energy_model.proofs.KeptLemmas.{kept_counted}
use Rattle.energy_model.proofs.GainLemmas.{overlaid_gain_is, static_piece_gain_is, region_piece_gain_is}
use Rattle.placement_programme.specs.Rows.{Candidate, static_data, static_code, overlay_data, overlay_code, kept_data, name_of}
use Rattle.block_splitter.specs.Forms.{is_site, copy_words}
use Rattle.block_splitter.specs.Pieces.{IsPiece}
use Rattle.placement_candidates.specs.declared.measured.Measured.{Measured}
use Rattle.placement_candidates.specs.Stated.{taken_alone, gain_alone, part_of}
use Rattle.placement_candidates.specs.Overlaid.{overlay_gain}
use Rattle.placement_candidates.specs.OverlayCounted.{scene_in, code_gain_in, gain_in}
use Rattle.placement_candidates.proofs.PieceLemmas.{quarter}
use Rattle.placement_candidates.proofs.StatedLemmas.{gain_counted}

abbrev Given : ElfView → Board → Graph → Code → RegionTable → Profile → List Transition → Type 0
Given view board g c t q ms = AreOfSameFile view board g c t q ms

-- ---- an object throughout saves with overlay what it saves without

touch_is : (prices : Prices) (fast : Bool) (r k : ℕ) (access : Option Access) → touch prices fast r (StaticData k) access ≡ touch_price prices fast k access
touch_is prices fast r k None = refl
touch_is prices fast r k (Some a) = refl

no_jobs : (b : Bool) → ◌≡◌ {A = ℕ} (if b then 0 else 0) 0
no_jobs true = refl
no_jobs false = refl

slow_here : (w : Scene) (ms : List Transition) (k i : ℕ) → slow_price w true ms (StaticData k) i ≡ touch_price w.board.prices false k (transition_at ms i).access
slow_here w ms k i =
    let touched = touch_is w.board.prices false (region_with w ms i) k (transition_at ms i).access in
    omega (arith, touched)

fast_here : (w : Scene) (ms : List Transition) (k i : ℕ) → fast_price w true ms (StaticData k) i ≡ touch_price w.board.prices true k (transition_at ms i).access
fast_here w ms k i =
    let touched = touch_is w.board.prices true (region_with w ms i) k (transition_at ms i).access in
    let none = no_jobs (not (region_before w ms i == region_with w ms i)) in
    omega (arith, touched, none)

steps_static : (w : Scene) (ms : List Transition) (k : ℕ) → Follows w ms → steps_energy w (taken true (StaticData k ∷ [])) ms + touches_price w ms false k ≡ steps_energy w (taken true []) ms + touches_price w ms true k
steps_static w ms k all =
    let n = length ms in
    let f = step_energy w (taken true (StaticData k ∷ [])) ms in
    let g = step_energy w (taken true []) ms in
    let slow = λ (i : ℕ). touch_price w.board.prices false k (transition_at ms i).access in
    let fast = λ (i : ℕ). touch_price w.board.prices true k (transition_at ms i).access in
    let same = sum_same (λ i. f i + slow i) (λ i. g i + fast i) n (λ i below.
    let step = step_more w true (StaticData k) [] ms i all below tt in
    let slow_is = slow_here w ms k i in
    let fast_is = fast_here w ms k i in
    omega (arith, step, slow_is, fast_is)) in
    let left = sum_two f slow n in
    let right = sum_two g fast n in
    omega (arith, same, left, right)

same_saving : (on_none on_with off_none off_with slow fast job stub : ℕ) → on_with + slow ≡ on_none + fast → off_with + slow ≡ off_none + fast → pos (stub + on_none) -ℤ pos (job + stub + on_with) ≡ pos (stub + off_none) -ℤ pos (job + stub + off_with)
same_saving on_none on_with off_none off_with slow fast job stub on off = omega (arith, ints, on, off)

pub static_gain_is : (w : Scene) (ms : List Transition) (k : ℕ) → Follows w ms → overlay_gain w ms (StaticData k) ≡ gain_alone w ms (StaticData k)
static_gain_is w ms k all =
    let on = steps_static w ms k all in
    let off = one_more w (StaticData k) [] ms all (tt, tt) in
    let stub = sum_by-cons (start_job w) (StaticData k) [] in
    let parts = same_saving (steps_energy w (taken true []) ms) (steps_energy w (taken true (StaticData k ∷ [])) ms) (steps_energy w nothing_taken ms) (steps_energy w (taken_alone (StaticData k)) ms)
    (touches_price w ms false k) (touches_price w ms true k) (start_job w (StaticData k)) (stub_energy w nothing_taken) on off in
    omega (arith, ints, parts, stub)

-- ---- an object for a pair of regions

pub kept_gain_is : OneInstruction → (view : ElfView) (board : Board) (g : Graph) (c : Code) (t : RegionTable) (q : Profile) (ms : List Transition) (pair o : ℕ) → Given view board g c t q ms → 1 ≤ pair → 2 * pair ≤ t.count → o < length g.objects.items → object_saves board.prices (object_of g o) (kept_counts q o pair) ≡ overlay_gain (scene_of g c t board) ms (KeptData pair o)
kept_gain_is one view board g c t q ms pair o given some within object =
    let law = kept_counted one view board g c t q ms pair o given some within object in
    omega (arith, ints, law)

-- ---- all candidates

module _ (one : OneInstruction) (view : ElfView) (m : Measured) (ms : List Transition) (given : AreOfSameFile view m.board.now m.graph.now m.code.now m.regions.now m.profile.now ms) where
  abbrev w : Scene
  w = scene_in m

  -- the gain of a candidate is counted
  abbrev IsGain : Candidate → Type 0
  IsGain candidate = gain_in m candidate ≡ overlay_gain w ms (name_of candidate)

  pub data_gain : (k : ℕ) → k < length m.graph.now.objects.items → IsGain (static_data (datum_of m.graph.now k))
  data_gain k below =
      gain_counted one view m.board.now m.graph.now m.code.now m.regions.now m.profile.now ms k given below
      ∙ sym (static_gain_is w ms k (follows one view m.board.now m.graph.now m.code.now m.regions.now m.profile.now ms given))

  rounds_are : (p : Piece) → IsPiece m.code.now m.graph.now p → p.bytes / 4 ≡ piece_rounds w (range p.first p.last)
  rounds_are p is = quarter p.bytes (copy_words (is_site m.graph.now) m.code.now.blocks.items (range p.first p.last)) is.bytes

  pub code_gain : (p : Piece) → IsPiece m.code.now m.graph.now p → IsGain (static_code (part_of w p))
  code_gain p is =
      ap (λ n. code_gain_in m p.first p.last (into_price m.board.now.prices n)) (rounds_are p is)
      ∙ static_piece_gain_is one view m.board.now m.graph.now m.code.now m.regions.now m.profile.now ms p.first p.last given

  pub region_code_gain : (r : ℕ) (p : Piece) → r ≤ m.regions.now.count → IsPiece m.code.now m.graph.now p → IsGain (overlay_code r (part_of w p))
  region_code_gain r p region is =
      ap (λ n. code_gain_in m p.first p.last (slice_index_or m.profile.now.enters.items r 0 * into_price m.board.now.prices n)) (rounds_are p is)
      ∙ region_piece_gain_is one view m.board.now m.graph.now m.code.now m.regions.now m.profile.now ms p.first p.last r given region

  pub region_data_gain : (r o : ℕ) → r ≤ m.regions.now.count → o < length m.graph.now.objects.items → IsGain (overlay_data r (datum_of m.graph.now o))
  region_data_gain r o region below =
      overlaid_gain_is one view m.board.now m.graph.now m.code.now m.regions.now m.profile.now ms r o given region below

  pub pair_data_gain : (pair o : ℕ) → 1 ≤ pair → 2 * pair ≤ m.regions.now.count → o < length m.graph.now.objects.items → IsGain (kept_data pair (datum_of m.graph.now o))
  pair_data_gain pair o some within below =
      kept_gain_is one view m.board.now m.graph.now m.code.now m.regions.now m.profile.now ms pair o given some within below
