-- Runs on several inputs: what they state one by one, and the first that meets an address fault.
use Rattle.std.proofs.Common.{◌≡◌, ◌∙◌, ℕ, zero, suc, ◌+◌, ◌<◌, ◌≤◌, List, [], ◌∷◌, ◌++◌, length, map, take, drop, slice_index_or, refl, sym, ap, subst, arith, Err}
use Rattle.std.specs.List.{All}
use Rattle.std.proofs.lemmas.List.{length-map, length-take-le, map-append, take_more, take-append-drop, drop_more}
use Rattle.std.proofs.lemmas.List.Elements.{All-nil, All-cons, All-head, All-tail}
use Rattle.elf_reader.specs.File.{PlainView, plain_view}
use Rattle.elf_reader.specs.declared.view.ElfView.{ElfView}
use Rattle.board_config.specs.declared.board.Board.{Board}
use Rattle.object_graph.specs.declared.parts.Graph.{Graph}
use Rattle.code_blocks.specs.declared.parts.Code.{Code}
use Rattle.block_splitter.specs.declared.piece.Piece.{Piece}
use Rattle.region_former.specs.declared.table.RegionTable.{RegionTable}
use Rattle.rv32im.proofs.Meaning.{same_instruction}
use Rattle.placement_programme.specs.Plain.{PlainFull, PlainProgramme}
use Rattle.placement_programme.specs.Rows.{Layout}
use Rattle.profile_runner.specs.declared.fault.ProfileFault.{ProfileFault}
use Rattle.profile_runner.specs.declared.fault.ProfileFault.TheVariants.{Memory}
use Rattle.energy_model.specs.Energy.{Scene}
use Rattle.energy_model.specs.Scenes.{scene_of}
use Rattle.placement_candidates.specs.Stated.{AreSomePieces}
use Rattle.placement_candidates.specs.Selected.{selected}
use Rattle.placement_candidates.specs.Overlaid.{AreOverlaidObjects, overlay_layout}
use Rattle.placement_candidates.specs.Parts.{PlainPart, IsMix, IsSmallPart, CanMix}
use Rattle.placement_candidates.specs.OneMore.{CanAdd}
use Rattle.placement_candidates.specs.Mixed.{WeightedRun, mixed_stated, EnergiesAreMixed}
use Rattle.placement_candidates.specs.MixLaws.{IsOneOf, part_of_run}
use Rattle.placement_candidates.proofs.RunLemmas.{runs_can_mix, mixed_of_the_runs}
use Rattle.placement_candidates.proofs.EnergyLemmas.{energies_are_mixed}
use Rattle.relinking.specs.Runs.{ReportsCounts}
use Rattle.relinking.specs.MixOfRuns.{WeightedInput, plain_input, AreSomeInputs, AreRunsOn, IsPartOf, ArePartsOf, AreMixed, StatesTogether, FaultsFirst}
use Rattle.relinking.specs.declared.mixing.WeightedBytes.{WeightedBytes}
use Rattle.relinking.proofs.Counting.{no_memory}

-- ---- inputs, as they are taken one by one

inputs_more : (inputs : List WeightedBytes) (k : ℕ) (d : WeightedBytes) → k < length inputs → map plain_input (take (k + 1) inputs) ≡ map plain_input (take k inputs) ++ plain_input (slice_index_or inputs k d) ∷ []
inputs_more inputs k d below =
    ap (λ (is : List WeightedBytes). map plain_input is) (take_more inputs k d below) ∙ map-append plain_input (take k inputs) (slice_index_or inputs k d ∷ [])

split_inputs : (inputs : List WeightedBytes) (k : ℕ) (d : WeightedBytes) → k < length inputs → map plain_input inputs ≡ map plain_input (take k inputs) ++ plain_input (slice_index_or inputs k d) ∷ map plain_input (drop (k + 1) inputs)
split_inputs inputs k d below =
    ap (λ (is : List WeightedBytes). map plain_input is) (sym (take-append-drop k inputs) ∙ ap (λ (is : List WeightedBytes). take k inputs ++ is) (drop_more inputs k d below))
    ∙ map-append plain_input (take k inputs) (slice_index_or inputs k d ∷ drop (k + 1) inputs)

-- the first of some inputs are some
some_taken : (inputs : List WeightedBytes) (k : ℕ) → k < length inputs → AreSomeInputs (map plain_input inputs) → AreSomeInputs (map plain_input (take (k + 1) inputs))
some_taken inputs k below some =
    let taken = length-map (take (k + 1) inputs) plain_input in
    let count = length-take-le (k + 1) inputs (omega (arith, below)) in
    let whole = length-map inputs plain_input in
    let few = some.few in
    record {
      some = omega (arith, taken, count);
      few = omega (arith, taken, count, below, whole, few);
      weights = λ j d inside.
          subst (λ (i : WeightedInput). (1 ≤ i.weight) × (i.weight ≤ 1000)) (sym (same_place inputs (k + 1) j d (omega (arith, taken, count, inside))))
          (some.weights j d (omega (arith, taken, count, inside, whole, below)));
    }
  where
    same_place : (is : List WeightedBytes) (n j : ℕ) (d : WeightedInput) → j < n → slice_index_or (map plain_input (take n is)) j d ≡ slice_index_or (map plain_input is) j d
    same_place [] zero j d less = absurd (omega (arith, less))
    same_place [] (suc n) j d less = refl
    same_place (i ∷ is) zero j d less = absurd (omega (arith, less))
    same_place (i ∷ is) (suc n) zero d less = refl
    same_place (i ∷ is) (suc n) (suc j) d less = same_place is n j d (omega (arith, less))

pub any_input : (inputs : List WeightedBytes) → AreSomeInputs (map plain_input inputs) → 0 < length inputs
any_input inputs are =
    let some = are.some in
    let count = length-map inputs plain_input in
    omega (arith, some, count)

-- ---- parts

module _ (view : ElfView) (board : Board) (g : Graph) (c : Code) (t : RegionTable) (pieces : List Piece) (objects : List ℕ) where
  abbrev w : Scene
  w = scene_of g c t board

  abbrev l : Layout
  l = overlay_layout g c t board

  abbrev Part : WeightedInput → PlainPart → Type 0
  Part i p = IsPartOf view board g c t pieces objects i p

  abbrev Parts : List WeightedInput → List PlainPart → Type 0
  Parts is ps = ArePartsOf view board g c t pieces objects is ps

  parts_more : (is : List WeightedInput) (ps : List PlainPart) (i : WeightedInput) (p : PlainPart) → Parts is ps → Part i p → Parts (is ++ i ∷ []) (ps ++ p ∷ [])
  parts_more [] [] i p are here = (here, tt)
  parts_more [] (q ∷ ps) i p are here = absurd are
  parts_more (j ∷ is) [] i p are here = absurd are
  parts_more (j ∷ is) (q ∷ ps) i p are here = (are.0, parts_more is ps i p are.1 here)

  pub part_more : (inputs : List WeightedBytes) (k : ℕ) (d : WeightedBytes) (ps new : List PlainPart) (p : PlainPart) → k < length inputs → Parts (map plain_input (take k inputs)) ps → Part (plain_input (slice_index_or inputs k d)) p → new ≡ ps ++ p ∷ [] → Parts (map plain_input (take (k + 1) inputs)) new
  part_more inputs k d ps new p below are here grown =
      let more = parts_more (map plain_input (take k inputs)) ps (plain_input (slice_index_or inputs k d)) p are here in
      subst (λ (qs : List PlainPart). Parts (map plain_input (take (k + 1) inputs)) qs) (sym grown)
      (subst (λ (is : List WeightedInput). Parts is (ps ++ p ∷ [])) (sym (inputs_more inputs k d below)) more)

  -- the runs of which they are parts
  runs_of : (is : List WeightedInput) (ps : List PlainPart) → Parts is ps → List WeightedRun
  runs_of [] [] are = []
  runs_of [] (p ∷ ps) are = absurd are
  runs_of (i ∷ is) [] are = absurd are
  runs_of (i ∷ is) (p ∷ ps) are =
      record { weight = i.weight; transitions = are.0.states.transitions } ∷ runs_of is ps are.1

  are_runs : (is : List WeightedInput) (ps : List PlainPart) (are : Parts is ps) → AreRunsOn (plain_view view) board g is (runs_of is ps are)
  unfolding runs_of
  are_runs [] [] are = tt
  are_runs [] (p ∷ ps) are = absurd are
  are_runs (i ∷ is) [] are = absurd are
  are_runs (i ∷ is) (p ∷ ps) are = (refl, are.0.states.runs, are_runs is ps are.1)

  each_one : (is : List WeightedInput) (ps : List PlainPart) (are : Parts is ps) → All (IsOneOf view board g c t) (runs_of is ps are)
  unfolding runs_of
  each_one [] [] are = All-nil (IsOneOf view board g c t)
  each_one [] (p ∷ ps) are = absurd are
  each_one (i ∷ is) [] are = absurd are
  each_one (i ∷ is) (p ∷ ps) are =
      All-cons (IsOneOf view board g c t) (record { weight = i.weight; transitions = are.0.states.transitions }) (runs_of is ps are.1)
      (are.0.profile, are.0.states.same) (each_one is ps are.1)

  parts_are : (is : List WeightedInput) (ps : List PlainPart) (are : Parts is ps) → ps ≡ map (part_of_run w l objects pieces) (runs_of is ps are)
  unfolding runs_of
  parts_are [] [] are = refl
  parts_are [] (p ∷ ps) are = absurd are
  parts_are (i ∷ is) [] are = absurd are
  parts_are (i ∷ is) (p ∷ ps) are =
      let weight = are.0.weight in
      let full = are.0.states.full_is.is in
      let rest = parts_are is ps are.1 in
      λ k. record { weight = weight k; full = full k } ∷ rest k

  run_count : (is : List WeightedInput) (ps : List PlainPart) (are : Parts is ps) → length (runs_of is ps are) ≡ length is
  unfolding runs_of
  run_count [] [] are = refl
  run_count [] (p ∷ ps) are = absurd are
  run_count (i ∷ is) [] are = absurd are
  run_count (i ∷ is) (p ∷ ps) are = let rest = run_count is ps are.1 in omega (arith, rest)

  abbrev Weighs : WeightedInput → Type 0
  Weighs i = (1 ≤ i.weight) × (i.weight ≤ 1000)

  parts_small : (is : List WeightedInput) (ps : List PlainPart) → Parts is ps → All Weighs is → All IsSmallPart ps
  parts_small [] [] are weigh = All-nil IsSmallPart
  parts_small [] (p ∷ ps) are weigh = absurd are
  parts_small (i ∷ is) [] are weigh = absurd are
  parts_small (i ∷ is) (p ∷ ps) are weigh =
      let here = All-head Weighs i is weigh in
      let least = here.0 in
      let most = here.1 in
      let weight = are.0.weight in
      let full = are.0.states.full_is in
      All-cons IsSmallPart p ps
      (record { some = omega (arith, least, weight); most = omega (arith, most, weight); base = full.base_small; off = full.off_small; on = full.on_small })
      (parts_small is ps are.1 (All-tail Weighs i is weigh))

  pub can_mix : (is : List WeightedInput) (ps : List PlainPart) → AreSomeInputs is → Parts is ps → CanMix ps
  can_mix is ps inputs are =
      let runs = runs_of is ps are in
      let count = run_count is ps are in
      let some = inputs.some in
      let few = inputs.few in
      let same = parts_are is ps are in
      subst (λ (xs : List PlainPart). CanMix xs) (sym same)
      (runs_can_mix w l objects pieces runs (omega (arith, count, some)) (omega (arith, count, few))
      (subst (λ (xs : List PlainPart). All IsSmallPart xs) same (parts_small is ps are inputs.weights)))

  parts_count : (is : List WeightedInput) (ps : List PlainPart) → Parts is ps → length ps ≡ length is
  parts_count [] [] are = refl
  parts_count [] (p ∷ ps) are = absurd are
  parts_count (i ∷ is) [] are = absurd are
  parts_count (i ∷ is) (p ∷ ps) are = let rest = parts_count is ps are.1 in omega (arith, rest)

  abbrev Mixed : List WeightedInput → PlainFull → Type 0
  Mixed is f = AreMixed view board g c t pieces objects is f

  -- the first input alone
  pub mixed_first : (inputs : List WeightedBytes) (d : WeightedBytes) (p : PlainPart) (f : PlainFull) → 0 < length inputs → Part (plain_input (slice_index_or inputs 0 d)) p → IsMix (p ∷ []) f → Mixed (map plain_input (take 1 inputs)) f
  mixed_first inputs d p f below here mix =
      record { parts = p ∷ []; are = part_more inputs 0 d [] (p ∷ []) p below tt here refl; mix = mix }

  pub first_can_mix : (inputs : List WeightedBytes) (d : WeightedBytes) (p : PlainPart) → 0 < length inputs → AreSomeInputs (map plain_input inputs) → Part (plain_input (slice_index_or inputs 0 d)) p → CanMix (p ∷ [])
  first_can_mix inputs d p below some here =
      can_mix (map plain_input (take 1 inputs)) (p ∷ []) (some_taken inputs 0 below some) (part_more inputs 0 d [] (p ∷ []) p below tt here refl)

  -- one input more
  parts_some : (inputs : List WeightedBytes) (k : ℕ) (f : PlainFull) → 1 ≤ k → k < length inputs → (m : Mixed (map plain_input (take k inputs)) f) → 1 ≤ length m.parts
  parts_some inputs k f some below m =
      let count = parts_count (map plain_input (take k inputs)) m.parts m.are in
      let taken = length-map (take k inputs) plain_input in
      let few = length-take-le k inputs (omega (arith, below)) in
      omega (arith, some, count, taken, few)

  can_more : (inputs : List WeightedBytes) (k : ℕ) (d : WeightedBytes) (f : PlainFull) (p : PlainPart) → k < length inputs → AreSomeInputs (map plain_input inputs) → (m : Mixed (map plain_input (take k inputs)) f) → Part (plain_input (slice_index_or inputs k d)) p → CanMix (m.parts ++ p ∷ [])
  can_more inputs k d f p below inputs_are m here =
      can_mix (map plain_input (take (k + 1) inputs)) (m.parts ++ p ∷ []) (some_taken inputs k below inputs_are) (part_more inputs k d m.parts (m.parts ++ p ∷ []) p below m.are here refl)

  pub can_add : (inputs : List WeightedBytes) (k : ℕ) (d : WeightedBytes) (f : PlainFull) (p : PlainPart) → 1 ≤ k → k < length inputs → AreSomeInputs (map plain_input inputs) → Mixed (map plain_input (take k inputs)) f → Part (plain_input (slice_index_or inputs k d)) p → CanAdd f p
  can_add inputs k d f p some below inputs_are m here =
      record { parts = m.parts; some = parts_some inputs k f some below m; is = m.mix; can = can_more inputs k d f p below inputs_are m here }

  pub mixed_more : (inputs : List WeightedBytes) (k : ℕ) (d : WeightedBytes) (f new : PlainFull) (p : PlainPart) → 1 ≤ k → k < length inputs → AreSomeInputs (map plain_input inputs) → Mixed (map plain_input (take k inputs)) f → Part (plain_input (slice_index_or inputs k d)) p → ((ps : List PlainPart) → 1 ≤ length ps → IsMix ps f → CanMix (ps ++ p ∷ []) → IsMix (ps ++ p ∷ []) new) → Mixed (map plain_input (take (k + 1) inputs)) new
  mixed_more inputs k d f new p some below inputs_are m here more =
      record {
        parts = m.parts ++ p ∷ [];
        are = part_more inputs k d m.parts (m.parts ++ p ∷ []) p below m.are here refl;
        mix = more m.parts (parts_some inputs k f some below m) m.mix (can_more inputs k d f p below inputs_are m here);
      }

  -- their mix is what they state together
  pub together : (is : List WeightedInput) (ps : List PlainPart) (f : PlainFull) (p : PlainProgramme) → AreSomeInputs is → Parts is ps → AreSomePieces c g pieces → AreOverlaidObjects c g t objects → IsMix ps f → p ≡ selected f → StatesTogether (plain_view view) board g c t pieces is p
  together is ps f p inputs are some_pieces overlaid mix is_selected =
      let runs = runs_of is ps are in
      let count = run_count is ps are in
      let some = inputs.some in
      let each = each_one is ps are in
      let full = mixed_of_the_runs same_instruction view board g c t objects pieces runs f each (omega (arith, count, some))
      (subst (λ (xs : List PlainPart). IsMix xs f) (parts_are is ps are) mix) in
      let programme : p ≡ mixed_stated w l objects pieces runs = is_selected ∙ ap selected full in
      record {
        runs = runs;
        are_runs = are_runs is ps are;
        overlaid = objects;
        are_overlaid = overlaid;
        programme_is = programme;
        energies = subst (λ (q : PlainProgramme). EnergiesAreMixed w runs q) (sym programme) (energies_are_mixed same_instruction view board g c t objects pieces runs each some_pieces overlaid);
      }

  -- ---- the first address fault

  pub faults_there : (inputs : List WeightedBytes) (k : ℕ) (d : WeightedBytes) (ps : List PlainPart) (fault : ProfileFault) → k < length inputs → Parts (map plain_input (take k inputs)) ps → ReportsCounts (plain_view view) board g c t (plain_input (slice_index_or inputs k d)).bytes (Err fault) → FaultsFirst (plain_view view) board g c t (map plain_input inputs) fault
  faults_there inputs k d ps fault below are faults =
      record {
        before = map plain_input (take k inputs);
        one = plain_input (slice_index_or inputs k d);
        after = map plain_input (drop (k + 1) inputs);
        inputs_are = split_inputs inputs k d below;
        earlier_runs = runs_of (map plain_input (take k inputs)) ps are;
        earlier = are_runs (map plain_input (take k inputs)) ps are;
        faults = faults;
      }

-- where no memory was left
pub no_memory_first : (v : PlainView) (board : Board) (g : Graph) (c : Code) (t : RegionTable) (inputs : List WeightedInput) → AreSomeInputs inputs → FaultsFirst v board g c t inputs Memory
no_memory_first v board g c t [] are = let some = are.some in absurd (omega (arith, some))
no_memory_first v board g c t (i ∷ is) are =
    record { before = []; one = i; after = is; inputs_are = refl; earlier_runs = []; earlier = tt; faults = no_memory v board g c t i.bytes }
