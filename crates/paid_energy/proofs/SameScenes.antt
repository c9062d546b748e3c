-- The energy of a side as a placement has it is that of the choice: names are those that it takes, and without overlay no
-- region counts.
use Rattle.std.proofs.Common.{◌≡◌, ◌∙◌, ℕ, zero, suc, ◌+◌, ◌*◌, ◌<◌, Bool, true, false, ◌&&◌, ◌||◌, if◌then◌else◌, List, [], ◌∷◌, length, map, Option, Some, None, refl, sym, ap, subst, arith}
use Rattle.std.specs.Prelude.{All, IsSomeAnd, is_some}
use Rattle.std.specs.List.{sum_by}
use Rattle.std.proofs.lemmas.List.{get_or-map, length-map}
use Rattle.std.proofs.lemmas.List.Elements.{All-head, All-tail}
use Rattle.list_checks.specs.Sorted.{sum_below}
use Rattle.elf_reader.specs.File.{view_in}
use Rattle.board_config.specs.declared.board.Board.{Board}
use Rattle.object_graph.specs.declared.parts.Graph.{Graph}
use Rattle.code_blocks.specs.declared.parts.Code.{Code}
use Rattle.code_blocks.specs.declared.parts.Block.{Block}
use Rattle.region_former.specs.declared.table.RegionTable.{RegionTable}
use Rattle.block_splitter.specs.declared.block_range.BlockRange.{BlockRange}
use Rattle.block_splitter.specs.Forms.{Body, body_at, unit_in}
use Rattle.object_machine.specs.declared.events.Access.{Access}
use Rattle.placement_programme.specs.declared.variables.VarName.{VarName}
use Rattle.placement_programme.specs.declared.variables.VarName.TheVariants.{StaticData, StaticCode, OverlayData, OverlayCode, KeptData}
use Rattle.placement_programme.specs.Plain.{PlainProgramme, PlainChoice, PlainSide, PlainVar}
use Rattle.placement_programme.specs.Programme.{side_for, Fits, IsFeasible}
use Rattle.profile_runner.specs.Standing.{begins}
use Rattle.profile_runner.specs.Transition.{Transition, transition_at}
use Rattle.energy_model.specs.Energy.{Scene, Taken, starts_of, piece_of, block_at, unit_number, region_with, fetch_price, data_price, arrival_price, fence_words, brings, is_fast, is_fast_access, start_job, form_words, comes_from_outside, words_price, access_price, way_price, step_energy, steps_energy, stub_energy, side_energy}
use Rattle.energy_model.specs.Scenes.{scene_of}
use Rattle.placement_candidates.specs.Whole.{names_of, taken_of as names_taken}
use Rattle.placement_candidates.specs.Adding.{kept_name}
use Rattle.relocator.specs.declared.items.Item.{Item}
use Rattle.relocator.specs.declared.slots.Slot.{Slot}
use Rattle.relocator.specs.Slots.{items_of, items_in, vars_for, first_slots}
use Rattle.relocator.specs.Laws.{no_slot, slot_at}
use Rattle.relocator.proofs.WeightLemmas.{IsAmong}
use Rattle.result_laws.proofs.JobChosen.{among}
use Rattle.result_laws.specs.ChosenPlacement.{ChosenPlacement, slots_in}
use Rattle.result_laws.specs.PlacedLaws.{IsPlacedResult}
use Rattle.result_laws.proofs.Standing.{laid}
use Rattle.relink_core.specs.PlanLaws.{borders_on}
use Rattle.result_laws.specs.PlacementLaws.{regions_on}
use Rattle.relink_core.specs.Names.{name_of_slot}
use Rattle.relink_core.specs.Placed.{taken_of, IsPlacementFor}
use Rattle.relink_core.specs.Sides.{blocks_on}
use Rattle.relink_core.proofs.ChosenMade.{names_of_items}
use Rattle.paid_energy.specs.Inward.{inward_calls}
use Rattle.paid_energy.specs.WalkCosts.{placed_scene, placed_names, HasRegionsOfSide}

-- ---- names

items_named : (vars : List PlainVar) (take : List ℕ) → map (λ (i : Item). i.name) (items_in vars take) ≡ map (kept_name vars) take
items_named vars [] = refl
items_named vars (k ∷ ks) = ap (λ (xs : List VarName). kept_name vars k ∷ xs) (items_named vars ks)

side_named : (o : Option PlainSide) (take : List ℕ) → IsSomeAnd o (λ side. Fits side take) → map (λ (i : Item). i.name) (items_in (vars_for o) take) ≡ names_of o take
side_named None take fits = absurd fits
side_named (Some side) take fits = items_named side.vars take

-- what a choice takes is what its items are named
pub items_taken : (p : PlainProgramme) (choice : PlainChoice) → IsFeasible p choice → map (λ (i : Item). i.name) (items_of p choice) ≡ (names_taken p choice).names
items_taken p choice feasible = side_named (side_for p choice.on) choice.take feasible

module _ (board : Board) (p : PlainProgramme) (choice : PlainChoice) (feasible : IsFeasible p choice) (t : RegionTable) (pl : ChosenPlacement) (placed : IsPlacementFor t (taken_of p choice) pl) where
  names_same : (placed_names board pl).names ≡ (names_taken p choice).names
  names_same =
      names_of_items (first_slots board.spm.base (items_of pl.programme pl.choice)) (items_of pl.programme pl.choice)
      ∙ (ap (λ (items : List Item). map (λ (i : Item). i.name) items) placed.items ∙ items_taken p choice feasible)

  pub taken_same : placed_names board pl ≡ names_taken p choice
  taken_same = λ i. record { on = placed.side i; names = names_same i }

  pub sides_regions : HasRegionsOfSide pl
  sides_regions off =
      let on : choice.on ≡ false = sym placed.side ∙ off in (
        placed.count ∙ ap (λ (b : Bool). regions_on b t) on,
        (placed.regions ∙ ap (λ (b : Bool). blocks_on b t) on, placed.borders ∙ ap (λ (b : Bool). borders_on b t) on),
      )

-- ---- without overlay

-- a name of what stands in the scratchpad throughout
abbrev pub IsStatic : VarName → Type 0
IsStatic (StaticData o) = Prim.Unit {0}
IsStatic (StaticCode first last) = Prim.Unit {0}
IsStatic other = ⊥

among_static : (count : ℕ) (name : VarName) → count ≡ 0 → IsAmong count name → IsStatic name
among_static count (StaticData o) none is = tt
among_static count (StaticCode first last) none is = tt
among_static count (OverlayData r o) none is = let low = is.0 in let high = is.1 in absurd (omega (arith, none, low, high))
among_static count (OverlayCode r first last) none is = let low = is.0 in let high = is.1 in absurd (omega (arith, none, low, high))
among_static count (KeptData pair o) none is = let low = is.0 in let high = is.1 in absurd (omega (arith, none, low, high))

module _ (blocks : List Block) (graph : Graph) (board : Board) where
  abbrev Scened : List ℕ → List Bool → ℕ → Scene
  Scened regions borders count =
      record { blocks = blocks; graph = graph; regions = regions; borders = borders; region_count = count; board = board }

  module _ (regions other : List ℕ) (borders bounds : List Bool) (count many : ℕ) (names : List VarName) (static : All IsStatic names) (ts : List Transition) where
    abbrev w : Scene
    w = Scened regions borders count

    abbrev v : Scene
    v = Scened other bounds many

    abbrev c : Taken
    c = record { on = false; names = names }

    start_same : (name : VarName) → start_job w name ≡ start_job v name
    start_same (StaticData o) = refl
    start_same (StaticCode first last) = refl
    start_same (OverlayData r o) = refl
    start_same (OverlayCode r first last) = refl
    start_same (KeptData pair o) = refl

    brought_same : (o r s : ℕ) (name : VarName) → IsStatic name → brings o r name ≡ brings o s name
    brought_same o r s (StaticData object) is = refl
    brought_same o r s (StaticCode first last) is = refl
    brought_same o r s (OverlayData region object) is = absurd is
    brought_same o r s (OverlayCode region first last) is = absurd is
    brought_same o r s (KeptData pair object) is = absurd is

    fast_same : (o r s : ℕ) (xs : List VarName) → All IsStatic xs → is_fast xs o r ≡ is_fast xs o s
    fast_same o r s [] each = refl
    fast_same o r s (x ∷ xs) each =
        λ i. brought_same o r s x (All-head IsStatic x xs each) i || fast_same o r s xs (All-tail IsStatic x xs each) i

    access_same : (r s : ℕ) (o : Option Access) → is_fast_access names r o ≡ is_fast_access names s o
    access_same r s None = refl
    access_same r s (Some a) = fast_same a.object r s names static

    form_same : (piece : Option BlockRange) (b : Body) (k : ℕ) (m : Transition) → form_words piece w false b k m ≡ form_words piece v false b k m
    form_same None b k m = refl
    form_same (Some piece) b k m = refl

    outside_same : (piece : Option BlockRange) (i : ℕ) → comes_from_outside w piece ts i ≡ comes_from_outside v piece ts i
    outside_same None i = refl
    outside_same (Some piece) zero = refl
    outside_same (Some piece) (suc i) = refl

    abbrev block : ℕ → ℕ
    block i = block_at w ts i

    words_same : (i : ℕ) → words_price w c ts i ≡ words_price v c ts i
    words_same i =
        ap (λ (n : ℕ). n * fetch_price (piece_of names (block i)) board.prices)
        (form_same (piece_of names (block i)) (body_at blocks (block i)) (unit_number w ts i) (transition_at ts i))

    accesses_same : (i : ℕ) → access_price w c ts i ≡ access_price v c ts i
    accesses_same i =
        ap (λ (fast : Bool). if (transition_at ts i).goes_on then data_price board.prices fast (unit_in (body_at blocks (block i)) (unit_number w ts i)).instr else 0)
        (access_same (region_with w ts i) (region_with v ts i) (transition_at ts i).access)

    ways_same : (i : ℕ) → way_price w c ts i ≡ way_price v c ts i
    ways_same i =
        ap (λ (outside : Bool). if begins (starts_of w) ts i && outside then arrival_price board.prices (is_some (piece_of names (block i))) false else 0)
        (outside_same (piece_of names (block i)) i)

    step_same : (i : ℕ) → step_energy w c ts i ≡ step_energy v c ts i
    step_same i = λ t. words_same i t + accesses_same i t + ways_same i t + 0

    steps_same : steps_energy w c ts ≡ steps_energy v c ts
    steps_same = ap (λ (f : ℕ → ℕ). sum_below f (length ts)) (λ t i. step_same i t)

    stub_same : stub_energy w c ≡ stub_energy v c
    stub_same =
        ap (λ (f : VarName → ℕ). sum_by f names + (5 + fence_words board) * board.prices.main_fetch) (λ t name. start_same name t)

    pub side_same : side_energy w c ts ≡ side_energy v c ts
    side_same = λ t. stub_same t + steps_same t

    pub inward_same : (code : Code) → inward_calls w code c ts ≡ inward_calls v code c ts
    inward_same code = refl

-- ---- the whole

module _ (file out : List ℕ) (board : Board) (g : Graph) (c : Code) (pl : ChosenPlacement) (result : IsPlacedResult file out board g c pl) (p : PlainProgramme) (choice : PlainChoice) (feasible : IsFeasible p choice) (t : RegionTable) (placed : IsPlacementFor t (taken_of p choice) pl) (ts : List Transition) where
  abbrev slots : List Slot
  slots = slots_in board pl

  abbrev here : Scene
  here = placed_scene board g c pl

  abbrev there : Scene
  there = scene_of g c t board

  static : pl.choice.on ≡ false → All IsStatic (map name_of_slot slots)
  static off k d below =
      let count = length-map slots name_of_slot in
      let inside : k < length slots = omega (arith, below, count) in
      subst IsStatic (sym (get_or-map name_of_slot slots k no_slot d inside))
      (among_static pl.count (slot_at slots k).name (sides_regions board p choice feasible t pl placed off).0
      (among (view_in file) g pl.count board pl.programme pl.choice (laid file out board g c pl result) result.placement.can k inside))

  same_taken : placed_names board pl ≡ names_taken p choice
  same_taken = taken_same board p choice feasible t pl placed

  with_overlay : pl.choice.on ≡ true → here ≡ there
  with_overlay is =
      let on : choice.on ≡ true = sym placed.side ∙ is in
      let regions : pl.regions ≡ t.of_block.items = placed.regions ∙ ap (λ (b : Bool). blocks_on b t) on in
      let borders : pl.borders ≡ t.border.items = placed.borders ∙ ap (λ (b : Bool). borders_on b t) on in
      let count : pl.count ≡ t.count = placed.count ∙ ap (λ (b : Bool). regions_on b t) on in
      λ i. record {
        blocks = c.blocks.items;
        graph = g;
        regions = regions i;
        borders = borders i;
        region_count = count i;
        board = board;
      }

  abbrev off_taken : Taken
  off_taken = record { on = false; names = map name_of_slot slots }

  without : pl.choice.on ≡ false → placed_names board pl ≡ off_taken
  without off = λ i. record { on = off i; names = map name_of_slot slots }

  by_side : (f : Scene → Taken → ℕ) → (pl.choice.on ≡ false → f here off_taken ≡ f there off_taken) → f here (placed_names board pl) ≡ f there (names_taken p choice)
  by_side f same = by_on pl.choice.on refl
    where
      by_on : (on : Bool) → pl.choice.on ≡ on → f here (placed_names board pl) ≡ f there (names_taken p choice)
      by_on true is = λ i. f (with_overlay is i) (same_taken i)
      by_on false off = ap (f here) (without off) ∙ (same off ∙ ap (f there) (sym (without off) ∙ same_taken))

  pub energy_same : side_energy here (placed_names board pl) ts ≡ side_energy there (names_taken p choice) ts
  energy_same =
      by_side (λ (w : Scene) (taken : Taken). side_energy w taken ts)
      (λ off. side_same c.blocks.items g board pl.regions t.of_block.items pl.borders t.border.items pl.count t.count (map name_of_slot slots) (static off) ts)

  pub calls_same : inward_calls here c (placed_names board pl) ts ≡ inward_calls there c (names_taken p choice) ts
  calls_same =
      by_side (λ (w : Scene) (taken : Taken). inward_calls w c taken ts)
      (λ off.
      inward_same c.blocks.items g board pl.regions t.of_block.items pl.borders t.border.items pl.count t.count (map name_of_slot slots) (static off) ts c)
