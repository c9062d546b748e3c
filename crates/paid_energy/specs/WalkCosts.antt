-- What the words and accesses of a walk cost: the modelled energy of the steps beside which they run.
use Rattle.std.specs.Prelude.{◌≡◌, ℕ, false, List, [], ◌++◌, map}
use Rattle.elf_reader.specs.File.{view_in}
use Rattle.board_config.specs.declared.board.Board.{Board}
use Rattle.flat_machine.specs.declared.events.FlatEvent.{FlatEvent}
use Rattle.flat_machine.specs.State.{State}
use Rattle.object_graph.specs.declared.parts.Graph.{Graph}
use Rattle.code_blocks.specs.Blocks.{IsCode}
use Rattle.code_blocks.specs.declared.parts.Code.{Code}
use Rattle.object_machine.specs.declared.events.Outcome.TheVariants.{Exited}
use Rattle.object_machine.specs.State.{SourceState}
use Rattle.profile_runner.specs.Transition.{Transition}
use Rattle.profile_runner.specs.Transitions.{Transitions}
use Rattle.energy_model.specs.Energy.{Scene, Taken, nothing_taken, steps_energy, side_energy}
use Rattle.patch_code.specs.Overlay.{OverlayPlan}
use Rattle.result_laws.specs.HomeLaws.{IsAccepted, program_in, source_start}
use Rattle.result_laws.specs.ChosenPlacement.{ChosenPlacement, slots_in}
use Rattle.relink_core.specs.Names.{name_of_slot}
use Rattle.result_laws.specs.PlacedLaws.{IsPlacedResult}
use Rattle.result_laws.specs.Walks.{IsNoFault, PlacedWalk}
use Rattle.paid_energy.specs.Costs.{run_cost}
use Rattle.paid_energy.specs.Inward.{inward_calls}
use Rattle.paid_energy.specs.HomeWalks.{HomeWalks}

-- ---- what a placement is about, as energies are counted

abbrev pub placed_scene : Board → Graph → Code → ChosenPlacement → Scene
placed_scene board g c pl =
    record { blocks = c.blocks.items; graph = g; regions = pl.regions; borders = pl.borders; region_count = pl.count; board = board }

abbrev pub placed_names : Board → ChosenPlacement → Taken
placed_names board pl = record { on = pl.choice.on; names = map name_of_slot (slots_in board pl) }

-- without overlay there is no region
abbrev pub HasRegionsOfSide : ChosenPlacement → Type 0
HasRegionsOfSide pl = pl.choice.on ≡ false → (pl.count ≡ 0) × ((pl.regions ≡ []) × (pl.borders ≡ []))

-- ---- walks

-- all events of a walk: those of the start stub, of the way to the entry, and of the steps
abbrev pub walk_events : (file out : List ℕ) (board : Board) (g : Graph) (c : Code) (pl : ChosenPlacement) (plan : OverlayPlan) (input : List ℕ) (n : ℕ) (s : SourceState) → PlacedWalk file out board g c pl plan input n s → List FlatEvent
walk_events file out board g c pl plan input n s walk = walk.begins.events ++ (walk.entering ++ walk.events)

-- Where the program exits and makes no inward call, they cost the energy of the run with what is taken
abbrev pub WalkCostsEnergy : Type 0
WalkCostsEnergy =
    (file out : List ℕ) (board : Board) (g : Graph) (c : Code) (pl : ChosenPlacement) (result : IsPlacedResult file out board g c pl)
    (input : List ℕ) (n code : ℕ) (s : SourceState) (transitions : List Transition)
    (walk : PlacedWalk file out board g c pl result.view.plan input n s)
    → HasRegionsOfSide pl
    → Transitions (program_in file board g) n (source_start file board g input) transitions s → s.outcome ≡ Exited code
    → inward_calls (placed_scene board g c pl) c (placed_names board pl) transitions ≡ 0
    → run_cost board (walk_events file out board g c pl result.view.plan input n s walk)
    ≡ side_energy (placed_scene board g c pl) (placed_names board pl) transitions

-- at home the cost is the energy with nothing taken, also where the program goes on or traps, by any regions
abbrev pub HomeCostsEnergy : Type 0
HomeCostsEnergy =
    (file : List ℕ) (board : Board) (g : Graph) (c : Code) (input : List ℕ) (w : Scene) (n : ℕ) (s : SourceState) (t : State) (transitions : List Transition) (es : List FlatEvent)
    → IsAccepted file board g → IsCode (view_in file) c → w.blocks ≡ c.blocks.items → w.graph ≡ g → w.board ≡ board
    → HomeWalks file board g n (source_start file board g input) s t es
    → Transitions (program_in file board g) n (source_start file board g input) transitions s → IsNoFault s.outcome
    → run_cost board es ≡ steps_energy w nothing_taken transitions
