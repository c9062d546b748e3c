-- The forms of a walk's units, the words between them and the regions, as the blocks and edges of its run are counted.
use Rattle.std.specs.Prelude.{◌≡◌, ℕ, suc, ◌+◌, ◌==◌, Bool, true, false, ◌&&◌, ◌||◌, if◌then◌else◌, List, [], ◌∷◌, Option, Some, None, is_some}
use Rattle.rv32im.specs.Acts.{Registers}
use Rattle.rv32im.specs.declared.instructions.Instr.{Instr}
use Rattle.board_config.specs.declared.board.Board.{Board}
use Rattle.flat_machine.specs.declared.events.FlatEvent.{FlatEvent}
use Rattle.flat_machine.specs.Lines.{words_from}
use Rattle.flat_machine.specs.State.{State}
use Rattle.object_graph.specs.declared.parts.Graph.{Graph}
use Rattle.code_blocks.specs.Numbers.{end_at}
use Rattle.code_blocks.specs.declared.parts.Code.{Code}
use Rattle.block_splitter.specs.declared.block_range.BlockRange.{BlockRange}
use Rattle.block_splitter.specs.declared.unit_kind.UnitKind.{UnitKind}
use Rattle.block_splitter.specs.declared.unit_kind.UnitKind.TheVariants.{Plain}
use Rattle.block_splitter.specs.Forms.{is_last, is_site, kind_of, body_at, fall_out_size}
use Rattle.block_splitter.specs.Copies.{is_inside, kind_in, address_of}
use Rattle.result_laws.specs.Kinds.{takes}
use Rattle.result_laws.specs.CopyLaws.{place_behind}
use Rattle.object_machine.specs.declared.events.Outcome.TheVariants.{GoesOn}
use Rattle.object_machine.specs.State.{SourceState}
use Rattle.object_machine.specs.Step.{next_state}
use Rattle.profile_runner.specs.Standing.{begins}
use Rattle.profile_runner.specs.Transition.{Transition, transition_at}
use Rattle.profile_runner.specs.Transitions.{Transitions}
use Rattle.energy_model.specs.Energy.{Scene, Taken, starts_of, piece_of, is_checked, block_at, unit_number, region_before, region_with, comes_from_outside}
use Rattle.patch_code.specs.Overlay.{OverlayPlan}
use Rattle.patch_code.specs.Served.{body_at as stub_body}
use Rattle.result_laws.specs.HomeLaws.{program_in, unnamed_in, source_start}
use Rattle.result_laws.specs.LiveUnits.{StandsThere}
use Rattle.result_laws.specs.ChosenPlacement.{ChosenPlacement, copy_in}
use Rattle.result_laws.specs.ChosenPlacement.{piece_of as placed_piece}
use Rattle.result_laws.specs.PlacedLaws.{IsPlacedResult}
use Rattle.result_laws.specs.PlacedForms.{StandsAs, AtHome, InCopy, InStub, ArrivesAt, AtForm, AtItsHome, BehindCopy, BehindStub}
use Rattle.result_laws.specs.Walks.{leaving_fetched, BlockEntered, Bare, ByStub, Enters, ArrivalRuns, StepRuns, On, Ends, Walks, NoSteps, Ended, Step, PlacedWalk}
use Rattle.paid_energy.specs.Inward.{inward_calls}
use Rattle.paid_energy.specs.Leading.{falls_behind}
use Rattle.paid_energy.specs.WalkCosts.{placed_scene, placed_names, HasRegionsOfSide}

-- ---- which form

-- A unit is in a copy where its block is of a piece that is taken, and there at the place of the block and the unit that are
-- counted. Else it is displaced where it begins a block that is checked, and else at home
abbrev pub StandsAsCounted : (c : Code) (g : Graph) (pl : ChosenPlacement) (plan : OverlayPlan) (piece : Option BlockRange) (checked : Bool) (b k u a : ℕ) → StandsAs c g pl plan u a → Type 0
StandsAsCounted c g pl plan piece checked b k _ _ (AtHome u d j there bare) =
    (piece ≡ None) × ((checked && (k == 0) ≡ false) × ((d ≡ b) × (j ≡ k)))
StandsAsCounted c g pl plan piece checked b k _ _ (InCopy u n d j inside held there) =
    (piece ≡ Some (placed_piece pl n).range) × ((d ≡ b) × (j ≡ k))
StandsAsCounted c g pl plan piece checked b k _ _ (InStub u d stub there listed serves uncopied) =
    (piece ≡ None) × ((checked ≡ true) × ((d ≡ b) × (k ≡ 0)))

-- the unit of transition `i` stands so while a region is current
pub record IsCountedUnit (board : Board) (c : Code) (g : Graph) (pl : ChosenPlacement) (plan : OverlayPlan) (transitions : List Transition) (i r u a : ℕ) (stands : StandsAs c g pl plan u a) : Type 0 where
  pub at : (transition_at transitions i).at ≡ u
  pub region : r ≡ region_with (placed_scene board g c pl) transitions i
  pub there : StandsThere c u (block_at (placed_scene board g c pl) transitions i) (unit_number (placed_scene board g c pl) transitions i)
  pub form : StandsAsCounted c g pl plan
      (piece_of (placed_names board pl).names (block_at (placed_scene board g c pl) transitions i))
      (is_checked (placed_scene board g c pl) (placed_names board pl) (block_at (placed_scene board g c pl) transitions i))
      (block_at (placed_scene board g c pl) transitions i) (unit_number (placed_scene board g c pl) transitions i) u a stands

-- ---- which way

-- a pad runs before transition `i`: this begins a block that is copied or checked, to which control comes from outside
abbrev pub has_way : Scene → Taken → List Transition → ℕ → Bool
has_way w taken transitions i =
    begins (starts_of w) transitions i
    && (comes_from_outside w (piece_of taken.names (block_at w transitions i)) transitions i
    && (is_some (piece_of taken.names (block_at w transitions i)) || is_checked w taken (block_at w transitions i)))

-- a pad runs where control comes to a unit
abbrev pub enters_by_stub : (c : Code) (g : Graph) (pl : ChosenPlacement) (plan : OverlayPlan) (from v to : ℕ) (es : List FlatEvent) → BlockEntered c g pl plan from v to es → Bool
enters_by_stub c g pl plan from v _ _ (Bare form) = false
enters_by_stub c g pl plan from v _ _ (ByStub b to stub pad passed body below starts listed serves pad_is passes body_is) = true

abbrev pub arrives_by_stub : (c : Code) (g : Graph) (pl : ChosenPlacement) (plan : OverlayPlan) (from v a to : ℕ) (es : List FlatEvent) (at : ArrivesAt c g pl plan from v a) → Enters c g pl plan from v a to es at → Bool
arrives_by_stub c g pl plan from v _ to es (AtForm a at) enters = false
arrives_by_stub c g pl plan from v _ to es (AtItsHome home) enters = enters_by_stub c g pl plan from v to es enters
arrives_by_stub c g pl plan from v _ to es (BehindCopy n b d inside held runs falls leaves below starts) enters =
    enters_by_stub c g pl plan from v to es enters
arrives_by_stub c g pl plan from v _ to es (BehindStub u b stub there listed serves uncopied plain is home) enters =
    enters_by_stub c g pl plan from v to es enters

-- the flat machine comes so to the unit of transition `i`
pub record IsCountedArrival (file out : List ℕ) (board : Board) (g : Graph) (c : Code) (pl : ChosenPlacement) (plan : OverlayPlan) (transitions : List Transition) (i : ℕ) (s : SourceState) (t : State) (es : List FlatEvent) (arrival : ArrivalRuns file out board g c pl plan s t es) : Type 0 where
  pub from : arrival.from ≡ region_before (placed_scene board g c pl) transitions i
  pub to : arrival.to ≡ region_with (placed_scene board g c pl) transitions i
  pub way : arrives_by_stub c g pl plan arrival.from s.pc t.hart.pc arrival.to arrival.entering arrival.at arrival.enters
      ≡ has_way (placed_scene board g c pl) (placed_names board pl) transitions i

-- ---- which words lead home

abbrev pub leaving_stub : ℕ → UnitKind → List ℕ
leaving_stub at Plain = (at + 4) ∷ []
leaving_stub at kind = []

-- behind the last unit of a copied block from which control falls out of the piece, and behind a displaced unit that doesn't jump
abbrev pub leaving_of : (c : Code) (g : Graph) (pl : ChosenPlacement) (plan : OverlayPlan) (regs : Registers) (u a : ℕ) → StandsAs c g pl plan u a → List ℕ
leaving_of c g pl plan regs _ _ (AtHome u b k there bare) = []
leaving_of c g pl plan regs _ _ (InCopy u n b k inside held there) =
    if is_last (body_at c.blocks.items b) k && falls_behind (takes (kind_in (copy_in c g pl n) b k) regs) (end_at c b)
    then words_from (address_of (copy_in c g pl n) (place_behind (copy_in c g pl n) b)) (fall_out_size (is_inside (copy_in c g pl n)) (end_at c b))
    else []
leaving_of c g pl plan regs _ _ (InStub u b stub there listed serves uncopied) =
    leaving_stub (stub_body plan stub) (kind_of (is_site g) (body_at c.blocks.items b) 0)

-- ---- whole walks

-- step `i` of a walk is counted so, with the arrival at the next
abbrev pub IsCountedStep : (file out : List ℕ) (board : Board) (g : Graph) (c : Code) (pl : ChosenPlacement) (plan : OverlayPlan) (transitions : List Transition) (i : ℕ) (s : SourceState) (read : Option Instr) (t : State) (es : List FlatEvent) → StepRuns file out board g c pl plan s read t es → Type 0
IsCountedStep file out board g c pl plan transitions i s read t _ (On es fs t' unit does arrival same) =
    IsCountedUnit board c g pl plan transitions i unit.match.region s.pc t.hart.pc unit.match.at.stands
    × (IsCountedArrival file out board g c pl plan transitions (suc i) (next_state (unnamed_in file board g) s read) t' fs arrival
    × (leaving_fetched c g pl plan arrival.from (next_state (unnamed_in file board g) s read).pc t'.hart.pc arrival.at
    ≡ leaving_of c g pl plan t.hart.regs s.pc t.hart.pc unit.match.at.stands))
IsCountedStep file out board g c pl plan transitions i s read t _ (Ends es ended unit) =
    IsCountedUnit board c g pl plan transitions i unit.match.region s.pc t.hart.pc unit.match.at.stands

-- and so are all from there on
abbrev pub IsCountedWalk : (file out : List ℕ) (board : Board) (g : Graph) (c : Code) (pl : ChosenPlacement) (plan : OverlayPlan) (transitions : List Transition) (i n : ℕ) (s s' : SourceState) (t : State) (es : List FlatEvent) → Walks file out board g c pl plan n s s' t es → Type 0
IsCountedWalk file out board g c pl plan transitions i _ _ _ _ _ (NoSteps s t) = Unit {0}
IsCountedWalk file out board g c pl plan transitions i _ _ _ _ _ (Ended n s t ended) = Unit {0}
IsCountedWalk file out board g c pl plan transitions i _ _ _ _ _ (Step n s s' read t t' es fs going reads step does rest) =
    IsCountedStep file out board g c pl plan transitions i s read t es step
    × IsCountedWalk file out board g c pl plan transitions (suc i) n (next_state (unnamed_in file board g) s read) s' t' fs rest

-- a walk is counted with the arrival at its entry
pub record IsCounted (file out : List ℕ) (board : Board) (g : Graph) (c : Code) (pl : ChosenPlacement) (plan : OverlayPlan) (transitions : List Transition) (input : List ℕ) (n : ℕ) (s : SourceState) (walk : PlacedWalk file out board g c pl plan input n s) : Type 0 where
  pub entry : IsCountedArrival file out board g c pl plan transitions 0 (source_start file board g input) walk.behind walk.entering walk.entered
  pub none : leaving_fetched c g pl plan walk.entered.from (source_start file board g input).pc walk.behind.hart.pc walk.entered.at ≡ []
  pub steps : IsCountedWalk file out board g c pl plan transitions 0 n (source_start file board g input) s walk.entered.after walk.events walk.walk

-- so is each beside a run that ends and makes no inward call
abbrev pub FormsAreCounted : Type 0
FormsAreCounted =
    (file out : List ℕ) (board : Board) (g : Graph) (c : Code) (pl : ChosenPlacement) (result : IsPlacedResult file out board g c pl)
    (input : List ℕ) (n : ℕ) (s : SourceState) (transitions : List Transition)
    (walk : PlacedWalk file out board g c pl result.view.plan input n s)
    → HasRegionsOfSide pl
    → Transitions (program_in file board g) n (source_start file board g input) transitions s → (s.outcome ≡ GoesOn → ⊥)
    → inward_calls (placed_scene board g c pl) c (placed_names board pl) transitions ≡ 0
    → IsCounted file out board g c pl result.view.plan transitions input n s walk
