-- Which words a result runs beside a run of its program, and which accesses it makes: unit by unit, and where the next unit
-- begins.
use Rattle.std.specs.Prelude.{◌≡◌, ℕ, suc, ◌+◌, ◌<◌, ◌≤◌, Bool, true, false, if◌then◌else◌, List, [], ◌∷◌, ◌++◌, length, map, slice_index_or, Option, Some, All, Contains}
use Rattle.rv32im.specs.Memory.{word_at}
use Rattle.rv32im.specs.Acts.{Registers}
use Rattle.rv32im.specs.declared.instructions.Instr.{Instr}
use Rattle.rv32im.specs.declared.instructions.Instr.TheVariants.{Load, Store}
use Rattle.elf_reader.specs.Loadable.{AreBytes}
use Rattle.board_config.specs.declared.board.Board.{Board}
use Rattle.flat_machine.specs.declared.events.FlatAccess.{FlatAccess}
use Rattle.flat_machine.specs.declared.events.FlatEvent.{FlatEvent}
use Rattle.flat_machine.specs.Lines.{words_from}
use Rattle.flat_machine.specs.Runs.{Does}
use Rattle.flat_machine.specs.State.{State}
use Rattle.object_graph.specs.declared.parts.Graph.{Graph}
use Rattle.code_blocks.specs.declared.parts.Code.{Code}
use Rattle.code_blocks.specs.Early.{has}
use Rattle.code_blocks.specs.Numbers.{starts_of, start_at}
use Rattle.dataflow.specs.Overlaid.{region_in}
use Rattle.profile_runner.specs.Standing.{entered, current}
use Rattle.profile_runner.specs.Transition.{Transition}
use Rattle.profile_runner.specs.Transitions.{Transitions}
use Rattle.block_splitter.specs.declared.unit_kind.UnitKind.{UnitKind}
use Rattle.block_splitter.specs.declared.unit_kind.UnitKind.TheVariants.{Plain}
use Rattle.block_splitter.specs.Forms.{is_site, kind_of}
use Rattle.block_splitter.specs.Forms.{body_at as body_of}
use Rattle.block_splitter.specs.Copies.{is_inside, kind_in, place_of, address_of}
use Rattle.cell_values.specs.Stands.{Places}
use Rattle.result_laws.specs.Kinds.{takes}
use Rattle.result_laws.specs.Copied.{unit_words}
use Rattle.result_laws.specs.Displaced.{displaced_fetched}
use Rattle.result_laws.specs.CopyLaws.{place_behind}
use Rattle.patch_code.specs.Told.{IsFrom, Way, accesses, jobs_accesses, read_at}
use Rattle.object_machine.specs.declared.events.Outcome.{Outcome}
use Rattle.object_machine.specs.declared.events.Outcome.TheVariants.{GoesOn, AddressFault}
use Rattle.object_machine.specs.Places.{Where, InFixed, InObject, Nowhere}
use Rattle.object_machine.specs.Program.{Program}
use Rattle.object_machine.specs.State.{SourceState}
use Rattle.object_machine.specs.Step.{Reads, next_state, load_place, store_place}
use Rattle.object_machine.specs.Runs.{HasEnded, Steps}
use Rattle.patch_code.specs.Switching.{routine_run}
use Rattle.patch_code.specs.Switches.{switch_accesses}
use Rattle.patch_code.specs.Start.{start_at as stub_start, start_bytes, start_run}
use Rattle.patch_code.specs.Serving.{ServingStub, test_bytes}
use Rattle.patch_code.specs.Overlay.{OverlayPlan, switching, serving_place, rest_bytes}
use Rattle.patch_code.specs.Served.{IsFromStubOf, body_at}
use Rattle.simulation.specs.Laws.{EndsAlike}
use Rattle.result_laws.specs.HomeLaws.{program_in, unnamed_in, source_start, file_start}
use Rattle.result_laws.specs.ChosenPlacement.{ChosenPlacement, places_in, copy_in}
use Rattle.result_laws.specs.PlacedView.{HasBody, ToCopy, Displaced, Serves}
use Rattle.result_laws.specs.PlacedLaws.{IsPlacedResult}
use Rattle.result_laws.specs.Matching.{Match}
use Rattle.result_laws.specs.PlacedForms.{StandsAs, AtHome, InCopy, InStub, IsFormOf, ArrivesAt, AtForm, AtItsHome, BehindCopy, BehindStub}

-- ---- lists of events

abbrev pub address_in : FlatEvent → ℕ
address_in e = e.at

-- the words at these addresses are fetched, one behind the other, and these accesses are made
pub record AreEvents (fetched : List ℕ) (told : List FlatAccess) (es : List FlatEvent) : Type 0 where
  pub addresses : map address_in es ≡ fetched
  pub accesses : accesses es ≡ told

-- so many words of a plan run, and these accesses are made
pub record PlanRuns (plan : OverlayPlan) (n : ℕ) (told : List FlatAccess) (es : List FlatEvent) : Type 0 where
  pub count : length es ≡ n
  pub accesses : accesses es ≡ told
  pub fetched : All (IsFrom (stub_start plan.start) (start_bytes plan.start + rest_bytes plan)) es

-- so many words of a stub before its body, or of the routine, run
pub record StubRuns (plan : OverlayPlan) (stub : ServingStub) (n : ℕ) (told : List FlatAccess) (es : List FlatEvent) : Type 0 where
  pub runs : PlanRuns plan n told es
  pub own : All (IsFromStubOf plan stub) es

-- ---- a unit

-- the addresses of the words of a displaced unit that run. A jump home stands behind one that doesn't jump
abbrev pub own_fetched : ℕ → Bool → UnitKind → List ℕ
own_fetched at taken Plain = at ∷ []
own_fetched at taken kind = displaced_fetched at taken kind

-- the addresses of the words of a unit that run where it stands
abbrev pub unit_fetched : (p : Program) (c : Code) (g : Graph) (pl : ChosenPlacement) (plan : OverlayPlan) (regs : Registers) (u a : ℕ) → StandsAs c g pl plan u a → List ℕ
unit_fetched p c g pl plan regs _ _ (AtHome u b k there bare) = if p.is_pair u then u ∷ (u + 4) ∷ [] else u ∷ []
unit_fetched p c g pl plan regs _ _ (InCopy u n b k inside held there) =
    words_from (address_of (copy_in c g pl n) (place_of (copy_in c g pl n) b k))
    (unit_words (is_inside (copy_in c g pl n)) (takes (kind_in (copy_in c g pl n) b k) regs) (kind_in (copy_in c g pl n) b k))
unit_fetched p c g pl plan regs _ _ (InStub u b stub there listed serves uncopied) =
    own_fetched (body_at plan stub) (takes (kind_of (is_site g) (body_of c.blocks.items b) 0) regs)
    (kind_of (is_site g) (body_of c.blocks.items b) 0)

-- an access to an object is one at its place, and one to fixed memory is the same
abbrev pub accesses_at : Places → Bool → Where → List FlatAccess
accesses_at places write (InFixed a) = record { at = a; write = write } ∷ []
accesses_at places write (InObject o d) = record { at = places o + d; write = write } ∷ []
accesses_at places write (Nowhere why) = []

abbrev pub word_accesses : Program → SourceState → Places → Option Instr → List FlatAccess
word_accesses p s places (Some (Load kind rd rs1 imm)) = accesses_at places false (load_place p s kind rs1 imm (p.site s.pc))
word_accesses p s places (Some (Store kind rs1 rs2 imm)) = accesses_at places true (store_place p s kind rs1 imm (p.site s.pc))
word_accesses p s places other = []

-- a call of two words makes none
abbrev pub unit_accesses : Program → SourceState → Places → Option Instr → List FlatAccess
unit_accesses p s places read = if p.is_pair s.pc then [] else word_accesses p s places read

abbrev pub IsNoFault : Outcome → Type 0
IsNoFault (AddressFault pc why) = ⊥
IsNoFault other = Unit {0}

-- from a state that matches the unit runs at its form, and makes its accesses where objects stand in the region that is
-- current
pub record UnitRuns (file out : List ℕ) (board : Board) (g : Graph) (c : Code) (pl : ChosenPlacement) (plan : OverlayPlan) (s : SourceState) (read : Option Instr) (t : State) (es : List FlatEvent) : Type 0 where
  pub match : Match file out board g c pl plan s t
  pub addresses : map address_in es
      ≡ unit_fetched (unnamed_in file board g) c g pl plan t.hart.regs s.pc t.hart.pc match.at.stands
  pub accesses : IsNoFault (next_state (unnamed_in file board g) s read).outcome
      → accesses es ≡ unit_accesses (unnamed_in file board g) s (places_in board g pl match.region) read

-- ---- the way to the next unit

-- the words that lead home from behind a copy, and from behind a displaced unit
abbrev pub leaving_fetched : (c : Code) (g : Graph) (pl : ChosenPlacement) (plan : OverlayPlan) (r v a : ℕ) → ArrivesAt c g pl plan r v a → List ℕ
leaving_fetched c g pl plan r v _ (AtForm a at) = []
leaving_fetched c g pl plan r v _ (AtItsHome home) = []
leaving_fetched c g pl plan r v _ (BehindCopy n b d inside held runs falls leaves below starts) =
    words_from (address_of (copy_in c g pl n) (place_behind (copy_in c g pl n) b)) 2
leaving_fetched c g pl plan r v _ (BehindStub u b stub there listed serves uncopied plain is home) = (body_at plan stub + 4) ∷ []

-- these words are known by where control is
abbrev pub ArrivalsAreDetermined : Type 0
ArrivalsAreDetermined =
    (file out : List ℕ) (board : Board) (g : Graph) (c : Code) (pl : ChosenPlacement)
    (result : IsPlacedResult file out board g c pl) (r v a : ℕ) (x y : ArrivesAt c g pl result.view.plan r v a) → r ≤ pl.count
    → leaving_fetched c g pl result.view.plan r v a x ≡ leaving_fetched c g pl result.view.plan r v a y

-- What a stub does before its body, and the region that is current then. One without a region has no words there. One with a
-- region reads the first control word: four words run if this has the region's number, and else the switch is made
pub data StubPasses (plan : OverlayPlan) (stub : ServingStub) (from : ℕ) : ℕ → List FlatEvent → Type 0 where
  Unchecked : stub.region ≡ 0 → StubPasses plan stub from from []
  Current : (es : List FlatEvent) → (stub.region ≡ 0 → ⊥) → from ≡ stub.region → StubRuns plan stub 4 (read_at plan.start.base ∷ []) es
      → StubPasses plan stub from from es
  Switches : (es : List FlatEvent) → (stub.region ≡ 0 → ⊥) → (from ≡ stub.region → ⊥)
      → StubRuns plan stub (22 + routine_run (switching plan) from stub.region) (switch_accesses (switching plan) from stub.region) es
      → StubPasses plan stub from stub.region es

-- the words of a stub's body that lead to the copy of its block. A displaced unit stands there itself
abbrev pub body_fetched : (c : Code) (g : Graph) (pl : ChosenPlacement) (at b : ℕ) (stub : ServingStub) → ℕ → HasBody c g pl at b stub → List ℕ
body_fetched c g pl at b stub body (ToCopy n inside held jumps) = words_from body 2
body_fetched c g pl at b stub body (Displaced words uncopied runs form) = []

-- Control comes to the home of the unit at `v` while a region is current; then it is at a form of it, and another region may
-- be current. Where a pad stands, this, what its stub does before its body, and the body run
pub data BlockEntered (c : Code) (g : Graph) (pl : ChosenPlacement) (plan : OverlayPlan) (from v : ℕ) : ℕ → List FlatEvent → Type 0 where
  Bare : IsFormOf c g pl plan from v v → BlockEntered c g pl plan from v from []
  ByStub : (b to : ℕ) (stub : ServingStub) (pad passed body : List FlatEvent) → b < length c.blocks.items → start_at c b ≡ v
      → Contains plan.stubs stub
      → (serves : Serves c g pl (body_at plan stub) b stub) → AreEvents (v ∷ []) [] pad → StubPasses plan stub from to passed
      → AreEvents (body_fetched c g pl (body_at plan stub) b stub (serving_place plan stub + test_bytes stub.region) serves.body) [] body
      → BlockEntered c g pl plan from v to (pad ++ (passed ++ body))

-- behind words that lead home so it does. None follow where a form was reached
abbrev pub Enters : (c : Code) (g : Graph) (pl : ChosenPlacement) (plan : OverlayPlan) (from v a to : ℕ) (es : List FlatEvent) → ArrivesAt c g pl plan from v a → Type 0
Enters c g pl plan from v _ to es (AtForm a at) = (es ≡ []) × (to ≡ from)
Enters c g pl plan from v _ to es other = BlockEntered c g pl plan from v to es

-- The region that is current where control comes to an address: if a block begins there, its own, if it has one
pub record BecomesCurrent (c : Code) (regions : List ℕ) (v from to : ℕ) : Type 0 where
  pub begins : (b : ℕ) → b < length c.blocks.items → start_at c b ≡ v → to ≡ entered from (region_in regions b)
  pub stays : has (starts_of c) v ≡ false → to ≡ from

-- from where a unit's words lead the flat machine comes to a form of the unit that is next, where it matches again
pub record ArrivalRuns (file out : List ℕ) (board : Board) (g : Graph) (c : Code) (pl : ChosenPlacement) (plan : OverlayPlan) (s : SourceState) (t : State) (es : List FlatEvent) : Type 0 where
  pub from : ℕ
  pub number : word_at t.hart.mem board.patch.base ≡ from
  pub at : ArrivesAt c g pl plan from s.pc t.hart.pc
  pub leaving : List FlatEvent
  pub entering : List FlatEvent
  pub whole : es ≡ leaving ++ entering
  pub leaves : AreEvents (leaving_fetched c g pl plan from s.pc t.hart.pc at) [] leaving
  pub to : ℕ
  pub enters : Enters c g pl plan from s.pc t.hart.pc to entering at
  pub current : BecomesCurrent c pl.regions s.pc from to
  pub after : State
  pub does : Does es t after
  pub match : Match file out board g c pl plan s after
  pub region : match.region ≡ to

-- ---- whole runs

-- the events of one step of the program: those of its unit, and where the program goes on, those of the way to the next, on
-- which control comes from the region in which the unit ran
pub data StepRuns (file out : List ℕ) (board : Board) (g : Graph) (c : Code) (pl : ChosenPlacement) (plan : OverlayPlan) (s : SourceState) (read : Option Instr) (t : State) : List FlatEvent → Type 0 where
  On : (es fs : List FlatEvent) (t' : State) (unit : UnitRuns file out board g c pl plan s read t es) → Does es t t'
      → (arrival : ArrivalRuns file out board g c pl plan (next_state (unnamed_in file board g) s read) t' fs)
      → arrival.from ≡ unit.match.region → StepRuns file out board g c pl plan s read t (es ++ fs)
  Ends : (es : List FlatEvent) → ((next_state (unnamed_in file board g) s read).outcome ≡ GoesOn → ⊥)
      → UnitRuns file out board g c pl plan s read t es → StepRuns file out board g c pl plan s read t es

-- those of `n` steps
pub data Walks (file out : List ℕ) (board : Board) (g : Graph) (c : Code) (pl : ChosenPlacement) (plan : OverlayPlan) : ℕ → SourceState → SourceState → State → List FlatEvent → Type 0 where
  NoSteps : (s : SourceState) (t : State) → Walks file out board g c pl plan 0 s s t []
  Ended : (n : ℕ) (s : SourceState) (t : State) → HasEnded s.outcome → Walks file out board g c pl plan n s s t []
  Step : (n : ℕ) (s s' : SourceState) (read : Option Instr) (t t' : State) (es fs : List FlatEvent) → s.outcome ≡ GoesOn
      → Reads ((unnamed_in file board g).word s.pc) read → StepRuns file out board g c pl plan s read t es → Does es t t'
      → Walks file out board g c pl plan n (next_state (unnamed_in file board g) s read) s' t' fs
      → Walks file out board g c pl plan (suc n) s s' t (es ++ fs)

-- the region in which the unit of a step runs, and those of a walk's units, in order
abbrev pub step_region : (file out : List ℕ) (board : Board) (g : Graph) (c : Code) (pl : ChosenPlacement) (plan : OverlayPlan) (s : SourceState) (read : Option Instr) (t : State) (es : List FlatEvent) → StepRuns file out board g c pl plan s read t es → ℕ
step_region file out board g c pl plan s read t _ (On es fs t' unit does arrival same) = unit.match.region
step_region file out board g c pl plan s read t _ (Ends es ended unit) = unit.match.region

abbrev pub walk_regions : (file out : List ℕ) (board : Board) (g : Graph) (c : Code) (pl : ChosenPlacement) (plan : OverlayPlan) (n : ℕ) (s s' : SourceState) (t : State) (es : List FlatEvent) → Walks file out board g c pl plan n s s' t es → List ℕ
walk_regions file out board g c pl plan _ _ _ _ _ (NoSteps s t) = []
walk_regions file out board g c pl plan _ _ _ _ _ (Ended n s t ended) = []
walk_regions file out board g c pl plan _ _ _ _ _ (Step n s s' read t t' es fs going reads step does rest) =
    step_region file out board g c pl plan s read t es step
    ∷ walk_regions file out board g c pl plan n (next_state (unnamed_in file board g) s read) s' t' fs rest

-- from its start a result runs the words of the start stub, whose accesses are those of its jobs; those that lead to a form of
-- the entry, before which no region is current; and those of a walk beside the program's run, which it ends alike
pub record PlacedWalk (file out : List ℕ) (board : Board) (g : Graph) (c : Code) (pl : ChosenPlacement) (plan : OverlayPlan) (input : List ℕ) (n : ℕ) (s : SourceState) : Type 0 where
  pub behind : State
  pub begins : Way (stub_start plan.start) (start_bytes plan.start) (start_run plan.start) (jobs_accesses plan.start.jobs)
      (file_start out board input) behind
  pub entering : List FlatEvent
  pub entered : ArrivalRuns file out board g c pl plan (source_start file board g input) behind entering
  pub none : entered.from ≡ 0
  pub events : List FlatEvent
  pub last : State
  pub does : Does events entered.after last
  pub walk : Walks file out board g c pl plan n (source_start file board g input) s entered.after events
  pub ends : EndsAlike s.outcome s last

-- so it does beside each run of the program that meets no address fault
abbrev pub PlacedWalks : Type 0
PlacedWalks =
    (file out : List ℕ) (board : Board) (g : Graph) (c : Code) (pl : ChosenPlacement)
    (result : IsPlacedResult file out board g c pl) (input : List ℕ) (n : ℕ) (s : SourceState)
    → AreBytes input → Steps (program_in file board g) n (source_start file board g input) s → IsNoFault s.outcome
    → PlacedWalk file out board g c pl result.view.plan input n s

-- the regions of its units are those that are counted as current in the transitions of the run
abbrev pub WalksAreCounted : Type 0
WalksAreCounted =
    (file out : List ℕ) (board : Board) (g : Graph) (c : Code) (pl : ChosenPlacement)
    (result : IsPlacedResult file out board g c pl) (input : List ℕ) (n i : ℕ) (s : SourceState) (transitions : List Transition)
    (walk : PlacedWalk file out board g c pl result.view.plan input n s)
    → Transitions (program_in file board g) n (source_start file board g input) transitions s → i < length transitions
    → slice_index_or (walk_regions file out board g c pl result.view.plan n (source_start file board g input) s walk.entered.after walk.events walk.walk) i 0
    ≡ current (starts_of c) pl.regions transitions (suc i)
