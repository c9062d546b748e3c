-- A result for a choice of what stands in the scratchpad keeps the meaning of its program.
use Rattle.std.proofs.Common.{◌≡◌, ℕ, ◌+◌, ◌*◌, ◌≤◌, true, List, length, refl, sym, subst, arith}
use Rattle.std.proofs.lemmas.List.Elements.{All-weaker}
use Rattle.rv32im.specs.Memory.{Memory}
use Rattle.elf_reader.specs.File.{view_in}
use Rattle.elf_reader.specs.Image.{image_of}
use Rattle.elf_reader.specs.Loadable.{AreBytes}
use Rattle.board_config.specs.declared.board.Board.{Board}
use Rattle.flat_machine.specs.declared.events.FlatEvent.{FlatEvent}
use Rattle.flat_machine.specs.Runs.{Does}
use Rattle.flat_machine.specs.State.{State}
use Rattle.flat_machine.proofs.Runs.{steps_of_events}
use Rattle.object_graph.specs.declared.parts.Graph.{Graph}
use Rattle.code_blocks.specs.Leaders.{is_leader}
use Rattle.code_blocks.specs.declared.parts.Code.{Code}
use Rattle.code_blocks.proofs.EntryLemmas.{entry_leads}
use Rattle.patch_code.specs.Start.{StartPlan, start_run}
use Rattle.patch_code.specs.StubLaws.{started}
use Rattle.result_laws.specs.JobLaws.{GoesIn, room_left}
use Rattle.result_laws.proofs.Setting.{setting}
use Rattle.result_laws.proofs.JobsFit.{start_fit, start_takes}
use Rattle.result_laws.proofs.PatchHomes.{images_lie_so}
use Rattle.object_machine.specs.Program.{Program}
use Rattle.object_machine.specs.State.{SourceState}
use Rattle.object_machine.specs.Runs.{Steps}
use Rattle.object_machine.specs.Paired.{Origins, at_start}
use Rattle.simulation.specs.Forms.{FormAt}
use Rattle.simulation.specs.Laws.{Keeps}
use Rattle.simulation.specs.Ways.{AtAny, Arrivals, within}
use Rattle.simulation.proofs.Resets.{all_made, moved_code_keeps}
use Rattle.simulation.proofs.Runs.{keeps_behind}
use Rattle.result_laws.specs.Pads.{CanSwitch}
use Rattle.result_laws.specs.HomeLaws.{program_in, source_start, file_start}
use Rattle.result_laws.specs.LiveUnits.{StandsThere}
use Rattle.result_laws.specs.ResultLaws.{most_steps}
use Rattle.result_laws.proofs.Single.{one_run}
use Rattle.result_laws.proofs.CodeUnits.{units_stand}
use Rattle.result_laws.proofs.LiveUnits.{liveness_keeps}
use Rattle.result_laws.proofs.PlanStanding.{starts}
use Rattle.result_laws.proofs.Switching.{choice_can_switch}
use Rattle.result_laws.specs.Entries.{RunsIn}
use Rattle.result_laws.proofs.Held.{held_at_start}
use Rattle.result_laws.proofs.Entries.{starts_at_border}
use Rattle.result_laws.specs.ChosenPlacement.{ChosenPlacement}
use Rattle.result_laws.specs.PlacedView.{start_plan}
use Rattle.result_laws.specs.PlacedLaws.{IsPlacedResult, PlacedResultKeeps}
use Rattle.result_laws.specs.PlacedForms.{StandsAs, AtHome, InCopy, InStub, MayRun, ComesTo}
use Rattle.result_laws.proofs.PlacedChosen.{is_overlay, holds_plan, holds_homes, sound}
use Rattle.result_laws.proofs.PlacedPads.{served, block_arrives}
use Rattle.result_laws.proofs.Arriving.{IsHeldIn, arrivals}
use Rattle.result_laws.proofs.FormArrivals.{copy_arrives, stub_arrives}
use Rattle.result_laws.proofs.HomeForms.{block_comes, home_falls, home_form}
use Rattle.result_laws.proofs.CopyForms.{copy_form}
use Rattle.result_laws.proofs.StubForms.{stub_form}
use Rattle.result_laws.specs.Walks.{unit_fetched}
use Rattle.result_laws.proofs.Fetches.{FormOver}
use Rattle.result_laws.proofs.Coming.{comes_there}
use Rattle.result_laws.proofs.Starting.{stub_runs, start_alike}
use Rattle.result_laws.proofs.Bounds.{HasBytes, start_short}

module _ (file out : List ℕ) (board : Board) (g : Graph) (c : Code) (pl : ChosenPlacement) (result : IsPlacedResult file out board g c pl) (input : List ℕ) where
  open (setting file out board g c pl result) use {v, p, l, live, plan, slots, images, form, comes}

  abbrev image : Memory
  image = image_of (view_in out).segments

  abbrev source : SourceState
  source = source_start file board g input

  abbrev first : StartPlan
  first = start_plan v board g pl

  -- the steps of a switch, and of an arrival
  abbrev bound : ℕ
  bound = 12 * room_left board g images slots + 83

  abbrev most : ℕ
  most = 5 + (bound + 5)

  abbrev switches : ℕ → ℕ → ℕ → Type 0
  switches = served file out board g c pl result input bound

  abbrev holds : ℕ → SourceState → Origins → Type 0
  holds = IsHeldIn file out board g c pl result input

  -- ---- forms and arrivals

  pub can_switch : (s r : ℕ) → s ≤ pl.count → 1 ≤ r → r ≤ pl.count → (s ≡ r → ⊥) → CanSwitch p l plan source at_start bound s r
  can_switch s r left some entered other =
      choice_can_switch file out board g pl.count pl.programme pl.choice images image input plan result.view.words s r
      (is_overlay file out board g c pl result) (holds_plan file out board g c pl result) (holds_homes file out board g c pl result r)
      left some entered other

  pub arrives_at : (r a : ℕ) → is_leader v a ≡ true → ComesTo c g pl plan l live switches 3 r a a
  arrives_at = block_arrives file out board g c pl result input bound (omega arith) can_switch

  -- the unit's block is the one that may run
  runs : (r u b k : ℕ) → StandsThere c u b k → MayRun c pl.regions r u → RunsIn pl.regions b r
  runs r u b k stands may =
      let same = ((units_stand file board g c result.accepted result.code).one u may.block may.unit b k may.there stands).0 in
      subst (λ (d : ℕ). RunsIn pl.regions d r) same may.runs

  -- each form with the words that it fetches
  pub forms_over : (r u a : ℕ) (at : form r u a) → FormOver p l live (comes r) r u a (λ t. unit_fetched p c g pl plan t.hart.regs u a at.stands)
  forms_over r u a at = by_place u a at.stands at.may
    where
      by_place : (u a : ℕ) (stands : StandsAs c g pl plan u a) → MayRun c pl.regions r u → FormOver p l live (comes r) r u a (λ t. unit_fetched p c g pl plan t.hart.regs u a stands)
      by_place _ _ (AtHome u b k stands bare) may =
          let runs_there : RunsIn pl.regions b r = runs r u b k stands may in
          home_form file out board g c pl result r u b k stands bare runs_there (comes r)
          (λ x leads. block_comes file out board g c pl result r x leads)
          (λ i single means follows falls. home_falls file out board g c pl result r u b k stands bare runs_there i single means follows falls)
      by_place _ _ (InCopy u n b k inside held stands) may =
          let runs_there : RunsIn pl.regions b r = runs r u b k stands may in
          copy_form file out board g c pl result r u n b k inside held stands runs_there (comes r)
          (copy_arrives file out board g c pl result r u n b k inside held stands runs_there)
      by_place _ _ (InStub u b stub stands listed serves uncopied) may =
          let runs_there : RunsIn pl.regions b r = runs r u b 0 stands may in
          stub_form file out board g c pl result r u b stub stands listed serves uncopied runs_there (comes r)
          (stub_arrives file out board g c pl result r u b stub stands listed serves uncopied runs_there)

  abbrev pub forms : (r u a : ℕ) → form r u a → FormAt p l live (comes r) r u a
  forms r u a at = (forms_over r u a at).0

  pub arrives : Arrivals p l live comes form holds (within most)
  arrives =
      let these = arrivals file out board g c pl result input bound in
      record {
        stays = these.stays;
        arrives = λ r s m t sound held alike made there.
            these.arrives r s m t sound held alike made
            (comes_there file out board g c pl result switches arrives_at r s.pc t.hart.pc there);
      }

  -- origins don't count
  pub forgets : (r : ℕ) (s : SourceState) (m : Origins) → holds r s m → holds r s at_start
  forgets r s m held = (
    held.0,
    (held.1.0, (held.1.1.0, record { cells = held.1.1.1.cells; origins = λ o i unwritable. refl })),
  )

  -- ---- the start

  abbrev behind : State
  behind = started first (file_start out board input)

  pub held_first : holds 0 source at_start
  held_first = (
    omega arith,
    (
      starts_at_border file board g c pl.regions pl.borders result.accepted result.code result.placement.borders,
      (
        held_at_start file board g c input result.accepted result.code,
        record { cells = λ o i unwritable. refl; origins = λ o i unwritable. refl },
      ),
    ),
  )

  module _ (bytes : AreBytes input) where
    -- behind the start stub steps lead to a form of the entry
    pub led : (es : List FlatEvent) × ((t : State) × (Does es behind t × ((length es ≤ most) × AtAny p l live form holds source at_start t)))
    led =
        arrives.arrives 0 source at_start behind (sound file out board g c pl result 0) held_first
        (start_alike file out board g c pl result live input bytes)
        (all_made p source)
        (block_comes file out board g c pl result 0 v.entry (entry_leads v result.accepted.code))

    pub start_few : (n : ℕ) → start_run first + (most + n * (4 + most)) ≤ (n + 1) * most_steps board
    start_few n =
        let overlay = is_overlay file out board g c pl result in
        let can = starts file board g pl.count pl.programme pl.choice images image overlay in
        let have = (images_lie_so v board g slots images can.laid overlay.lie).1 in
        let go = start_fit v g pl.count board pl.programme pl.choice images can have in
        start_short first board most n
        (All-weaker (GoesIn board.spm g slots images) HasBytes (λ job goes. goes.is.some) first.jobs go)
        (start_takes v g pl.count board pl.programme pl.choice images can) (omega arith)

    pub kept : (n : ℕ) (s : SourceState) → Steps (program_in file board g) n source s → Keeps n ((n + 1) * most_steps board) s (file_start out board input)
    kept n s steps =
        let run : Keeps n (n * (4 + most)) s led.1.0 =
        moved_code_keeps (program_in file board g) l live comes form holds most (liveness_keeps file board g c result.accepted result.code) forms
        arrives (λ r. refl) forgets n source s led.1.0 led.1.1.1.1 steps in
        let short = led.1.1.1.0 in
        let arrived : Keeps n (most + n * (4 + most)) s behind =
        keeps_behind n n (most + n * (4 + most)) (n * (4 + most)) (length led.0) s behind led.1.0
        (steps_of_events led.0 behind led.1.0 led.1.1.0) (λ going. omega arith) (omega (arith, short)) run in
        keeps_behind n n ((n + 1) * most_steps board) (most + n * (4 + most)) (start_run first) s (file_start out board input) behind
        (stub_runs file out board g c pl result input) (λ going. omega arith) (start_few n) arrived

pub placed_result_keeps : PlacedResultKeeps
placed_result_keeps file out board g c pl result h input n s graph bytes steps =
    let same = one_run file board g h input result.accepted.graph graph in
    let own : Steps (program_in file board g) n (source_start file board g input) s =
    subst (λ (x : SourceState). Steps (program_in file board g) n x s) (sym same.1)
    (subst (λ (q : Program). Steps q n (source_start file board h input) s) (sym same.0) steps) in
    kept file out board g c pl result input bytes n s own
