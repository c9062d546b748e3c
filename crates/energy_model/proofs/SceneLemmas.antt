-- What is known of the transitions of a run, in the terms of its energy.
use Rattle.std.proofs.Common.{◌≡◌, ◌∙◌, ℕ, suc, ◌<◌, ◌≤◌, ◌==◌, true, List, [], ◌∷◌, length, map, slice_index_or, Option, sym, ap, subst, arith}
use Rattle.std.proofs.lemmas.List.{get_or-map}
use Rattle.rv32im.specs.Table.{OneInstruction}
use Rattle.rv32im.specs.declared.instructions.Instr.{Instr}
use Rattle.elf_reader.specs.File.{plain_view}
use Rattle.elf_reader.specs.declared.view.ElfView.{ElfView}
use Rattle.board_config.specs.declared.board.Board.{Board}
use Rattle.object_graph.specs.declared.parts.Graph.{Graph}
use Rattle.code_blocks.specs.Early.{has}
use Rattle.code_blocks.specs.Leaders.{is_leader}
use Rattle.code_blocks.specs.declared.parts.Unit.{Unit}
use Rattle.code_blocks.specs.declared.parts.Block.{Block}
use Rattle.code_blocks.specs.declared.parts.Code.{Code}
use Rattle.object_machine.specs.Program.{Program, program_of}
use Rattle.object_machine.specs.Step.{next_state, access_of}
use Rattle.object_machine.proofs.BlockLemmas.{unit_address}
use Rattle.region_former.specs.declared.table.RegionTable.{RegionTable}
use Rattle.profile_runner.specs.declared.counts.Profile.{Profile}
use Rattle.profile_runner.specs.Transition.{Transition, is_going, transition_at}
use Rattle.profile_runner.specs.Standing.{begins, units_run}
use Rattle.block_splitter.specs.Forms.{Body, body_of, unit_in, no_body, is_last}
use Rattle.code_blocks.specs.Leads.{no_unit}
use Rattle.energy_model.specs.Energy.{Scene, starts_of, block_in, block_at, unit_number}
use Rattle.energy_model.specs.Scenes.{scene_of, AreOfSameFile}
use Rattle.energy_model.proofs.StepLemmas.{StepAt, step_at, first_transition, IsAccessOf, access_is}
use Rattle.object_machine.proofs.FollowLemmas.{unit_reads, unit_words}
use Rattle.energy_model.proofs.FollowLemmas.{IsRunIn, IsPlaced, placed, whole, leads_behind, few_units}

-- the unit of transition `i`
abbrev pub unit_of_transition : Scene → List Transition → ℕ → Unit
unit_of_transition w ms i = unit_in (block_in w (block_at w ms i)) (unit_number w ms i)

pub record IsTransition (w : Scene) (ms : List Transition) (i : ℕ) : Type 0 where
  pub inside : block_at w ms i < length w.blocks
  pub runs : units_run (starts_of w) ms i ≡ suc (unit_number w ms i)
  pub below : unit_number w ms i < length (block_in w (block_at w ms i)).units
  pub words : (unit_of_transition w ms i).words ≤ 2
  pub each_words : (k : ℕ) → k < length (block_in w (block_at w ms i)).units → (unit_in (block_in w (block_at w ms i)) k).words ≤ 2
  pub few : length (block_in w (block_at w ms i)).units ≤ 1073741824
  pub access : IsAccessOf (transition_at ms i).access (transition_at ms i).goes_on (unit_of_transition w ms i).instr

pub record Follows (w : Scene) (ms : List Transition) : Type 0 where
  pub first : 0 < length ms → begins (starts_of w) ms 0 ≡ true
  pub each : (i : ℕ) → i < length ms → IsTransition w ms i
  pub whole : (i : ℕ) → suc i < length ms → begins (starts_of w) ms (suc i) ≡ true → suc (unit_number w ms i) ≡ length (block_in w (block_at w ms i)).units
  pub goes_on : (i : ℕ) → suc i < length ms → (transition_at ms i).goes_on ≡ true
  pub next : (i : ℕ) → suc i < length ms → (transition_at ms (suc i)).at ≡ (transition_at ms i).next
  pub leads : (i : ℕ) → i < length ms → (transition_at ms i).goes_on ≡ true → has (starts_of w) (transition_at ms i).next ≡ is_last (block_in w (block_at w ms i)) (unit_number w ms i)

-- ---- blocks

some_block : (bs : List Block) (b : ℕ) → b < length bs → Block
some_block [] b below = absurd (omega (arith, below))
some_block (x ∷ bs) b below = x

body_is : (bs : List Block) (b : ℕ) (d : Block) → b < length bs → slice_index_or (map body_of bs) b no_body ≡ body_of (slice_index_or bs b d)
body_is bs b d below = get_or-map body_of bs b d no_body below

-- ---- transitions

run_in : (view : ElfView) (board : Board) (g : Graph) (c : Code) (t : RegionTable) (q : Profile) (ms : List Transition) → AreOfSameFile view board g c t q ms → IsRunIn view board g c ms
run_in view board g c t q ms given =
    let v = plain_view view in
    let p = program_of v board g in
    let r = given.run in
    record {
      read = given.read;
      code = given.code;
      steps = λ i below. step_at p board.steps r.from r.to ms i r.run below;
      first = λ some. subst (λ a. is_leader v a ≡ true) (first_transition p board.steps r.from r.to ms r.run some).at r.begins;
    }

access_at : (p : Program) (ms : List Transition) (i : ℕ) (read : Option Instr) (step : StepAt p ms i) → read ≡ step.read → IsAccessOf (transition_at ms i).access (transition_at ms i).goes_on read
access_at p ms i read step is =
    let t = next_state p step.state step.read in
    subst (λ (m : Transition). IsAccessOf m.access m.goes_on read) (sym step.transition)
    (subst (λ (x : Option Instr). IsAccessOf (access_of p step.state t.outcome step.read) (is_going t.outcome) x) (sym is) (access_is t.outcome p step.state step.read))

is_transition : OneInstruction → (view : ElfView) (board : Board) (g : Graph) (c : Code) (t : RegionTable) (ms : List Transition) (i place : ℕ) → IsRunIn view board g c ms → i < length ms → IsPlaced c ms i place → IsTransition (scene_of g c t board) ms i
is_transition one view board g c t ms i place r inside_run pl =
    let v = plain_view view in
    let w = scene_of g c t board in
    let b = block_at w ms i in
    let d = some_block c.blocks.items b pl.inside in
    let block = slice_index_or c.blocks.items b d in
    let body : block_in w b ≡ body_of block = body_is c.blocks.items b d pl.inside in
    let run = pl.run in
    let number : unit_number w ms i ≡ place = omega (arith, run) in
    let within = pl.below d in
    let is_block = r.code.blocks b d pl.inside in
    let u = slice_index_or block.units.items place no_unit in
    let unit : unit_of_transition w ms i ≡ u = ap (λ (x : Body). unit_in x (unit_number w ms i)) body ∙ ap (λ k. slice_index_or block.units.items k no_unit) number in
    let is_unit = is_block.units place no_unit within in
    let step = r.steps i inside_run in
    let at : u.at ≡ step.state.pc = unit_address v block c.functions.items place no_unit is_block within ∙ (sym (pl.at d) ∙ ap (λ (m : Transition). m.at) step.transition) in
    let reads : u.instr ≡ step.read = unit_reads one v u step.state.pc step.read is_unit at step.meant in
    record {
      inside = pl.inside;
      runs = omega (arith, run);
      below = subst (λ (x : Body). unit_number w ms i < length x.units) (sym body) (omega (arith, number, within));
      words = subst (λ (x : Unit). x.words ≤ 2) (sym unit) (unit_words v u is_unit);
      each_words = subst (λ (x : Body). (k : ℕ) → k < length x.units → (unit_in x k).words ≤ 2) (sym body) (λ k in_block. unit_words v (slice_index_or block.units.items k no_unit) (is_block.units k no_unit in_block));
      few = subst (λ (x : Body). length x.units ≤ 1073741824) (sym body) (few_units view c b d r.read r.code pl.inside);
      access = subst (λ (x : Unit). IsAccessOf (transition_at ms i).access (transition_at ms i).goes_on x.instr) (sym unit) (access_at (program_of v board g) ms i u.instr step reads);
    }

pub follows : OneInstruction → (view : ElfView) (board : Board) (g : Graph) (c : Code) (t : RegionTable) (q : Profile) (ms : List Transition) → AreOfSameFile view board g c t q ms → Follows (scene_of g c t board) ms
follows one view board g c t q ms given =
    let v = plain_view view in
    let w = scene_of g c t board in
    let r = run_in view board g c t q ms given in
    record {
      first = λ some. r.code.leaders (transition_at ms 0).at ∙ r.first some;
      each = λ i below. let (place, pl) = placed view board g c ms i r below in is_transition one view board g c t ms i place r below pl;
      whole = λ i more begun.
          let (place, pl) = placed view board g c ms i r (omega (arith, more)) in
          let b = block_at w ms i in
          let d = some_block c.blocks.items b pl.inside in
          let all = whole view board g c ms i place d r pl more begun in
          let run = pl.run in
          let body = body_is c.blocks.items b d pl.inside in
          subst (λ (x : Body). suc (unit_number w ms i) ≡ length x.units) (sym body) (omega (arith, all, run));
      goes_on = λ i more.
          let step = r.steps i (omega (arith, more)) in
          ap (λ (m : Transition). m.goes_on) step.transition ∙ ap is_going (step.goes_on more);
      next = λ i more.
          let step = r.steps i (omega (arith, more)) in
          sym (step.next more) ∙ sym (ap (λ (m : Transition). m.next) step.transition);
      leads = λ i below goes.
          let (place, pl) = placed view board g c ms i r below in
          let b = block_at w ms i in
          let d = some_block c.blocks.items b pl.inside in
          let run = pl.run in
          let number : place ≡ unit_number w ms i = omega (arith, run) in
          let body = body_is c.blocks.items b d pl.inside in
          leads_behind view board g c ms i place d r pl below goes
          ∙ (ap (λ k. suc k == length (slice_index_or c.blocks.items b d).units.items) number
          ∙ ap (λ (x : Body). is_last x (unit_number w ms i)) (sym body));
    }
