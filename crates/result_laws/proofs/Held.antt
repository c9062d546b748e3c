-- Addresses are where they may be: at the start, behind each step, and so in all runs.
use Rattle.std.proofs.Common.{◌≡◌, ◌∙◌, inl, inr, ℕ, zero, suc, ◌+◌, ◌-◌, ◌==◌, nat_lt, Bool, List, [], ◌∷◌, Option, refl, sym, subst}
use Rattle.std.specs.List.{Contains}
use Rattle.std.proofs.lemmas.Bool.{cond_both}
use Rattle.rv32im.specs.Memory.{Memory}
use Rattle.elf_reader.specs.File.{PlainView, view_in}
use Rattle.elf_reader.specs.Image.{image_of}
use Rattle.board_config.specs.declared.board.Board.{Board}
use Rattle.rv32im.specs.declared.instructions.Instr.{Instr}
use Rattle.object_graph.specs.declared.parts.DataWord.{DataWord}
use Rattle.object_graph.specs.declared.parts.Graph.{Graph}
use Rattle.code_blocks.specs.Blocks.{IsCode}
use Rattle.code_blocks.specs.declared.parts.Code.{Code}
use Rattle.code_blocks.proofs.EntryLemmas.{entry_leads}
use Rattle.dataflow.specs.Live.{Next, within, direct, indirect}
use Rattle.dataflow.specs.Points.{Held, Derives, Before, After, Escapes}
use Rattle.dataflow.specs.Points as points
use Rattle.dataflow.proofs.ListLemmas.{in_rest, in_first}
use Rattle.cell_values.specs.Objects.{object_of}
use Rattle.cell_values.specs.declared.values.Val.TheVariants.{Int}
use Rattle.cell_values.specs.declared.values.Cell.{Cell}
use Rattle.cell_values.specs.declared.values.Cell.TheVariants.{Part, Mist}
use Rattle.object_machine.specs.declared.events.Event.{Event}
use Rattle.object_machine.specs.declared.events.Outcome.{Outcome}
use Rattle.object_machine.specs.declared.events.Outcome.TheVariants.{GoesOn, Exited, Trapped, AddressFault}
use Rattle.object_machine.specs.Program.{Program}
use Rattle.object_machine.specs.State.{SourceState, value}
use Rattle.object_machine.specs.Start.{in_word, first_cell, where_memory}
use Rattle.object_machine.specs.Step.{Reads, next_state, StepFrom}
use Rattle.object_machine.specs.Runs.{Steps}
use Rattle.simulation.proofs.Unnamed.{next_same}
use Rattle.result_laws.specs.HomeLaws.{IsAccepted, program_in, unnamed_in, source_start}
use Rattle.result_laws.specs.LiveUnits.{StandsThere}
use Rattle.result_laws.proofs.CodeUnits.{block_of, first}
use Rattle.result_laws.proofs.LiveUnits.{steps_lead_on}
use Rattle.result_laws.specs.Holds.{ValueIsHeld, CellIsHeld, AreHeld}
use Rattle.result_laws.specs.Held.{IsHeld, OneUnit, HeldAtStart, HeldStays, HeldInRuns}
use Rattle.result_laws.proofs.Values.{value_more}
use Rattle.result_laws.proofs.HeldUnits.{units, step_leads}

-- ---- the unit that runs next

-- what may be held behind a unit may be held before the next one
passes_on : (c : Code) (g : Graph) (b k d j : ℕ) → Next c b k d j → (x o : ℕ) → After c g b k x o → Before c g d j x o
passes_on c g _ _ _ _ (within b k more) x o there = there
passes_on c g _ _ _ _ (direct b k d last leads) x o there =
    points.next b d x leads (subst (λ (n : ℕ). Derives c g o (Held b n x)) last there)
passes_on c g _ _ _ _ (indirect b k d last leads) x o there =
    points.anywhere b d x leads (subst (λ (n : ℕ). Derives c g o (Held b n x)) last there)

held_on : (c : Code) (g : Graph) (b k d j : ℕ) (s : SourceState) → Next c b k d j → AreHeld (After c g b k) (Escapes c g) s → AreHeld (Before c g d j) (Escapes c g) s
held_on c g b k d j s next held =
    record {
      regs = λ x. value_more (After c g b k x) (Before c g d j x) (Escapes c g) (passes_on c g b k d j next x) (value s.regs x) (held.regs x);
      fixed = held.fixed;
      cells = held.cells;
    }

-- ---- the start

zero_held : (may escapes : ℕ → Type 0) (k : ℕ) → ValueIsHeld may escapes (value (λ _. Int 0) k)
zero_held may escapes k = cond_both (k == 0) (Int 0) (Int 0) (ValueIsHeld may escapes) (λ none. tt) (λ some. tt)

memory_held : (escapes : ℕ → Type 0) (memory : Bool) (x : Cell) → CellIsHeld escapes x → CellIsHeld escapes (where_memory memory x)
memory_held escapes memory x held = cond_both memory x Mist (CellIsHeld escapes) (λ is. held) (λ other. tt)

-- an object escapes where a word of data holds its address
first_held : (escapes : ℕ → Type 0) (image : Memory) (words : List DataWord) (a : ℕ) → ((d : DataWord) → Contains words d → escapes d.object) → CellIsHeld escapes (first_cell image words a)
first_held escapes image [] a each = tt
first_held escapes image (d ∷ words) a each =
    cond_both (in_word a d) (Part Bool.false d.object d.offset (a - d.at)) (first_cell image words a) (CellIsHeld escapes)
    (λ here. each d (in_first d words)) (λ other. first_held escapes image words a (λ e there. each e (in_rest d words e there)))

module _ (file : List ℕ) (board : Board) (g : Graph) (c : Code) (accepted : IsAccepted file board g) (code : IsCode (view_in file) c) where
  abbrev v : PlainView
  v = view_in file

  abbrev p : Program
  p = unnamed_in file board g

  cell_escapes : (a : ℕ) → CellIsHeld (Escapes c g) (first_cell (image_of v.segments) g.data_words.items a)
  cell_escapes a =
      first_held (Escapes c g) (image_of v.segments) g.data_words.items a (λ d there. points.word d there refl)

  start_held : (may : ℕ → ℕ → Type 0) (input : List ℕ) → AreHeld may (Escapes c g) (source_start file board g input)
  start_held may input =
      record {
        regs = λ k. zero_held (may k) (Escapes c g) k;
        fixed = λ a. memory_held (Escapes c g) ((program_in file board g).is_fixed a) (first_cell (image_of v.segments) g.data_words.items a) (cell_escapes a);
        cells = λ o i.
            let a : ℕ = (object_of g o).home + i in
            memory_held (Escapes c g) (nat_lt i (object_of g o).size) (first_cell (image_of v.segments) g.data_words.items a) (cell_escapes a);
      }

  pub at_start : (input : List ℕ) → IsHeld c g (source_start file board g input)
  at_start input =
      let there = block_of file board g c accepted code v.entry (entry_leads v accepted.code) in
      record {
        block = there.0;
        unit = 0;
        there = subst (λ (a : ℕ). StandsThere c a there.0 0) there.2 (first file board g c accepted code there.0 there.1);
        held = start_held (Before c g there.0 0) input;
      }

  -- ---- steps

  pub stays : (s : SourceState) (read : Option Instr) → IsHeld c g s → s.outcome ≡ GoesOn → Reads (p.word s.pc) read → IsHeld c g (next_state p s read)
  stays s read is going reads =
      let b : ℕ = is.block in
      let k : ℕ = is.unit in
      elim (step_leads file board g c accepted code s b k is.there is.held going read reads) [
        | inl ends ↦
            record { block = b; unit = k; there = subst (λ (a : ℕ). StandsThere c a b k) (sym ends.1) is.there; held = ends.0 }
        | inr goes ↦
            let next = steps_lead_on file board g c s read b k accepted code is.there reads goes.1 in
            record {
              block = next.block;
              unit = next.unit;
              there = next.there;
              held = held_on c g b k next.block next.unit (next_state p s read) next.next goes.0;
            }
      ]

  step_stays : (o : Outcome) (s t : SourceState) (e : Event) → s.outcome ≡ o → IsHeld c g s → StepFrom o (program_in file board g) s e t → IsHeld c g t
  step_stays GoesOn s t e outcome is step =
      let same : t ≡ next_state p s step.0 = step.1.state ∙ next_same (program_in file board g) s step.0 in
      subst (IsHeld c g) (sym same) (stays s step.0 is outcome step.1.meant)
  step_stays (Exited n) s t e outcome is step = subst (IsHeld c g) (sym step.0) is
  step_stays (Trapped pc) s t e outcome is step = subst (IsHeld c g) (sym step.0) is
  step_stays (AddressFault pc why) s t e outcome is step = subst (IsHeld c g) (sym step.0) is

  pub steps_stay : (n : ℕ) (s t : SourceState) → IsHeld c g s → Steps (program_in file board g) n s t → IsHeld c g t
  steps_stay zero s t is steps = subst (IsHeld c g) (sym steps) is
  steps_stay (suc n) s t is steps =
      let m : SourceState = steps.0 in
      steps_stay n m t (step_stays s.outcome s m steps.1.0.0 refl is steps.1.0.1) steps.1.1

  -- ---- one unit at an address

  any_unit : (s : SourceState) (b k d j : ℕ) → (b ≡ d) × (k ≡ j) → AreHeld (Before c g b k) (Escapes c g) s → AreHeld (Before c g d j) (Escapes c g) s
  any_unit s b k d j same held =
      subst (λ (i : ℕ). AreHeld (Before c g d i) (Escapes c g) s) same.1
      (subst (λ (a : ℕ). AreHeld (Before c g a k) (Escapes c g) s) same.0 held)

  pub at_unit : (s : SourceState) (d j : ℕ) → IsHeld c g s → StandsThere c s.pc d j → AreHeld (Before c g d j) (Escapes c g) s
  at_unit s d j is there =
      any_unit s is.block is.unit d j ((units file board g c accepted code).one s.pc is.block is.unit d j is.there there) is.held

pub one_unit : OneUnit
one_unit file board g c s b k accepted code is there = at_unit file board g c accepted code s b k is there

pub held_at_start : HeldAtStart
held_at_start file board g c input accepted code = at_start file board g c accepted code input

pub held_stays : HeldStays
held_stays file board g c s read accepted code is going reads = stays file board g c accepted code s read is going reads

pub held_in_runs : HeldInRuns
held_in_runs file board g c input n s accepted code steps =
    steps_stay file board g c accepted code n (source_start file board g input) s (at_start file board g c accepted code input) steps
