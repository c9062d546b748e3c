-- What a unit does at its home.
use Rattle.std.specs.Prelude.{◌≡◌, ◌⊎◌, ℕ, ◌+◌, Bool, true, if◌then◌else◌, List, [], ◌∷◌}
use Rattle.rv32im.specs.Words.{plus}
use Rattle.rv32im.specs.declared.instructions.Instr.{Instr}
use Rattle.rv32im.specs.Acts.{Hart}
use Rattle.rv32im.specs.Sequences.{MeanAll}
use Rattle.elf_reader.specs.File.{PlainView}
use Rattle.loaded_file.specs.Code.{image_word}
use Rattle.code_blocks.specs.Leaders.{is_call_pair}
use Rattle.flat_machine.specs.declared.events.FlatOutcome.{FlatOutcome}
use Rattle.flat_machine.specs.declared.events.FlatOutcome.TheVariants.{GoesOn, Exited, Trapped}
use Rattle.flat_machine.specs.State.{State, trap}
use Rattle.flat_machine.specs.Step.{performed}
use Rattle.block_splitter.specs.declared.unit_kind.UnitKind.{UnitKind}
use Rattle.block_splitter.specs.declared.unit_kind.UnitKind.TheVariants.{Plain, Tail, Indirect, Halt}
use Rattle.flat_machine.specs.Lines.{with_hart, acted}
use Rattle.result_laws.specs.Kinds.{regs_after, next_after, IsKind}

-- the words of the unit at an address: one, or the two of a call pair
abbrev pub home_words : PlainView → ℕ → List ℕ
home_words v a = if is_call_pair v a then image_word v a ∷ image_word v (a + 4) ∷ [] else image_word v a ∷ []

-- the state at another address
abbrev pub standing : State → ℕ → State
standing s a = with_hart s (record { pc = a; regs = s.hart.regs; mem = s.hart.mem })

-- two states after steps from a state and from the same at another address, by what became of the first: both go on
-- behind their addresses, exit alike, or trap
abbrev pub AreAlike : FlatOutcome → State → State → State → ℕ → Type 0
AreAlike GoesOn first second s a = (first.hart.pc ≡ plus s.hart.pc 4) × (second ≡ standing first (plus a 4))
AreAlike (Exited code) first second s a = second ≡ standing first a
AreAlike (Trapped pc) first second s a = (first ≡ trap s) × (second ≡ trap (standing s a))

-- an instruction does the same at each address, behind which control is then: only the pc differs
abbrev pub ActsAnywhere : Instr → Type 0
ActsAnywhere i = (s : State) (a : ℕ) → s.outcome ≡ GoesOn →
    AreAlike (performed s i).outcome (performed s i) (performed (standing s a) i) s a

-- an instruction leads to the same state from each address
abbrev pub JumpsAnywhere : Instr → Type 0
JumpsAnywhere i = (s : State) (a : ℕ) → performed (standing s a) i ≡ performed s i

-- the register of a tail
abbrev pub IsTailRegister : UnitKind → ℕ → Type 0
IsTailRegister (Tail target register) k = k ≡ register
IsTailRegister other k = ⊥

-- the instructions of a unit do what its kind says
pub record LeadsAtHome (a : ℕ) (kind : UnitKind) (is : List Instr) (h : Hart) : Type 0 where
  pub pc : (acted is h).pc ≡ next_after (a + 4) kind h.regs
  pub regs : (k : ℕ) → ((acted is h).regs k ≡ regs_after kind h.regs k) ⊎ IsTailRegister kind k
  pub mem : (acted is h).mem ≡ h.mem

-- what the instructions of the unit at an address do at home. A plain one that is no site does the same everywhere;
-- and none halts
abbrev pub RunsAtHome : (ℕ → Bool) → ℕ → UnitKind → List Instr → Type 0
RunsAtHome is_site a Plain is = (i : Instr) × ((is ≡ i ∷ []) × ((is_site a ≡ true) ⊎ ActsAnywhere i))
RunsAtHome is_site a Indirect is = (i : Instr) × ((is ≡ i ∷ []) × JumpsAnywhere i)
RunsAtHome is_site a Halt is = ⊥
RunsAtHome is_site a other is = (h : Hart) → h.pc ≡ a → LeadsAtHome a other is h

-- a unit of a kind, by the words of its program
pub record IsHomeOf (v : PlainView) (is_site : ℕ → Bool) (a : ℕ) (kind : UnitKind) : Type 0 where
  pub fits : IsKind kind
  pub runs : (is : List Instr) → MeanAll (home_words v a) is → RunsAtHome is_site a kind is

-- of any kind but one at which a run ends
abbrev pub IsHomeUnlessHalt : PlainView → (ℕ → Bool) → ℕ → UnitKind → Type 0
IsHomeUnlessHalt v is_site a Halt = Unit {0}
IsHomeUnlessHalt v is_site a other = IsHomeOf v is_site a other
