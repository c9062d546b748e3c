-- What the words of a displaced unit do.
use Rattle.std.specs.Prelude.{ℕ, ◌+◌, Bool, if◌then◌else◌, List, [], ◌∷◌, drop}
use Rattle.flat_machine.specs.State.{State}
use Rattle.code_blocks.specs.declared.parts.Unit.{Unit}
use Rattle.block_splitter.specs.declared.unit_kind.UnitKind.{UnitKind}
use Rattle.block_splitter.specs.declared.unit_kind.UnitKind.TheVariants.{Plain, Branch, Indirect, Halt}
use Rattle.block_splitter.specs.Forms.{displaced_words}
use Rattle.block_splitter.specs.Copies.{Patch, word_of_unit}
use Rattle.flat_machine.specs.Lines.{words_from, Ran, IsAtWords}
use Rattle.result_laws.specs.Kinds.{takes, next_after, PerformsWord, RowRuns}

-- the addresses of the words of a displaced unit that run: a branch that is taken leaves one out
abbrev pub displaced_fetched : ℕ → Bool → UnitKind → List ℕ
displaced_fetched at taken (Branch kind rs1 rs2 target) = at ∷ (if taken then at + 8 else at + 4) ∷ []
displaced_fetched at taken other = words_from at (displaced_words other)

-- the words of a displaced unit at an address run, and go where the unit at home does
abbrev pub DisplacedLeads : State → ℕ → Unit → UnitKind → Type 0
DisplacedLeads s at u kind =
    RowRuns s kind (λ k. ⊥) (displaced_fetched at (takes kind s.hart.regs) kind)
    (next_after (u.at + 4) kind s.hart.regs)

-- a plain unit does what its word means; and then, where the second word stands and the machine goes on, control goes
-- to the next unit at home
pub record RunsAndReturns (s : State) (at word next : ℕ) (words : List ℕ) : Type 0 where
  pub performs : PerformsWord s word
  pub returns : (t : State) → IsAtWords t (at + 4) (drop 1 words) → Ran t ((at + 4) ∷ []) t.hart.regs next

-- what the words of a displaced unit do
abbrev pub DisplacedRuns : List Patch → State → ℕ → Unit → UnitKind → List ℕ → Type 0
DisplacedRuns sites s at u Plain words = RunsAndReturns s at (word_of_unit sites u) (u.at + 4) words
DisplacedRuns sites s at u Indirect words = PerformsWord s u.raw
DisplacedRuns sites s at u Halt words = PerformsWord s u.raw
DisplacedRuns sites s at u other words = DisplacedLeads s at u other
