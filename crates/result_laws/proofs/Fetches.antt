-- A form of a unit with the addresses that are fetched where it runs, by the state before.
use Rattle.std.proofs.Common.{◌≡◌, ℕ, ◌+◌, true, false, List, [], ◌∷◌, Some}
use Rattle.rv32im.specs.declared.instructions.Instr.{Instr}
use Rattle.flat_machine.specs.State.{State}
use Rattle.object_machine.specs.Program.{Program}
use Rattle.object_machine.specs.Step.{Reads}
use Rattle.simulation.specs.Setups.{Setup}
use Rattle.simulation.specs.Forms.{IsAt, RunsFor, PairRuns, RowAt, FormAt, InWords, InRow}

-- a row that runs for an instruction, or for a call of two words, fetches these
abbrev pub RunsOver : Program → (ℕ → ℕ → Type 0) → (ℕ → ℕ → Type 0) → ℕ → List ℕ → State → Instr → Type 0
RunsOver p live arrive u fetched t i = (run : RunsFor p live arrive u t i) × (run.fetched ≡ fetched)

abbrev pub PairOver : Program → (ℕ → ℕ → Type 0) → (ℕ → ℕ → Type 0) → ℕ → List ℕ → State → Type 0
PairOver p live arrive u fetched t = (run : PairRuns p live arrive u t) × (run.fetched ≡ fetched)

-- as many words as the unit has
pub record WordsFetch (p : Program) (u a : ℕ) (fetched : State → List ℕ) : Type 0 where
  pub one : p.is_pair u ≡ false → (t : State) → fetched t ≡ a ∷ []
  pub two : p.is_pair u ≡ true → (t : State) → fetched t ≡ a ∷ (a + 4) ∷ []

pub record RowFetches (p : Program) (l : Setup) (live arrive : ℕ → ℕ → Type 0) (r u a : ℕ) (fetched : State → List ℕ) (row : RowAt p l live arrive r u a) : Type 0 where
  pub one : (i : Instr) (single : p.is_pair u ≡ false) (reads : Reads (p.word u) (Some i)) (t : State) (at : IsAt l r a t)
      → ((row.one i single reads).1 t at).fetched ≡ fetched t
  pub pair : (is : p.is_pair u ≡ true) (t : State) (at : IsAt l r a t) → (row.pair is t at).fetched ≡ fetched t

abbrev pub FormFetches : (p : Program) (l : Setup) (live arrive : ℕ → ℕ → Type 0) (r u a : ℕ) (fetched : State → List ℕ) → FormAt p l live arrive r u a → Type 0
FormFetches p l live arrive r u a fetched (InWords words) = WordsFetch p u a fetched
FormFetches p l live arrive r u a fetched (InRow row) = RowFetches p l live arrive r u a fetched row

abbrev pub FormOver : (p : Program) (l : Setup) (live arrive : ℕ → ℕ → Type 0) (r u a : ℕ) (fetched : State → List ℕ) → Type 0
FormOver p l live arrive r u a fetched =
    (form : FormAt p l live arrive r u a) × FormFetches p l live arrive r u a fetched form
