-- Programmes and choices as plain lists and numbers.
use Rattle.std.specs.Prelude.{ℕ, ℤ, Bool, List, Option}
use Rattle.placement_programme.specs.declared.variables.VarName.{VarName}
use Rattle.placement_programme.specs.declared.variables.Var.{Var}

-- a variable: its gain, and its weights, each a row and a value
pub record PlainVar : Type 0 where
  pub name : VarName
  pub gain : ℕ
  pub weights : List (ℕ × ℕ)

-- a side: its fixed cost, the capacity of each row, and its variables
pub record PlainSide : Type 0 where
  pub fixed : ℕ
  pub rows : List ℕ
  pub vars : List PlainVar

-- a programme: the energy with nothing taken, and its sides
pub record PlainProgramme : Type 0 where
  pub base : ℕ
  pub off : PlainSide
  pub on : Option PlainSide

-- a choice: its side, and the numbers of the variables that it takes
pub record PlainChoice : Type 0 where
  pub on : Bool
  pub take : List ℕ

-- the same before variables without a gain are left out
pub record PlainFullVar : Type 0 where
  pub name : VarName
  pub gain : ℤ
  pub weights : List (ℕ × ℕ)

pub record PlainFullSide : Type 0 where
  pub fixed : ℕ
  pub rows : List ℕ
  pub vars : List PlainFullVar

pub record PlainFull : Type 0 where
  pub base : ℕ
  pub off : PlainFullSide
  pub on : Option PlainFullSide

abbrev pub plain_var : Var → PlainVar
plain_var v = record { name = v.name; gain = v.gain; weights = v.weights.items }
