-- The weights of a side by rows.
use Rattle.std.specs.Prelude.{◌≡◌, ◌<◌, ℕ, ◌==◌, if◌then◌else◌, List, [], ◌∷◌, ◌++◌, map, length, slice_index_or, Vec}
use Rattle.std.specs.Global.{Global}
use Rattle.placement_programme.specs.Plain.{PlainVar, PlainSide}
use Rattle.placement_programme.specs.Bounds.{AreWeights, row_of, value_of}
use Rattle.placement_programme.specs.Programme.{weight_in, weight_at}
use Rattle.certificate_checker.specs.declared.row_wise.RowWise.{RowWise}

abbrev pub row_items : Vec (ℕ × ℕ) Global → List (ℕ × ℕ)
row_items row = row.items

abbrev pub plain_rows : List (Vec (ℕ × ℕ) Global) → List (List (ℕ × ℕ))
plain_rows rows = map row_items rows

abbrev pub rows_of : RowWise → List (List (ℕ × ℕ))
rows_of w = plain_rows w.rows.items

-- what stands in a row: variables, each with its weight
abbrev pub row_at : List (List (ℕ × ℕ)) → ℕ → List (ℕ × ℕ)
row_at rows row = slice_index_or rows row []

-- those of the first `count` variables that weigh something in a row, ascending, and their weights
pub record IsRowOf (vars : List PlainVar) (count row : ℕ) (entries : List (ℕ × ℕ)) : Type 0 where
  pub weights : AreWeights count entries
  pub values : (j : ℕ) → j < count → weight_in entries j ≡ weight_at vars row j

abbrev pub AreRowsOf : List PlainVar → ℕ → List (List (ℕ × ℕ)) → Type 0
AreRowsOf vars count rows = (row : ℕ) → row < length rows → IsRowOf vars count row (row_at rows row)

-- all variables of a side, by all its rows
pub record IsOfSide (s : PlainSide) (lists : List (List (ℕ × ℕ))) : Type 0 where
  pub count : length lists ≡ length s.rows
  pub rows : AreRowsOf s.vars (length s.vars) lists

-- what a variable's weights add to a row
abbrev pub entry_for : ℕ → ℕ × ℕ → ℕ → List (ℕ × ℕ)
entry_for number w row = if row_of w == row then (number, value_of w) ∷ [] else []

abbrev pub entries_for : ℕ → List (ℕ × ℕ) → ℕ → List (ℕ × ℕ)
entries_for number [] row = []
entries_for number (w ∷ ws) row = entry_for number w row ++ entries_for number ws row

-- each row has what it had, and behind it what a variable's weights add
abbrev pub Enters : ℕ → List (ℕ × ℕ) → List (List (ℕ × ℕ)) → List (List (ℕ × ℕ)) → Type 0
Enters number ws old new =
    (row : ℕ) → row < length old → row_at new row ≡ row_at old row ++ entries_for number ws row
