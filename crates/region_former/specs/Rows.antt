-- Tables by functions: truth values, and the functions behind each function.
use Rattle.std.specs.Prelude.{◌≡◌, ℕ, ◌<◌, ◌==◌, Bool, false, not, ◌&&◌, List, length, slice_index_or, Option, Vec}
use Rattle.std.specs.Global.{Global}
use Rattle.list_checks.specs.Tests.{any_below}
use Rattle.code_blocks.specs.Early.{has}
use Rattle.code_blocks.specs.Numbers.{start_at}
use Rattle.code_blocks.specs.declared.parts.Code.{Code}
use Rattle.code_blocks.specs.Leads.{is_some_of, is_of}
use Rattle.region_former.specs.Flow.{block_count}
use Rattle.region_former.specs.Reaching.{enters_at}
use Rattle.region_former.specs.Propagation.{row_of}

-- truth value `k`; false behind the last
abbrev pub truth_at : List Bool → ℕ → Bool
truth_at truths k = slice_index_or truths k false

-- block `b`, of function `g`, begins at an address
abbrev pub begins_there : Code → ℕ → ℕ → ℕ → Bool
begins_there c g address b = is_of c g b && (address == start_at c b)

-- a block of function `g`, which is not the driver, does
abbrev pub leads_there : Code → Option ℕ → ℕ → ℕ → Bool
leads_there c driver g address = not (is_some_of driver g) && any_below (begins_there c g address) (block_count c)

-- the rows have the functions that the first n blocks of each function lead into
abbrev pub AreRows : Code → Option ℕ → ℕ → List (Vec ℕ Global) → Type 0
AreRows c driver n rows = (f g : ℕ) → f < length rows → has (row_of rows f) g ≡ any_below (enters_at c driver f g) n

-- a list of n values, each that of its place
pub record Lists {A : Type 0} (value : ℕ → A) (none : A) (n : ℕ) (xs : List A) : Type 0 where
  pub one_each : length xs ≡ n
  pub each : (k : ℕ) → k < n → slice_index_or xs k none ≡ value k
