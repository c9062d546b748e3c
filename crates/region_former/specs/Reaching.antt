-- The regions that a program has where its board lists none: each root is a function that the driver calls, and
-- a function belongs to the one root that leads to it.
use Rattle.std.specs.Prelude.{◌≡◌, ℕ, suc, nat_le, Bool, true, false, not, ◌&&◌, length, Option, Some, None, if◌then◌else◌}
use Rattle.list_checks.specs.Tests.{any_below}
use Rattle.code_blocks.specs.Blocks.{count_below}
use Rattle.code_blocks.specs.declared.parts.Code.{Code}
use Rattle.code_blocks.specs.Leads.{is_some_of, is_of}
use Rattle.region_former.specs.Flow.{block_count, leads_into, calls}

-- ---- roots

-- block `a` is of the driver, and ends in a call into function `g`, which is another one
abbrev pub is_of_driver : Code → Option ℕ → ℕ → Bool
is_of_driver c None a = false
is_of_driver c (Some driver) a = is_of c driver a

abbrev pub driver_calls : Code → Option ℕ → ℕ → ℕ → Bool
driver_calls c driver g a = is_of_driver c driver a && not (is_some_of driver g) && calls c a g

-- the functions other than the driver that a call of the driver's blocks names
abbrev pub is_root : Code → Option ℕ → ℕ → Bool
is_root c driver g = any_below (driver_calls c driver g) (block_count c)

-- how many roots there are
abbrev pub root_count : Code → Option ℕ → ℕ
root_count c driver = count_below (is_root c driver) (length c.functions.items)

-- the number of root `k` by address, from 1; the first 8 roots make regions of these numbers
abbrev pub root_number : (ℕ → Bool) → ℕ → ℕ
root_number root k = suc (count_below root k)

abbrev pub root_region : (ℕ → Bool) → ℕ → ℕ
root_region root k = if nat_le (root_number root k) 8 then root_number root k else 0

-- ---- what a root leads to

-- some block of function `f` has a direct edge to a block of function `g`, which is not the driver
abbrev pub enters_at : Code → Option ℕ → ℕ → ℕ → ℕ → Bool
enters_at c driver f g a = is_of c f a && leads_into c driver a g

abbrev pub enters : Code → Option ℕ → ℕ → ℕ → Bool
enters c driver f g = any_below (enters_at c driver f g) (block_count c)

-- a chain of steps
pub data Chain (step : ℕ → ℕ → Bool) : ℕ → ℕ → Type 0 where
  here : (k : ℕ) → Chain step k k
  further : (k f g : ℕ) → Chain step k f → step f g ≡ true → Chain step k g

-- a root leads to function `f`: by a chain of functions, none of them the driver, in which some block of each
-- has a direct edge to a block of the next
pub record Leads (root : ℕ → Bool) (step : ℕ → ℕ → Bool) (k f : ℕ) : Type 0 where
  pub starts : root k ≡ true
  pub chain : Chain step k f

-- it is the only one that does
pub record LeadsAlone (root : ℕ → Bool) (step : ℕ → ℕ → Bool) (k f : ℕ) : Type 0 where
  pub leads : Leads root step k f
  pub alone : (j : ℕ) → Leads root step j f → j ≡ k

-- the region of function `f`: that of the one root that leads to it; none where no root does, or several
pub data IsReached (root : ℕ → Bool) (step : ℕ → ℕ → Bool) (f : ℕ) : ℕ → Type 0 where
  by_one : (k : ℕ) → LeadsAlone root step k f → IsReached root step f (root_region root k)
  by_none_or_several : ((k : ℕ) → LeadsAlone root step k f → ⊥) → IsReached root step f 0
