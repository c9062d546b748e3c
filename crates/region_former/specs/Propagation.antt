-- How what is known of the roots that lead to a function spreads along the steps between functions.
use Rattle.std.specs.Prelude.{◌≡◌, ◌⊎◌, ℕ, ◌+◌, ◌<◌, ◌≤◌, ◌==◌, Bool, true, false, if◌then◌else◌, List, [], ◌∷◌, ◌++◌, map, length, set, slice_index_or, Option, Some, None, Vec}
use Rattle.std.specs.List.{sum_by}
use Rattle.code_blocks.specs.Early.{has}
use Rattle.std.specs.Global.{Global}
use Rattle.region_former.specs.Reaching.{Leads, LeadsAlone}
use Rattle.region_former.specs.declared.propagation.Reached.{Reached}
use Rattle.region_former.specs.declared.propagation.Reached.TheVariants.{ByNone, ByOne, BySeveral}

-- root `k` is among those that the mark stands for
abbrev pub covers : Reached → ℕ → Bool
covers ByNone k = false
covers (ByOne j) k = j == k
covers BySeveral k = true

-- a mark and another one together, if that says more
abbrev pub raised : Reached → Reached → Option Reached
raised old ByNone = None
raised ByNone (ByOne k) = Some (ByOne k)
raised ByNone BySeveral = Some BySeveral
raised (ByOne j) (ByOne k) = if j == k then None else Some BySeveral
raised (ByOne j) BySeveral = Some BySeveral
raised BySeveral (ByOne k) = None
raised BySeveral BySeveral = None

-- how often a mark may still be raised
abbrev pub raises_left : Reached → ℕ
raises_left ByNone = 2
raises_left (ByOne k) = 1
raises_left BySeveral = 0

-- the mark of function `f`
abbrev pub mark_at : List Reached → ℕ → Reached
mark_at marks f = slice_index_or marks f ByNone

-- the functions behind function `f`
abbrev pub plain_rows : List (Vec ℕ Global) → List (List ℕ)
plain_rows rows = map (λ row. row.items) rows

abbrev pub row_of : List (Vec ℕ Global) → ℕ → List ℕ
row_of rows f = slice_index_or (plain_rows rows) f []

-- all functions in the rows are below n
abbrev pub AreBelow : ℕ → List (Vec ℕ Global) → Type 0
AreBelow n rows = (f g : ℕ) → has (row_of rows f) g ≡ true → g < n

-- a mark tells of roots that do lead to function `f`; of two where it says that several do
pub record LeadTwo (root : ℕ → Bool) (step : ℕ → ℕ → Bool) (f : ℕ) : Type 0 where
  pub one : ℕ
  pub other : ℕ
  pub two : (one == other) ≡ false
  pub first : Leads root step one f
  pub second : Leads root step other f

abbrev pub IsTold : (ℕ → Bool) → (ℕ → ℕ → Bool) → ℕ → Reached → Type 0
IsTold root step f ByNone = Unit
IsTold root step f (ByOne k) = Leads root step k f
IsTold root step f BySeveral = LeadTwo root step f

-- function `f` has this mark now, and waits for what is behind it; or nothing changed
abbrev pub IsRaised : List Reached → List ℕ → ℕ → Option Reached → List Reached → List ℕ → Type 0
IsRaised old waited f None new waiting = (new ≡ old) × (waiting ≡ waited)
IsRaised old waited f (Some mark) new waiting = (new ≡ set old f mark) × (waiting ≡ waited ++ f ∷ [])

abbrev pub weight : List Reached → ℕ
weight marks = sum_by raises_left marks

-- a mark was spread to functions: each now covers what it covers, no mark lost anything, each function whose mark
-- was raised waits, and what marks tell is still so
pub record Propagates (old : List Reached) (waited targets : List ℕ) (by : Reached) (new : List Reached) (waiting : List ℕ) : Type 0 where
  pub same_length : length new ≡ length old
  pub grows : (f k : ℕ) → covers (mark_at old f) k ≡ true → covers (mark_at new f) k ≡ true
  pub settled : (f k : ℕ) → has targets f ≡ true → covers by k ≡ true → covers (mark_at new f) k ≡ true
  pub waits : (f : ℕ) → has waited f ≡ true → has waiting f ≡ true
  pub noticed : (f : ℕ) → (mark_at new f ≡ mark_at old f) ⊎ (has waiting f ≡ true)
  pub told : (root : ℕ → Bool) (step : ℕ → ℕ → Bool) → ((f : ℕ) → IsTold root step f (mark_at old f))
      → ((f : ℕ) → has targets f ≡ true → IsTold root step f by) → (f : ℕ) → IsTold root step f (mark_at new f)
  pub lighter : weight new + length waiting ≤ weight old + length waited
  pub only : (f : ℕ) → has waiting f ≡ true → (has waited f ≡ true) ⊎ (has targets f ≡ true)

-- what was spread so far: a function whose mark does not cover those before it has such a one that waits
pub record PropagatesSoFar (old : List Reached) (rows : List (Vec ℕ Global)) (waiting : List ℕ) (new : List Reached) : Type 0 where
  pub same_length : length new ≡ length old
  pub below : (f : ℕ) → has waiting f ≡ true → f < length old
  pub grows : (f k : ℕ) → covers (mark_at old f) k ≡ true → covers (mark_at new f) k ≡ true
  pub settled : (f g k : ℕ) → has (row_of rows f) g ≡ true → covers (mark_at new f) k ≡ true
      → (covers (mark_at new g) k ≡ true) ⊎ (has waiting f ≡ true)
  pub told : (root : ℕ → Bool) (step : ℕ → ℕ → Bool) → ((f : ℕ) → IsTold root step f (mark_at old f))
      → ((f g : ℕ) → has (row_of rows f) g ≡ true → step f g ≡ true) → (f : ℕ) → IsTold root step f (mark_at new f)

-- it was spread as far as it goes
pub record PropagatesOut (old : List Reached) (rows : List (Vec ℕ Global)) (new : List Reached) : Type 0 where
  pub same_length : length new ≡ length old
  pub grows : (f k : ℕ) → covers (mark_at old f) k ≡ true → covers (mark_at new f) k ≡ true
  pub settled : (f g k : ℕ) → has (row_of rows f) g ≡ true → covers (mark_at new f) k ≡ true → covers (mark_at new g) k ≡ true
  pub told : (root : ℕ → Bool) (step : ℕ → ℕ → Bool) → ((f : ℕ) → IsTold root step f (mark_at old f))
      → ((f g : ℕ) → has (row_of rows f) g ≡ true → step f g ≡ true) → (f : ℕ) → IsTold root step f (mark_at new f)

-- what is known of a root at first
abbrev pub first_mark : ℕ → Bool → Reached
first_mark f true = ByOne f
first_mark f false = ByNone

-- a mark tells which root alone leads to function `f`, or that none does alone
abbrev pub IsMark : (ℕ → Bool) → (ℕ → ℕ → Bool) → ℕ → Reached → Type 0
IsMark root step f ByNone = (k : ℕ) → LeadsAlone root step k f → ⊥
IsMark root step f (ByOne k) = LeadsAlone root step k f
IsMark root step f BySeveral = (k : ℕ) → LeadsAlone root step k f → ⊥

-- the region of a function with this mark, by the regions of roots
abbrev pub region_by : List ℕ → Reached → ℕ
region_by regions ByNone = 0
region_by regions (ByOne k) = slice_index_or regions k 0
region_by regions BySeveral = 0
