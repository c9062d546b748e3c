-- Checks that are made in a fixed order, and what the first of them that fails tells.
-- A check is a fault, or none where it holds.
use Rattle.std.specs.Prelude.{◌≡◌, ◌⊎◌, ℕ, zero, suc, Bool, true, false, Option, Some, None, Result, Ok, Err}

-- the first fault of two checks, of which the left one comes first
infixr 10 ◌or_else◌
abbrev pub ◌or_else◌ : {E : Type 0} → Option E → Option E → Option E
None or_else later = later
(Some fault) or_else later = Some fault

-- a check that fails with this fault unless the test holds
abbrev pub unless : {E : Type 0} → Bool → E → Option E
unless true fault = None
unless false fault = Some fault

-- the first fault of check 0, check 1, .. up to check n - 1
abbrev pub first_below : {E : Type 0} → (ℕ → Option E) → ℕ → Option E
first_below check zero = None
first_below check (suc n) = first_below check n or_else check n

-- a result tells of the first fault: Ok exactly where there is none, and else that fault
abbrev pub Reports : {T E : Type 0} → Result T E → Option E → Type 0
Reports (Ok value) first = first ≡ None
Reports (Err fault) first = first ≡ Some fault

-- the same of a call that may also run out of memory, which one fault of its own says
abbrev pub ReportsUnless : {T E : Type 0} → E → Result T E → Option E → Type 0
ReportsUnless memory (Ok value) first = first ≡ None
ReportsUnless memory (Err fault) first = (fault ≡ memory) ⊎ (first ≡ Some fault)
