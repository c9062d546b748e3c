-- The numbers of items of code.
use Rattle.std.proofs.Common.{◌≡◌, ℕ, zero, suc, ◌<◌, Bool, true, false, if◌then◌else◌, List, [], ◌∷◌, length, get_or, refl, arith}
use Rattle.relocator.specs.Slots.{is_code, code_slots}
use Rattle.relocator.specs.Laws.{slot_at}
use Rattle.result_laws.specs.ChosenJobs.{code_number}
use Rattle.result_laws.specs.JobLaws.{CodeNumbers}

abbrev IsPlace : List ℕ → ℕ → ℕ → Type 0
IsPlace places n at = (n < length places) × (get_or places n 0 ≡ at)

first_place : (b : Bool) (at : ℕ) (rest : List ℕ) → b ≡ true → IsPlace (if b then at ∷ rest else rest) 0 at
first_place true at rest is = (omega arith, refl)
first_place false at rest is = absurd (cc (is))

later_place : (b : Bool) (at to n : ℕ) (rest : List ℕ) → IsPlace rest n to → IsPlace (if b then at ∷ rest else rest) (if b then suc n else n) to
later_place true at to n rest is = let below = is.0 in (omega (arith, below), is.1)
later_place false at to n rest is = is

pub code_numbers_so : CodeNumbers
code_numbers_so [] k of = let below = of.0 in absurd (omega (arith, below))
code_numbers_so (s ∷ ss) zero of = first_place (is_code s.name) s.at (code_slots ss) of.1
code_numbers_so (s ∷ ss) (suc k) of =
    let below = of.0 in
    later_place (is_code s.name) s.at (slot_at ss k).at (code_number ss k) (code_slots ss) (code_numbers_so ss k (omega (arith, below), of.1))
