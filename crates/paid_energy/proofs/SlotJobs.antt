-- The jobs of slots that pass a test cost what the names of the slots cost.
use Rattle.std.proofs.Common.{◌≡◌, ℕ, suc, ◌+◌, ◌<◌, Bool, true, false, if◌then◌else◌, List, [], ◌∷◌, length, map, refl, sym, subst, arith}
use Rattle.std.specs.List.{sum_by}
use Rattle.std.proofs.lemmas.List.Sums.{sum_by-cons, sum_by-append}
use Rattle.object_graph.specs.declared.parts.Graph.{Graph}
use Rattle.placement_programme.specs.declared.variables.VarName.{VarName}
use Rattle.patch_code.specs.declared.job.CopyJob.{CopyJob}
use Rattle.relocator.specs.declared.slots.Slot.{Slot}
use Rattle.relocator.specs.Laws.{slot_at}
use Rattle.result_laws.specs.ChosenJobs.{Images, job_into, jobs_home, next_code, entering, leaving, code_number}
use Rattle.result_laws.proofs.ListLemmas.{job_at, homes_at, next_plus}
use Rattle.relink_core.specs.Names.{name_of_slot}

-- by whether a slot passes
one_slot : (pay : CopyJob → ℕ) (passes : Bool) (jobs : List CopyJob) (price : ℕ) → (passes ≡ true → sum_by pay jobs ≡ price) → (passes ≡ false → price ≡ 0) → sum_by pay (if passes then jobs else []) ≡ price
one_slot pay true jobs price passing none = passing refl
one_slot pay false jobs price passing none = sym (none refl)

module _ (which : VarName → Bool) (pay : CopyJob → ℕ) (price : VarName → ℕ) (g : Graph) where
  pub entering_cost : (images : Images) (n : ℕ) (slots : List Slot) → ((k : ℕ) → k < length slots → which (slot_at slots k).name ≡ true → pay (job_at g images (n + code_number slots k) slots k) ≡ price (slot_at slots k).name) → ((k : ℕ) → k < length slots → which (slot_at slots k).name ≡ false → price (slot_at slots k).name ≡ 0) → sum_by pay (entering which g images n slots) ≡ sum_by price (map name_of_slot slots)
  entering_cost images n [] each none = refl
  entering_cost images n (s ∷ ss) each none =
      let first =
      one_slot pay (which s.name) (job_into g images n s.at s.name ∷ []) (price s.name)
      (λ here.
      let number : n + 0 ≡ n = omega arith in
      let job : pay (job_into g images n s.at s.name) ≡ price s.name =
      subst (λ (m : ℕ). pay (job_into g images m s.at s.name) ≡ price s.name) number (each 0 (omega arith) here) in
      let alone = sum_by-cons pay (job_into g images n s.at s.name) [] in
      omega (arith, job, alone))
      (λ other. none 0 (omega arith) other) in
      let rest =
      entering_cost images (next_code s.name n) ss
      (λ k below passes.
      subst (λ (m : ℕ). pay (job_at g images m ss k) ≡ price (slot_at ss k).name) (sym (next_plus s.name n (code_number ss k)))
      (each (suc k) (omega (arith, below)) passes))
      (λ k below other. none (suc k) (omega (arith, below)) other) in
      let both = sum_by-append pay (if which s.name then job_into g images n s.at s.name ∷ [] else []) (entering which g images (next_code s.name n) ss) in
      let more = sum_by-cons price s.name (map name_of_slot ss) in
      omega (arith, first, rest, both, more)

  pub leaving_cost : (slots : List Slot) → ((k : ℕ) → k < length slots → which (slot_at slots k).name ≡ true → sum_by pay (homes_at g slots k) ≡ price (slot_at slots k).name) → ((k : ℕ) → k < length slots → which (slot_at slots k).name ≡ false → price (slot_at slots k).name ≡ 0) → sum_by pay (leaving which g slots) ≡ sum_by price (map name_of_slot slots)
  leaving_cost [] each none = refl
  leaving_cost (s ∷ ss) each none =
      let first =
      one_slot pay (which s.name) (jobs_home g s.at s.name) (price s.name) (λ here. each 0 (omega arith) here) (λ other. none 0 (omega arith) other) in
      let rest =
      leaving_cost ss (λ k below passes. each (suc k) (omega (arith, below)) passes) (λ k below other. none (suc k) (omega (arith, below)) other) in
      let both = sum_by-append pay (if which s.name then jobs_home g s.at s.name else []) (leaving which g ss) in
      let more = sum_by-cons price s.name (map name_of_slot ss) in
      omega (arith, first, rest, both, more)

-- where no name costs anything
pub none_costs : (price : VarName → ℕ) (slots : List Slot) → ((k : ℕ) → k < length slots → price (slot_at slots k).name ≡ 0) → sum_by price (map name_of_slot slots) ≡ 0
none_costs price [] none = refl
none_costs price (s ∷ ss) none =
    let first = none 0 (omega arith) in
    let rest = none_costs price ss (λ k below. none (suc k) (omega (arith, below))) in
    let more = sum_by-cons price s.name (map name_of_slot ss) in
    omega (arith, first, rest, more)
