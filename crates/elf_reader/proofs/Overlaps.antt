-- The pairs of program headers.
use Rattle.std.proofs.Common.{◌≡◌, ℕ, zero, suc, ◌+◌, ◌≤◌, List, None, refl, arith}
use Rattle.std.proofs.lemmas.Bool.Decides.{nat_tests}
use Rattle.list_checks.specs.First.{first_below}
use Rattle.elf_reader.specs.ProgramHeaderChecks.{pair_fault}

-- no pair has its higher program header at or below the lower one
pub no_lower : (file : List ℕ) (i n : ℕ) → n ≤ i + 1 → first_below (pair_fault file i) n ≡ None
unfolding pair_fault
no_lower file i zero le = refl
no_lower file i (suc n) le =
    let earlier = no_lower file i n (omega arith) in
    grind (arith, nat_tests, earlier)
