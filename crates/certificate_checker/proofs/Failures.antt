-- The failing root of a tree, and marks that are set twice.
use Rattle.std.proofs.Common.{◌≡◌, ◌∙◌, inl, ℕ, zero, suc, ◌+◌, ◌^◌, ◌<◌, List, [], ◌∷◌, slice_set, ap, refl, arith}
use Rattle.placement_programme.specs.Plain.{PlainSide}
use Rattle.certificate_checker.specs.Nodes.{PlainTree, branch, over, dual, leaf}
use Rattle.certificate_checker.specs.Rules.{KeepsRule, FirstWrong}
use Rattle.certificate_checker.specs.Shows.{in_32_bits}
use Rattle.certificate_checker.specs.declared.fixings.Fixing.{Fixing}
use Rattle.certificate_checker.specs.declared.fixings.Fixing.TheVariants.{Zero, One}

pub number_here : (n : ℕ) → n < 2 ^ 32 → n ≡ in_32_bits (n + 0)
unfolding in_32_bits
number_here n small = omega arith

pub root_fails : (s : PlainSide) (best : ℕ) (marks : List Fixing) (t : PlainTree) → (KeepsRule s best marks t → ⊥) → FirstWrong s best marks t 0 0
root_fails s best marks (branch j l r) broken = inl (broken, refl, refl)
root_fails s best marks (over row) broken = (broken, refl, refl)
root_fails s best marks (dual scale ms) broken = (broken, refl, refl)
root_fails s best marks leaf broken = (broken, refl, refl)

-- marks that are set twice, and back
pub set_twice : (ms : List Fixing) (k : ℕ) (a b : Fixing) → slice_set (slice_set ms k a) k b ≡ slice_set ms k b
set_twice [] k a b = refl
set_twice (m ∷ ms) zero a b = refl
set_twice (m ∷ ms) (suc k) a b = ap (λ rest. m ∷ rest) (set_twice ms k a b)

pub marks_one : (ms first : List Fixing) (k : ℕ) → first ≡ slice_set ms k Zero → slice_set first k One ≡ slice_set ms k One
marks_one ms first k is = ap (λ l. slice_set l k One) is ∙ set_twice ms k Zero One
