-- Greedy choices fit, and can't be grown.
use Rattle.std.proofs.Common.{inl, inr, ℕ, zero, suc, List, sym, subst}
use Rattle.placement_programme.specs.Plain.{PlainSide}
use Rattle.placement_programme.specs.Programme.{Fits}
use Rattle.branch_bound.specs.Assignments.{taken}
use Rattle.branch_bound.specs.Greedy.{Tries, Grows}
use Rattle.certificate_checker.specs.declared.fixings.Fixing.{Fixing}

tries_fit : (s : PlainSide) (before : List Fixing) (k : ℕ) (after : List Fixing) → Fits s (taken s before) → Tries s before k after → Fits s (taken s after)
tries_fit s before k after fits (inl more) = subst (λ m. Fits s (taken s m)) (sym more.1) more.0
tries_fit s before k after fits (inr same) = subst (λ m. Fits s (taken s m)) (sym same.1) fits

pub grows_fit : (s : PlainSide) (start : List Fixing) (n : ℕ) (marks : List Fixing) → Fits s (taken s start) → Grows s start n marks → Fits s (taken s marks)
grows_fit s start zero marks fits grows = subst (λ m. Fits s (taken s m)) (sym grows) fits
grows_fit s start (suc n) marks fits grows = tries_fit s grows.0 n marks (grows_fit s start n grows.0 fits grows.1.0) grows.1.1
