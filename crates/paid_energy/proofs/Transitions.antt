-- The transitions of a run from one on, their costs, and how the first of them is left.
use Rattle.std.proofs.Common.{◌≡◌, ◌∙◌, ℕ, suc, ◌+◌, ◌<◌, List, ◌∷◌, length, Option, refl, ap, subst, arith}
use Rattle.list_checks.specs.Sorted.{sum_below}
use Rattle.list_checks.proofs.SumLemmas.{sum_same}
use Rattle.rv32im.specs.declared.instructions.Instr.{Instr}
use Rattle.object_machine.specs.declared.events.Outcome.TheVariants.{GoesOn}
use Rattle.object_machine.specs.Program.{Program}
use Rattle.object_machine.specs.State.{SourceState}
use Rattle.object_machine.specs.Step.{Reads, next_state}
use Rattle.profile_runner.specs.Transition.{Transition, transition_at}
use Rattle.profile_runner.specs.Transitions.{TransitionsFrom, FirstOf, Transitions, transition_of}
use Rattle.paid_energy.proofs.Fetching.{sum_first}

module _ (whole : List Transition) where
  -- these are all from the i-th on
  pub record IsFrom (i : ℕ) (rest : List Transition) : Type 0 where
    pub rest_of : (k : ℕ) → k < length rest → transition_at whole (i + k) ≡ transition_at rest k
    pub long : length whole ≡ i + length rest

  pub from_start : IsFrom 0 whole
  from_start = record { rest_of = λ k below. ap (transition_at whole) (omega arith); long = omega arith }

  pub behind_first : (i : ℕ) (m : Transition) (rest : List Transition) → IsFrom i (m ∷ rest) → IsFrom (suc i) rest
  behind_first i m rest here =
      let long = here.long in
      record {
        rest_of = λ k below. ap (transition_at whole) (omega arith) ∙ here.rest_of (suc k) (omega (arith, below));
        long = omega (arith, long);
      }

  -- ---- the first of them

  pub record HasFirst (p : Program) (n : ℕ) (s s' : SourceState) (i : ℕ) (rest : List Transition) : Type 0 where
    pub first : Transition
    pub others : List Transition
    pub whole_rest : rest ≡ first ∷ others
    pub below : i < length whole
    pub at : transition_at whole i ≡ first
    pub there : IsFrom i (first ∷ others)
    pub read : Option Instr
    pub reads : Reads (p.word s.pc) read
    pub is : first ≡ transition_of p s (next_state p s read) read
    pub behind : Transitions p n (next_state p s read) others s'

  pub has_first : (p : Program) (n : ℕ) (s s' : SourceState) (i : ℕ) (rest : List Transition) → s.outcome ≡ GoesOn → Transitions p (suc n) s rest s' → IsFrom i rest → HasFirst p n s s' i rest
  has_first p n s s' i rest going run here =
      let found : FirstOf (Transitions p n) p s rest s' = subst (λ o. TransitionsFrom o (Transitions p n) p s rest s') going run in
      let m : Transition = transition_of p s (next_state p s found.0) found.0 in
      let others : List Transition = found.1.1.0 in
      let there : IsFrom i (m ∷ others) = subst (λ (ts : List Transition). IsFrom i ts) found.1.1.1.0 here in
      let long = there.long in
      record {
        first = m;
        others = others;
        whole_rest = found.1.1.1.0;
        below = omega (arith, long);
        at = ap (transition_at whole) (omega arith) ∙ there.rest_of 0 (omega arith);
        there = there;
        read = found.0;
        reads = found.1.0;
        is = refl;
        behind = found.1.1.1.1;
      }

-- ---- sums

module _ (cost : ℕ → ℕ) where
  -- what these transitions cost by their numbers
  abbrev pub sum_from : ℕ → List Transition → ℕ
  sum_from i rest = sum_below (λ k. cost (i + k)) (length rest)

  pub sum_more : (i : ℕ) (m : Transition) (rest : List Transition) → sum_from i (m ∷ rest) ≡ cost i + sum_from (suc i) rest
  sum_more i m rest =
      let first = sum_first (λ k. cost (i + k)) (length rest) in
      let at : cost (i + 0) ≡ cost i = ap cost (omega arith) in
      let others =
      sum_same (λ k. cost (i + suc k)) (λ k. cost (suc i + k)) (length rest) (λ k below. ap cost (omega arith)) in
      omega (arith, first, at, others)

  pub sum_all : (whole : List Transition) → sum_from 0 whole ≡ sum_below cost (length whole)
  sum_all whole = sum_same (λ k. cost (0 + k)) cost (length whole) (λ k below. ap cost (omega arith))
