-- The first steps of a run that meets no address fault.
use Rattle.std.proofs.Common.{◌≡◌, ◌∙◌, inl, inr, ℕ, zero, suc, ◌≤◌, min, List, [], length, take, refl, sym, ap, subst, arith}
use Rattle.std.proofs.Math.Nat.{min-eq_left, min-eq_right}
use Rattle.std.proofs.lemmas.Bool.{cases_lt}
use Rattle.std.proofs.lemmas.List.{length-take}
use Rattle.object_machine.specs.declared.events.Outcome.{Outcome}
use Rattle.object_machine.specs.declared.events.Outcome.TheVariants.{GoesOn, Exited, Trapped, AddressFault}
use Rattle.object_machine.specs.Program.{Program}
use Rattle.object_machine.specs.State.{SourceState}
use Rattle.object_machine.specs.Step.{next_state}
use Rattle.profile_runner.specs.Transition.{Transition}
use Rattle.profile_runner.specs.Transitions.{Transitions, TransitionsFrom}
use Rattle.result_laws.specs.Walks.{IsNoFault}
use Rattle.printed_lines.specs.Endings.{IsAddressFault}

-- an outcome that is none
pub no_fault : (o : Outcome) → (IsAddressFault o → ⊥) → IsNoFault o
no_fault GoesOn none = tt
no_fault (Exited code) none = tt
no_fault (Trapped pc) none = tt
no_fault (AddressFault pc why) none = none tt

-- a run that meets none begins with none
begins_from : (o : Outcome) (p : Program) (n : ℕ) (s last : SourceState) (ts : List Transition) → s.outcome ≡ o → TransitionsFrom o (Transitions p n) p s ts last → IsNoFault last.outcome → IsNoFault o
begins_from GoesOn p n s last ts is run none = tt
begins_from (Exited code) p n s last ts is run none = tt
begins_from (Trapped pc) p n s last ts is run none = tt
begins_from (AddressFault pc why) p n s last ts is run none = subst IsNoFault is (subst (λ (x : SourceState). IsNoFault x.outcome) run.1 none)

begins : (p : Program) (n : ℕ) (s last : SourceState) (ts : List Transition) → Transitions p n s ts last → IsNoFault last.outcome → IsNoFault s.outcome
begins p zero s last ts run none = subst (λ (x : SourceState). IsNoFault x.outcome) run.1 none
begins p (suc n) s last ts run none = begins_from s.outcome p n s last ts refl run none

-- its first transitions are those of fewer steps, which meet none
pub record TakesFirst (p : Program) (n : ℕ) (s : SourceState) (ts : List Transition) : Type 0 where
  pub last : SourceState
  pub run : Transitions p n s (take n ts) last
  pub none : IsNoFault last.outcome

ended_first : (o : Outcome) (p : Program) (m : ℕ) (s : SourceState) (ts : List Transition) → s.outcome ≡ o → IsNoFault o → ts ≡ [] → TransitionsFrom o (Transitions p m) p s (take (suc m) ts) s → TakesFirst p (suc m) s ts
ended_first o p m s ts is none empty run =
    record {
      last = s;
      run = subst (λ (x : Outcome). TransitionsFrom x (Transitions p m) p s (take (suc m) ts) s) (sym is) run;
      none = subst IsNoFault (sym is) none;
    }

first_from : (o : Outcome) (p : Program) (n m : ℕ) (s last : SourceState) (ts : List Transition) → s.outcome ≡ o → TransitionsFrom o (Transitions p n) p s ts last → IsNoFault o
    → ((u : SourceState) (others : List Transition) → Transitions p n u others last → TakesFirst p m u others) → TakesFirst p (suc m) s ts
first_from GoesOn p n m s last ts is run none more =
    let (read, (meant, (others, (same, rest)))) = run in
    let behind = more (next_state p s read) others rest in
    record {
      last = behind.last;
      run = subst (λ (x : Outcome). TransitionsFrom x (Transitions p m) p s (take (suc m) ts) behind.last) (sym is) (read, (meant, (take m others, (ap (take (suc m)) same, behind.run))));
      none = behind.none;
    }
first_from (Exited code) p n m s last ts is run none more = ended_first (Exited code) p m s ts is none run.0 (ap (take (suc m)) run.0, refl)
first_from (Trapped pc) p n m s last ts is run none more = ended_first (Trapped pc) p m s ts is none run.0 (ap (take (suc m)) run.0, refl)
first_from (AddressFault pc why) p n m s last ts is run none more = absurd none

pub takes_first : (p : Program) (n m : ℕ) (s last : SourceState) (ts : List Transition) → m ≤ n → Transitions p n s ts last → IsNoFault last.outcome → TakesFirst p m s ts
takes_first p n zero s last ts le run none = record { last = s; run = (refl, refl); none = begins p n s last ts run none }
takes_first p zero (suc m) s last ts le run none = absurd (omega (arith, le))
takes_first p (suc n) (suc m) s last ts le run none =
    first_from s.outcome p n m s last ts refl run (begins p (suc n) s last ts run none)
    (λ u others rest. takes_first p n m u last others (omega (arith, le)) rest none)

-- how many these are
least_of : (a b n : ℕ) → n ≤ b → min (min a b) n ≡ min a n
least_of a b n le =
    elim (cases_lt b a) [
      | inl less ↦
          let over : b ≤ a = omega (arith, less) in
          let all : n ≤ a = omega (arith, over, le) in
          ap (λ k. min k n) (min-eq_right over) ∙ (min-eq_right le ∙ sym (min-eq_right all))
      | inr over ↦ ap (λ k. min k n) (min-eq_left over)
    ]

pub first_count : (count most : ℕ) (ts : List Transition) → length ts ≤ most → length (take (min count most) ts) ≡ min count (length ts)
first_count count most ts few = length-take (min count most) ts ∙ least_of count most (length ts) few
