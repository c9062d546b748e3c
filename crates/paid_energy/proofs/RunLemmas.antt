-- Runs of the flat machine until it ends.
use Rattle.std.proofs.Common.{◌≡◌, ◌⊎◌, inl, inr, ℕ, ◌+◌, ◌*◌, ◌<◌, ◌≤◌, List, [], ◌∷◌, ◌++◌, length, refl, sym, ◌∙◌, ap, subst, arith}
use Rattle.std.specs.Prelude.{Option}
use Rattle.std.proofs.lemmas.Bool.{cases_lt}
use Rattle.std.proofs.lemmas.List.{length-append}
use Rattle.std.proofs.Math.Path.{ap₂}
use Rattle.rv32im.specs.Table.{OneInstruction}
use Rattle.board_config.specs.declared.board.Board.{Board}
use Rattle.flat_machine.specs.declared.events.FlatOutcome.{FlatOutcome}
use Rattle.flat_machine.specs.declared.events.FlatOutcome.TheVariants.{GoesOn, Exited, Trapped}
use Rattle.flat_machine.specs.declared.events.FlatAccess.{FlatAccess}
use Rattle.flat_machine.specs.declared.events.FlatEvent.{FlatEvent}
use Rattle.flat_machine.specs.State.{State}
use Rattle.flat_machine.specs.Runs.{Does, Steps, HasEnded}
use Rattle.flat_machine.specs.Known.{TellsStep}
use Rattle.flat_machine.proofs.Runs.{does_joined, steps_of_events, one_run, one_list}
use Rattle.paid_energy.specs.Costs.{fetch_cost, told_cost, event_cost, run_cost}
use Rattle.paid_energy.specs.FlatRuns.{RunsFor, PaysRun}
use Rattle.paid_energy.proofs.CostLemmas.{run_cost_more}

not_both : (o : FlatOutcome) → HasEnded o → o ≡ GoesOn → ⊥
not_both GoesOn ended going = ended
not_both (Exited code) ended going = cc (going)
not_both (Trapped pc) ended going = cc (going)

-- ---- a machine runs in one way

-- of two runs the one isn't shorter, since it would have ended where the other goes on
not_shorter : OneInstruction → (most : ℕ) (s t u : State) (es fs : List FlatEvent) → RunsFor most s es t → RunsFor most s fs u → length es < length fs → ⊥
not_shorter one most s t u es fs a b shorter =
    not_both t.outcome (a.ended (omega (arith, shorter, b.few))) (b.going (length es) t shorter (steps_of_events es s t a.does))

pub one_run_until : OneInstruction → (most : ℕ) (s t u : State) (es fs : List FlatEvent) → RunsFor most s es t → RunsFor most s fs u → (es ≡ fs) × (t ≡ u)
one_run_until one most s t u es fs a b =
    let same : length es ≡ length fs = omega (arith, not_shorter one most s t u es fs a b, not_shorter one most s u t fs es b a) in
    let steps : Steps (length fs) s t = subst (λ n. Steps n s t) same (steps_of_events es s t a.does) in
    (one_list one es fs s t u same a.does b.does, one_run one (length fs) s t u steps (steps_of_events fs s u b.does))

-- ---- a greater bound

pub runs_within : (most more : ℕ) (s t : State) (es : List FlatEvent) → RunsFor most s es t → HasEnded t.outcome → most ≤ more → RunsFor more s es t
runs_within most more s t es r ended within =
    record { does = r.does; few = omega (arith, r.few, within); ended = λ less. ended; going = r.going }

-- ---- a run that goes on, step by step

-- so many steps were taken of a machine that went on before each of them, they led here, and cost so much
pub record PaidSoFar (board : Board) (s t : State) (n steps energy : ℕ) : Type 0 where
  pub events : List FlatEvent
  pub does : Does events s t
  pub count : length events ≡ n
  pub going : (k : ℕ) (u : State) → k < n → Steps k s u → u.outcome ≡ GoesOn
  pub steps_are : steps ≡ n
  pub energy_is : energy ≡ run_cost board events
  pub small : energy ≤ 20000 * n

pub nothing_paid : (board : Board) (s : State) → PaidSoFar board s s 0 0 0
nothing_paid board s =
    record {
      events = [];
      does = refl;
      count = refl;
      going = λ k u less steps. absurd (omega (arith, less));
      steps_are = refl;
      energy_is = refl;
      small = omega arith;
    }

-- the machine goes on behind one step more, too
going_more : OneInstruction → (s t : State) (n : ℕ) → Steps n s t → t.outcome ≡ GoesOn
    → ((k : ℕ) (u : State) → k < n → Steps k s u → u.outcome ≡ GoesOn)
    → (k : ℕ) (u : State) → k < n + 1 → Steps k s u → u.outcome ≡ GoesOn
going_more one s t n here going before k u less steps =
    by (cases_lt k n)
  where
    by : (k < n) ⊎ (n ≤ k) → u.outcome ≡ GoesOn
    by (inl below) = before k u below steps
    by (inr over) =
        let same : k ≡ n = omega (arith, less, over) in
        let is : u ≡ t = one_run one n s u t (subst (λ j. Steps j s u) same steps) here in
        ap (λ (x : State). x.outcome) is ∙ going

-- one step more
pub paid_more : OneInstruction → (board : Board) (s t u : State) (n steps energy : ℕ) (access : Option FlatAccess)
    → PaidSoFar board s t n steps energy → t.outcome ≡ GoesOn → TellsStep t access u → fetch_cost board t.hart.pc + told_cost board access ≤ 20000
    → PaidSoFar board s u (n + 1) (steps + 1) (energy + (fetch_cost board t.hart.pc + told_cost board access))
paid_more one board s t u n steps energy access r going tells small =
    let e = tells.event in
    let taken : Steps n s t = subst (λ k. Steps k s t) r.count (steps_of_events r.events s t r.does) in
    let cost : event_cost board e ≡ fetch_cost board t.hart.pc + told_cost board access =
    ap₂ (λ at made. fetch_cost board at + told_cost board made) tells.at_is tells.access_is in
    let whole : run_cost board (r.events ++ e ∷ []) ≡ run_cost board r.events + event_cost board e = run_cost_more board r.events e in
    record {
      events = r.events ++ e ∷ [];
      does = does_joined r.events (e ∷ []) s t u r.does (u, (tells.step, refl));
      count = length-append r.events (e ∷ []) ∙ ap (λ k. k + 1) r.count;
      going = going_more one s t n taken going r.going;
      steps_are = ap (λ k. k + 1) r.steps_are;
      energy_is = omega (arith, r.energy_is, whole, cost);
      small = omega (arith, r.small, small);
    }

-- that is the whole run, where the bound is reached or the machine has ended
pub whole_run : (board : Board) (s t : State) (most n steps energy : ℕ)
    → PaidSoFar board s t n steps energy → n ≤ most → (n < most → HasEnded t.outcome) → PaysRun board most s t.outcome steps energy
whole_run board s t most n steps energy r within ended =
    record {
      events = r.events;
      last = t;
      run = record {
        does = r.does;
        few = omega (arith, r.count, within);
        ended = λ less. ended (omega (arith, r.count, less));
        going = λ k u less. r.going k u (omega (arith, r.count, less));
      };
      outcome_is = refl;
      steps_are = r.steps_are ∙ sym r.count;
      energy_is = r.energy_is;
    }
