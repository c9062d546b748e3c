-- Runs until something holds, of a machine that has no choice.
use Rattle.std.proofs.Common.{◌≡◌, ℕ, ◌+◌, ◌<◌, ◌≤◌, inl, inr, subst, arith}
use Rattle.std.proofs.lemmas.Bool.{cases_lt}
use Rattle.compare_runner.specs.Comparing.{RunsUntil}

-- `k` steps were taken, and what is waited for held before none of them
pub record RunsOn (S : Type 0) (steps : ℕ → S → S → Type 0) (Stops : S → Type 0) (s : S) (k : ℕ) (t : S) : Type 0 where
  pub ran : steps k s t
  pub first : (j : ℕ) (u : S) → j < k → steps j s u → Stops u → ⊥

module _ (S : Type 0) (steps : ℕ → S → S → Type 0) (Stops : S → Type 0) (one : (n : ℕ) (s t u : S) → steps n s t → steps n s u → t ≡ u) where
  -- no step was taken
  pub runs_none : (s t : S) → steps 0 s t → RunsOn S steps Stops s 0 t
  runs_none s t ran = record { ran = ran; first = λ j u below _ _. absurd (omega (arith, below)) }

  -- one step more, behind a state in which it doesn't hold
  pub runs_more : (s : S) (k : ℕ) (t t' : S) → RunsOn S steps Stops s k t → (Stops t → ⊥) → steps (k + 1) s t' → RunsOn S steps Stops s (k + 1) t'
  runs_more s k t t' runs going more =
      record {
        ran = more;
        first = λ j u below ran stops.
            elim (cases_lt j k) [
              | inl before ↦ runs.first j u before ran stops
              | inr behind ↦
                  let here : j ≡ k = omega (arith, below, behind) in
                  going (subst Stops (one k s u t (subst (λ i. steps i s u) here ran) runs.ran) stops)
            ];
      }

  -- it holds first where it doesn't hold before
  pub runs_until : (most : ℕ) (s : S) (k : ℕ) (t : S) → RunsOn S steps Stops s k t → k ≤ most → (k < most → Stops t) → RunsUntil S steps Stops most s k t
  runs_until most s k t runs within reason =
      record { ran = runs.ran; within = within; reason = reason; first = runs.first }

  -- where it holds, the run has ended or does so before
  pub not_past : (most : ℕ) (s : S) (k : ℕ) (t : S) (j : ℕ) (u : S) → RunsUntil S steps Stops most s k t → steps j s u → Stops u → k ≤ j
  not_past most s k t j u until ran stops =
      elim (cases_lt j k) [
        | inl before ↦ absurd (until.first j u before ran stops)
        | inr behind ↦ behind
      ]

  -- where it holds within the bound, it holds at the end
  pub holds_at : (most : ℕ) (s : S) (k : ℕ) (t : S) (j : ℕ) (u : S) → RunsUntil S steps Stops most s k t → j ≤ most → steps j s u → Stops u → Stops t
  holds_at most s k t j u until within ran stops =
      elim (cases_lt k most) [
        | inl before ↦ until.reason before
        | inr last ↦
            let past = not_past most s k t j u until ran stops in
            let here : j ≡ k = omega (arith, within, last, past) in
            subst Stops (one k s u t (subst (λ i. steps i s u) here ran) until.ran) stops
      ]

  not_before : (most : ℕ) (s : S) (k : ℕ) (t : S) (j : ℕ) (u : S) → RunsUntil S steps Stops most s k t → RunsUntil S steps Stops most s j u → k ≤ j
  not_before most s k t j u until other =
      elim (cases_lt j k) [
        | inl before ↦
            let within = until.within in
            let below : j < most = omega (arith, before, within) in
            absurd (until.first j u before other.ran (other.reason below))
        | inr behind ↦ behind
      ]

  -- there is one end
  pub until_same : (most : ℕ) (s : S) (k : ℕ) (t : S) (j : ℕ) (u : S) → RunsUntil S steps Stops most s k t → RunsUntil S steps Stops most s j u → (k ≡ j) × (t ≡ u)
  until_same most s k t j u until other =
      let below = not_before most s k t j u until other in
      let above = not_before most s j u k t other until in
      let number : k ≡ j = omega (arith, below, above) in
      (number, one j s t u (subst (λ i. steps i s t) number until.ran) other.ran)
