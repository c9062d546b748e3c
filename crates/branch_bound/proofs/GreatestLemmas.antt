-- The greatest so far, with one number more.
use Rattle.std.proofs.Common.{◌≡◌, inl, inr, ℕ, suc, ◌<◌, ◌≤◌, Bool, true, false, IsTrue, ◌↔◌, Option, Some, None, subst, sym, arith}
use Rattle.std.proofs.lemmas.Bool.{cases_eq, cases_lt}
use Rattle.branch_bound.specs.Greatest.{IsGreatestOf, Greatest, GainsMore}

-- what came before gains less than what gains more
earlier_less : (P : ℕ → Type 0) (gain : ℕ → ℕ) (n : ℕ) (best : Option ℕ) (k : ℕ) → Greatest P gain n best → GainsMore gain best n → k < n → P k → gain k < gain n
earlier_less P gain n None k none more below holds = absurd (none k below holds)
earlier_less P gain n (Some j) k found more below holds =
    let most = found.greatest k below holds in omega (arith, most, more)

-- it is the new number
pub new_greatest : (P : ℕ → Type 0) (gain : ℕ → ℕ) (n : ℕ) (best : Option ℕ) → Greatest P gain n best → P n → GainsMore gain best n → IsGreatestOf P gain (suc n) n
new_greatest P gain n best so_far here more =
    record {
      inside = omega arith;
      holds = here;
      greatest = λ k below holds.
          elim (cases_eq k n) [
            | inl same ↦ subst (λ m. gain k ≤ gain m) same (omega arith)
            | inr other ↦ let less = earlier_less P gain n best k so_far more (omega (arith, below, other)) holds in omega (arith, less)
          ];
      first = λ k below holds. earlier_less P gain n best k so_far more below holds;
    }

-- or the old one
pub old_greatest : (P : ℕ → Type 0) (gain : ℕ → ℕ) (n : ℕ) (best : Option ℕ) → Greatest P gain n best → (P n × GainsMore gain best n → ⊥) → Greatest P gain (suc n) best
old_greatest P gain n None none not_new =
    λ k below holds.
    elim (cases_eq k n) [
      | inl same ↦ not_new (subst P same holds, tt)
      | inr other ↦ none k (omega (arith, below, other)) holds
    ]
old_greatest P gain n (Some j) found not_new =
    record {
      inside = let inside = found.inside in omega (arith, inside);
      holds = found.holds;
      greatest = λ k below holds.
          elim (cases_eq k n) [
            | inl same ↦
                elim (cases_lt (gain j) (gain n)) [
                  | inl more ↦ absurd (not_new (subst P same holds, more))
                  | inr most ↦ subst (λ m. gain m ≤ gain j) (sym same) most
                ]
            | inr other ↦ found.greatest k (omega (arith, below, other)) holds
          ];
      first = found.first;
    }

not_true : false ≡ true → ⊥
not_true e = cc

-- by a test
pub greatest_new : (P : ℕ → Type 0) (gain : ℕ → ℕ) (n next : ℕ) (best : Option ℕ) (test : Bool) → next ≡ suc n → Greatest P gain n best → (IsTrue test ↔ (P n × GainsMore gain best n)) → test ≡ true → Greatest P gain next (Some n)
greatest_new P gain n next best test is_next so_far tested is =
    let found = tested.0 is in
    subst (λ m. IsGreatestOf P gain m n) (sym is_next) (new_greatest P gain n best so_far found.0 found.1)

pub greatest_old : (P : ℕ → Type 0) (gain : ℕ → ℕ) (n next : ℕ) (best : Option ℕ) (test : Bool) → next ≡ suc n → Greatest P gain n best → (IsTrue test ↔ (P n × GainsMore gain best n)) → test ≡ false → Greatest P gain next best
greatest_old P gain n next best test is_next so_far tested is =
    subst (λ m. Greatest P gain m best) (sym is_next) (old_greatest P gain n best so_far (λ both. let found : test ≡ true = tested.1 both in not_true (subst (λ b. b ≡ true) is found)))
