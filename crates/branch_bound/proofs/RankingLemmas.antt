-- The first free variable of the order is the free one of greatest gain.
use Rattle.std.proofs.Common.{◌≡◌, ◌≢◌, ◌∙◌, inl, inr, ℕ, zero, suc, ◌+◌, ◌-◌, ◌^◌, ◌<◌, ◌≤◌, false, List, length, Option, Some, MatchOption, get_or, slice_set, sym, ap, refl, subst, arith}
use Rattle.std.specs.List.{All}
use Rattle.std.specs.Ordering.{is_lt, nat_cmp}
use Rattle.std.specs.List.Sorted.{IsPermutation, IsNonDecreasingBy, IsSortedByKey}
use Rattle.std.proofs.lemmas.Bool.{cases_eq, cases_lt}
use Rattle.std.proofs.lemmas.Bool.Decides.{nat_tests}
use Rattle.std.proofs.lemmas.List.{get_or_default}
use Rattle.std.proofs.lemmas.List.Sorted.{All-permutation, Contains-permutation}
use Rattle.placement_programme.specs.Plain.{PlainSide}
use Rattle.placement_programme.specs.Programme.{gain_at}
use Rattle.certificate_checker.specs.Fixings.{fixing_of}
use Rattle.certificate_checker.specs.declared.fixings.Fixing.{Fixing}
use Rattle.certificate_checker.specs.declared.fixings.Fixing.TheVariants.{Free}
use Rattle.certificate_checker.proofs.Children.{mark_same, mark_other}
use Rattle.branch_bound.specs.Assignments.{IsGreatestFree, IsFull}
use Rattle.branch_bound.specs.Ranking.{ranked_of, number_of, number_at, AreListed, RanksBefore, IsRanking, PassedOver}
use Rattle.branch_bound.specs.declared.ranking.Ranked.{Ranked}

-- what comes before comes before what comes after
before_next : (s : PlainSide) (i j k : ℕ) → RanksBefore s i j → RanksBefore s j k → RanksBefore s i k
before_next s i j k (inl more) (inl next) = inl (omega (arith, more, next))
before_next s i j k (inl more) (inr next) = inl (let same = next.0 in omega (arith, more, same))
before_next s i j k (inr more) (inl next) = inl (let same = more.0 in omega (arith, same, next))
before_next s i j k (inr more) (inr next) =
    let first = more.0 in
    let second = next.0 in
    let low = more.1 in
    let high = next.1 in
    inr (omega (arith, first, second), omega (arith, low, high))

-- neighbours in order are all in order
ordered_far : (s : PlainSide) (ranked : List Ranked) → ((k : ℕ) → k + 1 < length ranked → RanksBefore s (number_at ranked k) (number_at ranked (k + 1))) → (first n : ℕ) → first + n < length ranked → RanksBefore s (number_at ranked first) (number_at ranked (first + n))
ordered_far s ranked next first zero inside =
    let same : first + 0 ≡ first = omega arith in
    subst (λ i. RanksBefore s (number_at ranked first) (number_at ranked i)) (sym same) (inr (refl, omega arith))
ordered_far s ranked next first (suc n) inside =
    let rest = ordered_far s ranked next first n (omega (arith, inside)) in
    let here = next (first + n) (omega (arith, inside)) in
    let same : first + n + 1 ≡ first + suc n = omega arith in
    before_next s (number_at ranked first) (number_at ranked (first + n)) (number_at ranked (first + suc n)) rest
    (subst (λ i. RanksBefore s (number_at ranked (first + n)) (number_at ranked i)) same here)

-- numbers that rise
not_less : (a b : ℕ) → b ≤ a → is_lt (nat_cmp a b) ≡ false
not_less a b order = grind (arith, nat_tests, order)

pub listed_sorted : (s : PlainSide) (listed : List Ranked) → AreListed s (length s.vars) listed → IsSortedByKey number_of nat_cmp listed
listed_sorted s listed are k d some next =
    let long = are.long in
    let here = ap number_of (are.exact k d (omega (arith, next, long))) in
    let there = ap number_of (are.exact (k + 1) d (omega (arith, next, long))) in
    not_less (number_of (get_or listed (k + 1) d)) (number_of (get_or listed k d)) (omega (arith, here, there))

-- how far a gain falls short of the greatest number
abbrev pub shortfall : Ranked → ℕ
shortfall r = 2 ^ 128 - 1 - r.gain

-- a variable with its gain, below the bound of gains
pub record IsRanked (s : PlainSide) (r : Ranked) : Type 0 where
  pub inside : r.number < length s.vars
  pub exact : r.gain ≡ gain_at s.vars r.number
  pub small : r.gain < 2 ^ 104

number_there : (ranked : List Ranked) (place : ℕ) (d e : Ranked) → place < length ranked → get_or ranked place e ≡ e → (get_or ranked place d).number ≡ e.number
number_there ranked place d e inside is =
    ap (λ (r : Ranked). r.number) (get_or_default ranked place d e inside ∙ is)

neighbours : (s : PlainSide) (ranked : List Ranked) (k : ℕ) → k + 1 < length ranked → All (IsRanked s) ranked
    → (let none : Ranked = record { number = 0; gain = 0 } in shortfall (get_or ranked k none) ≤ shortfall (get_or ranked (k + 1) none))
    → (let none : Ranked = record { number = 0; gain = 0 } in shortfall (get_or ranked k none) ≡ shortfall (get_or ranked (k + 1) none) → (get_or ranked k none).number ≤ (get_or ranked (k + 1) none).number)
    → RanksBefore s (number_at ranked k) (number_at ranked (k + 1))
neighbours s ranked k next all rises ties =
    let none : Ranked = record { number = 0; gain = 0 } in
    let one = all k none (omega (arith, next)) in
    let two = all (k + 1) none next in
    let one_is = one.exact in
    let two_is = two.exact in
    let one_small = one.small in
    let two_small = two.small in
    elim (cases_lt (gain_at s.vars (number_at ranked (k + 1))) (gain_at s.vars (number_at ranked k))) [
      | inl more ↦ inl more
      | inr most ↦
          let same : gain_at s.vars (number_at ranked k) ≡ gain_at s.vars (number_at ranked (k + 1)) = omega (arith, most, rises, one_is, two_is, one_small, two_small) in
          inr (same, ties (omega (arith, same, one_is, two_is)))
    ]

pub ranking_is : (s : PlainSide) (listed ranked : List Ranked) → ((k : ℕ) → k < length s.vars → gain_at s.vars k < 2 ^ 104) → AreListed s (length s.vars) listed → IsPermutation listed ranked
    → IsNonDecreasingBy shortfall ranked
    → ((k : ℕ) (d : Ranked) → k + 1 < length ranked → shortfall (get_or ranked k d) ≡ shortfall (get_or ranked (k + 1) d) → (get_or ranked k d).number ≤ (get_or ranked (k + 1) d).number)
    → IsRanking s ranked
ranking_is s listed ranked small exact permuted rises ties =
    let long = exact.long in
    let each : All (IsRanked s) listed = λ k d inside. subst (IsRanked s) (sym (exact.exact k d (omega (arith, inside, long)))) record { inside = omega (arith, inside, long); exact = refl; small = small k (omega (arith, inside, long)) } in
    let all = All-permutation (IsRanked s) listed ranked permuted each in
    let none : Ranked = record { number = 0; gain = 0 } in
    record {
      inside = λ place inside. (all place none inside).inside;
      whole = λ k below.
          let there = Contains-permutation listed ranked (ranked_of s k) permuted (k, omega (arith, below, long), exact.exact k (ranked_of s k) below) in
          (there.0, (there.1, number_there ranked there.0 none (ranked_of s k) there.1 there.2));
      ordered = λ first second order inside.
          let far = ordered_far s ranked (λ k next. neighbours s ranked k next all (rises k (k + 1) none (omega arith) next) (ties k none next)) first (second - first) (omega (arith, order, inside)) in
          let same : first + (second - first) ≡ second = omega (arith, order) in
          subst (λ i. RanksBefore s (number_at ranked first) (number_at ranked i)) same far;
    }

-- what is free stands at the place or after it
place_after : (s : PlainSide) (ranked : List Ranked) (marks : List Fixing) (place k : ℕ) → IsRanking s ranked → place < length ranked → PassedOver ranked marks place → k < length s.vars → fixing_of marks k ≡ Free → RanksBefore s (number_at ranked place) k
place_after s ranked marks place k ranking inside passed below is =
    let there = ranking.whole k below in
    elim (cases_lt there.0 place) [
      | inl before ↦ absurd (passed there.0 before (subst (λ i. fixing_of marks i ≡ Free) (sym there.1.1) is))
      | inr after ↦ subst (λ i. RanksBefore s (number_at ranked place) i) there.1.1 (ranking.ordered place there.0 after there.1.0)
    ]

gain_least : (s : PlainSide) (j k : ℕ) → RanksBefore s j k → gain_at s.vars k ≤ gain_at s.vars j
gain_least s j k (inl more) = omega (arith, more)
gain_least s j k (inr same) = let gains = same.0 in omega (arith, gains)

gain_less : (s : PlainSide) (j k : ℕ) → k < j → RanksBefore s j k → gain_at s.vars k < gain_at s.vars j
gain_less s j k below (inl more) = more
gain_less s j k below (inr same) = let order = same.1 in absurd (omega (arith, below, order))

-- the first free variable of the order
pub greatest_first : (s : PlainSide) (ranked : List Ranked) (marks : List Fixing) (place : ℕ) → IsRanking s ranked → place < length ranked → fixing_of marks (number_at ranked place) ≡ Free → PassedOver ranked marks place → IsGreatestFree s marks (number_at ranked place)
greatest_first s ranked marks place ranking inside unfixed passed =
    record {
      inside = ranking.inside place inside;
      holds = unfixed;
      greatest = λ k below is. gain_least s (number_at ranked place) k (place_after s ranked marks place k ranking inside passed below is);
      first = λ k below is.
          gain_less s (number_at ranked place) k below
          (place_after s ranked marks place k ranking inside passed (let there = ranking.inside place inside in omega (arith, there, below)) is);
    }

-- what is found, of the marks that were looked at
pub first_there : (ranked : List Ranked) (seen marks : List Fixing) (found : Option ℕ) (place : ℕ) → seen ≡ marks → found ≡ Some place → MatchOption found (PassedOver ranked seen (length ranked)) (λ p. (p < length ranked) × (fixing_of seen (number_at ranked p) ≡ Free) × PassedOver ranked seen p) → (place < length ranked) × (fixing_of marks (number_at ranked place) ≡ Free) × PassedOver ranked marks place
first_there ranked seen marks found place same is told =
    let there = subst (λ o. MatchOption o (PassedOver ranked seen (length ranked)) (λ p. (p < length ranked) × (fixing_of seen (number_at ranked p) ≡ Free) × PassedOver ranked seen p)) is told in
    subst (λ ms. (place < length ranked) × (fixing_of ms (number_at ranked place) ≡ Free) × PassedOver ranked ms place) same there

-- where all are passed over none is free
pub passed_full : (s : PlainSide) (ranked : List Ranked) (marks : List Fixing) → IsRanking s ranked → PassedOver ranked marks (length ranked) → IsFull s marks
passed_full s ranked marks ranking passed k below is =
    let there = ranking.whole k below in
    passed there.0 there.1.0 (subst (λ i. fixing_of marks i ≡ Free) (sym there.1.1) is)

-- and one more is passed over where it is fixed
pub passed_more : (ranked : List Ranked) (marks : List Fixing) (place : ℕ) (new : Fixing) → number_at ranked place < length marks → (new ≡ Free → ⊥) → PassedOver ranked marks place → PassedOver ranked (slice_set marks (number_at ranked place) new) (place + 1)
passed_more ranked marks place new inside fixed passed k below is =
    elim (cases_eq (number_at ranked k) (number_at ranked place)) [
      | inl same ↦
          let there : fixing_of (slice_set marks (number_at ranked place) new) (number_at ranked place) ≡ Free = subst (λ i. fixing_of (slice_set marks (number_at ranked place) new) i ≡ Free) same is in
          fixed (sym (mark_same marks (number_at ranked place) new inside) ∙ there)
      | inr other ↦
          let there : fixing_of marks (number_at ranked k) ≡ Free = sym (mark_other marks (number_at ranked place) new (number_at ranked k) other) ∙ is in
          let before : k ≢ place = λ same. other (ap (number_at ranked) same) in
          passed k (omega (arith, below, before)) there
    ]
