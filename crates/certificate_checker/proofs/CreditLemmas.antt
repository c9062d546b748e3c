-- Prices that count for a stamp, and the credits that they make.
use Rattle.std.proofs.Common.{◌≡◌, ◌≢◌, ◌∙◌, ◌↔◌, inl, inr, ℕ, zero, suc, ◌+◌, ◌-◌, ◌*◌, ◌^◌, ◌<◌, ◌≤◌, List, [], length, length-set, take, get_or, slice_index_or, slice_set, refl, sym, ap, subst, arith, get_or-set_other, get_or-set_same}
use Rattle.std.proofs.lemmas.Bool.{cases_eq, cases_lt}
use Rattle.std.proofs.lemmas.Bool.Decides.{nat_tests}
use Rattle.std.proofs.lemmas.List.{get_or_past}
use Rattle.placement_programme.specs.Plain.{PlainSide}
use Rattle.placement_programme.specs.Bounds.{RowsWithin, IsWithinBounds, row_of, value_of}
use Rattle.placement_programme.specs.Programme.{gain_at, weight_in}
use Rattle.placement_programme.specs.Sums.{sum_below}
use Rattle.placement_programme.proofs.TakeLemmas.{below_same}
use Rattle.certificate_checker.specs.Rules.{kept, moved, kept_at}
use Rattle.certificate_checker.specs.Parts.{kept_part, moved_part, SumsHold}
use Rattle.certificate_checker.specs.Prices.{unpriced, price_if, priced_at, AreFrom, credit, credit_part, credits}
use Rattle.certificate_checker.specs.Fixings.{fixing_of}
use Rattle.certificate_checker.specs.declared.fixings.Fixing.{Fixing}
use Rattle.certificate_checker.specs.declared.fixings.Fixing.TheVariants.{Zero, One, Free}
use Rattle.certificate_checker.specs.declared.prices.Priced.{Priced}
use Rattle.certificate_checker.proofs.EntryLemmas.{weight_before, weight_here, weight_disjoint}
use Rattle.certificate_checker.proofs.Limits.{many_small}

-- a price of another stamp is 0
other_stamp : (stamp : ℕ) (p : Priced) → p.stamp ≢ stamp → price_if stamp p ≡ 0
other_stamp stamp p other = grind (arith, nat_tests, other)

pub fresh_none : (stamp : ℕ) (prices : List Priced) → AreFrom (suc stamp) prices → (j : ℕ) → priced_at stamp prices j ≡ 0
fresh_none stamp prices fresh j =
    elim (cases_lt j (length prices)) [
      | inl inside ↦
          let later = fresh j unpriced inside in
          other_stamp stamp (slice_index_or prices j unpriced) (omega (arith, later))
      | inr past ↦
          let none = get_or_past prices j unpriced past in
          subst (λ p. price_if stamp p ≡ 0) (sym none) (grind (arith, nat_tests))
    ]

pub from_less : (a b : ℕ) (prices : List Priced) → a ≤ b → AreFrom b prices → AreFrom a prices
from_less a b prices order all j d inside = let here = all j d inside in omega (arith, here, order)

pub from_set : (limit stamp : ℕ) (prices : List Priced) (at : ℕ) (p : Priced) → limit ≤ p.stamp → AreFrom limit prices → AreFrom limit (slice_set prices at p)
from_set limit stamp prices at p order all j d inside =
    let long = length-set prices at p in
    let within : j < length prices = omega (arith, inside, long) in
    elim (cases_eq j at) [
      | inl same ↦
          let there : get_or (slice_set prices at p) at d ≡ p = get_or-set_same prices at p d (subst (λ k. k < length prices) same within) in
          let is : get_or (slice_set prices at p) j d ≡ p = ap (λ k. get_or (slice_set prices at p) k d) same ∙ there in
          subst (λ q. limit ≤ q.stamp) (sym is) order
      | inr other ↦
          let is = get_or-set_other prices at j p d other in
          subst (λ q. limit ≤ q.stamp) (sym is) (all j d within)
    ]

-- one more price
pub price_set : (stamp : ℕ) (prices : List Priced) (at value : ℕ) → at < length prices → priced_at stamp (slice_set prices at record { stamp = stamp; price = value }) at ≡ value
price_set stamp prices at value inside =
    let p : Priced = record { stamp = stamp; price = value } in
    let is : slice_index_or (slice_set prices at p) at unpriced ≡ p = get_or-set_same prices at p unpriced inside in
    subst (λ q. price_if stamp q ≡ value) (sym is) (grind (arith, nat_tests))

pub price_other : (stamp : ℕ) (prices : List Priced) (at : ℕ) (p : Priced) (j : ℕ) → j ≢ at → priced_at stamp (slice_set prices at p) j ≡ priced_at stamp prices j
price_other stamp prices at p j other = ap (price_if stamp) (get_or-set_other prices at j p unpriced other)

pub stamped_more : (high m stamp : ℕ) (ws : List (ℕ × ℕ)) (old : ℕ → ℕ) (now : List Priced) (i next at value : ℕ) (d : ℕ × ℕ) → RowsWithin 0 high ws → next ≡ suc i → i < length ws → at < length now → at ≡ row_of (get_or ws i d) → value ≡ m * value_of (get_or ws i d) → ((j : ℕ) → priced_at stamp now j ≡ old j + m * weight_in (take i ws) j) → (j : ℕ) → priced_at stamp (slice_set now at record { stamp = stamp; price = priced_at stamp now at + value }) j ≡ old j + m * weight_in (take next ws) j
stamped_more high m stamp ws old now i next at value d all is_next inside room is_row is_value so_far j =
    let p : Priced = record { stamp = stamp; price = priced_at stamp now at + value } in
    let more : priced_at stamp (slice_set now at p) j ≡ old j + m * weight_in (take (suc i) ws) j =
    elim (cases_eq j at) [
      | inl same ↦
          let kept = price_set stamp now at (priced_at stamp now at + value) room in
          let before : m * weight_in (take i ws) at ≡ m * 0 = ap (λ n. m * n) (weight_before 0 high ws i at d all inside is_row) in
          let here : m * weight_in (take (suc i) ws) at ≡ m * value_of (get_or ws i d) = ap (λ n. m * n) (weight_here 0 high ws i at d all inside is_row) in
          let now_at = so_far at in
          let at_row : priced_at stamp (slice_set now at p) at ≡ old at + m * weight_in (take (suc i) ws) at = omega (arith, kept, before, here, now_at, is_value) in
          subst (λ r. priced_at stamp (slice_set now at p) r ≡ old r + m * weight_in (take (suc i) ws) r) (sym same) at_row
      | inr disjoint ↦
          let kept = price_other stamp now at p j disjoint in
          let other : m * weight_in (take (suc i) ws) j ≡ m * weight_in (take i ws) j = ap (λ n. m * n) (weight_disjoint ws i j d inside (λ same. disjoint (same ∙ sym is_row))) in
          let before = so_far j in
          omega (arith, kept, other, before)
    ] in
    subst (λ k. priced_at stamp (slice_set now at p) j ≡ old j + m * weight_in (take k ws) j) (sym is_next) more

-- a sum with one term changed
sum_at : (f g : ℕ → ℕ) (j n : ℕ) → j < n → ((k : ℕ) → k ≢ j → g k ≡ f k) → sum_below n g + f j ≡ sum_below n f + g j
sum_at f g j zero below same = absurd (omega (arith, below))
sum_at f g j (suc n) below same =
    elim (cases_eq j n) [
      | inl last ↦
          let rest = below_same g f n (λ k before. same k (omega (arith, before, last))) in
          let of_f = ap f last in
          let of_g = ap g last in
          omega (arith, rest, of_f, of_g)
      | inr earlier ↦
          let rest = sum_at f g j n (omega (arith, below, earlier)) same in
          let here = same n (λ is. earlier (sym is)) in
          omega (arith, rest, here)
    ]

-- the credits grow as one does
pub credits_more : (s : PlainSide) (marks : List Fixing) (scale stamp : ℕ) (now : List Priced) (at value growth : ℕ) → at < length s.vars → at < length now → growth + credit_part s marks scale (priced_at stamp now) at ≡ credit_part s marks scale (λ j. value) at → growth + credits s marks scale (priced_at stamp now) ≡ credits s marks scale (priced_at stamp (slice_set now at record { stamp = stamp; price = value }))
credits_more s marks scale stamp now at value growth below room grows =
    let p : Priced = record { stamp = stamp; price = value } in
    let f = credit_part s marks scale (priced_at stamp now) in
    let g = credit_part s marks scale (priced_at stamp (slice_set now at p)) in
    let sum = sum_at f g at (length s.vars) below (λ k other. ap (λ n. credit (fixing_of marks k) (scale * gain_at s.vars k) n) (price_other stamp now at p k other)) in
    let here : g at ≡ credit_part s marks scale (λ j. value) at = ap (λ n. credit (fixing_of marks at) (scale * gain_at s.vars at) n) (price_set stamp now at value room) in
    omega (arith, sum, here, grows)

pub credit_small : (m : Fixing) (gain price : ℕ) → credit m gain price ≤ price
credit_small Zero gain price = omega arith
credit_small One gain price = omega arith
credit_small Free gain price = omega arith

-- a higher price credits no less, and no more than it is higher by
pub credit_grows : (m : Fixing) (gain old new : ℕ) → old ≤ new → (credit m gain old ≤ credit m gain new) × (credit m gain new + old ≤ credit m gain old + new)
credit_grows Zero gain old new order = (omega arith, omega (arith, order))
credit_grows One gain old new order = (order, omega arith)
credit_grows Free gain old new order = (omega (arith, order), omega (arith, order))

pub credits_small : (s : PlainSide) (marks : List Fixing) (scale : ℕ) (price : ℕ → ℕ) → IsWithinBounds s → ((j : ℕ) → price j ≤ 2 ^ 113) → credits s marks scale price ≤ 4000 * 2 ^ 113
credits_small s marks scale price bounds small =
    let all = many_small (credit_part s marks scale price) (length s.vars) (2 ^ 113) (λ k inside. let less = credit_small (fixing_of marks k) (scale * gain_at s.vars k) (price k) in let most = small k in omega (arith, less, most)) in
    let few = bounds.few_vars in
    omega (arith, all, few)

pub credits_none : (s : PlainSide) (marks : List Fixing) (scale : ℕ) (price : ℕ → ℕ) → ((j : ℕ) → price j ≡ 0) → 0 ≡ credits s marks scale price
credits_none s marks scale price none = none_below (length s.vars)
  where
    none_below : (n : ℕ) → 0 ≡ sum_below n (credit_part s marks scale price)
    none_below zero = refl
    none_below (suc n) =
        let rest = none_below n in
        let less = credit_small (fixing_of marks n) (scale * gain_at s.vars n) (price n) in
        let here = none n in
        omega (arith, rest, less, here)

-- what a variable adds to both sides of a dual node's rule, by its credit
part_balanced : (m : Fixing) (gain price : ℕ) → kept m gain price + credit m gain price ≡ kept m gain 0 + moved m price
part_balanced Zero gain price = omega arith
part_balanced One gain price = omega arith
part_balanced Free gain price = omega arith

nothing_off : (n : ℕ) → n - 0 ≡ n
nothing_off n = omega arith

kept_scaled : (m : Fixing) (scale gain : ℕ) → kept m (scale * gain) 0 ≡ scale * kept m (1 * gain) 0
kept_scaled Zero scale gain = omega arith
kept_scaled One scale gain = let one : gain ≡ 1 * gain = omega arith in ap (λ n. scale * n) one
kept_scaled Free scale gain = let one : gain ≡ 1 * gain - 0 = omega arith in nothing_off (scale * gain) ∙ ap (λ n. scale * n) one

balance : (s : PlainSide) (marks : List Fixing) (scale : ℕ) (price : ℕ → ℕ) (n : ℕ) → sum_below n (kept_part s marks scale price) + sum_below n (credit_part s marks scale price) ≡ scale * sum_below n (kept_at s marks 1 []) + sum_below n (moved_part marks price)
balance s marks scale price zero = omega arith
balance s marks scale price (suc n) =
    let rest = balance s marks scale price n in
    let here = part_balanced (fixing_of marks n) (scale * gain_at s.vars n) (price n) in
    let scaled = kept_scaled (fixing_of marks n) scale (gain_at s.vars n) in
    omega (arith, rest, here, scaled)

pub credit_tested : (s : PlainSide) (best : ℕ) (marks : List Fixing) (scale total open_gain credit : ℕ) (price : ℕ → ℕ) → open_gain ≡ sum_below (length s.vars) (kept_at s marks 1 []) → credit ≡ credits s marks scale price → (total + scale * open_gain ≤ scale * (best + s.fixed) + credit) ↔ SumsHold s best marks scale total price
credit_tested s best marks scale total open_gain credit price is_gain is_credit =
    let both = balance s marks scale price (length s.vars) in
    let scaled = ap (λ n. scale * n) is_gain in
    (λ less. omega (arith, both, scaled, is_credit, less), λ sums. omega (arith, both, scaled, is_credit, sums))

pub credits_few : (s : PlainSide) (marks : List Fixing) (scale : ℕ) (price : ℕ → ℕ) (credit : ℕ) → IsWithinBounds s → ((j : ℕ) → price j ≤ length s.rows * 2 ^ 96) → credit ≡ credits s marks scale price → credit ≤ 2 ^ 126
credits_few s marks scale price credit bounds low is =
    let rows = bounds.few_rows in
    let all = credits_small s marks scale price bounds (λ j. let here = low j in omega (arith, here, rows)) in
    omega (arith, all, is)
