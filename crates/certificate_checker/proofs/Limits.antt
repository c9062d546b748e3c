-- No sum of the checks passes 128 bits.
use Rattle.std.proofs.Common.{ℕ, zero, suc, ◌+◌, ◌*◌, ◌<◌, ◌≤◌, List, [], ◌∷◌, map, length, arith}
use Rattle.std.specs.List.{sum_by}
use Rattle.std.proofs.Math.Nat.{mul-le-mul}
use Rattle.std.proofs.lemmas.List.{length-map}
use Rattle.std.proofs.lemmas.List.Sums.{sum_by-cons}
use Rattle.placement_programme.specs.Plain.{PlainVar}
use Rattle.placement_programme.specs.Bounds.{RowsWithin, row_of}
use Rattle.placement_programme.specs.Programme.{gain_at}
use Rattle.placement_programme.specs.Sums.{sum_below}
use Rattle.placement_programme.proofs.AscendLemmas.{count_within}
use Rattle.placement_programme.proofs.SumLemmas.{below_grows, gains_below}
use Rattle.placement_programme.proofs.TakeLemmas.{below_at_most}
use Rattle.certificate_checker.specs.Rules.{kept, if_one}
use Rattle.certificate_checker.specs.Fixings.{fixing_of}
use Rattle.certificate_checker.specs.declared.fixings.Fixing.{Fixing}
use Rattle.certificate_checker.specs.declared.fixings.Fixing.TheVariants.{Zero, One, Free}

-- ascending rows are no more than the rows
pub rows_few : (high : ℕ) (ms : List (ℕ × ℕ)) → RowsWithin 0 high ms → length ms ≤ high
rows_few high ms rows =
    let few = count_within 0 high (map row_of ms) (omega arith) rows in
    let same = length-map ms row_of in
    omega (arith, few, same)

pub gain_small : (vs : List PlainVar) (k : ℕ) → k < length vs → gain_at vs k ≤ sum_by (λ v. v.gain) vs
gain_small [] k inside = absurd (omega arith)
gain_small (v ∷ vs) zero inside = let first = sum_by-cons (λ (w : PlainVar). w.gain) v vs in omega (arith, first)
gain_small (v ∷ vs) (suc k) inside =
    let first = sum_by-cons (λ (w : PlainVar). w.gain) v vs in
    let rest = gain_small vs k (omega arith) in
    omega (arith, first, rest)

pub kept_at_most : (m : Fixing) (gain price : ℕ) → kept m gain price ≤ gain
kept_at_most Zero gain price = omega arith
kept_at_most One gain price = omega arith
kept_at_most Free gain price = omega arith

pub one_at_most : (m : Fixing) (n : ℕ) → if_one m n ≤ n
one_at_most Zero n = omega arith
one_at_most One n = omega arith
one_at_most Free n = omega arith

-- the gains of the variables below a number are no more than all gains
pub gains_so_far : (vs : List PlainVar) (n : ℕ) → n ≤ length vs → sum_below n (gain_at vs) ≤ sum_by (λ v. v.gain) vs
gains_so_far vs n inside =
    let grows = below_grows (gain_at vs) n (length vs) inside in
    let total = gains_below vs in
    omega (arith, grows, total)

pub product_small : (a b c d : ℕ) → a ≤ c → b ≤ d → a * b ≤ c * d
product_small a b c d first second = mul-le-mul first second

pub ones_small : (vs : List PlainVar) (marks : List Fixing) (n : ℕ) → n < length vs → sum_below n (λ j. if_one (fixing_of marks j) (gain_at vs j)) + gain_at vs n ≤ sum_by (λ v. v.gain) vs
ones_small vs marks n inside =
    let less = below_at_most (λ j. if_one (fixing_of marks j) (gain_at vs j)) (gain_at vs) n (λ j below. one_at_most (fixing_of marks j) (gain_at vs j)) in
    let gains = gains_so_far vs (suc n) (omega arith) in
    omega (arith, less, gains)

-- a sum of small numbers
pub many_small : (f : ℕ → ℕ) (n bound : ℕ) → ((k : ℕ) → k < n → f k ≤ bound) → sum_below n f ≤ n * bound
many_small f zero bound small = omega arith
many_small f (suc n) bound small =
    let rest = many_small f n bound (λ k inside. small k (omega (arith, inside))) in
    let here = small n (omega arith) in
    omega (arith, rest, here)
