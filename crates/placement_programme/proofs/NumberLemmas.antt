-- Numbers that ascend within bounds are those that increase strictly and lie below the bound.
use Rattle.std.proofs.Common.{◌≡◌, ℕ, zero, suc, ◌+◌, ◌<◌, ◌≤◌, List, [], ◌∷◌, length, get_or, slice_index, arith}
use Rattle.std.specs.List.{All}
use Rattle.std.specs.List.Sorted.{IsStrictlyIncreasing}
use Rattle.placement_programme.specs.Bounds.{AscendWithin}
use Rattle.placement_programme.specs.Laws.{NumbersAscend}
use Rattle.placement_programme.proofs.AscendLemmas.{number_below}

pub number_at_least : (low high : ℕ) (ns : List ℕ) (j d : ℕ) → AscendWithin low high ns → j < length ns → low ≤ get_or ns j d
number_at_least low high [] j d all inside = absurd (omega arith)
number_at_least low high (n ∷ ns) zero d all inside = all.0
number_at_least low high (n ∷ ns) (suc j) d all inside =
    let rest = number_at_least (suc n) high ns j d all.2 (omega arith) in
    omega (arith, rest, all.0)

pub numbers_rise : (low high : ℕ) (ns : List ℕ) (i j d : ℕ) → AscendWithin low high ns → i < j → j < length ns → get_or ns i d < get_or ns j d
numbers_rise low high [] i j d all order inside = absurd (omega arith)
numbers_rise low high (n ∷ ns) i zero d all order inside = absurd (omega arith)
numbers_rise low high (n ∷ ns) zero (suc j) d all order inside =
    let rest = number_at_least (suc n) high ns j d all.2 (omega arith) in
    omega (arith, rest)
numbers_rise low high (n ∷ ns) (suc i) (suc j) d all order inside =
    numbers_rise (suc n) high ns i j d all.2 (omega arith) (omega arith)

pub rest_rises : (n : ℕ) (ns : List ℕ) → IsStrictlyIncreasing (n ∷ ns) → IsStrictlyIncreasing ns
rest_rises n ns rise k inside =
    let next : suc k + 1 ≡ suc (k + 1) = omega arith in
    let here = rise (suc k) (omega (arith, inside)) in
    rw next at here

pub from_rise : (low high : ℕ) (ns : List ℕ) → IsStrictlyIncreasing ns → All (λ n. n < high) ns → (0 < length ns → low ≤ slice_index ns 0) → AscendWithin low high ns
from_rise low high [] rise below first = tt
from_rise low high (n ∷ ns) rise below first = (
  first (omega arith),
  below 0 n (omega arith),
  from_rise (suc n) high ns (rest_rises n ns rise) (λ k d inside. below (suc k) d (omega arith)) (λ some. rise 0 (omega (arith, some))),
)

pub numbers_ascend : NumbersAscend
numbers_ascend count ns = (
  λ all. (λ k inside. numbers_rise 0 count ns k (k + 1) 0 all (omega arith) inside, λ k d inside. number_below 0 count ns k d all inside),
  λ parts. from_rise 0 count ns parts.0 parts.1 (λ some. omega arith),
)
