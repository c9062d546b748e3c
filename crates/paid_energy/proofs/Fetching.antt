-- What fetches cost that are all in the scratchpad, or that none is; and the first term of a sum.
use Rattle.std.proofs.Common.{◌≡◌, ℕ, zero, suc, ◌+◌, ◌*◌, ◌<◌, Bool, true, false, if◌then◌else◌, List, [], ◌∷◌, length, ap, subst, arith}
use Rattle.std.specs.Prelude.{All}
use Rattle.std.specs.List.{sum_by}
use Rattle.std.proofs.lemmas.List.Elements.{All-nil, All-cons, All-head, All-tail}
use Rattle.std.proofs.lemmas.List.Sums.{sum_by-cons}
use Rattle.list_checks.specs.Sorted.{sum_below}
use Rattle.board_config.specs.declared.board.Board.{Board}
use Rattle.flat_machine.specs.Lines.{words_from}
use Rattle.paid_energy.specs.Costs.{is_fast, fetch_cost}
use Rattle.paid_energy.proofs.CostLemmas.{fetches_cost}

-- ---- sums

pub sum_first : (f : ℕ → ℕ) (n : ℕ) → sum_below f (suc n) ≡ f 0 + sum_below (λ k. f (suc k)) n
sum_first f zero = omega arith
sum_first f (suc n) = let earlier = sum_first f n in omega (arith, earlier)

-- where each costs the same
same_each : (f : ℕ → ℕ) (cost : ℕ) (xs : List ℕ) → All (λ (x : ℕ). f x ≡ cost) xs → sum_by f xs ≡ length xs * cost
same_each f cost [] each = omega arith
same_each f cost (x ∷ xs) each =
    let first = All-head (λ (y : ℕ). f y ≡ cost) x xs each in
    let rest = same_each f cost xs (All-tail (λ (y : ℕ). f y ≡ cost) x xs each) in
    let more = sum_by-cons f x xs in
    let whole : suc (length xs) * cost ≡ cost + length xs * cost = grind arith in
    omega (arith, first, rest, more, whole)

-- ---- fetches

pub fetch_at : (board : Board) (a : ℕ) (fast : Bool) → is_fast board a ≡ fast → fetch_cost board a ≡ (if fast then board.prices.spm_fetch else board.prices.main_fetch)
fetch_at board a fast is = ap (λ (b : Bool). if b then board.prices.spm_fetch else board.prices.main_fetch) is

pub slow_fetches : (board : Board) (xs : List ℕ) → All (λ (a : ℕ). is_fast board a ≡ false) xs → fetches_cost board xs ≡ length xs * board.prices.main_fetch
slow_fetches board xs slow =
    same_each (fetch_cost board) board.prices.main_fetch xs (λ k d below. fetch_at board _ false (slow k d below))

pub fast_fetches : (board : Board) (xs : List ℕ) → All (λ (a : ℕ). is_fast board a ≡ true) xs → fetches_cost board xs ≡ length xs * board.prices.spm_fetch
fast_fetches board xs fast =
    same_each (fetch_cost board) board.prices.spm_fetch xs (λ k d below. fetch_at board _ true (fast k d below))

-- words one behind the other
pub from_each : (P : ℕ → Type 0) (at n : ℕ) → ((i : ℕ) → i < n → P (at + 4 * i)) → All P (words_from at n)
from_each P at zero each = All-nil P
from_each P at (suc n) each =
    let here : at + 4 * 0 ≡ at = omega arith in
    All-cons P at (words_from (at + 4) n) (subst P here (each 0 (omega arith)))
    (from_each P (at + 4) n
    (λ i below. let there : at + 4 * suc i ≡ at + 4 + 4 * i = omega arith in subst P there (each (suc i) (omega (arith, below)))))
