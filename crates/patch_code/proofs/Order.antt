-- Things by home address, one behind the other.
use Rattle.std.proofs.Common.{inl, inr, ◌≡◌, ℕ, zero, suc, ◌+◌, ◌%◌, ◌<◌, ◌≤◌, nat_lt, true, false, if◌then◌else◌, List, [], ◌∷◌, map, take, length, slice_index_or, ◌∙◌, ap, subst, arith, refl}
use Rattle.std.specs.Prelude.{All, AllPairs}
use Rattle.std.specs.List.{sum_by}
use Rattle.std.specs.List.Sorted.{IsPermutation, IsNonDecreasing, IsNonDecreasingBy, IsStrictlyIncreasing, IsPartitionPoint}
use Rattle.std.proofs.Math.ListN.{get_or-map}
use Rattle.std.proofs.Math.Dec.{eqb}
use Rattle.std.proofs.lemmas.Bool.{cases_lt}
use Rattle.std.proofs.lemmas.Bool.Decides.{nat_tests, Decides-eqb}
use Rattle.std.proofs.lemmas.List.{length-map, get_or_default, get_or-map as get_or-mapped}
use Rattle.std.proofs.lemmas.List.Kept.{AllPairs-from_increasing}
use Rattle.std.proofs.lemmas.List.Sorted.{IsPermutation-map, Contains-permutation, sum_by-IsPermutation}
use Rattle.std.proofs.lemmas.List.Sums.{sum_by-cons}
use Rattle.std.proofs.lemmas.Map.Keys.{IsDistinct-IsPermutation, IsStrictlyIncreasing-from_distinct}
use Rattle.std.proofs.lemmas.Map.Made.{IsDistinct-from_AllPairs}
use Rattle.patch_code.specs.Homes.{HaveHomes, AreOrdered, bytes_if_before, bytes_before}

module _ {S : Type 0} (home size : S → ℕ) where
  -- ---- homes that ascend

  abbrev pub Ascend : List S → Type 0
  Ascend all = AllPairs (λ a b. home a < home b) all

  pub ascend_from : (all : List S) → IsStrictlyIncreasing (map home all) → Ascend all
  ascend_from all rise i j d before below =
      let count = length-map all home in
      let lower = AllPairs-from_increasing (map home all) rise i j (home d) before (omega (arith, count, below)) in
      let first = get_or-map home all i d in
      let second = get_or-map home all j d in
      omega (arith, lower, first, second)

  -- ---- the bytes below a home

  pub below_more : (at : ℕ) (one : S) (all : List S) → bytes_before home size at (one ∷ all) ≡ bytes_if_before home size at one + bytes_before home size at all
  below_more at one all = sum_by-cons (bytes_if_before home size at) one all

  pub none_below : (at : ℕ) (all : List S) → ((j : ℕ) (d : S) → j < length all → at ≤ home (slice_index_or all j d)) → bytes_before home size at all ≡ 0
  none_below at [] above = refl
  none_below at (one ∷ all) above =
      let here : at ≤ home one = above 0 one (omega arith) in
      let rest = none_below at all (λ j d below. above (suc j) d (omega (arith, below))) in
      let more = below_more at one all in
      grind (arith, nat_tests, here, rest, more)

  here_aligned : (at : ℕ) (one : S) → size one % 4 ≡ 0 → bytes_if_before home size at one % 4 ≡ 0
  here_aligned at one even = by (size one) even
    where
      by : (n : ℕ) → n % 4 ≡ 0 → (if nat_lt (home one) at then n else 0) % 4 ≡ 0
      by n aligned = grind (arith, nat_tests, aligned)

  pub below_aligned : ((one : S) → size one % 4 ≡ 0) → (at : ℕ) (all : List S) → bytes_before home size at all % 4 ≡ 0
  below_aligned even at [] = refl
  below_aligned even at (one ∷ all) =
      let rest = below_aligned even at all in
      let more = below_more at one all in
      let here = here_aligned at one (even one) in
      omega (arith, rest, more, here)

  here_some : (at : ℕ) (one : S) → bytes_if_before home size at one ≤ size one
  here_some at one = grind (arith, nat_tests)

  pub below_some : (at : ℕ) (all : List S) → bytes_before home size at all ≤ sum_by size all
  below_some at [] = omega arith
  below_some at (one ∷ all) =
      let rest = below_some at all in
      let more = below_more at one all in
      let here = here_some at one in
      let whole = sum_by-cons size one all in
      omega (arith, rest, more, here, whole)

  -- the bytes of those below one, and of that one, are at most those of all
  pub below_fits : (all : List S) (k : ℕ) (d : S) → k < length all → bytes_before home size (home (slice_index_or all k d)) all + size (slice_index_or all k d) ≤ sum_by size all
  below_fits [] k d below = absurd (omega (arith, below))
  below_fits (one ∷ all) zero d below =
      let some = below_some (home one) all in
      let more = below_more (home one) one all in
      let whole = sum_by-cons size one all in
      grind (arith, nat_tests, some, more, whole)
  below_fits (one ∷ all) (suc k) d below =
      let at = home (slice_index_or all k d) in
      let rest = below_fits all k d (omega (arith, below)) in
      let more = below_more at one all in
      let here = here_some at one in
      let whole = sum_by-cons size one all in
      omega (arith, rest, more, here, whole)

  -- in ascending order, the bytes below the first are none; below a later one they are one's more
  pub first_below : (one : S) (all : List S) → Ascend (one ∷ all) → bytes_before home size (home one) (one ∷ all) ≡ 0
  first_below one all rise =
      let above = none_below (home one) all (λ j e inside. let less = rise 0 (suc j) e (omega arith) (omega (arith, inside)) in omega (arith, less)) in
      let more = below_more (home one) one all in
      grind (arith, nat_tests, above, more)

  pub later_below : (one : S) (all : List S) (k : ℕ) (d : S) → Ascend (one ∷ all) → k < length all → bytes_before home size (home (slice_index_or all k d)) (one ∷ all) ≡ size one + bytes_before home size (home (slice_index_or all k d)) all
  later_below one all k d rise below =
      let lower : home one < home (slice_index_or all k d) = rise 0 (suc k) d (omega arith) (omega (arith, below)) in
      let more = below_more (home (slice_index_or all k d)) one all in
      grind (arith, nat_tests, lower, more)

  pub ascend_behind : (one : S) (all : List S) → Ascend (one ∷ all) → Ascend all
  ascend_behind one all rise i j e before inside = rise (suc i) (suc j) e (omega (arith, before)) (omega (arith, inside))

  -- what holds of each at its place in one order, holds in any
  pub in_any_order : (Stands : ℕ → S → Type 0) (at : ℕ) (all ordered : List S) → IsPermutation all ordered → ((j : ℕ) (d : S) → j < length ordered → Stands (at + bytes_before home size (home (slice_index_or ordered j d)) ordered) (slice_index_or ordered j d)) → All (λ one. Stands (at + bytes_before home size (home one) all) one) all
  in_any_order Stands at all ordered same each k d below =
      let one = slice_index_or all k d in
      let (j, inside, here) = Contains-permutation all ordered one same (k, below, get_or_default all k one d below) in
      let sums = sum_by-IsPermutation (bytes_if_before home size (home one)) all ordered same in
      let there : Stands (at + bytes_before home size (home one) ordered) one =
      subst (λ other. Stands (at + bytes_before home size (home other) ordered) other) here (each j one inside) in
      subst (λ n. Stands (at + n) one) sums there

-- ---- things of a program, seen as what they are to serve

module _ {T S : Type 0} (view : T → S) (home : S → ℕ) where
  abbrev pub seen_home : T → ℕ
  seen_home one = home (view one)

  pub rising : (all : List T) → IsStrictlyIncreasing (map home (map view all)) → IsNonDecreasingBy seen_home all
  rising all rise i j d before below =
      let count = length-map all view in
      let first = ap home (get_or-map view all i d) in
      let second = ap home (get_or-map view all j d) in
      elim (cases_lt i j) [
        | inl earlier ↦
            let lower = ascend_from home home (map view all) rise i j (view d) earlier (omega (arith, count, below)) in
            omega (arith, lower, first, second)
        | inr later ↦
            let same : i ≡ j = omega (arith, before, later) in
            let equal = ap (λ k. seen_home (slice_index_or all k d)) same in
            omega (arith, equal)
      ]

  homes_rise : (all : List T) → IsNonDecreasingBy seen_home all → IsNonDecreasing (map home (map view all))
  homes_rise [] up i j d before below = absurd (omega (arith, below))
  homes_rise (one ∷ others) up i j d before below =
      let all = one ∷ others in
      let plain = length-map all view in
      let count = length-map (map view all) home in
      let inside : j < length all = omega (arith, plain, count, below) in
      let lower = up i j one before inside in
      let first = home_there all i one d (omega (arith, before, inside)) in
      let second = home_there all j one d inside in
      omega (arith, lower, first, second)
    where
      home_there : (all : List T) (k : ℕ) (e : T) (d : ℕ) → k < length all → slice_index_or (map home (map view all)) k d ≡ seen_home (slice_index_or all k e)
      home_there all k e d inside =
          let plain = length-map all view in
          get_or-mapped home (map view all) k (view e) d (omega (arith, plain, inside))
          ∙ ap home (get_or-map view all k e)

  -- a sort by home address
  pub sorted_by_home : (stubs : List S) (old new : List T) → HaveHomes home stubs → map view old ≡ stubs → IsPermutation old new → IsNonDecreasingBy seen_home new → AreOrdered S home stubs (map view new)
  sorted_by_home stubs old new apart same moved up =
      let permuted : IsPermutation stubs (map view new) =
      subst (λ xs. IsPermutation xs (map view new)) same (IsPermutation-map view old new moved) in
      let homes = IsPermutation-map home stubs (map view new) permuted in
      let distinct =
      IsDistinct-IsPermutation eqb (λ x y. grind (arith, nat_tests)) (map home stubs) (map home (map view new)) homes
      (IsDistinct-from_AllPairs Decides-eqb (map home stubs) apart) in
      record {
        same = permuted;
        ascend = IsStrictlyIncreasing-from_distinct (map home (map view new)) (homes_rise new up) distinct;
      }

  -- the bytes below a home are those of the first of them
  pub point_bytes : (size : S → ℕ) (at : ℕ) (all : List T) (i : ℕ) → i ≤ length all → IsPartitionPoint (λ s. nat_lt (seen_home s) at ≡ true) (λ s. nat_lt (seen_home s) at ≡ false) all i → sum_by size (map view (take i all)) ≡ bytes_before home size at (map view all)
  point_bytes size at [] zero within point = refl
  point_bytes size at [] (suc i) within point = absurd (omega (arith, within))
  point_bytes size at (one ∷ all) zero within point =
      let here : nat_lt (seen_home one) at ≡ false = point.1 0 one (omega arith) (omega arith) in
      let rest =
      point_bytes size at all 0 (omega arith) ((λ k d from below. absurd (omega (arith, below))), (λ k d from below. point.1 (suc k) d (omega arith) (omega (arith, below)))) in
      rw (below_more home size at (view one) (map view all), here) (rest ∙ omega arith)
  point_bytes size at (one ∷ all) (suc i) within point =
      let here : nat_lt (seen_home one) at ≡ true = point.0 0 one (omega arith) (omega arith) in
      let rest =
      point_bytes size at all i (omega (arith, within)) ((λ k d from below. point.0 (suc k) d (omega arith) (omega (arith, below))), (λ k d from below. point.1 (suc k) d (omega (arith, from)) (omega (arith, below)))) in
      let whole = sum_by-cons size (view one) (map view (take i all)) in
      rw (below_more home size at (view one) (map view all), here) (whole ∙ ap (λ n. size (view one) + n) rest)
