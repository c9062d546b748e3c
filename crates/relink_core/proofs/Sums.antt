-- Sums over places and lists: of two functions, without one place, and of what has room at places of its own.
use Rattle.std.proofs.Common.{◌≡◌, ◌∙◌, inl, inr, ℕ, zero, suc, ◌+◌, ◌*◌, ◌<◌, ◌≤◌, ◌==◌, Bool, true, false, List, [], ◌∷◌, length, map, get_or, refl, sym, ap, subst, arith, if◌then◌else◌}
use Rattle.std.specs.List.{All, AllPairs, sum_by}
use Rattle.std.proofs.lemmas.Bool.{cases_eq}
use Rattle.std.proofs.lemmas.Bool.Decides.{nat_tests}
use Rattle.std.proofs.lemmas.List.{get_or-map, length-map}
use Rattle.std.proofs.lemmas.List.Elements.{All-head, All-tail}
use Rattle.std.proofs.lemmas.List.Sums.{sum_by-cons, sum_by-append}
use Rattle.list_checks.specs.Sorted.{sum_below, collected}
use Rattle.list_checks.proofs.SumLemmas.{sum_same, sum_zero}

pub sum_added : (f g : ℕ → ℕ) (n : ℕ) → sum_below (λ k. f k + g k) n ≡ sum_below f n + sum_below g n
sum_added f g zero = refl
sum_added f g (suc n) = let earlier = sum_added f g n in omega (arith, earlier)

pub sum_at_most : (f g : ℕ → ℕ) (n : ℕ) → ((k : ℕ) → k < n → f k ≤ g k) → sum_below f n ≤ sum_below g n
sum_at_most f g zero each = omega arith
sum_at_most f g (suc n) each =
    let earlier = sum_at_most f g n (λ k below. each k (omega (arith, below))) in
    let here = each n (omega arith) in
    omega (arith, earlier, here)

-- over places and over a list, in either order
pub sum_exchanged : {X : Type 0} (f : ℕ → X → ℕ) (xs : List X) (n : ℕ) → sum_below (λ k. sum_by (f k) xs) n ≡ sum_by (λ x. sum_below (λ k. f k x) n) xs
sum_exchanged f [] n = sum_zero (λ k. 0) n (λ k below. refl)
sum_exchanged f (x ∷ xs) n =
    let apart = sum_same (λ k. sum_by (f k) (x ∷ xs)) (λ k. f k x + sum_by (f k) xs) n (λ k below. sum_by-cons (f k) x xs) in
    let both = sum_added (λ k. f k x) (λ k. sum_by (f k) xs) n in
    let rest = sum_exchanged f xs n in
    let whole = sum_by-cons (λ y. sum_below (λ k. f k y) n) x xs in
    omega (arith, apart, both, rest, whole)

pub sum_by_same : {X : Type 0} (f g : X → ℕ) (xs : List X) → ((x : X) → f x ≡ g x) → sum_by f xs ≡ sum_by g xs
sum_by_same f g [] same = refl
sum_by_same f g (x ∷ xs) same =
    let one = sum_by-cons f x xs in
    let other = sum_by-cons g x xs in
    let here = same x in
    let rest = sum_by_same f g xs same in
    omega (arith, one, other, here, rest)

-- of the places that pass a test
pub collected_summed : (e : ℕ → Bool) (f : ℕ → ℕ) (n : ℕ) → sum_by f (collected e (λ b. b) n) ≡ sum_below (λ b. if e b then f b else 0) n
collected_summed e f zero = refl
collected_summed e f (suc n) =
    let whole = sum_by-append f (collected e (λ b. b) n) (if e n then n ∷ [] else []) in
    let earlier = collected_summed e f n in
    let here = last (e n) n in
    omega (arith, whole, earlier, here)
  where
    last : (b : Bool) (n : ℕ) → sum_by f (if b then n ∷ [] else []) ≡ (if b then f n else 0)
    last true n = let one = sum_by-cons f n [] in omega (arith, one)
    last false n = refl

pub sum_each : {X : Type 0} (c : ℕ) (xs : List X) → sum_by (λ x. c) xs ≡ c * length xs
sum_each c [] = omega arith
sum_each {X} c (x ∷ xs) =
    let one = sum_by-cons (λ (y : X). c) x xs in
    let rest = sum_each c xs in
    let more : c * suc (length xs) ≡ c + c * length xs = grind arith in
    omega (arith, one, rest, more)

-- ---- places of their own

-- the same without what one place adds
abbrev pub without : ℕ → (ℕ → ℕ) → ℕ → ℕ
without b f k = if b == k then 0 else f k

other_place : (b k : ℕ) (f : ℕ → ℕ) → (b ≡ k → ⊥) → without b f k ≡ f k
other_place b k f other = grind (arith, nat_tests, other)

own_place : (b : ℕ) (f : ℕ → ℕ) → without b f b ≡ 0
own_place b f = grind (arith, nat_tests)

pub sum_without : (b : ℕ) (f : ℕ → ℕ) (n : ℕ) → b < n → sum_below f n ≡ sum_below (without b f) n + f b
sum_without b f zero below = absurd (omega (arith, below))
sum_without b f (suc n) below =
    elim (cases_eq b n) [
      | inl same ↦
          let earlier = sum_same (without b f) f n (λ k less. other_place b k f (λ is. omega (arith, is, less, same))) in
          let none : without b f n ≡ 0 = subst (λ (k : ℕ). without b f k ≡ 0) same (own_place b f) in
          let here : f b ≡ f n = ap f same in
          omega (arith, earlier, none, here)
      | inr other ↦
          let earlier = sum_without b f n (omega (arith, below, other)) in
          let last = other_place b n f other in
          omega (arith, earlier, last)
    ]

-- a thing's home is that of a place below a bound, and it takes at most what the place has room for
pub record HasPlace {S : Type 0} (home size : S → ℕ) (key room : ℕ → ℕ) (n : ℕ) (s : S) : Type 0 where
  pub place : ℕ
  pub below : place < n
  pub stands : home s ≡ key place
  pub fits : size s ≤ room place

-- things at different homes take at most what all places have room for
pub sizes_within : {S : Type 0} (home size : S → ℕ) (key room : ℕ → ℕ) (n : ℕ) (ss : List S) → AllPairs (λ a b. a ≡ b → ⊥) (map home ss) → All (HasPlace home size key room n) ss → sum_by size ss ≤ sum_below room n
sizes_within home size key room n [] apart all = omega arith
sizes_within home size key room n (s ∷ ss) apart all =
    let here = All-head (HasPlace home size key room n) s ss all in
    let b : ℕ = here.place in
    let rest = sizes_within home size key (without b room) n ss
    (λ i j d before below. apart (suc i) (suc j) d (omega (arith, before)) (omega (arith, below)))
    (λ k d below.
    let t = get_or ss k d in
    let is = All-tail (HasPlace home size key room n) s ss all k d below in
    let differ : home s ≡ home t → ⊥ = λ same. apart 0 (suc k) (home d) (omega arith) (tail_below home ss k below) (same ∙ sym (get_or-map home ss k d (home d) below)) in
    let other : b ≡ is.place → ⊥ = λ same. differ (here.stands ∙ (ap key same ∙ sym is.stands)) in
    let room_is = other_place b is.place room other in
    let fits = is.fits in
    record { place = is.place; below = is.below; stands = is.stands; fits = omega (arith, fits, room_is) }) in
    let whole = sum_without b room n here.below in
    let one = sum_by-cons size s ss in
    let fits = here.fits in
    omega (arith, rest, whole, one, fits)
  where
    tail_below : {S : Type 0} (home : S → ℕ) (ss : List S) (k : ℕ) → k < length ss → suc k < suc (length (map home ss))
    tail_below home ss k below = let same = length-map ss home in omega (arith, below, same)
