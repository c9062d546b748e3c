-- The variables that are kept stay within the bounds of a programme.
use Rattle.std.proofs.Common.{◌≡◌, ◌∙◌, ◌⊎◌, inl, inr, ℕ, zero, suc, ◌+◌, ◌<◌, ◌≤◌, ◌==◌, nat_lt, Bool, true, false, ◌&&◌, ◌||◌, if◌then◌else◌, ℤ, pos, negsuc, List, [], ◌∷◌, ◌++◌, length, map, take, slice_index_or, refl, sym, ap, subst, arith, length-append}
use Rattle.std.specs.Prelude.{unsigned_abs}
use Rattle.std.specs.List.{All, sum_by}
use Rattle.std.proofs.lemmas.Bool.{cases_eq, cases_lt}
use Rattle.std.proofs.lemmas.Bool.Decides.{nat_tests}
use Rattle.std.proofs.lemmas.List.{get_or-map, take_more}
use Rattle.std.proofs.lemmas.List.Elements.{All-append}
use Rattle.std.proofs.lemmas.List.Sums.{sum_by-append, sum_by-cons, sum_by-take-le}
use Rattle.list_checks.specs.Sorted.{count_below}
use Rattle.placement_candidates.specs.declared.variables.FullVar.{FullVar}
use Rattle.placement_programme.specs.Plain.{PlainVar, PlainSide, PlainFullVar, PlainFullSide}
use Rattle.placement_candidates.specs.FullVars.{plain_full_var}
use Rattle.placement_programme.specs.Bounds.{AreWeights, IsWithinBounds, IsWithinFullBounds}
use Rattle.placement_candidates.specs.Selected.{worth, no_var, var_in, worth_at, better, is_kept, plain_kept, kept_at, kept_below, selected_side, saves_by_overlay}

pub worth_here : (vars : List FullVar) (k : ℕ) (d : FullVar) → k < length vars → d ≡ slice_index_or vars k d → worth_at (map plain_full_var vars) k ≡ worth d.gain
worth_here vars k d below is =
    ap (λ (v : PlainFullVar). worth v.gain) (get_or-map plain_full_var vars k d no_var below ∙ ap plain_full_var (sym is))

-- ---- how many are kept

-- number `j` goes before number `k`, by values
abbrev Before : (ℕ → ℕ) → ℕ → ℕ → Type 0
Before f k j = (f k < f j) ⊎ ((f j ≡ f k) × (j < k))

abbrev before : (ℕ → ℕ) → ℕ → ℕ → Bool
before f k j = nat_lt (f k) (f j) || ((f j == f k) && nat_lt j k)

is_before : (f : ℕ → ℕ) (k j : ℕ) → Before f k j → before f k j ≡ true
is_before f k j (inl more) = let test : nat_lt (f k) (f j) ≡ true = grind (arith, nat_tests, more) in rw test refl
is_before f k j (inr same) =
    let value = same.0 in
    let place = same.1 in
    let less : nat_lt (f k) (f j) ≡ false = grind (arith, nat_tests, value) in
    let equal : (f j == f k) ≡ true = grind (arith, nat_tests, value) in
    let earlier : nat_lt j k ≡ true = grind (arith, nat_tests, place) in
    rw (less, equal, earlier) refl

-- of two, one goes before the other
either_before : (f : ℕ → ℕ) (j k : ℕ) → j < k → Before f k j ⊎ Before f j k
either_before f j k less =
    elim (cases_lt (f j) (f k)) [
      | inl more ↦ inr (inl more)
      | inr le ↦
          elim (cases_eq (f j) (f k)) [
            | inl same ↦ inl (inr (same, less))
            | inr differs ↦ inl (inl (omega (arith, le, differs)))
          ]
    ]

through : (f : ℕ → ℕ) (i j k : ℕ) → Before f j i → Before f k j → Before f k i
through f i j k (inl first) (inl second) = inl (omega (arith, first, second))
through f i j k (inl first) (inr second) = let value = second.0 in inl (omega (arith, first, value))
through f i j k (inr first) (inl second) = let value = first.0 in inl (omega (arith, value, second))
through f i j k (inr first) (inr second) =
    let a = first.0 in
    let b = second.0 in
    let c = first.1 in
    let d = second.1 in
    inr (omega (arith, a, b), omega (arith, c, d))

-- the last in that order of those that pass a test
pub record IsLastOf (f : ℕ → ℕ) (test : ℕ → Bool) (n m : ℕ) : Type 0 where
  pub below : m < n
  pub passes : test m ≡ true
  pub others : (j : ℕ) → j < n → test j ≡ true → (j ≡ m) ⊎ Before f m j

abbrev NonePasses : (ℕ → Bool) → ℕ → Type 0
NonePasses test n = (j : ℕ) → j < n → test j ≡ false

cases_bool : (b : Bool) → (b ≡ true) ⊎ (b ≡ false)
cases_bool true = inl refl
cases_bool false = inr refl

not_both : (b : Bool) → b ≡ true → b ≡ false → ⊥
not_both b first second = cc

cases_next : (j n : ℕ) → j < suc n → (j < n) ⊎ (j ≡ n)
cases_next j n below = elim (cases_lt j n) [ inl less ↦ inl less | inr more ↦ inr (omega (arith, below, more)) ]

-- it stays the last where one more is no later
still_last : (f : ℕ → ℕ) (test : ℕ → Bool) (n m : ℕ) → IsLastOf f test n m → (test n ≡ true → (n ≡ m) ⊎ Before f m n) → IsLastOf f test (suc n) m
still_last f test n m last no_later =
    let under = last.below in
    record {
      below = omega (arith, under);
      passes = last.passes;
      others = λ j below passes. elim (cases_next j n below) [
        | inl less ↦ last.others j less passes
        | inr same ↦ subst (λ x. (x ≡ m) ⊎ Before f m x) (sym same) (no_later (sym (ap test same) ∙ passes))
      ];
    }

last_more : (f : ℕ → ℕ) (test : ℕ → Bool) (n : ℕ) → NonePasses test n ⊎ ((m : ℕ) × IsLastOf f test n m) → NonePasses test (suc n) ⊎ ((m : ℕ) × IsLastOf f test (suc n) m)
last_more f test n (inl none) =
    elim (cases_bool (test n)) [
      | inl here ↦ inr (
        n,
        record {
          below = omega arith;
          passes = here;
          others = λ j below passes. elim (cases_next j n below) [
            | inl less ↦ absurd (not_both (test j) passes (none j less))
            | inr same ↦ inl same
          ];
        },
      )
      | inr not_here ↦ inl (λ j below. elim (cases_next j n below) [
        | inl less ↦ none j less
        | inr same ↦ ap test same ∙ not_here
      ])
    ]
last_more f test n (inr (m, last)) =
    let under = last.below in
    elim (cases_bool (test n)) [
      | inr not_here ↦ inr (m, still_last f test n m last (λ here. absurd (not_both (test n) here not_here)))
      | inl here ↦
          elim (either_before f m n under) [
            | inl first ↦ inr (
              n,
              record {
                below = omega arith;
                passes = here;
                others = λ j below passes. elim (cases_next j n below) [
                  | inl less ↦ elim (last.others j less passes) [
                    | inl same ↦ inr (subst (λ x. Before f n x) (sym same) first)
                    | inr earlier ↦ inr (through f j m n earlier first)
                  ]
                  | inr same ↦ inl same
                ];
              },
            )
            | inr behind ↦ inr (m, still_last f test n m last (λ here. inr behind))
          ]
    ]

last_of : (f : ℕ → ℕ) (test : ℕ → Bool) (n : ℕ) → NonePasses test n ⊎ ((m : ℕ) × IsLastOf f test n m)
last_of f test zero = inl (λ j below. absurd (omega (arith, below)))
last_of f test (suc n) = last_more f test n (last_of f test n)

count_none : (test : ℕ → Bool) (n : ℕ) → NonePasses test n → count_below test n ≡ 0
count_none test zero none = refl
count_none test (suc n) none =
    let earlier = count_none test n (λ j below. none j (omega (arith, below))) in
    let here = none n (omega arith) in
    rw here (omega (arith, earlier))

at_most_one : (b : Bool) → (if b then 1 else 0) ≤ 1
at_most_one true = omega arith
at_most_one false = omega arith

one_if : (b : Bool) → b ≡ true → ◌≡◌ {A = ℕ} (if b then 1 else 0) 1
one_if b is = rw is refl

none_if : (b : Bool) → b ≡ false → ◌≡◌ {A = ℕ} (if b then 1 else 0) 0
none_if b is = rw is refl

grown : (m n : ℕ) → (if nat_lt m n then 1 else 0) ≤ (if nat_lt m (suc n) then 1 else 0)
grown m n = elim (cases_lt m n) [
  | inl less ↦
      let one_is = one_if (nat_lt m (suc n)) (grind (arith, nat_tests, less)) in
      let least = at_most_one (nat_lt m n) in
      omega (arith, one_is, least)
  | inr more ↦ let zero_is = none_if (nat_lt m n) (grind (arith, nat_tests, more)) in omega (arith, zero_is)
]

-- those that pass are the last, and some of those before it
count_at_most : (test other : ℕ → Bool) (m n : ℕ) → ((j : ℕ) → j < n → test j ≡ true → (j ≡ m) ⊎ (other j ≡ true)) → count_below test n ≤ count_below other n + (if nat_lt m n then 1 else 0)
count_at_most test other m zero each = omega arith
count_at_most test other m (suc n) each =
    let earlier = count_at_most test other m n (λ j below. each j (omega (arith, below))) in
    let least = at_most_one (test n) in
    elim (cases_bool (test n)) [
      | inr not_here ↦
          let none = none_if (test n) not_here in
          let more = grown m n in
          omega (arith, earlier, none, more)
      | inl here ↦
          elim (each n (omega arith) here) [
            | inl same ↦
                let before_it : nat_lt m n ≡ false = grind (arith, nat_tests, same) in
                let with_it : nat_lt m (suc n) ≡ true = grind (arith, nat_tests, same) in
                let zero_is = none_if (nat_lt m n) before_it in
                let one_is = one_if (nat_lt m (suc n)) with_it in
                omega (arith, earlier, least, zero_is, one_is)
            | inr passes ↦
                let one = one_if (other n) passes in
                let more = grown m n in
                omega (arith, earlier, least, one, more)
          ]
    ]

-- where fewer than so many go before each that passes, so many pass at most
pub passes_few : (f : ℕ → ℕ) (test : ℕ → Bool) (n most : ℕ) → ((k : ℕ) → k < n → test k ≡ true → count_below (before f k) n < most) → count_below test n ≤ most
passes_few f test n most each =
    elim (last_of f test n) [
      | inl none ↦ let zero_is = count_none test n none in omega (arith, zero_is)
      | inr (m, last) ↦
          let bounded = count_at_most test (before f m) m n (λ j below passes. elim (last.others j below passes) [
            | inl same ↦ inl same
            | inr earlier ↦ inr (is_before f m j earlier)
          ]) in
          let few = each m last.below last.passes in
          let least = at_most_one (nat_lt m n) in
          omega (arith, bounded, few, least)
    ]

kept_parts : (a b : Bool) → a && b ≡ true → b ≡ true
kept_parts true b is = is
kept_parts false b is = cc

one_kept : (b : Bool) (v : PlainVar) → length (if b then v ∷ [] else []) ≡ (if b then 1 else 0)
one_kept true v = refl
one_kept false v = refl

kept_count : (vs : List PlainFullVar) (n : ℕ) → length (kept_below vs n) ≡ count_below (is_kept vs) n
kept_count vs zero = refl
kept_count vs (suc n) =
    let earlier = kept_count vs n in
    let sum = length-append (kept_below vs n) (kept_at vs n) in
    let here = one_kept (is_kept vs n) (plain_kept (var_in vs n)) in
    omega (arith, earlier, sum, here)

few_kept : (vs : List PlainFullVar) → length (kept_below vs (length vs)) ≤ 4000
few_kept vs =
    let count = kept_count vs (length vs) in
    let few = passes_few (worth_at vs) (is_kept vs) (length vs) 4000 (λ k below kept.
    let last : nat_lt (count_below (better vs k) (length vs)) 4000 ≡ true = kept_parts (nat_lt 0 (worth_at vs k)) (nat_lt (count_below (better vs k) (length vs)) 4000) kept in
    grind (arith, nat_tests, last)) in
    omega (arith, count, few)

-- ---- gains and weights

worth_small : (z : ℤ) → worth z ≤ unsigned_abs z
worth_small (pos n) = omega arith
worth_small (negsuc n) = omega arith

kept_gain : (b : Bool) (v : PlainFullVar) → sum_by (λ x. x.gain) (if b then plain_kept v ∷ [] else []) ≤ unsigned_abs v.gain
kept_gain true v =
    let sum = sum_by-cons (λ (x : PlainVar). x.gain) (plain_kept v) [] in
    let none : sum_by (λ (x : PlainVar). x.gain) [] ≡ 0 = refl in
    let small = worth_small v.gain in
    omega (arith, sum, none, small)
kept_gain false v = let none : sum_by (λ (x : PlainVar). x.gain) [] ≡ 0 = refl in omega (arith, none)

gains_less : (vs : List PlainFullVar) (n : ℕ) → n ≤ length vs → sum_by (λ x. x.gain) (kept_below vs n) ≤ sum_by (λ v. unsigned_abs v.gain) (take n vs)
gains_less vs zero le = omega arith
gains_less vs (suc n) le =
    let earlier = gains_less vs n (omega (arith, le)) in
    let here = kept_gain (is_kept vs n) (var_in vs n) in
    let kept = sum_by-append (λ (x : PlainVar). x.gain) (kept_below vs n) (kept_at vs n) in
    let next : suc n ≡ n + 1 = omega arith in
    let more : take (suc n) vs ≡ take n vs ++ var_in vs n ∷ [] = ap (λ k. take k vs) next ∙ take_more vs n no_var (omega (arith, le)) in
    let all = ap (sum_by (λ (v : PlainFullVar). unsigned_abs v.gain)) more ∙ sum_by-append (λ (v : PlainFullVar). unsigned_abs v.gain) (take n vs) (var_in vs n ∷ []) in
    let one = sum_by-cons (λ (v : PlainFullVar). unsigned_abs v.gain) (var_in vs n) [] in
    let none : sum_by (λ (v : PlainFullVar). unsigned_abs v.gain) [] ≡ 0 = refl in
    omega (arith, earlier, here, kept, all, one, none)

one_weighs : (rows : ℕ) (b : Bool) (v : PlainFullVar) → AreWeights rows v.weights → All (λ x. AreWeights rows x.weights) (if b then plain_kept v ∷ [] else [])
one_weighs rows true v weigh zero d below = weigh
one_weighs rows true v weigh (suc k) d below = absurd (omega (arith, below))
one_weighs rows false v weigh k d below = absurd (omega (arith, below))

kept_weigh : (rows : ℕ) (vs : List PlainFullVar) (n : ℕ) → n ≤ length vs → All (λ v. AreWeights rows v.weights) vs → All (λ x. AreWeights rows x.weights) (kept_below vs n)
kept_weigh rows vs zero le all = λ k d below. absurd (omega (arith, below))
kept_weigh rows vs (suc n) le all =
    All-append (λ (x : PlainVar). AreWeights rows x.weights) (kept_below vs n) (kept_at vs n)
    (kept_weigh rows vs n (omega (arith, le)) all)
    (one_weighs rows (is_kept vs n) (var_in vs n) (all n no_var (omega (arith, le))))

pub selected_within : (s : PlainFullSide) → IsWithinFullBounds s → IsWithinBounds (selected_side s)
selected_within s given =
    let vs = s.vars in
    let less = gains_less vs (length vs) (omega arith) in
    let part = sum_by-take-le (λ (v : PlainFullVar). unsigned_abs v.gain) vs (length vs) in
    let gains = given.gains in
    record {
      fixed = given.fixed;
      gains = omega (arith, less, part, gains);
      few_vars = few_kept vs;
      few_rows = given.few_rows;
      capacities = given.capacities;
      weights = kept_weigh (length s.rows) vs (length vs) (omega arith) given.weights;
    }

-- a side of rows and variables that are those
side_path : (fixed : ℕ) (rows ns : List ℕ) (vars vs : List PlainVar) → rows ≡ ns → vars ≡ vs → ◌≡◌ {A = PlainSide} (record { fixed = fixed; rows = rows; vars = vars }) (record { fixed = fixed; rows = ns; vars = vs })
side_path fixed rows ns vars vs first second = λ i. record { fixed = fixed; rows = first i; vars = second i }

pub parts_within : (s : PlainFullSide) (rows : List ℕ) (vars : List PlainVar) → rows ≡ s.rows → vars ≡ kept_below s.vars (length s.vars) → IsWithinFullBounds s → IsWithinBounds (record { fixed = s.fixed; rows = rows; vars = vars })
parts_within s rows vars first second given =
    subst IsWithinBounds (sym (side_path s.fixed rows s.rows vars (kept_below s.vars (length s.vars)) first second)) (selected_within s given)

pub saves_here : (vars : List FullVar) (k : ℕ) (d : FullVar) → k < length vars → d ≡ slice_index_or vars k d → saves_by_overlay (var_in (map plain_full_var vars) k) ≡ saves_by_overlay (plain_full_var d)
saves_here vars k d below is =
    ap saves_by_overlay (get_or-map plain_full_var vars k d no_var below ∙ ap plain_full_var (sym is))
