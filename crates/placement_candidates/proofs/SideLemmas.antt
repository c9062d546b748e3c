-- A choice of a side whose variables are those of a list that save something: what it saves, and what its items have in common.
use Rattle.std.proofs.Common.{◌≡◌, ◌∙◌, ◌⊎◌, inl, inr, ℕ, zero, suc, ◌+◌, ◌<◌, ◌≤◌, ◌&&◌, nat_lt, ℤ, pos, negsuc, ◌+ℤ◌, Bool, true, false, if◌then◌else◌, List, [], ◌∷◌, ◌++◌, length, map, slice_index, slice_index_or, refl, sym, ap, subst, arith, length-append}
use Rattle.std.specs.List.{sum_by}
use Rattle.std.proofs.Math.Seq.{get_or-append_seam}
use Rattle.std.proofs.lemmas.Bool.{cases_lt}
use Rattle.std.proofs.lemmas.Int.{ints}
use Rattle.std.proofs.lemmas.List.{get_or-map, get_or_append_left, append-nil, length-map}
use Rattle.std.proofs.lemmas.List.Sums.{sum_by-cons}
use Rattle.list_checks.specs.Sorted.{collected, count_below}
use Rattle.placement_programme.specs.declared.variables.VarName.{VarName}
use Rattle.placement_programme.specs.Plain.{PlainVar, PlainFullVar}
use Rattle.placement_programme.specs.Bounds.{AscendWithin}
use Rattle.placement_programme.specs.Programme.{gain_at, weights_at, weight_in, weight_at, load_in, FitsIn}
use Rattle.placement_candidates.specs.Selected.{worth, var_in, worth_at, better, is_kept, plain_kept, kept_at, kept_below}
use Rattle.placement_candidates.specs.Adding.{gains_by, no_kept, kept_name}

-- ---- the numbers of the variables that are kept

abbrev pub numbers : (ℕ → Bool) → ℕ → List ℕ
numbers test n = collected test (λ k. k) n

abbrev pub number_at : List ℕ → ℕ → ℕ
number_at ns k = slice_index_or ns k 0

pub record AreNumbers (test : ℕ → Bool) (bound : ℕ) (ns : List ℕ) : Type 0 where
  pub below : (k : ℕ) → k < length ns → number_at ns k < bound
  pub passes : (k : ℕ) → k < length ns → test (number_at ns k) ≡ true
  pub ordered : (j k : ℕ) → j < k → k < length ns → number_at ns j < number_at ns k

in_front : (ns : List ℕ) (n k : ℕ) → k < length ns → number_at (ns ++ n ∷ []) k ≡ number_at ns k
in_front ns n k below = get_or_append_left ns (n ∷ []) 0 k below

behind_all : (ns : List ℕ) (n : ℕ) → number_at (ns ++ n ∷ []) (length ns) ≡ n
behind_all ns n = get_or-append_seam ns n [] 0

cases_last : (k : ℕ) (ns : List ℕ) (n : ℕ) → k < length (ns ++ n ∷ []) → (k < length ns) ⊎ (k ≡ length ns)
cases_last k ns n below =
    let sum = length-append ns (n ∷ []) in
    elim (cases_lt k (length ns)) [ inl less ↦ inl less | inr more ↦ inr (omega (arith, below, more, sum)) ]

one_number : (test : ℕ → Bool) (n : ℕ) (ns : List ℕ) → AreNumbers test n ns → test n ≡ true → AreNumbers test (suc n) (ns ++ n ∷ [])
one_number test n ns are here =
    record {
      below = λ k below. elim (cases_last k ns n below) [
        | inl less ↦ let at = in_front ns n k less in let earlier = are.below k less in omega (arith, at, earlier)
        | inr last ↦ let at : number_at (ns ++ n ∷ []) k ≡ n = ap (number_at (ns ++ n ∷ [])) last ∙ behind_all ns n in omega (arith, at)
      ];
      passes = λ k below. elim (cases_last k ns n below) [
        | inl less ↦ ap test (in_front ns n k less) ∙ are.passes k less
        | inr last ↦ ap test (ap (number_at (ns ++ n ∷ [])) last ∙ behind_all ns n) ∙ here
      ];
      ordered = λ j k less below. elim (cases_last k ns n below) [
        | inl inside ↦
            let first = in_front ns n j (omega (arith, less, inside)) in
            let second = in_front ns n k inside in
            let before = are.ordered j k less inside in
            omega (arith, first, second, before)
        | inr last ↦
            let inside : j < length ns = omega (arith, less, last) in
            let first = in_front ns n j inside in
            let second : number_at (ns ++ n ∷ []) k ≡ n = ap (number_at (ns ++ n ∷ [])) last ∙ behind_all ns n in
            let bound = are.below j inside in
            omega (arith, first, second, bound)
      ];
    }

no_number : (test : ℕ → Bool) (n : ℕ) (ns : List ℕ) → AreNumbers test n ns → AreNumbers test (suc n) (ns ++ [])
no_number test n ns are =
    subst (AreNumbers test (suc n)) (sym (append-nil ns))
    (record { below = λ k below. let less = are.below k below in omega (arith, less); passes = are.passes; ordered = are.ordered })

pub cases_bool : (b : Bool) → (b ≡ true) ⊎ (b ≡ false)
cases_bool true = inl refl
cases_bool false = inr refl

pub are_numbers : (test : ℕ → Bool) (n : ℕ) → AreNumbers test n (numbers test n)
are_numbers test zero =
    record {
      below = λ k below. absurd (omega (arith, below));
      passes = λ k below. absurd (omega (arith, below));
      ordered = λ j k less below. absurd (omega (arith, below));
    }
are_numbers test (suc n) =
    let earlier = are_numbers test n in
    elim (cases_bool (test n)) [
      | inl here ↦ subst (λ (more : List ℕ). AreNumbers test (suc n) (numbers test n ++ more)) (sym (rw here refl)) (one_number test n (numbers test n) earlier here)
      | inr none ↦ subst (λ (more : List ℕ). AreNumbers test (suc n) (numbers test n ++ more)) (sym (rw none refl)) (no_number test n (numbers test n) earlier)
    ]

abbrev pub kept_of : List PlainFullVar → ℕ → PlainVar
kept_of vs k = plain_kept (var_in vs k)

map_more : (f : ℕ → PlainVar) (ns more : List ℕ) → map f (ns ++ more) ≡ map f ns ++ map f more
map_more f [] more = refl
map_more f (n ∷ ns) more = ap (λ (vs : List PlainVar). f n ∷ vs) (map_more f ns more)

map_if : (test : Bool) (f : ℕ → PlainVar) (n : ℕ) → map f (if test then n ∷ [] else []) ≡ (if test then f n ∷ [] else [])
map_if true f n = refl
map_if false f n = refl

kept_numbers : (vs : List PlainFullVar) (n : ℕ) → kept_below vs n ≡ map (kept_of vs) (numbers (is_kept vs) n)
kept_numbers vs zero = refl
kept_numbers vs (suc n) =
    ap (λ (xs : List PlainVar). xs ++ kept_at vs n) (kept_numbers vs n)
    ∙ (ap (λ (xs : List PlainVar). map (kept_of vs) (numbers (is_kept vs) n) ++ xs) (sym (map_if (is_kept vs n) (kept_of vs) n))
    ∙ sym (map_more (kept_of vs) (numbers (is_kept vs) n) (if is_kept vs n then n ∷ [] else [])))

-- ---- a list of variables, and those of it that are kept

worth_is : (z : ℤ) → nat_lt 0 (worth z) ≡ true → pos (worth z) ≡ z
worth_is (pos n) some = refl
worth_is (negsuc n) some = cc

first_passes : (a b : Bool) → a && b ≡ true → a ≡ true
first_passes true b is = refl
first_passes false b is = cc

gain_is : (vs : List PlainVar) (k : ℕ) → k < length vs → gain_at vs k ≡ (slice_index_or vs k no_kept).gain
gain_is [] k below = absurd (omega (arith, below))
gain_is (v ∷ vs) zero below = refl
gain_is (v ∷ vs) (suc k) below = gain_is vs k (omega (arith, below))

weights_are : (vs : List PlainVar) (k : ℕ) → k < length vs → weights_at vs k ≡ (slice_index_or vs k no_kept).weights
weights_are [] k below = absurd (omega (arith, below))
weights_are (v ∷ vs) zero below = refl
weights_are (v ∷ vs) (suc k) below = weights_are vs k (omega (arith, below))

pos_sum : (a b c : ℕ) (z x : ℤ) → a ≡ b + c → pos b ≡ z → pos c ≡ x → pos a ≡ z +ℤ x
pos_sum a b c z x sum first second = omega (arith, ints, sum, first, second)

module _ (vs : List PlainFullVar) where
  abbrev pub kept : List PlainVar
  kept = kept_below vs (length vs)

  abbrev pub ns : List ℕ
  ns = numbers (is_kept vs) (length vs)

  kept_length : length kept ≡ length ns
  kept_length = ap (λ (xs : List PlainVar). length xs) (kept_numbers vs (length vs)) ∙ length-map ns (kept_of vs)

  pub kept_at_place : (i : ℕ) (d : PlainVar) → i < length kept → slice_index_or kept i d ≡ kept_of vs (number_at ns i)
  kept_at_place i d below =
      ap (λ (xs : List PlainVar). slice_index_or xs i d) (kept_numbers vs (length vs))
      ∙ get_or-map (kept_of vs) ns i 0 d (let same = kept_length in omega (arith, below, same))

  pub number_below : (i : ℕ) → i < length kept → number_at ns i < length vs
  number_below i below = (are_numbers (is_kept vs) (length vs)).below i (let same = kept_length in omega (arith, below, same))

  number_passes : (i : ℕ) → i < length kept → is_kept vs (number_at ns i) ≡ true
  number_passes i below = (are_numbers (is_kept vs) (length vs)).passes i (let same = kept_length in omega (arith, below, same))

  pub number_order : (i j : ℕ) → i < j → j < length kept → number_at ns i < number_at ns j
  number_order i j less below = (are_numbers (is_kept vs) (length vs)).ordered i j less (let same = kept_length in omega (arith, below, same))

  name_is : (i : ℕ) → i < length kept → kept_name kept i ≡ (var_in vs (number_at ns i)).name
  name_is i below = ap (λ (v : PlainVar). v.name) (kept_at_place i no_kept below)

  weight_is : (row i : ℕ) → i < length kept → weight_at kept row i ≡ weight_in (var_in vs (number_at ns i)).weights row
  weight_is row i below =
      ap (λ (ws : List (ℕ × ℕ)). weight_in ws row) (weights_are kept i below ∙ ap (λ (v : PlainVar). v.weights) (kept_at_place i no_kept below))

  pub each_name : (P : VarName → Type 0) → ((k : ℕ) → k < length vs → P (var_in vs k).name) → (i : ℕ) → i < length kept → P (kept_name kept i)
  each_name P each i below = subst P (sym (name_is i below)) (each (number_at ns i) (number_below i below))

  -- what is taken saves what its items save, where each variable saves what its item does
  module _ (saved : VarName → ℤ) (saves : (k : ℕ) → k < length vs → (var_in vs k).gain ≡ saved (var_in vs k).name) where
    gain_saves : (i : ℕ) → i < length kept → pos (gain_at kept i) ≡ saved (kept_name kept i)
    gain_saves i below =
        let k = number_at ns i in
        let some = first_passes (nat_lt 0 (worth_at vs k)) (nat_lt (count_below (better vs k) (length vs)) 4000) (number_passes i below) in
        ap pos (gain_is kept i below ∙ ap (λ (v : PlainVar). v.gain) (kept_at_place i no_kept below))
        ∙ (worth_is (var_in vs k).gain some
        ∙ (saves k (number_below i below)
        ∙ ap saved (sym (name_is i below))))

    pub gains_are : (low : ℕ) (take : List ℕ) → AscendWithin low (length kept) take → pos (sum_by (gain_at kept) take) ≡ gains_by saved (map (kept_name kept) take)
    gains_are low [] within = refl
    gains_are low (i ∷ take) within =
        let rest = gains_are (suc i) take within.2 in
        let sum = sum_by-cons (gain_at kept) i take in
        pos_sum (sum_by (gain_at kept) (i ∷ take)) (gain_at kept i) (sum_by (gain_at kept) take) (saved (kept_name kept i)) (gains_by saved (map (kept_name kept) take)) sum (gain_saves i within.1) rest

-- ---- items that fit together

-- some have nothing in common with one another
abbrev pub IsApartFromEach : (VarName → VarName → Type 0) → VarName → List VarName → Type 0
IsApartFromEach Apart name [] = Unit {0}
IsApartFromEach Apart name (other ∷ names) = Apart name other × IsApartFromEach Apart name names

abbrev pub AreAllApart : (VarName → VarName → Type 0) → List VarName → Type 0
AreAllApart Apart [] = Unit {0}
AreAllApart Apart (name ∷ names) = IsApartFromEach Apart name names × AreAllApart Apart names

-- no row that holds one thing holds both
abbrev pub FitTogether : List ℕ → PlainFullVar → PlainFullVar → Type 0
FitTogether rows v x = (row : ℕ) → row < length rows → slice_index rows row ≡ 1 → weight_in v.weights row + weight_in x.weights row ≤ 1

module _ (vs : List PlainFullVar) (rows : List ℕ) (Apart : VarName → VarName → Type 0) (apart : (m n : ℕ) → m < n → n < length vs → FitTogether rows (var_in vs m) (var_in vs n) → Apart (var_in vs m).name (var_in vs n).name) where
  abbrev all : List PlainVar
  all = kept vs

  abbrev IsLight : ℕ → ℕ → Type 0
  IsLight i j = (row : ℕ) → row < length rows → slice_index rows row ≡ 1 → weight_at all row i + weight_at all row j ≤ 1

  apart_two : (i j : ℕ) → i < j → j < length all → IsLight i j → Apart (kept_name all i) (kept_name all j)
  apart_two i j less below light =
      let inside : i < length all = omega (arith, less, below) in
      subst (λ (name : VarName). Apart name (kept_name all j)) (sym (name_is vs i inside))
      (subst (λ (name : VarName). Apart (var_in vs (number_at (ns vs) i)).name name) (sym (name_is vs j below))
      (apart (number_at (ns vs) i) (number_at (ns vs) j) (number_order vs i j less below) (number_below vs j below) (λ row there one.
      let sum = light row there one in
      let first = weight_is vs row i inside in
      let second = weight_is vs row j below in
      omega (arith, sum, first, second))))

  abbrev AreLight : List ℕ → Type 0
  AreLight take = (row : ℕ) → row < length rows → slice_index rows row ≡ 1 → load_in all take row ≤ 1

  light_rest : (i : ℕ) (take : List ℕ) → AreLight (i ∷ take) → AreLight take
  light_rest i take light row below one =
      let sum = sum_by-cons (weight_at all row) i take in
      let whole = light row below one in
      omega (arith, sum, whole)

  light_two : (i j : ℕ) (take : List ℕ) → AreLight (i ∷ j ∷ take) → IsLight i j
  light_two i j take light row below one =
      let first = sum_by-cons (weight_at all row) i (j ∷ take) in
      let second = sum_by-cons (weight_at all row) j take in
      let whole = light row below one in
      omega (arith, first, second, whole)

  light_skip : (i j : ℕ) (take : List ℕ) → AreLight (i ∷ j ∷ take) → AreLight (i ∷ take)
  light_skip i j take light row below one =
      let first = sum_by-cons (weight_at all row) i (j ∷ take) in
      let second = sum_by-cons (weight_at all row) j take in
      let other = sum_by-cons (weight_at all row) i take in
      let whole = light row below one in
      omega (arith, first, second, other, whole)

  apart_from : (i low : ℕ) (take : List ℕ) → i < low → AscendWithin low (length all) take → AreLight (i ∷ take) → IsApartFromEach Apart (kept_name all i) (map (kept_name all) take)
  apart_from i low [] less within light = tt
  apart_from i low (j ∷ take) less within light =
      let from = within.0 in (
        apart_two i j (omega (arith, less, from)) within.1 (light_two i j take light),
        apart_from i (suc j) take (omega (arith, less, from)) within.2 (light_skip i j take light),
      )

  all_light : (low : ℕ) (take : List ℕ) → AscendWithin low (length all) take → AreLight take → AreAllApart Apart (map (kept_name all) take)
  all_light low [] within light = tt
  all_light low (i ∷ take) within light =
      (apart_from i (suc i) take (omega arith) within.2 light, all_light (suc i) take within.2 (light_rest i take light))

  pub all_apart : (take : List ℕ) → FitsIn all rows take → AreAllApart Apart (map (kept_name all) take)
  all_apart take fits =
      all_light 0 take fits.numbers (λ row below one. let load = fits.rows row below in omega (arith, load, one))
