-- Sums over the transitions of a run, by the blocks that they ran.
use Rattle.std.proofs.Common.{◌≡◌, ◌∙◌, ◌⊎◌, inl, inr, ℕ, zero, suc, ◌+◌, ◌*◌, ◌<◌, ◌≤◌, ◌==◌, Bool, true, false, ◌&&◌, List, length, refl, sym, ap, arith, if◌then◌else◌}
use Rattle.std.proofs.lemmas.Bool.{cases_eq}
use Rattle.std.proofs.lemmas.Bool.Decides.{nat_tests}
use Rattle.list_checks.proofs.SumLemmas.{sum_zero, sum_rises, sum_same}
use Rattle.list_checks.specs.Sorted.{count_below, sum_below}
use Rattle.profile_runner.specs.Transition.{Transition, transition_at}
use Rattle.profile_runner.specs.Standing.{number_of, begins, units_run}
use Rattle.energy_model.specs.Energy.{Scene, starts_of, block_in, block_at, unit_number}
use Rattle.energy_model.proofs.SceneLemmas.{Follows}

-- ---- sums

pub sum_two : (f g : ℕ → ℕ) (n : ℕ) → sum_below (λ k. f k + g k) n ≡ sum_below f n + sum_below g n
sum_two f g zero = refl
sum_two f g (suc n) = let earlier = sum_two f g n in omega (arith, earlier)

-- sums of terms that differ so
pub sum_moved : (f slow g fast copies : ℕ → ℕ) (n : ℕ) → ((i : ℕ) → i < n → f i + slow i ≡ g i + fast i + copies i) → sum_below f n + sum_below slow n ≡ sum_below g n + sum_below fast n + sum_below copies n
sum_moved f slow g fast copies n each =
    let same = sum_same (λ i. f i + slow i) (λ i. g i + fast i + copies i) n each in
    let left = sum_two f slow n in
    let right = sum_two (λ i. g i + fast i) copies n in
    let inner = sum_two g fast n in
    omega (arith, same, left, right, inner)

-- a term of a sum
pub term_small : (f : ℕ → ℕ) (k n bound : ℕ) → k < n → sum_below f n < bound → sum_below f k + f k < bound
term_small f k n bound below small = let more = sum_rises f (suc k) n below in omega (arith, more, small)

pub sum_small : (f : ℕ → ℕ) (bound n : ℕ) → ((k : ℕ) → k < n → f k ≤ bound) → sum_below f n ≤ n * bound
sum_small f bound zero each = omega arith
sum_small f bound (suc n) each =
    let earlier = sum_small f bound n (λ k below. each k (omega (arith, below))) in
    let here = each n (omega arith) in
    let times : suc n * bound ≡ n * bound + bound = grind arith in
    omega (arith, earlier, here, times)

-- one more at place `k`
one_more : (c d x : ℕ) → d ≡ c + 1 → d * x ≡ c * x + x
one_more c d x is = rw is (grind arith)

same_times : (c d x : ℕ) → d ≡ c + 0 → d * x ≡ c * x
same_times c d x is = let same : d ≡ c = omega (arith, is) in ap (λ n. n * x) same

pub sum_grown : (f c d : ℕ → ℕ) (k n : ℕ) → k < n → ((b : ℕ) → d b ≡ c b + (if k == b then 1 else 0)) → sum_below (λ b. d b * f b) n ≡ sum_below (λ b. c b * f b) n + f k
sum_grown f c d k zero below grown = absurd (omega (arith, below))
sum_grown f c d k (suc n) below grown =
    let here = grown n in
    elim (cases_eq k n) [
      | inl same ↦
          let test : (k == n) ≡ true = grind (arith, nat_tests, same) in
          let more : d n ≡ c n + 1 = rw test at here in
          let last = one_more (c n) (d n) (f n) more in
          let rest = sum_same (λ b. d b * f b) (λ b. c b * f b) n (λ b inside.
          let other : (k == b) ≡ false = grind (arith, nat_tests, same, inside) in
          let now = grown b in
          same_times (c b) (d b) (f b) (rw other at now)) in
          let at = ap f same in
          omega (arith, last, rest, at)
      | inr differs ↦
          let test : (k == n) ≡ false = grind (arith, nat_tests, differs) in
          let last = same_times (c n) (d n) (f n) (rw test at here) in
          let rest = sum_grown f c d k n (omega (arith, below, differs)) grown in
          omega (arith, last, rest)
    ]

-- ---- the units that ran

-- how often a block began among the first transitions
abbrev pub arrived : Scene → List Transition → ℕ → ℕ → ℕ
arrived w ms n b = count_below (λ j. begins (starts_of w) ms j && (number_of (starts_of w) (transition_at ms j).at == b)) n

abbrev pub unit_count : Scene → ℕ → ℕ
unit_count w b = length (block_in w b).units

-- the sum of a price of units over a block, and that over the blocks as often as each began
abbrev pub block_sum : Scene → (ℕ → ℕ → ℕ) → ℕ → ℕ
block_sum w f b = sum_below (f b) (unit_count w b)

abbrev pub blocks_sum : Scene → List Transition → (ℕ → ℕ → ℕ) → ℕ → ℕ
blocks_sum w ms f n = sum_below (λ b. arrived w ms n b * block_sum w f b) (length w.blocks)

abbrev pub transitions_sum : Scene → List Transition → (ℕ → ℕ → ℕ) → ℕ → ℕ
transitions_sum w ms f n = sum_below (λ j. f (block_at w ms j) (unit_number w ms j)) n

begun_count : (begun same : Bool) (n : ℕ) → begun ≡ true → n + (if begun && same then 1 else 0) ≡ n + (if same then 1 else 0)
begun_count begun same n is = rw is refl

no_count : (begun same : Bool) (n : ℕ) → begun ≡ false → n + (if begun && same then 1 else 0) ≡ n
no_count begun same n is = rw is (omega arith)

begun_sum : (w : Scene) (ms : List Transition) (f : ℕ → ℕ → ℕ) (n : ℕ) → begins (starts_of w) ms n ≡ true → number_of (starts_of w) (transition_at ms n).at < length w.blocks → blocks_sum w ms f (suc n) ≡ blocks_sum w ms f n + block_sum w f (number_of (starts_of w) (transition_at ms n).at)
begun_sum w ms f n begun below =
    sum_grown (block_sum w f) (arrived w ms n) (arrived w ms (suc n)) (number_of (starts_of w) (transition_at ms n).at) (length w.blocks) below
    (λ b. begun_count (begins (starts_of w) ms n) (number_of (starts_of w) (transition_at ms n).at == b) (arrived w ms n b) begun)

same_sum : (w : Scene) (ms : List Transition) (f : ℕ → ℕ → ℕ) (n : ℕ) → begins (starts_of w) ms n ≡ false → blocks_sum w ms f (suc n) ≡ blocks_sum w ms f n
same_sum w ms f n none =
    sum_same (λ b. arrived w ms (suc n) b * block_sum w f b) (λ b. arrived w ms n b * block_sum w f b) (length w.blocks)
    (λ b below. ap (λ k. k * block_sum w f b) (no_count (begins (starts_of w) ms n) (number_of (starts_of w) (transition_at ms n).at == b) (arrived w ms n b) none))

zero_times : (c x : ℕ) → c ≡ 0 → c * x ≡ 0
zero_times c x none = rw none (omega arith)

no_blocks : (w : Scene) (ms : List Transition) (f : ℕ → ℕ → ℕ) → blocks_sum w ms f 0 ≡ 0
no_blocks w ms f = sum_zero (λ b. arrived w ms 0 b * block_sum w f b) (length w.blocks) (λ b below. zero_times (arrived w ms 0 b) (block_sum w f b) refl)

cases_bool : (b : Bool) → (b ≡ true) ⊎ (b ≡ false)
cases_bool true = inl refl
cases_bool false = inr refl

-- the units that ran, and those of the last block, are the blocks as often as they began, and the units of the last
-- block that ran
pub ran : (w : Scene) (ms : List Transition) (f : ℕ → ℕ → ℕ) (i : ℕ) → Follows w ms → i < length ms → transitions_sum w ms f (suc i) + block_sum w f (block_at w ms i) ≡ blocks_sum w ms f (suc i) + sum_below (f (block_at w ms i)) (suc (unit_number w ms i))
ran w ms f zero all below =
    let begun = all.first below in
    let here = begun_sum w ms f 0 begun (all.each 0 below).inside in
    let none = no_blocks w ms f in
    omega (arith, here, none)
ran w ms f (suc i) all below =
    let before = ran w ms f i all (omega (arith, below)) in
    let starts = starts_of w in
    let transition = all.each (suc i) below in
    let earlier = all.each i (omega (arith, below)) in
    elim (cases_bool (begins starts ms (suc i))) [
      | inl begun ↦
          let whole = all.whole i below begun in
          let full : sum_below (f (block_at w ms i)) (suc (unit_number w ms i)) ≡ block_sum w f (block_at w ms i) = ap (sum_below (f (block_at w ms i))) whole in
          let block : block_at w ms (suc i) ≡ number_of starts (transition_at ms (suc i)).at = rw begun refl in
          let inside : number_of starts (transition_at ms (suc i)).at < length w.blocks = let less = transition.inside in omega (arith, less, block) in
          let here = begun_sum w ms f (suc i) begun inside in
          let there : block_sum w f (number_of starts (transition_at ms (suc i)).at) ≡ block_sum w f (block_at w ms (suc i)) = ap (block_sum w f) (sym block) in
          let units : units_run starts ms (suc i) ≡ 1 = rw begun refl in
          let number : unit_number w ms (suc i) ≡ 0 = omega (arith, units) in
          let one : f (block_at w ms (suc i)) (unit_number w ms (suc i)) ≡ sum_below (f (block_at w ms (suc i))) (suc (unit_number w ms (suc i))) = rw number (omega arith) in
          omega (arith, before, full, here, there, one)
      | inr none ↦
          let here = same_sum w ms f (suc i) none in
          let block : block_at w ms (suc i) ≡ block_at w ms i = rw none refl in
          let units : units_run starts ms (suc i) ≡ suc (units_run starts ms i) = rw none refl in
          let runs = earlier.runs in
          let number : unit_number w ms (suc i) ≡ suc (unit_number w ms i) = omega (arith, units, runs) in
          let last : block_sum w f (block_at w ms (suc i)) ≡ block_sum w f (block_at w ms i) = ap (block_sum w f) block in
          let one : f (block_at w ms (suc i)) (unit_number w ms (suc i)) ≡ f (block_at w ms i) (suc (unit_number w ms i)) =
          ap (λ b. f b (unit_number w ms (suc i))) block ∙ ap (f (block_at w ms i)) number in
          let part : sum_below (f (block_at w ms (suc i))) (suc (unit_number w ms (suc i))) ≡ sum_below (f (block_at w ms i)) (suc (unit_number w ms i)) + f (block_at w ms i) (suc (unit_number w ms i)) =
          ap (λ b. sum_below (f b) (suc (unit_number w ms (suc i)))) block ∙ ap (λ k. sum_below (f (block_at w ms i)) (suc k)) number in
          omega (arith, before, here, last, one, part)
    ]
