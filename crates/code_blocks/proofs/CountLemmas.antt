-- How many addresses pass a test: as many as an ascending list of them has.
use Rattle.std.proofs.Common.{◌≡◌, ◌∙◌, ◌⊎◌, inl, inr, ℕ, zero, suc, ◌+◌, ◌<◌, ◌≤◌, ◌==◌, Bool, true, false, ◌||◌, if◌then◌else◌, List, [], ◌∷◌, length, refl, sym, ap, arith}
use Rattle.std.specs.List.{All, AllPairs}
use Rattle.std.specs.List.Sorted.{IsStrictlyIncreasing}
use Rattle.std.proofs.lemmas.Bool.{eqb-true}
use Rattle.std.proofs.lemmas.Bool.Decides.{nat_tests}
use Rattle.std.proofs.lemmas.List.Kept.{AllPairs-from_increasing}
use Rattle.std.proofs.lemmas.List.Folds.{list_any_none}
use Rattle.code_blocks.specs.Early.{has}
use Rattle.elf_reader.specs.File.{plain_view}
use Rattle.elf_reader.specs.declared.view.ElfView.{ElfView}
use Rattle.loaded_file.specs.Read.{IsRead}
use Rattle.code_blocks.specs.Leaders.{is_leader}
use Rattle.code_blocks.specs.AllLeaders.{IsLeaders}
use Rattle.code_blocks.specs.declared.lists.Leaders.{Leaders}
use Rattle.code_blocks.proofs.LeaderLemmas.{leader_is_code}
use Rattle.code_blocks.specs.Blocks.{count_below, address_count, block_count}
use Rattle.code_blocks.proofs.RangeLemmas.{code_fits}
use Rattle.code_blocks.proofs.ListLemmas.{has_first, has_later}

-- tests that pass alike
count_same : (t u : ℕ → Bool) (n : ℕ) → ((a : ℕ) → t a ≡ u a) → count_below t n ≡ count_below u n
count_same t u n same = λ i. count_below (λ a. same a i) n

count_none : (n : ℕ) → count_below (λ a. false) n ≡ 0
count_none zero = refl
count_none (suc n) = count_none n

-- two tests that never pass together
count_step : (t u : Bool) (a b c : ℕ) → (t ≡ true → u ≡ false) → c ≡ a + b → (if t || u then suc c else c) ≡ (if t then suc a else a) + (if u then suc b else b)
count_step true true a b c disjoint is = let never = disjoint refl in cc
count_step true false a b c disjoint is = omega (arith, is)
count_step false true a b c disjoint is = omega (arith, is)
count_step false false a b c disjoint is = is

count_either : (t u : ℕ → Bool) (n : ℕ) → ((a : ℕ) → t a ≡ true → u a ≡ false) → count_below (λ a. t a || u a) n ≡ count_below t n + count_below u n
count_either t u zero disjoint = refl
count_either t u (suc n) disjoint =
    count_step (t n) (u n) (count_below t n) (count_below u n) (count_below (λ a. t a || u a) n) (disjoint n) (count_either t u n disjoint)

-- one number
count_before : (x n : ℕ) → n ≤ x → count_below (λ a. a == x) n ≡ 0
count_before x zero le = refl
count_before x (suc n) le =
    let earlier = count_before x n (omega arith) in
    let other : (n == x) ≡ false = grind (arith, nat_tests) in
    rw (other, earlier) refl

count_one : (x n : ℕ) → x < n → count_below (λ a. a == x) n ≡ 1
count_one x zero below = absurd (omega arith)
count_one x (suc n) below =
    let place : (x ≡ n) ⊎ (x < n) = grind arith in
    elim place [
      | inl here ↦
          let same : (n == x) ≡ true = grind (arith, nat_tests) in
          rw (same, count_before x n (omega arith)) refl
      | inr earlier ↦
          let other : (n == x) ≡ false = grind (arith, nat_tests) in
          rw (other, count_one x n earlier) refl
    ]

-- numbers that ascend are counted once each
count_list : (xs : List ℕ) (n : ℕ) → AllPairs (λ x y. x < y) xs → ((a : ℕ) → has xs a ≡ true → a < n) → count_below (has xs) n ≡ length xs
count_list [] n ascending below = count_none n
count_list (x ∷ xs) n ascending below =
    let later : count_below (has xs) n ≡ length xs = count_list xs n (λ i j d lower inside. ascending (suc i) (suc j) d (omega arith) (omega arith)) (λ a found. below a (has_later x xs a found)) in
    let behind : All (λ y. (x == y) ≡ false) xs = λ k d inside. let less : x < _ = ascending 0 (suc k) d (omega arith) (omega arith) in grind (arith, nat_tests, less) in
    let disjoint : (a : ℕ) → (a == x) ≡ true → has xs a ≡ false = λ a same. rw (eqb-true a x same) (list_any_none (λ y. x == y) xs behind) in
    count_either (λ a. a == x) (has xs) n disjoint
    ∙ ap (λ (c : ℕ). c + count_below (has xs) n) (count_one x n (below x (has_first x xs)))
    ∙ ap (λ (c : ℕ). 1 + c) later
    ∙ omega arith

pub count_ascending : (test : ℕ → Bool) (xs : List ℕ) (n : ℕ) → IsStrictlyIncreasing xs → ((a : ℕ) → has xs a ≡ test a) → ((a : ℕ) → test a ≡ true → a < n) → length xs ≡ count_below test n
count_ascending test xs n ascending exact below =
    sym (count_list xs n (AllPairs-from_increasing xs ascending) (λ a found. below a (sym (exact a) ∙ found)))
    ∙ count_same (has xs) test n exact

-- an address below 2 ^ 32 is counted
is_counted : (a : ℕ) → a < 4294967296 → a < address_count
unfolding address_count
is_counted a below = below

-- there are as many blocks as leaders
pub leaders_counted : (view : ElfView) (leaders : Leaders) → IsRead view → IsLeaders (plain_view view) leaders → length leaders.all.items ≡ block_count (plain_view view)
leaders_counted view leaders read are =
    count_ascending (is_leader (plain_view view)) leaders.all.items address_count are.all_ascending are.all
    (λ a leader.
    let fits = code_fits view a read (leader_is_code (plain_view view) a leader) in
    is_counted a (omega (arith, fits)))
