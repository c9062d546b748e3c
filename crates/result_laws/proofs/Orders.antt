-- Two lists in a strict order that have the same elements are the same.
use Rattle.std.proofs.Common.{◌≡◌, ◌∙◌, inl, inr, suc, Bool, true, List, [], ◌∷◌, slice_index_or, refl, sym, subst, arith}
use Rattle.std.specs.List.{list_any}
use Rattle.std.specs.Prelude.{All, AllPairs}
use Rattle.std.proofs.lemmas.Bool.{both_ways}
use Rattle.std.proofs.lemmas.List.Elements.{All-head, All-tail}
use Rattle.list_checks.proofs.TestLemmas.{either, same_tests}
use Rattle.code_blocks.proofs.LeaderLemmas.{left_passes, right_passes}
use Rattle.result_laws.proofs.Lists.{element_found, later_pairs}

-- a list of elements of one sort, in an order
pub record IsOrdered {X : Type 0} (IsFit : X → Type 0) (IsBefore : X → X → Type 0) (xs : List X) : Type 0 where
  pub pairs : AllPairs IsBefore xs
  pub fit : All IsFit xs

-- what is asked of a test and of an order: an element passes its own test, all of a sort that pass one test are the
-- same, and no two stand before each other
pub record Reports {X : Type 0} (IsFit : X → Type 0) (IsBefore : X → X → Type 0) (same : X → X → Bool) : Type 0 where
  pub itself : (a : X) → same a a ≡ true
  pub one : (a b c : X) → IsFit b → IsFit c → same a b ≡ true → same a c ≡ true → b ≡ c
  pub strict : (a b : X) → IsFit a → IsBefore a b → IsBefore b a → ⊥

-- an element behind another that passes the test of `a`
record FoundBehind {X : Type 0} (IsFit : X → Type 0) (IsBefore : X → X → Type 0) (same : X → X → Bool) (x a : X) : Type 0 where
  element : X
  fit : IsFit element
  passes : same a element ≡ true
  order : IsBefore x element

module _ {X : Type 0} (IsFit : X → Type 0) (IsBefore : X → X → Type 0) (same : X → X → Bool) (tells : Reports IsFit IsBefore same) where
  behind : (x : X) (xs : List X) (a : X) → IsOrdered IsFit IsBefore (x ∷ xs) → list_any (same a) xs ≡ true → FoundBehind IsFit IsBefore same x a
  behind x xs a ordered found =
      let there = element_found (same a) xs a found in
      let below = there.1.0 in
      record {
        element = slice_index_or xs there.0 a;
        fit = ordered.fit (suc there.0) a (omega (arith, below));
        passes = there.1.1;
        order = ordered.pairs 0 (suc there.0) a (omega arith) (omega (arith, below));
      }

  -- of an element that passes the test of another, that other is behind it
  is_behind : (x a : X) → IsFit a → FoundBehind IsFit IsBefore same x a → IsBefore x a
  is_behind x a fit found =
      subst (λ (e : X). IsBefore x e) (tells.one a found.element a found.fit fit found.passes (tells.itself a)) found.order

  -- the first elements are the same: else each stands behind the other
  heads : (x y : X) (xs ys : List X) → IsOrdered IsFit IsBefore (x ∷ xs) → IsOrdered IsFit IsBefore (y ∷ ys) → list_any (same x) (y ∷ ys) ≡ true → list_any (same y) (x ∷ xs) ≡ true → x ≡ y
  heads x y xs ys first second there here =
      let fit = All-head IsFit x xs first.fit in
      let fit' = All-head IsFit y ys second.fit in
      elim (either (same x y) (list_any (same x) ys) there) [
        | inl equal ↦ tells.one x x y fit fit' (tells.itself x) equal
        | inr later ↦ elim (either (same y x) (list_any (same y) xs) here) [
          | inl equal ↦ tells.one y x y fit fit' equal (tells.itself y)
          | inr other ↦
              absurd (tells.strict x y fit (is_behind x y fit' (behind x xs y first other)) (is_behind y x fit (behind y ys x second later)))
        ]
      ]

  -- what stands behind the first of one list stands behind that of the other
  into_tail : (x : X) (xs ys : List X) (a : X) → IsOrdered IsFit IsBefore (x ∷ xs) → list_any (same a) (x ∷ xs) ≡ list_any (same a) (x ∷ ys) → list_any (same a) xs ≡ true → list_any (same a) ys ≡ true
  into_tail x xs ys a ordered exact found =
      let whole = sym exact ∙ right_passes (same a x) (list_any (same a) xs) found in
      elim (either (same a x) (list_any (same a) ys) whole) [
        | inr later ↦ later
        | inl first ↦
            let fit = All-head IsFit x xs ordered.fit in
            let other = behind x xs a ordered found in
            let twice : IsBefore x x =
            subst (λ (e : X). IsBefore x e) (tells.one a other.element x other.fit fit other.passes first) other.order in
            absurd (tells.strict x x fit twice twice)
      ]

  rest : (x : X) (xs : List X) → IsOrdered IsFit IsBefore (x ∷ xs) → IsOrdered IsFit IsBefore xs
  rest x xs ordered =
      record {
        pairs = later_pairs IsBefore x xs ordered.pairs;
        fit = All-tail IsFit x xs ordered.fit;
      }

  pub same_lists : (xs ys : List X) → IsOrdered IsFit IsBefore xs → IsOrdered IsFit IsBefore ys → ((a : X) → list_any (same a) xs ≡ list_any (same a) ys) → xs ≡ ys
  same_lists [] [] first second exact = refl
  same_lists [] (y ∷ ys) first second exact =
      absurd (both_ways (list_any (same y) (y ∷ ys)) (sym (exact y)) (left_passes (same y y) (list_any (same y) ys) (tells.itself y)))
  same_lists (x ∷ xs) [] first second exact =
      absurd (both_ways (list_any (same x) (x ∷ xs)) (exact x) (left_passes (same x x) (list_any (same x) xs) (tells.itself x)))
  same_lists (x ∷ xs) (y ∷ ys) first second exact =
      let there = sym (exact x) ∙ left_passes (same x x) (list_any (same x) xs) (tells.itself x) in
      let here = exact y ∙ left_passes (same y y) (list_any (same y) ys) (tells.itself y) in
      let head : x ≡ y = heads x y xs ys first second there here in
      let other : IsOrdered IsFit IsBefore (x ∷ ys) =
      subst (λ (e : X). IsOrdered IsFit IsBefore (e ∷ ys)) (sym head) second in
      let alike : (a : X) → list_any (same a) (x ∷ xs) ≡ list_any (same a) (x ∷ ys) =
      subst (λ (e : X). (a : X) → list_any (same a) (x ∷ xs) ≡ list_any (same a) (e ∷ ys)) (sym head) exact in
      let tails : xs ≡ ys =
      same_lists xs ys (rest x xs first) (rest x ys other)
      (λ a. same_tests (list_any (same a) xs) (list_any (same a) ys) (into_tail x xs ys a first (alike a)) (into_tail x ys xs a other (sym (alike a)))) in
      λ i. head i ∷ tails i
