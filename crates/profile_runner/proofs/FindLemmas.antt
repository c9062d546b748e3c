-- The number of the block that begins at an address.
use Rattle.std.proofs.Common.{◌≡◌, ℕ, zero, suc, ◌<◌, ◌==◌, true, List, [], ◌∷◌, length, slice_index_or, Option, Some, None, refl, subst, arith}
use Rattle.std.specs.List.{AllPairs}
use Rattle.std.specs.List.Sorted.{IsStrictlyIncreasing}
use Rattle.std.proofs.lemmas.Bool.Decides.{nat_tests}
use Rattle.std.proofs.lemmas.List.{length-map}
use Rattle.std.proofs.lemmas.List.Kept.{AllPairs-from_increasing}
use Rattle.code_blocks.specs.Early.{has}
use Rattle.code_blocks.specs.Blocks.{start_of}
use Rattle.code_blocks.specs.Numbers.{starts_of, start_at}
use Rattle.code_blocks.specs.declared.parts.Code.{Code}
use Rattle.code_blocks.proofs.ListLemmas.{has_at}
use Rattle.object_machine.specs.Numbering.{IsNumberIn}
use Rattle.profile_runner.specs.Standing.{number_of}
use Rattle.profile_runner.specs.Tallies.{IsBlockAt}
use Rattle.profile_runner.proofs.TestLemmas.{eq_not}

-- ---- the number of a start

number_is : (xs : List ℕ) (k a : ℕ) → AllPairs (λ x y. x < y) xs → k < length xs → slice_index_or xs k 0 ≡ a → number_of xs a ≡ k
number_is [] k a pairs below is = absurd (omega arith)
number_is (x ∷ xs) zero a pairs below is = let test : (x == a) ≡ true = grind (arith, nat_tests, is) in rw test refl
number_is (x ∷ xs) (suc k) a pairs below is =
    let less = pairs 0 (suc k) 0 (omega arith) below in
    let test = eq_not x a (λ same. absurd (omega (arith, same, is, less))) in
    let rest = number_is xs k a (λ i j d before inside. pairs (suc i) (suc j) d (omega (arith, before)) (omega (arith, inside))) (omega arith) is in
    rw (test, rest) refl

-- ---- the number that a machine tells

pub number_block : (starts : List ℕ) (a : ℕ) (o : Option ℕ) → IsStrictlyIncreasing starts → IsNumberIn starts a o → IsBlockAt starts a o
number_block starts a None ascending is = is
number_block starts a (Some k) ascending (inside, is) =
    (subst (λ x. has starts x ≡ true) is (has_at starts k 0 inside), number_is starts k a (AllPairs-from_increasing starts ascending) inside is, inside)

-- ---- that of the code

pub starts_count : (c : Code) → length (starts_of c) ≡ length c.blocks.items
starts_count c = length-map c.blocks.items start_of

pub block_found : (c : Code) (a : ℕ) (k : ℕ) → IsStrictlyIncreasing (starts_of c) → k < length c.blocks.items → start_at c k ≡ a → IsBlockAt (starts_of c) a (Some k)
block_found c a k ascending below is =
    let count = starts_count c in number_block (starts_of c) a (Some k) ascending (omega (arith, count, below), is)
