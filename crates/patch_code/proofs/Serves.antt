-- Stubs one behind the other.
use Rattle.std.proofs.Common.{◌≡◌, ℕ, zero, suc, ◌+◌, ◌*◌, ◌%◌, ◌<◌, ◌==◌, false, List, [], ◌∷◌, ◌++◌, length, slice_index_or, refl, sym, ◌∙◌, ap, subst, arith}
use Rattle.std.proofs.lemmas.Bool.Decides.{nat_tests}
use Rattle.std.proofs.lemmas.List.{append-nil, append_assoc, length-append}
use Rattle.std.proofs.lemmas.List.Sums.{sum_by-cons}
use Rattle.rv32im.specs.Memory.{Memory}
use Rattle.rv32im.specs.Table.{IsEvenWithin}
use Rattle.rv32im.specs.Sequences.{jump_absolute, distance}
use Rattle.rv32im.proofs.SequenceLemmas.{mean_count}
use Rattle.flat_machine.specs.Lines.{HoldsAt}
use Rattle.patch_code.specs.Checking.{checking}
use Rattle.patch_code.specs.Serving.{StubBody, jumps_to, runs_words, ServingStub, serving_home, test_code, test_bytes, body_bytes, serving_size, serving_bytes, served_before, IsBody, AreStubWords, AreServed}
use Rattle.patch_code.specs.Overlay.{Reaches, CanServeAt, CanServeFrom}
use Rattle.patch_code.proofs.Order.{Ascend, ascend_behind, first_below, later_below, below_aligned}
use Rattle.patch_code.proofs.Held.{held_front, held_behind}

-- a stub with a region calls the routine
pub reached : (at switch r : ℕ) → (r ≡ 0 → ⊥) → Reaches at switch r → IsEvenWithin 1048576 (distance (at + 52) switch)
reached at switch zero some reach = absurd (some refl)
reached at switch (suc r) some reach = reach

-- ---- how many words

checking_count : (base t r at switch : ℕ) → length (checking base t r at switch) ≡ 22
unfolding checking
checking_count base t r at switch = refl

pub test_count : (base t at switch r : ℕ) → 4 * length (test_code base t at switch r) ≡ test_bytes r
test_count base t at switch zero = refl
test_count base t at switch (suc r) =
    let count = checking_count base t (suc r) at switch in
    let some : (suc r == 0) ≡ false = grind (arith, nat_tests) in
    rw some (omega (arith, count))

body_count : (t : ℕ) (body : StubBody) (words : List ℕ) → IsBody t body words → 4 * length words ≡ body_bytes body
body_count t (jumps_to to) words means = let count = mean_count words (jump_absolute t to) means in omega (arith, count)
body_count t (runs_words given) words same = ap (λ (xs : List ℕ). 4 * length xs) same

pub stub_count : (base switch at : ℕ) (stub : ServingStub) (words : List ℕ) → AreStubWords base switch at stub words → 4 * length words ≡ serving_size stub
stub_count base switch at stub words are =
    let test = mean_count are.test (test_code base stub.temp at switch stub.region) are.tests in
    let tests = test_count base stub.temp at switch stub.region in
    let body = body_count stub.temp stub.body are.body are.does in
    let whole = ap (λ (xs : List ℕ). length xs) are.whole in
    let both = length-append are.test are.body in
    omega (arith, test, tests, body, whole, both)

pub served_count : (base switch at : ℕ) (stubs : List ServingStub) (words : List ℕ) → AreServed base switch at stubs words → 4 * length words ≡ serving_bytes stubs
served_count base switch at [] words none = ap (λ (xs : List ℕ). 4 * length xs) none
served_count base switch at (stub ∷ stubs) words (here, (rest, (whole, (are, others)))) =
    let one = stub_count base switch at stub here are in
    let more = served_count base switch (at + serving_size stub) stubs rest others in
    let both = ap (λ (xs : List ℕ). length xs) whole ∙ length-append here rest in
    let all = sum_by-cons serving_size stub stubs in
    omega (arith, one, more, both, all)

-- ---- bytes of words

body_aligned : (body : StubBody) → body_bytes body % 4 ≡ 0
body_aligned (jumps_to to) = refl
body_aligned (runs_words words) = omega arith

pub size_aligned : (stub : ServingStub) → serving_size stub % 4 ≡ 0
size_aligned stub = let body = body_aligned stub.body in grind (arith, nat_tests, body)

pub before_aligned : (home : ℕ) (stubs : List ServingStub) → served_before home stubs % 4 ≡ 0
before_aligned home stubs = below_aligned serving_home serving_size size_aligned home stubs

pub serving_aligned : (stubs : List ServingStub) → serving_bytes stubs % 4 ≡ 0
serving_aligned [] = refl
serving_aligned (stub ∷ stubs) =
    let rest = serving_aligned stubs in
    let here = size_aligned stub in
    let more = sum_by-cons serving_size stub stubs in
    omega (arith, rest, here, more)

-- ---- what stubs need, in order

pub can_from : (regions switch at : ℕ) (ordered : List ServingStub) → Ascend serving_home serving_size ordered → ((k : ℕ) (d : ServingStub) → k < length ordered → CanServeAt regions switch (at + served_before (slice_index_or ordered k d).home ordered) (slice_index_or ordered k d)) → CanServeFrom regions switch at ordered
can_from regions switch at [] rise each = tt
can_from regions switch at (stub ∷ stubs) rise each =
    let none = first_below serving_home serving_size stub stubs rise in
    let place : at + served_before stub.home (stub ∷ stubs) ≡ at = omega (arith, none) in (
      subst (λ x. CanServeAt regions switch x stub) place (each 0 stub (omega arith)),
      can_from regions switch (at + serving_size stub) stubs (ascend_behind serving_home serving_size stub stubs rise)
          (λ k d below.
          let other : ServingStub = slice_index_or stubs k d in
          let later = later_below serving_home serving_size stub stubs k d rise below in
          let there : at + served_before other.home (stub ∷ stubs) ≡ at + serving_size stub + served_before other.home stubs = omega (arith, later) in
          subst (λ x. CanServeAt regions switch x other) there (each (suc k) d (omega (arith, below)))),
    )

-- ---- words that grow at the end

module _ (base switch first : ℕ) (all : List ServingStub) where
  -- these words, with those of the stubs that are left, are those of all
  abbrev pub AreSoFar : ℕ → List ServingStub → List ℕ → Type 0
  AreSoFar at left words = (rest : List ℕ) → AreServed base switch at left rest → AreServed base switch first all (words ++ rest)

  pub one_served : (at : ℕ) (stub : ServingStub) (left : List ServingStub) (words here : List ℕ) → AreSoFar at (stub ∷ left) words → AreStubWords base switch at stub here → AreSoFar (at + serving_size stub) left (words ++ here)
  one_served at stub left words here so_far are rest served =
      subst (λ (ws : List ℕ). AreServed base switch first all ws) (sym (append_assoc words here rest))
      (so_far (here ++ rest) (here, (rest, (refl, (are, served)))))

  pub all_served : (at : ℕ) (words : List ℕ) → AreSoFar at [] words → AreServed base switch first all words
  all_served at words so_far = subst (λ (ws : List ℕ). AreServed base switch first all ws) (append-nil words) (so_far [] refl)

-- ---- stubs in memory

-- words of a stub stand at an address
abbrev pub StandsAt : ℕ → ℕ → Memory → ℕ → ServingStub → Type 0
StandsAt base switch mem at stub = (words : List ℕ) × (AreStubWords base switch at stub words × HoldsAt mem at words)

pub served_found : (base switch : ℕ) (mem : Memory) (ordered : List ServingStub) (words : List ℕ) (at k : ℕ) (d : ServingStub) → Ascend serving_home serving_size ordered → AreServed base switch at ordered words → HoldsAt mem at words → k < length ordered → StandsAt base switch mem (at + served_before (slice_index_or ordered k d).home ordered) (slice_index_or ordered k d)
served_found base switch mem [] words at k d rise served held below = absurd (omega (arith, below))
served_found base switch mem (stub ∷ stubs) words at zero d rise (here, (rest, (whole, (are, others)))) held below =
    let none = first_below serving_home serving_size stub stubs rise in
    let place : at ≡ at + served_before stub.home (stub ∷ stubs) = omega (arith, none) in
    subst (λ x. StandsAt base switch mem x stub) place
    (here, (are, held_front mem at here rest (subst (λ (ws : List ℕ). HoldsAt mem at ws) whole held)))
served_found base switch mem (stub ∷ stubs) words at (suc k) d rise (here, (rest, (whole, (are, others)))) held below =
    let other : ServingStub = slice_index_or stubs k d in
    let inside : k < length stubs = omega (arith, below) in
    let count = stub_count base switch at stub here are in
    let later = later_below serving_home serving_size stub stubs k d rise inside in
    let place : at + serving_size stub + served_before other.home stubs ≡ at + served_before other.home (stub ∷ stubs) = omega (arith, later) in
    subst (λ x. StandsAt base switch mem x other) place
    (served_found base switch mem stubs rest (at + serving_size stub) k d (ascend_behind serving_home serving_size stub stubs rise) others
    (held_behind mem at (at + serving_size stub) here rest (omega (arith, count)) (subst (λ (ws : List ℕ). HoldsAt mem at ws) whole held)) inside)
