-- The blocks of a function stand one behind the other.
use Rattle.std.proofs.Common.{◌≡◌, ◌∙◌, ◌⊎◌, inl, inr, ℕ, ◌+◌, ◌<◌, ◌≤◌, nat_lt, nat_le, true, List, [], ◌∷◌, length, slice_index_or, Option, Some, None, refl, sym, ap, subst, arith}
use Rattle.std.specs.List.{AllPairs}
use Rattle.std.specs.List.Sorted.{IsStrictlyIncreasing}
use Rattle.std.proofs.lemmas.Bool.{both_ways, cases_order, eqb-true, eq-eqb}
use Rattle.std.proofs.lemmas.Bool.Decides.{nat_tests}
use Rattle.std.proofs.lemmas.List.{length-map, get_or-map}
use Rattle.std.proofs.lemmas.List.Folds.{list_any_at}
use Rattle.std.proofs.lemmas.List.Kept.{AllPairs-from_increasing}
use Rattle.list_checks.proofs.TestLemmas.{both}
use Rattle.elf_reader.specs.File.{PlainView}
use Rattle.code_blocks.specs.Blocks.{start_of, lies_in_function, no_function, IsFunctionOf, IsCode}
use Rattle.code_blocks.specs.Numbers.{starts_of, start_at}
use Rattle.code_blocks.specs.Leads.{is_some_of, owner_of, owner_at, is_of}
use Rattle.code_blocks.specs.declared.parts.Block.{Block}
use Rattle.code_blocks.specs.declared.parts.Code.{Code}
use Rattle.code_blocks.specs.declared.parts.Function.{Function}
use Rattle.code_blocks.proofs.OrderLemmas.{functions_disjoint}

-- ---- the function of a block

some_is : (o : Option ℕ) (f : ℕ) → is_some_of o f ≡ true → o ≡ Some f
some_is None f is = cc
some_is (Some g) f is = ap Some (eqb-true g f is)

is_some : (o : Option ℕ) (f : ℕ) → o ≡ Some f → is_some_of o f ≡ true
is_some o f is = ap (λ (p : Option ℕ). is_some_of p f) is ∙ eq-eqb f f refl

pub owner_is : (c : Code) (f b : ℕ) → is_of c f b ≡ true → owner_at c b ≡ Some f
owner_is c f b is = some_is (owner_at c b) f is

pub is_owner : (c : Code) (f b : ℕ) → owner_at c b ≡ Some f → is_of c f b ≡ true
is_owner c f b is = is_some (owner_at c b) f is

-- the function in whose range a block starts
owned_at : (v : PlainView) (c : Code) (b : ℕ) (d : Block) → IsCode v c → b < length c.blocks.items → IsFunctionOf c.functions.items (start_at c b) (owner_at c b)
owned_at v c b d code below =
    let start : start_at c b ≡ (slice_index_or c.blocks.items b d).start = get_or-map start_of c.blocks.items b d 0 below in
    let owner : owner_at c b ≡ (slice_index_or c.blocks.items b d).function = get_or-map owner_of c.blocks.items b d None below in
    subst (λ (a : ℕ). IsFunctionOf c.functions.items a (owner_at c b)) (sym start)
    (subst (IsFunctionOf c.functions.items (slice_index_or c.blocks.items b d).start) (sym owner) (code.blocks b d below).function)

some_block : (blocks : List Block) (b : ℕ) → b < length blocks → Block
some_block [] b below = absurd (omega (arith, below))
some_block (block ∷ blocks) b below = block

owned : (v : PlainView) (c : Code) (b : ℕ) → IsCode v c → b < length c.blocks.items → IsFunctionOf c.functions.items (start_at c b) (owner_at c b)
owned v c b code below = owned_at v c b (some_block c.blocks.items b below) code below

lies_there : (f : Function) (a : ℕ) → lies_in_function a f ≡ true → (f.start ≤ a) × (a < f.start + f.size)
lies_there f a is =
    let parts = both (nat_le f.start a) (nat_lt a (f.start + f.size)) is in
    let from = parts.0 in
    let to = parts.1 in
    (grind (arith, nat_tests, from), grind (arith, nat_tests, to))

lies_between : (f : Function) (a b d : ℕ) → a ≤ b → b ≤ d → lies_in_function a f ≡ true → lies_in_function d f ≡ true → lies_in_function b f ≡ true
lies_between f a b d low high first last =
    let from = (lies_there f a first).0 in
    let to = (lies_there f d last).1 in
    grind (arith, nat_tests, low, high, from, to)

-- functions that have a byte in common are the same
one_function : (fs : List Function) (f g a : ℕ) → AllPairs (λ (f g : Function). f.start + f.size ≤ g.start) fs → f < length fs → g < length fs → lies_in_function a (slice_index_or fs f no_function) ≡ true → lies_in_function a (slice_index_or fs g no_function) ≡ true → f ≡ g
one_function fs f g a apart first second here there =
    let x = slice_index_or fs f no_function in
    let y = slice_index_or fs g no_function in
    let inside = lies_there x a here in
    let other = lies_there y a there in
    elim (cases_order f g) [
      | inl same ↦ same
      | inr differs ↦ elim differs [
        | inl lower ↦ let ends = apart f g no_function lower second in let from = other.0 in let to = inside.1 in absurd (omega (arith, ends, from, to))
        | inr higher ↦ let ends = apart g f no_function higher first in let from = inside.0 in let to = other.1 in absurd (omega (arith, ends, from, to))
      ]
    ]

owner_at_place : (fs : List Function) (a f : ℕ) (o : Option ℕ) → AllPairs (λ (f g : Function). f.start + f.size ≤ g.start) fs → IsFunctionOf fs a o → f < length fs → lies_in_function a (slice_index_or fs f no_function) ≡ true → o ≡ Some f
owner_at_place fs a f None apart is below here = absurd (both_ways _ is (list_any_at (lies_in_function a) fs f no_function below here))
owner_at_place fs a f (Some g) apart is below here = ap Some (sym (one_function fs f g a apart below is.0 here is.1))

rises : (c : Code) (i j : ℕ) → IsStrictlyIncreasing (starts_of c) → i ≤ j → j < length c.blocks.items → start_at c i ≤ start_at c j
rises c i j ascending le below =
    let count = length-map c.blocks.items start_of in
    let place : (i ≡ j) ⊎ (i < j) = grind arith in
    elim place [
      | inl same ↦ rw same (omega arith)
      | inr lower ↦ let less = AllPairs-from_increasing (starts_of c) ascending i j 0 lower (omega (arith, below, count)) in omega (arith, less)
    ]

function_at : (v : PlainView) (c : Code) (f b : ℕ) → IsCode v c → b < length c.blocks.items → is_of c f b ≡ true → (f < length c.functions.items) × (lies_in_function (start_at c b) (slice_index_or c.functions.items f no_function) ≡ true)
function_at v c f b code below is =
    subst (IsFunctionOf c.functions.items (start_at c b)) (owner_is c f b is) (owned v c b code below)

-- between two blocks of a function stand only blocks of it
pub between : (v : PlainView) (c : Code) (f i j k : ℕ) → IsCode v c → i ≤ j → j ≤ k → k < length c.blocks.items → is_of c f i ≡ true → is_of c f k ≡ true → is_of c f j ≡ true
between v c f i j k code low high below first last =
    let within : j < length c.blocks.items = omega (arith, high, below) in
    let start = function_at v c f i code (omega (arith, low, within)) first in
    let end = function_at v c f k code below last in
    let fun = slice_index_or c.functions.items f no_function in
    let here = lies_between fun (start_at c i) (start_at c j) (start_at c k) (rises c i j code.ascending low within) (rises c j k code.ascending high below) start.1 end.1 in
    is_owner c f j (owner_at_place c.functions.items (start_at c j) f (owner_at c j) (functions_disjoint v c code) (owned v c j code within) start.0 here)
