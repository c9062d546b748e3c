-- The functions of code share no byte.
use Rattle.std.proofs.Common.{◌≡◌, ◌∙◌, ℕ, ◌+◌, ◌<◌, ◌≤◌, ◌==◌, nat_lt, Bool, true, false, not, ◌&&◌, ◌||◌, List, map, length, slice_index_or, refl, sym, subst, arith}
use Rattle.std.specs.List.{All, AllPairs, list_any}
use Rattle.std.proofs.lemmas.Bool.{both_ways}
use Rattle.std.proofs.lemmas.Bool.Decides.{nat_tests}
use Rattle.std.proofs.lemmas.List.{length-map, get_or-map}
use Rattle.list_checks.specs.Tests.{any_below, ranges_overlap}
use Rattle.list_checks.proofs.TestLemmas.{both, not_true}
use Rattle.elf_reader.specs.File.{PlainView}
use Rattle.loaded_file.specs.Records.{symbol_at}
use Rattle.code_blocks.specs.Early.{has}
use Rattle.code_blocks.specs.Functions.{is_function, lies_in_range, comes_before, keeps_out, IsKept}
use Rattle.code_blocks.specs.Blocks.{name_of, IsCode}
use Rattle.code_blocks.specs.declared.parts.Code.{Code}
use Rattle.code_blocks.specs.declared.parts.Function.{Function}
use Rattle.code_blocks.proofs.ListLemmas.{any_in, has_at}

never : (b : Bool) → (b ≡ true → ⊥) → b ≡ false
never true is = absurd (is refl)
never false is = refl

starts_first : (x s a y t b : ℕ) → nat_lt x y || (x == y) && (nat_lt t s || (s == t) && nat_lt a b) ≡ true → x ≤ y
starts_first x s a y t b is = grind (arith, nat_tests, is)

ends_before : (b : Bool) (x s y t : ℕ) → b && ranges_overlap x s y t ≡ false → b ≡ true → x ≤ y → 0 < s → 0 < t → x + s ≤ y
ends_before b x s y t disjoint is le some more =
    let none : ranges_overlap x s y t ≡ false = rw is at disjoint in
    grind (arith, nat_tests, none, le, some, more)

positive : (n : ℕ) → nat_lt 0 n ≡ true → 0 < n
positive n is = grind (arith, nat_tests, is)

has_size : (v : PlainView) (k : ℕ) → is_function v k ≡ true → 0 < (symbol_at v k).size
has_size v k is =
    let sized = nat_lt 0 (symbol_at v k).size in
    let outer = both (nat_lt k (length v.symbols) && ((symbol_at v k).kind == 2) && sized) (any_below (lies_in_range v k) (length v.sections)) is in
    let inner = both (nat_lt k (length v.symbols) && ((symbol_at v k).kind == 2)) sized outer.0 in
    positive (symbol_at v k).size inner.1

kept_size : (v : PlainView) (kept : List ℕ) (k : ℕ) → IsKept v kept → has kept k ≡ true → 0 < (symbol_at v k).size
kept_size v kept k are found =
    has_size v k (both (is_function v k) (not (list_any (keeps_out v k) kept)) (sym (are.exact k) ∙ found)).0

kept_disjoint : (v : PlainView) (kept : List ℕ) (k j : ℕ) → IsKept v kept → has kept k ≡ true → has kept j ≡ true → comes_before v k j ≡ true → (symbol_at v k).value + (symbol_at v k).size ≤ (symbol_at v j).value
kept_disjoint v kept k j are first second before =
    let parts = both (is_function v j) (not (list_any (keeps_out v j) kept)) (sym (are.exact j) ∙ second) in
    let free = not_true (list_any (keeps_out v j) kept) parts.1 in
    let disjoint = never (keeps_out v j k) (λ out. both_ways _ free (any_in (keeps_out v j) kept k first out)) in
    let x = symbol_at v k in
    let y = symbol_at v j in
    ends_before (comes_before v k j) x.value x.size y.value y.size disjoint before (starts_first x.value x.size k y.value y.size j before) (kept_size v kept k are first) (kept_size v kept j are second)

named_at : (v : PlainView) (c : Code) (i : ℕ) (d : Function) → i < length c.functions.items → has (map name_of c.functions.items) (slice_index_or c.functions.items i d).name ≡ true
named_at v c i d below =
    let count = length-map c.functions.items name_of in
    subst (λ (x : ℕ). has (map name_of c.functions.items) x ≡ true) (get_or-map name_of c.functions.items i d 0 below)
    (has_at (map name_of c.functions.items) i 0 (omega (arith, below, count)))

-- each ends where a later one begins, or before
pub functions_disjoint : (v : PlainView) (c : Code) → IsCode v c → AllPairs (λ (f g : Function). f.start + f.size ≤ g.start) c.functions.items
functions_disjoint v c code = λ i j d lower below.
    let fs = c.functions.items in
    let count = length-map fs name_of in
    let within : i < length fs = omega (arith, lower, below) in
    let f = slice_index_or fs i d in
    let g = slice_index_or fs j d in
    let ordered = code.kept.ordered i j 0 lower (omega (arith, below, count)) in
    let first = get_or-map name_of fs i d 0 within in
    let second = get_or-map name_of fs j d 0 below in
    let before : comes_before v f.name g.name ≡ true = (λ t. comes_before v (sym first t) (sym second t)) ∙ ordered in
    let ends = kept_disjoint v (map name_of fs) f.name g.name code.kept (named_at v c i d within) (named_at v c j d below) before in
    let told = code.functions i d within in
    let other = code.functions j d below in
    let start = told.start in
    let size = told.size in
    let next = other.start in
    omega (arith, ends, start, size, next)

-- and each has a byte
pub functions_filled : (v : PlainView) (c : Code) → IsCode v c → All (λ (f : Function). 0 < f.size) c.functions.items
functions_filled v c code = λ i d below.
    let fs = c.functions.items in
    let f = slice_index_or fs i d in
    let size = (code.functions i d below).size in
    let some = kept_size v (map name_of fs) f.name code.kept (named_at v c i d below) in
    omega (arith, size, some)
