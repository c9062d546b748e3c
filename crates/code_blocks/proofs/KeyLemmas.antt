-- The symbols of functions, and their keys.
use Rattle.std.proofs.Common.{◌≡◌, ◌∙◌, ◌⊎◌, inl, inr, ℕ, zero, suc, ◌+◌, ◌*◌, ◌-◌, ◌%◌, ◌<◌, ◌==◌, nat_lt, Bool, true, ◌&&◌, ◌||◌, List, [], ◌∷◌, map, length, slice_index_or, refl, sym, ap, subst, arith}
use Rattle.std.specs.List.{AllPairs}
use Rattle.std.proofs.lemmas.Bool.{eqb-true, eq-eqb, ltb-true, cases_lt}
use Rattle.std.proofs.lemmas.Bool.Decides.{nat_tests}
use Rattle.std.proofs.lemmas.List.{length-map, get_or-map}
use Rattle.std.proofs.lemmas.List.Kept.{AllPairs-from_increasing}
use Rattle.list_checks.specs.Tests.{any_below, lies_in}
use Rattle.list_checks.proofs.TestLemmas.{both, same_tests, any_found, any_at}
use Rattle.elf_reader.specs.File.{PlainSection, PlainView, plain_section, plain_symbol, plain_view}
use Rattle.elf_reader.specs.Loaded.{no_section, section_at}
use Rattle.elf_reader.specs.declared.view.ElfView.{ElfView}
use Rattle.loaded_file.specs.Code.{is_code_range}
use Rattle.loaded_file.specs.Records.{symbol_at}
use Rattle.loaded_file.specs.Read.{IsRead}
use Rattle.loaded_file.proofs.WordLemmas.{range_ends, lies_to}
use Rattle.loaded_file.proofs.SymbolCount.{symbols_few}
use Rattle.code_blocks.specs.Early.{has}
use Rattle.code_blocks.proofs.LeaderLemmas.{both_pass}
use Rattle.code_blocks.specs.Functions.{lies_in_range, is_function, comes_before}
use Rattle.code_blocks.specs.Kept.{key_of, name_in, key_at, passes_key, AreKeys}
use Rattle.code_blocks.proofs.ListLemmas.{any_map, has_at}

-- ---- what holds of the symbol of a function

-- the element of a list at a place
some_at : {X : Type 0} (xs : List X) (k : ℕ) → k < length xs → (x : X) × (x ≡ slice_index_or xs k x)
some_at [] k below = absurd (omega arith)
some_at (x ∷ xs) zero below = (x, refl)
some_at (x ∷ xs) (suc k) below = some_at xs k (omega arith)

code_ends : (view : ElfView) (j : ℕ) → IsRead view → is_code_range (plain_view view) j ≡ true → j < length view.sections.items → (section_at (plain_view view) j).addr + (section_at (plain_view view) j).size < 4294967296
code_ends view j read range below =
    let (s, is) = some_at view.sections.items j below in
    let here : section_at (plain_view view) j ≡ plain_section s = get_or-map plain_section view.sections.items j s no_section below ∙ ap plain_section (sym is) in
    subst (λ (t : PlainSection). t.addr + t.size < 4294967296) (sym here) (range_ends view j s read range below is)

pub record IsSized (v : PlainView) (k : ℕ) : Type 0 where
  pub below : k < length v.symbols
  pub sized : 0 < (symbol_at v k).size
  pub ends : (symbol_at v k).value + (symbol_at v k).size < 4294967296

pub function_sized : (view : ElfView) (k : ℕ) → IsRead view → is_function (plain_view view) k ≡ true → IsSized (plain_view view) k
function_sized view k read is =
    let v = plain_view view in
    let s = symbol_at v k in
    let whole = both (nat_lt k (length v.symbols) && (s.kind == 2) && nat_lt 0 s.size) (any_below (lies_in_range v k) (length v.sections)) is in
    let front = both (nat_lt k (length v.symbols) && (s.kind == 2)) (nat_lt 0 s.size) whole.0 in
    let first = both (nat_lt k (length v.symbols)) (s.kind == 2) front.0 in
    let (j, below, lies) = any_found (lies_in_range v k) (length v.sections) whole.1 in
    let inside = both (is_code_range v j) (lies_in (section_at v j).addr (section_at v j).size s.value s.size) lies in
    let count = length-map view.sections.items plain_section in
    let range = code_ends view j read inside.0 (omega (arith, below, count)) in
    let to = lies_to (section_at v j).addr (section_at v j).size s.value s.size inside.1 in
    record {
      below = ltb-true k (length v.symbols) first.0;
      sized = ltb-true 0 s.size front.1;
      ends = omega (arith, range, to);
    }

-- ---- keys

low_part : (high k : ℕ) → k < 4294967296 → (high * 4294967296 + k) % 4294967296 ≡ k
low_part high k below = omega (arith, below)

name_of_key : (view : ElfView) (k : ℕ) → IsRead view → k < length (plain_view view).symbols → name_in (key_at (plain_view view) k) ≡ k
name_of_key view k read below =
    let few = symbols_few view read in
    let count = length-map view.symbols.items plain_symbol in
    let s = symbol_at (plain_view view) k in
    low_part (s.value * 4294967296 + (4294967295 - s.size)) k (omega (arith, few, count, below))

-- each key is that of a function
pub record IsKeyOf (v : PlainView) (x k : ℕ) : Type 0 where
  pub test : is_function v k ≡ true
  pub sized : IsSized v k
  pub key : x ≡ key_at v k
  pub name : name_in x ≡ k

pub key_found : (view : ElfView) (keys : List ℕ) (key : ℕ) → IsRead view → AreKeys (plain_view view) keys → has keys key ≡ true → (k : ℕ) × IsKeyOf (plain_view view) key k
key_found view keys key read are found =
    let v = plain_view view in
    let (k, below, passes) = any_found (passes_key v (λ x. key == x)) (length v.symbols) (sym (are.exact (λ x. key == x)) ∙ found) in
    let parts = both (is_function v k) (key == key_at v k) passes in
    let is = eqb-true key (key_at v k) parts.1 in (
      k,
      record {
        test = parts.0;
        sized = function_sized view k read parts.0;
        key = is;
        name = ap name_in is ∙ name_of_key view k read below;
      },
    )

-- the names in the keys are those of the functions
pub names_exact : (view : ElfView) (keys : List ℕ) → IsRead view → AreKeys (plain_view view) keys → (k : ℕ) → has (map name_in keys) k ≡ is_function (plain_view view) k
names_exact view keys read are k =
    let v = plain_view view in
    let test = passes_key v (λ key. k == name_in key) in
    let to : any_below test (length v.symbols) ≡ true → is_function v k ≡ true = λ found.
    let (j, below, passes) = any_found test (length v.symbols) found in
    let parts = both (is_function v j) (k == name_in (key_at v j)) passes in
    let same = eqb-true k (name_in (key_at v j)) parts.1 ∙ name_of_key view j read below in
    ap (is_function v) same ∙ parts.0 in
    let from : is_function v k ≡ true → any_below test (length v.symbols) ≡ true = λ is.
    let below = (function_sized view k read is).below in
    any_at test (length v.symbols) k below (both_pass (is_function v k) (k == name_in (key_at v k)) is (eq-eqb k (name_in (key_at v k)) (sym (name_of_key view k read below)))) in
    any_map name_in (λ x. k == x) keys
    ∙ are.exact (λ key. k == name_in key)
    ∙ same_tests (any_below test (length v.symbols)) (is_function v k) to from

-- they stand in the order of the functions
abbrev pub precedes : ℕ → ℕ → ℕ → ℕ → ℕ → ℕ → Bool
precedes x s a y t b = nat_lt x y || (x == y) && (nat_lt t s || (s == t) && nat_lt a b)

by_symbol : (x s a y t b : ℕ) → x ≡ y → s ≡ t → a < b → precedes x s a y t b ≡ true
by_symbol x s a y t b same equal less = grind (arith, nat_tests, same, equal, less)

by_size : (x s a y t b : ℕ) → x ≡ y → t < s → precedes x s a y t b ≡ true
by_size x s a y t b same less = grind (arith, nat_tests, same, less)

by_start : (x s a y t b : ℕ) → x < y → precedes x s a y t b ≡ true
by_start x s a y t b less = grind (arith, nat_tests, less)

key_order : (x s a y t b : ℕ) → x + s < 4294967296 → y + t < 4294967296 → a < 4294967296 → b < 4294967296 → key_of x s a < key_of y t b → (x < y) ⊎ ((x ≡ y) × ((t < s) ⊎ ((s ≡ t) × (a < b))))
key_order x s a y t b first second third fourth less =
    elim (cases_lt x y) [
      | inl lower ↦ inl lower
      | inr upper ↦
          let same : x ≡ y = omega (arith, first, second, third, fourth, less, upper) in
          elim (cases_lt t s) [
            | inl larger ↦ inr (same, inl larger)
            | inr smaller ↦
                let equal : s ≡ t = omega (arith, first, second, third, fourth, less, same, smaller) in
                inr (same, inr (equal, omega (arith, same, equal, less)))
          ]
    ]

pub key_precedes : (x s a y t b : ℕ) → x + s < 4294967296 → y + t < 4294967296 → a < 4294967296 → b < 4294967296 → key_of x s a < key_of y t b → precedes x s a y t b ≡ true
key_precedes x s a y t b first second third fourth less =
    elim (key_order x s a y t b first second third fourth less) [
      | inl start ↦ by_start x s a y t b start
      | inr (same, rest) ↦ elim rest [
        | inl larger ↦ by_size x s a y t b same larger
        | inr (equal, lower) ↦ by_symbol x s a y t b same equal lower
      ]
    ]

pub names_ordered : (view : ElfView) (keys : List ℕ) → IsRead view → AreKeys (plain_view view) keys → AllPairs (λ k j. comes_before (plain_view view) k j ≡ true) (map name_in keys)
names_ordered view keys read are i j d lower inside =
    let v = plain_view view in
    let count = length-map keys name_in in
    let within : j < length keys = omega (arith, count, inside) in
    let before : i < length keys = omega (arith, lower, within) in
    let first = slice_index_or keys i 0 in
    let second = slice_index_or keys j 0 in
    let (a, is_a) = key_found view keys first read are (has_at keys i 0 before) in
    let (b, is_b) = key_found view keys second read are (has_at keys j 0 within) in
    let less : first < second = AllPairs-from_increasing keys are.ascending i j 0 lower within in
    let few = symbols_few view read in
    let symbols = length-map view.symbols.items plain_symbol in
    let low = is_a.sized.below in
    let high = is_b.sized.below in
    let order = key_precedes (symbol_at v a).value (symbol_at v a).size a (symbol_at v b).value (symbol_at v b).size b is_a.sized.ends is_b.sized.ends (omega (arith, few, symbols, low)) (omega (arith, few, symbols, high)) (rw (← is_a.key, ← is_b.key) less) in
    let at_i : slice_index_or (map name_in keys) i d ≡ a = get_or-map name_in keys i 0 d before ∙ is_a.name in
    let at_j : slice_index_or (map name_in keys) j d ≡ b = get_or-map name_in keys j 0 d within ∙ is_b.name in
    subst (λ (x : ℕ). comes_before v x (slice_index_or (map name_in keys) j d) ≡ true) (sym at_i)
    (subst (λ (y : ℕ). comes_before v a y ≡ true) (sym at_j) order)
