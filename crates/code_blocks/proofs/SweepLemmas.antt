-- The functions of a program come in their order, and those that are kept are what is said of them.
use Rattle.std.proofs.Common.{◌≡◌, ◌∙◌, inl, inr, ℕ, ◌+◌, ◌<◌, nat_lt, Bool, true, false, not, ◌&&◌, List, [], ◌∷◌, ◌++◌, map, take, length, slice_index_or, refl, sym, ap, subst, arith}
use Rattle.std.specs.List.{list_any}
use Rattle.std.proofs.lemmas.Bool.{cases_Bool}
use Rattle.std.proofs.lemmas.List.{length-map, get_or-map, get_or-take, length-take-le, take-map, take_more}
use Rattle.elf_reader.specs.File.{PlainView, plain_symbol, plain_view}
use Rattle.elf_reader.specs.declared.view.ElfView.{ElfView}
use Rattle.loaded_file.specs.Records.{symbol_at}
use Rattle.loaded_file.specs.Read.{IsRead}
use Rattle.code_blocks.specs.Early.{has}
use Rattle.code_blocks.proofs.SearchLemmas.{has_found}
use Rattle.code_blocks.specs.Functions.{comes_before, keeps_out}
use Rattle.code_blocks.specs.Blocks.{name_of}
use Rattle.code_blocks.specs.Kept.{name_in, AreKeys, AreKept}
use Rattle.code_blocks.specs.declared.parts.Function.{Function}
use Rattle.code_blocks.proofs.ListLemmas.{has_at}
use Rattle.loaded_file.proofs.SymbolCount.{symbols_few}
use Rattle.code_blocks.proofs.KeyLemmas.{function_sized, key_found, names_exact, names_ordered}
use Rattle.code_blocks.proofs.KeptLemmas.{AreSwept, IsNext, swept_left, swept_kept}

-- the place of a name among those that have come
record IsPlace (names : List ℕ) (i k : ℕ) : Type 0 where
  pub place : ℕ
  pub lower : place < i
  pub is : slice_index_or names place 0 ≡ k

place_of : (names : List ℕ) (i k : ℕ) → i < length names → has (take i names) k ≡ true → IsPlace names i k
place_of names i k below come =
    let (j, within, is) = has_found (take i names) k come in
    let count = length-take-le i names (omega (arith, below)) in
    let lower : j < i = omega (arith, within, count) in
    record { place = j; lower = lower; is = sym (get_or-take i names j 0 lower) ∙ is }

sized_in : (view : ElfView) (keys : List ℕ) (k : ℕ) → IsRead view → AreKeys (plain_view view) keys → has (map name_in keys) k ≡ true → 0 < (symbol_at (plain_view view) k).size
sized_in view keys k read are found =
    (function_sized view k read (sym (names_exact view keys read are k) ∙ found)).sized

-- the next of all functions
next_of_names : (view : ElfView) (keys : List ℕ) (i : ℕ) → IsRead view → AreKeys (plain_view view) keys → i < length (map name_in keys) → IsNext (plain_view view) (take i (map name_in keys)) (slice_index_or (map name_in keys) i 0)
next_of_names view keys i read are below =
    let v = plain_view view in
    let names = map name_in keys in
    record {
      earlier = λ k come.
          let at = place_of names i k below come in
          subst (λ (x : ℕ). comes_before v x (slice_index_or names i 0) ≡ true) at.is (names_ordered view keys read are at.place i 0 at.lower below);
      filled = λ k come.
          let at = place_of names i k below come in
          let lower = at.lower in
          sized_in view keys k read are (subst (λ (x : ℕ). has names x ≡ true) at.is (has_at names at.place 0 (omega (arith, lower, below))));
      sized = sized_in view keys (slice_index_or names i 0) read are (has_at names i 0 below);
    }

-- by whether it begins before the end of the last
by_test : (v : PlainView) (names : List ℕ) (functions new : List Function) (furthest_end next name : ℕ) → AreSwept v names functions furthest_end → IsNext v names name
    → (nat_lt (symbol_at v name).value furthest_end ≡ true → (new ≡ functions) × (next ≡ furthest_end))
    → (nat_lt (symbol_at v name).value furthest_end ≡ false
    → (new ≡ functions ++ record { name = name; start = (symbol_at v name).value; size = (symbol_at v name).size } ∷ [])
    × (next ≡ (symbol_at v name).value + (symbol_at v name).size))
    → AreSwept v (names ++ name ∷ []) new next
by_test v names functions new furthest_end next name swept is_next left kept =
    elim (cases_Bool (nat_lt (symbol_at v name).value furthest_end)) [
      | inl begins ↦
          let same = left begins in
          subst (AreSwept v (names ++ name ∷ []) new) (sym same.1)
          (subst (λ (fs : List Function). AreSwept v (names ++ name ∷ []) fs furthest_end) (sym same.0) (swept_left v names functions furthest_end name swept is_next begins))
      | inr behind ↦
          let more = kept behind in
          subst (AreSwept v (names ++ name ∷ []) new) (sym more.1)
          (swept_kept v names functions new furthest_end name (record { name = name; start = (symbol_at v name).value; size = (symbol_at v name).size }) swept is_next behind refl refl refl more.0)
    ]

-- one function further
pub swept_more : (view : ElfView) (keys : List ℕ) (i : ℕ) (functions new : List Function) (furthest_end next name : ℕ) → IsRead view → AreKeys (plain_view view) keys → i < length keys → name ≡ name_in (slice_index_or keys i 0)
    → AreSwept (plain_view view) (map name_in (take i keys)) functions furthest_end
    → (nat_lt (symbol_at (plain_view view) name).value furthest_end ≡ true → (new ≡ functions) × (next ≡ furthest_end))
    → (nat_lt (symbol_at (plain_view view) name).value furthest_end ≡ false
    → (new ≡ functions ++ record { name = name; start = (symbol_at (plain_view view) name).value; size = (symbol_at (plain_view view) name).size } ∷ [])
    × (next ≡ (symbol_at (plain_view view) name).value + (symbol_at (plain_view view) name).size))
    → AreSwept (plain_view view) (map name_in (take (i + 1) keys)) new next
swept_more view keys i functions new furthest_end next name read are below is swept left kept =
    let v = plain_view view in
    let names = map name_in keys in
    let count = length-map keys name_in in
    let within : i < length names = omega (arith, below, count) in
    let named : slice_index_or names i 0 ≡ name = get_or-map name_in keys i 0 0 below ∙ sym is in
    let before : take i names ≡ map name_in (take i keys) = take-map name_in i keys in
    let after : map name_in (take (i + 1) keys) ≡ map name_in (take i keys) ++ name ∷ [] =
    sym (take-map name_in (i + 1) keys) ∙ take_more names i 0 within ∙ (λ j. before j ++ named j ∷ []) in
    let is_next : IsNext v (map name_in (take i keys)) name =
    subst (λ (xs : List ℕ). IsNext v xs name) before (subst (IsNext v (take i names)) named (next_of_names view keys i read are within)) in
    subst (λ (xs : List ℕ). AreSwept v xs new next) (sym after) (by_test v (map name_in (take i keys)) functions new furthest_end next name swept is_next left kept)

pub all_swept : (view : ElfView) (keys : List ℕ) (functions : List Function) (furthest_end : ℕ) → IsRead view → AreKeys (plain_view view) keys → AreSwept (plain_view view) (map name_in keys) functions furthest_end → AreKept (plain_view view) functions
all_swept view keys functions furthest_end read are swept =
    let v = plain_view view in
    let few = swept.few in
    let names = length-map keys name_in in
    let symbols = length-map view.symbols.items plain_symbol in
    let keys_few = are.few in
    let limit = symbols_few view read in
    record {
      kept = record {
        ordered = swept.ordered;
        exact = λ k. swept.exact k ∙ ap (λ (b : Bool). b && not (list_any (keeps_out v k) (map name_of functions))) (names_exact view keys read are k);
      };
      told = swept.told;
      disjoint = swept.disjoint;
      few = omega (arith, few, names, symbols, keys_few, limit);
    }

-- the symbol in a key is one of the view
pub name_below : (view : ElfView) (keys : List ℕ) (i name : ℕ) → IsRead view → AreKeys (plain_view view) keys → i < length keys → name ≡ name_in (slice_index_or keys i 0) → name < length view.symbols.items
name_below view keys i name read are below is =
    let (k, found) = key_found view keys (slice_index_or keys i 0) read are (has_at keys i 0 below) in
    let inside = found.sized.below in
    let count = length-map view.symbols.items plain_symbol in
    let same = is ∙ found.name in
    omega (arith, inside, count, same)
