-- A map of the functions by their names, as the symbols of a program go into it.
use Rattle.std.proofs.Common.{◌≡◌, ◌∙◌, ℕ, zero, suc, ◌<◌, ◌==◌, Bool, true, false, not, cond, ◌&&◌, if◌then◌else◌, List, length, Option, Some, None, sym, ap, subst, refl, bytes_eq, arith}
use Rattle.std.specs.Borrow.{Bor}
use Rattle.std.specs.BTreeMap.{BTreeMap, Updates}
use Rattle.std.specs.Cmp.Lexicographic.{slice_cmp, bytes_decides}
use Rattle.std.specs.Option.{is_some, IfSome}
use Rattle.std.specs.Ordering.{nat_cmp}
use Rattle.std.proofs.lemmas.Map.Text.{is_eq-slice_cmp}
use Rattle.list_checks.specs.First.{◌or_else◌, unless, first_below}
use Rattle.elf_reader.specs.File.{PlainView}
use Rattle.loaded_file.specs.Records.{symbol_at}
use Rattle.code_blocks.specs.declared.parts.Function.{Function}
use Rattle.region_former.specs.Naming.{function_in, function_at, function_named, named_by, is_named, place_if_starts}
use Rattle.region_former.specs.Named.{place_named, function_of_symbol}

-- ---- a symbol more

or_none : (o : Option ℕ) → o or_else None ≡ o
or_none None = refl
or_none (Some place) = refl

-- the name is tested last
tested_last : (kind same : Bool) (o : Option ℕ) → (if kind && same then o else None) ≡ (if same then (if kind then o else None) else None)
tested_last true true o = refl
tested_last true false o = refl
tested_last false true o = refl
tested_last false false o = refl

named_here : (v : PlainView) (functions : List Function) (name key : List ℕ) (k : ℕ) → key ≡ (symbol_at v k).name → named_by v functions name k ≡ (if bytes_eq key name then function_of_symbol v functions k else None)
named_here v functions name key k is =
    tested_last ((symbol_at v k).kind == 2) (bytes_eq (symbol_at v k).name name) (function_at functions (symbol_at v k).value)
    ∙ ap (λ (text : List ℕ). if bytes_eq text name then function_of_symbol v functions k else None) (sym is)

put_in : (name : List ℕ) (key : Bor (List ℕ)) (place : ℕ) (old new : BTreeMap (Bor (List ℕ)) ℕ) → Updates (λ x y. slice_cmp nat_cmp x.now y.now) old new key (Some place) → place_named new name ≡ cond (bytes_eq key.now name) (Some place) (place_named old name)
put_in name key place old new updates =
    updates.0 (record { ref_ptr = (0, 0); now = name })
    ∙ ap (λ (b : Bool). cond b (Some place) (place_named old name)) (is_eq-slice_cmp key.now name)

added : (same : Bool) (place : ℕ) (old new : Option ℕ) → (same ≡ true → old ≡ None) → new ≡ cond same (Some place) old → new ≡ old or_else (if same then Some place else None)
added true place old new none is = is ∙ sym (ap (λ (o : Option ℕ). o or_else Some place) (none refl))
added false place old new none is = is ∙ sym (or_none old)

kept : (same : Bool) (found old : Option ℕ) → (same ≡ true → is_some old ≡ true) → old ≡ old or_else (if same then found else None)
kept true found None some = let wrong = some refl in cc
kept true found (Some place) some = refl
kept false found old some = sym (or_none old)

-- a name that the map does not have goes into it
pub named_more : (v : PlainView) (functions : List Function) (k place : ℕ) (key : Bor (List ℕ)) (old new : BTreeMap (Bor (List ℕ)) ℕ) (name : List ℕ) → key.now ≡ (symbol_at v k).name → Some place ≡ function_of_symbol v functions k → is_some (place_named old key.now) ≡ false → Updates (λ x y. slice_cmp nat_cmp x.now y.now) old new key (Some place) → place_named new name ≡ place_named old name or_else named_by v functions name k
named_more v functions k place key old new name is found absent updates =
    let none : place_named old key.now ≡ None = no_place (place_named old key.now) absent in
    let by : named_by v functions name k ≡ (if bytes_eq key.now name then Some place else None) =
    named_here v functions name key.now k is ∙ ap (λ (o : Option ℕ). if bytes_eq key.now name then o else None) (sym found) in
    added (bytes_eq key.now name) place (place_named old name) (place_named new name)
    (λ same. subst (λ text. place_named old text ≡ None) ((bytes_decides key.now name).0 same) none)
    (put_in name key place old new updates)
    ∙ ap (λ (o : Option ℕ). place_named old name or_else o) (sym by)
  where
    no_place : (o : Option ℕ) → is_some o ≡ false → o ≡ None
    no_place None absent = refl
    no_place (Some place) absent = cc

-- a name that it has stays as it is
pub named_still : (v : PlainView) (functions : List Function) (k : ℕ) (key : List ℕ) (places : BTreeMap (Bor (List ℕ)) ℕ) (name : List ℕ) → key ≡ (symbol_at v k).name → is_some (place_named places key) ≡ true → place_named places name ≡ place_named places name or_else named_by v functions name k
named_still v functions k key places name is present =
    kept (bytes_eq key name) (function_of_symbol v functions k) (place_named places name)
    (λ same. subst (λ text. is_some (place_named places text) ≡ true) ((bytes_decides key name).0 same) present)
    ∙ ap (λ (o : Option ℕ). place_named places name or_else o) (sym (named_here v functions name key k is))

-- ---- a name stands for one of the functions

no_some : (place : ℕ) → None ≡ Some place → ⊥
no_some place is = cc

some_is : (x y : ℕ) → Some x ≡ Some y → x ≡ y
some_is x y same = cc

in_order : (a b : Option ℕ) (place bound : ℕ) → (a ≡ Some place → place < bound) → (b ≡ Some place → place < bound) → a or_else b ≡ Some place → place < bound
in_order None b place bound first second is = second is
in_order (Some other) b place bound first second is = first is

starts_below : (functions : List Function) (a n place : ℕ) → first_below (place_if_starts functions a) n ≡ Some place → place < n
starts_below functions a zero place is = absurd (no_some place is)
starts_below functions a (suc n) place is =
    in_order (first_below (place_if_starts functions a) n) (place_if_starts functions a n) place (suc n)
    (λ earlier. let below = starts_below functions a n place earlier in omega (arith, below))
    (here ((function_in functions n).start == a))
    is
  where
    here : (starts : Bool) → unless (not starts) n ≡ Some place → place < suc n
    here true found = let same = some_is n place found in omega (arith, same)
    here false found = absurd (no_some place found)

named_below : (v : PlainView) (functions : List Function) (name : List ℕ) (n place : ℕ) → first_below (named_by v functions name) n ≡ Some place → place < length functions
named_below v functions name zero place is = absurd (no_some place is)
named_below v functions name (suc n) place is =
    in_order (first_below (named_by v functions name) n) (named_by v functions name n) place (length functions)
    (named_below v functions name n place)
    (here (is_named v name n))
    is
  where
    here : (named : Bool) → (if named then function_at functions (symbol_at v n).value else None) ≡ Some place → place < length functions
    here true found = starts_below functions (symbol_at v n).value (length functions) place found
    here false found = absurd (no_some place found)

function_below : (v : PlainView) (functions : List Function) (name : List ℕ) (place : ℕ) → function_named v functions name ≡ Some place → place < length functions
function_below v functions name place is = named_below v functions name (length v.symbols) place is

pub function_within : (v : PlainView) (functions : List Function) (name : List ℕ) (found : Option ℕ) → found ≡ function_named v functions name → IfSome found (λ f. f < length functions)
function_within v functions name None is = tt
function_within v functions name (Some place) is = function_below v functions name place (sym is)
