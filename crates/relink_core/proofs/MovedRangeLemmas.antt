-- A map of the places of objects by their bytes, as objects go into it.
use Rattle.std.proofs.Common.{◌≡◌, ◌∙◌, ℕ, zero, suc, ◌+◌, ◌<◌, ◌==◌, Bool, true, false, cond, ◌&&◌, if◌then◌else◌, List, [], ◌∷◌, ◌++◌, length, take, get_or, Option, Some, None, add-one, sym, ap, refl, arith}
use Rattle.std.specs.BTreeMap.{BTreeMap, Updates}
use Rattle.std.specs.Cmp.{both_tied, unsigned_ties}
use Rattle.std.specs.Option.{is_some}
use Rattle.std.proofs.lemmas.Bool.{eqb-true}
use Rattle.list_checks.specs.First.{◌or_else◌}
use Rattle.list_checks.proofs.TestLemmas.{both}
use Rattle.elf_reader.specs.File.{PlainView}
use Rattle.elf_writer.specs.declared.parts.SymbolMove.{SymbolMove}
use Rattle.loaded_file.specs.Records.{symbol_at}
use Rattle.loaded_file.specs.Ranges.{has_range}
use Rattle.object_graph.specs.declared.parts.Graph.{Graph}
use Rattle.cell_values.specs.Objects.{object_of}
use Rattle.relocator.specs.declared.places.Places.{Places}
use Rattle.relink_core.specs.Making.{start_place, range_value, symbol_value, move_to, moves_below}
use Rattle.relink_core.specs.MovedRanges.{range_cmp, place_of_range, HaveRanges}

-- an object has these bytes
abbrev has_bytes : Graph → ℕ → ℕ → ℕ → Bool
has_bytes g o home n = ((object_of g o).home == home) && ((object_of g o).size == n)

-- ---- an object more

first_of : (t : Bool) (p : ℕ) (a b c : Option ℕ) → a ≡ b or_else c → (if t then Some p else a) ≡ (if t then Some p else b) or_else c
first_of true p a b c same = refl
first_of false p a b c same = same

values_more : (g : Graph) (places : Places) (home n : ℕ) (os : List ℕ) (i : ℕ) → i < length os → range_value g places home n (take (suc i) os) ≡ range_value g places home n (take i os) or_else (if has_bytes g (get_or os i 0) home n then Some (start_place places (get_or os i 0)) else None)
values_more g places home n [] i inside = absurd (omega arith)
values_more g places home n (o ∷ []) zero inside = refl
values_more g places home n (o ∷ p ∷ os) zero inside = refl
values_more g places home n (o ∷ os) (suc i) inside =
    first_of (has_bytes g o home n) (start_place places o) (range_value g places home n (take (suc i) os)) (range_value g places home n (take i os)) (if has_bytes g (get_or os i 0) home n then Some (start_place places (get_or os i 0)) else None)
    (values_more g places home n os i (omega arith))

pub ranges_more : (g : Graph) (places : Places) (os : List ℕ) (i : ℕ) (old new : BTreeMap (ℕ × ℕ) ℕ) → i < length os → HaveRanges g places (take i os) old → ((home n : ℕ) → place_of_range new home n ≡ place_of_range old home n or_else (if has_bytes g (get_or os i 0) home n then Some (start_place places (get_or os i 0)) else None)) → HaveRanges g places (take (i + 1) os) new
ranges_more g places os i old new inside had added home n =
    added home n
    ∙ ap (λ (o : Option ℕ). o or_else (if has_bytes g (get_or os i 0) home n then Some (start_place places (get_or os i 0)) else None)) (had home n)
    ∙ sym (rw add-one (values_more g places home n os i inside))

-- ---- what goes into the map

or_none : (o : Option ℕ) → o or_else None ≡ o
or_none None = refl
or_none (Some place) = refl

put_in : (bytes : ℕ × ℕ) (place : ℕ) (old new : BTreeMap (ℕ × ℕ) ℕ) (home n : ℕ) → Updates range_cmp old new bytes (Some place) → place_of_range new home n ≡ cond ((bytes.0 == home) && (bytes.1 == n)) (Some place) (place_of_range old home n)
put_in bytes place old new home n updates =
    updates.0 (home, n)
    ∙ ap (λ (b : Bool). cond b (Some place) (place_of_range old home n)) (sym (both_tied _ _ _ _ (unsigned_ties bytes.0 home) (unsigned_ties bytes.1 n)))

same_bytes : (a b c d : ℕ) → ((a == b) && (c == d)) ≡ true → (a ≡ b) × (c ≡ d)
same_bytes a b c d same =
    let parts = both (a == b) (c == d) same in
    (eqb-true a b parts.0, eqb-true c d parts.1)

added : (same : Bool) (place : ℕ) (old new : Option ℕ) → (same ≡ true → old ≡ None) → new ≡ cond same (Some place) old → new ≡ old or_else (if same then Some place else None)
added true place old new none is = is ∙ sym (ap (λ (o : Option ℕ). o or_else Some place) (none refl))
added false place old new none is = is ∙ sym (or_none old)

kept : (same : Bool) (place : ℕ) (old : Option ℕ) → (same ≡ true → is_some old ≡ true) → old ≡ old or_else (if same then Some place else None)
kept true place None some = let wrong = some refl in cc
kept true place (Some other) some = refl
kept false place old some = sym (or_none old)

no_place : (o : Option ℕ) → is_some o ≡ false → o ≡ None
no_place None absent = refl
no_place (Some place) absent = cc

-- bytes that the map does not have go into it
pub range_added : (bytes : ℕ × ℕ) (place : ℕ) (old new : BTreeMap (ℕ × ℕ) ℕ) (home n : ℕ) → is_some (place_of_range old bytes.0 bytes.1) ≡ false → Updates range_cmp old new bytes (Some place) → place_of_range new home n ≡ place_of_range old home n or_else (if (bytes.0 == home) && (bytes.1 == n) then Some place else None)
range_added bytes place old new home n absent updates =
    added ((bytes.0 == home) && (bytes.1 == n)) place (place_of_range old home n) (place_of_range new home n)
    (λ same. let at = same_bytes bytes.0 home bytes.1 n same in ap (λ h. place_of_range old h n) (sym at.0) ∙ ap (λ m. place_of_range old bytes.0 m) (sym at.1) ∙ no_place (place_of_range old bytes.0 bytes.1) absent)
    (put_in bytes place old new home n updates)

-- bytes that it has stay as they are
pub range_kept : (bytes : ℕ × ℕ) (place : ℕ) (old : BTreeMap (ℕ × ℕ) ℕ) (home n : ℕ) → is_some (place_of_range old bytes.0 bytes.1) ≡ true → place_of_range old home n ≡ place_of_range old home n or_else (if (bytes.0 == home) && (bytes.1 == n) then Some place else None)
range_kept bytes place old home n present =
    kept ((bytes.0 == home) && (bytes.1 == n)) place (place_of_range old home n)
    (λ same. let at = same_bytes bytes.0 home bytes.1 n same in ap (λ h. is_some (place_of_range old h n)) (sym at.0) ∙ ap (λ m. is_some (place_of_range old bytes.0 m)) (sym at.1) ∙ present)

-- ---- the moves

pub moves_more : (v : PlainView) (g : Graph) (places : Places) (os : List ℕ) (ranges : BTreeMap (ℕ × ℕ) ℕ) (k : ℕ) (value : Option ℕ) (old new : List SymbolMove) → HaveRanges g places os ranges → value ≡ (if has_range v (symbol_at v k) then place_of_range ranges (symbol_at v k).value (symbol_at v k).size else None) → old ≡ moves_below v g places os k → new ≡ old ++ move_to k value → new ≡ moves_below v g places os (k + 1)
moves_more v g places os ranges k value old new have is so_far more =
    let s = symbol_at v k in
    let same : value ≡ symbol_value v g places os s = is ∙ ap (λ (o : Option ℕ). if has_range v s then o else None) (have s.value s.size) in
    let all : new ≡ moves_below v g places os (suc k) = more ∙ ap (λ (ms : List SymbolMove). ms ++ move_to k value) so_far ∙ ap (λ (o : Option ℕ). moves_below v g places os k ++ move_to k o) same in
    rw add-one all
