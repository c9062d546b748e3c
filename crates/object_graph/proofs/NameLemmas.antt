-- A set of the names of a list of texts, as one more text goes into it.
use Rattle.std.proofs.Common.{◌≡◌, ◌∙◌, ℕ, ◌+◌, ◌<◌, Bool, true, false, cond, ◌||◌, List, map, take, length, slice_index_or, sym, ap, subst, refl, String, Global, bytes_eq}
use Rattle.std.specs.Borrow.{Bor}
use Rattle.std.specs.BTreeSet.{BTreeSet, Updates}
use Rattle.std.specs.Cmp.Lexicographic.{slice_cmp}
use Rattle.std.specs.Ordering.{nat_cmp}
use Rattle.std.specs.String.{string_bytes}
use Rattle.std.specs.List.{list_any}
use Rattle.std.proofs.lemmas.List.{get_or-map, length-map}
use Rattle.std.proofs.lemmas.List.Folds.{list_any_more}
use Rattle.std.proofs.lemmas.Map.Text.{is_eq-slice_cmp}
use Rattle.object_graph.specs.Names.{has_name}

abbrev is_name : List ℕ → List ℕ → Bool
is_name name listed = bytes_eq listed name

-- what a set has once a name went into it
put_in : (name : List ℕ) (put : Bor (List ℕ)) (old new : BTreeSet (Bor (List ℕ))) → Updates (λ x y. slice_cmp nat_cmp x.now y.now) old new put true → has_name new name ≡ cond (bytes_eq put.now name) true (has_name old name)
put_in name put old new updates =
    updates.0 (record { ref_ptr = (0, 0); now = name })
    ∙ ap (λ (b : Bool). cond b true (has_name old name)) (is_eq-slice_cmp put.now name)

either : (a b : Bool) → cond b true a ≡ (a || b)
either true true = refl
either true false = refl
either false true = refl
either false false = refl

pub names_more : (name : List ℕ) (xs ys : List (String Global)) (i : ℕ) (s : String Global) (put : Bor (List ℕ)) (old new : BTreeSet (Bor (List ℕ))) → ys ≡ xs → i < length ys → s ≡ slice_index_or ys i s → put.now ≡ string_bytes s → Updates (λ x y. slice_cmp nat_cmp x.now y.now) old new put true → has_name old name ≡ list_any (is_name name) (take i (map string_bytes xs)) → has_name new name ≡ list_any (is_name name) (take (i + 1) (map string_bytes xs))
names_more name xs ys i s put old new same below item is updates earlier =
    let here : string_bytes (slice_index_or xs i s) ≡ put.now = ap (λ (zs : List (String Global)). string_bytes (slice_index_or zs i s)) (sym same) ∙ ap string_bytes (sym item) ∙ sym is in
    let inside : i < length xs = subst (λ (zs : List (String Global)). i < length zs) same below in
    let this : is_name name (slice_index_or (map string_bytes xs) i put.now) ≡ bytes_eq put.now name = ap (is_name name) (get_or-map string_bytes xs i s put.now inside ∙ here) in
    put_in name put old new updates
    ∙ either (has_name old name) (bytes_eq put.now name)
    ∙ ap (λ (b : Bool). b || bytes_eq put.now name) earlier
    ∙ ap (λ (b : Bool). list_any (is_name name) (take i (map string_bytes xs)) || b) (sym this)
    ∙ sym (list_any_more (is_name name) (map string_bytes xs) i put.now (rw (length-map xs string_bytes) inside))
