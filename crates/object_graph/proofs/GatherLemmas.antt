-- Lists that are gathered from a table, place by place.
use Rattle.std.proofs.Common.{◌≡◌, ◌∙◌, ℕ, ◌+◌, ◌<◌, Bool, true, false, ◌||◌, List, [], ◌∷◌, ◌++◌, get_or, Option, Some, None, refl, sym, ap, subst, rules, add-one}
use Rattle.std.specs.List.{list_any}
use Rattle.std.proofs.lemmas.List.Folds.{list_any-append, list_any_at}
use Rattle.std.proofs.lemmas.List.Quantifiers.{all_pairs_push}
use Rattle.list_checks.specs.Tests.{ranges_overlap}
use Rattle.list_checks.proofs.TestLemmas.{any_found}
use Rattle.object_graph.specs.Gathered.{listed, HasGiven, GivesJust, AreSeparate}

or_false : (b : Bool) → b || false ≡ b
or_false true = refl
or_false false = refl

any_listed : {X : Type 0} (test : X → Bool) (xs : List X) (x : X) → list_any test (xs ++ x ∷ []) ≡ list_any test xs || test x
any_listed test xs x = list_any-append test xs (x ∷ []) ∙ ap (λ (b : Bool). list_any test xs || b) (or_false (test x))

one_more : (old new here earlier now : Bool) → new ≡ old || here → old ≡ earlier → here ≡ now → new ≡ earlier || now
one_more old new here earlier now more was is = cc

has_more : {X : Type 0} (same : X → X → Bool) (test : X → ℕ → Bool) (xs : List X) (o : Option X) (i : ℕ) → HasGiven same test xs i → GivesJust same test o i → HasGiven same test (xs ++ listed o) (i + 1)
has_more same test xs None i has given x =
    rw (add-one i)
    (list_any-append (same x) xs []
    ∙ ap (λ (b : Bool). list_any (same x) xs || b) (given x)
    ∙ ap (λ (b : Bool). b || test x i) (has x))
has_more same test xs (Some y) i has given x =
    rw (add-one i)
    (any_listed (same x) xs y
    ∙ ap (λ (b : Bool). list_any (same x) xs || b) (given x)
    ∙ ap (λ (b : Bool). b || test x i) (has x))

-- where no two places give words that meet, none of the list do
abbrev pub GivesDisjoint : {X : Type 0} → (X → ℕ) → (X → ℕ → Bool) → ℕ → Type 0
GivesDisjoint {X} at test i =
    (x y : X) (j : ℕ) → j < i → test x j ≡ true → test y i ≡ true → ranges_overlap (at x) 4 (at y) 4 ≡ false

separate_more : {X : Type 0} (at : X → ℕ) (same : X → X → Bool) (test : X → ℕ → Bool) → ((x : X) → same x x ≡ true) → (xs : List X) (o : Option X) (i : ℕ) → HasGiven same test xs i → GivesJust same test o i → GivesDisjoint at test i → AreSeparate at xs → AreSeparate at (xs ++ listed o)
separate_more at same test itself xs None i has given disjoint separate =
    let whole : xs ++ [] ≡ xs = search rules in
    rw whole separate
separate_more {X} at same test itself xs (Some y) i has given disjoint separate =
    all_pairs_push (λ (a b : X). ranges_overlap (at a) 4 (at b) 4 ≡ false) xs y separate
    (λ k d below.
    let x = get_or xs k d in
    let found = list_any_at (same x) xs k d below (itself x) in
    let (j, before, passes) = any_found (test x) i (sym (has x) ∙ found) in
    disjoint x y j before passes (sym (given y) ∙ itself y))

-- what a loop has gathered before place i: just what the places give, and no two meet
abbrev pub HasGathered : {X : Type 0} → (X → ℕ) → (X → X → Bool) → (X → ℕ → Bool) → List X → ℕ → Type 0
HasGathered at same test xs i = HasGiven same test xs i × AreSeparate at xs

-- one step of such a loop
pub gather_more : {X : Type 0} (at : X → ℕ) (same : X → X → Bool) (test : X → ℕ → Bool) → ((x : X) → same x x ≡ true) → (xs ys : List X) (o : Option X) (i : ℕ) → ys ≡ xs ++ listed o → HasGathered at same test xs i → GivesJust same test o i → GivesDisjoint at test i → HasGathered at same test ys (i + 1)
gather_more {X} at same test itself xs ys o i is has given disjoint =
    subst (λ (zs : List X). HasGathered at same test zs (i + 1)) (sym is)
    (has_more same test xs o i has.0 given, separate_more at same test itself xs o i has.0 given disjoint has.1)
