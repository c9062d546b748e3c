-- The least unknown name of a table.
use Rattle.std.proofs.Common.{◌≡◌, ℕ, Bool, true, false, not, ◌||◌, List, [], ◌∷◌, map, filter, Option, Some, None, String, Global, Ordering, Less, Equal, Greater, nat_cmp, string_bytes, inl, inr, refl, ap, ◌∙◌, subst}
use Rattle.std.proofs.lemmas.Bool.{cases_Bool}
use Rattle.std.specs.Cmp.Lexicographic.{slice_cmp}
use Rattle.std.specs.List.{list_any, AllByRecursion}
use Rattle.std.specs.List.Sorted.{IsStrictlySortedBy}
use Rattle.std.specs.Map.{keys_of}
use Rattle.std.specs.String.{string_cmp}
use Rattle.std.specs.Ordering.{match_ordering}
use Rattle.toml.specs.Data.{Members}
use Rattle.toml.specs.View.{members_view}
use Rattle.toml.proofs.Views.{Entry}
use Rattle.board_config.specs.Keys.{names_of, lesser, least, is_among, least_unknown}

pub any_map : {X Y : Type 0} (see : X → Y) (test : Y → Bool) (xs : List X) → list_any test (map see xs) ≡ list_any (λ x. test (see x)) xs
any_map see test [] = refl
any_map see test (x ∷ xs) = ap (λ rest. test (see x) || rest) (any_map see test xs)

abbrev IsBelow : List ℕ → Option (List ℕ) → Type 0
IsBelow name None = Unit {0}
IsBelow name (Some other) = slice_cmp nat_cmp name other ≡ Less

lesser_is : (name : List ℕ) (other : Option (List ℕ)) → IsBelow name other → lesser name other ≡ name
lesser_is name None below = refl
lesser_is name (Some other) below = rw below

chosen_below : (order : Ordering) (name a b : List ℕ) → slice_cmp nat_cmp name a ≡ Less → slice_cmp nat_cmp name b ≡ Less
    → slice_cmp nat_cmp name (match_ordering order a a b) ≡ Less
chosen_below Less name a b here there = here
chosen_below Equal name a b here there = here
chosen_below Greater name a b here there = there

below_lesser : (name next : List ℕ) (other : Option (List ℕ)) → slice_cmp nat_cmp name next ≡ Less → IsBelow name other
    → slice_cmp nat_cmp name (lesser next other) ≡ Less
below_lesser name next None here there = here
below_lesser name next (Some other) here there = chosen_below (slice_cmp nat_cmp next other) name next other here there

-- a name below those of the entries is below the least of some of them
below_least : (test : List ℕ → Bool) (name : String Global) (rest : List Entry)
    → AllByRecursion (λ y. string_cmp name y ≡ Less) (keys_of rest)
    → IsBelow (string_bytes name) (least (filter test (names_of (members_view rest))))
below_least test name [] below = tt
below_least test name (e ∷ rest) below =
    let here : slice_cmp nat_cmp (string_bytes name) (string_bytes e.0) ≡ Less = below.0 in
    let there = below_least test name rest below.1 in
    elim (cases_Bool (test (string_bytes e.0))) [
      | inl is_chosen ↦ rw is_chosen (below_lesser (string_bytes name) (string_bytes e.0) _ here there)
      | inr is_left ↦ rw is_left there
    ]

-- a known name is passed over
passes_known : (known : List (List ℕ)) (e : Entry) (rest : List Entry) → is_among known (string_bytes e.0) ≡ true
    → least_unknown known (members_view (e ∷ rest)) ≡ least_unknown known (members_view rest)
passes_known known e rest is_known = rw is_known refl

-- the first unknown name of a table is the least one
stops_unknown : (known : List (List ℕ)) (e : Entry) (rest : List Entry)
    → IsStrictlySortedBy string_cmp (keys_of (e ∷ rest)) → is_among known (string_bytes e.0) ≡ false
    → least_unknown known (members_view (e ∷ rest)) ≡ Some (string_bytes e.0)
unfolding IsStrictlySortedBy
stops_unknown known e rest sorted unknown =
    rw unknown (ap Some (lesser_is (string_bytes e.0) _ (below_least (λ name. not (is_among known name)) e.0 rest sorted.0)))

-- The entries of a table from here on are sorted, and the least unknown name is among them.
pub record IsSearchedTo (known : List (List ℕ)) (table : Members) (rest : List Entry) : Type 0 where
  pub sorted : IsStrictlySortedBy string_cmp (keys_of rest)
  pub same : least_unknown known table ≡ least_unknown known (members_view rest)

pub passes : (known : List (List ℕ)) (table : Members) (here rest : List Entry) (e : Entry) (seen : List ℕ)
    → here ≡ e ∷ rest → IsSearchedTo known table here → seen ≡ string_bytes e.0 → is_among known seen ≡ true
    → IsSearchedTo known table rest
unfolding IsStrictlySortedBy
passes known table here rest e seen at searched named is_known =
    let sorted = subst (λ (es : List Entry). IsStrictlySortedBy string_cmp (keys_of es)) at searched.sorted in
    let this : is_among known (string_bytes e.0) ≡ true = subst (λ (name : List ℕ). is_among known name ≡ true) named is_known in
    record {
      sorted = sorted.1;
      same = searched.same ∙ (ap (λ (es : List Entry). least_unknown known (members_view es)) at ∙ passes_known known e rest this);
    }

pub stops : (known : List (List ℕ)) (table : Members) (here rest : List Entry) (e : Entry) (seen : List ℕ)
    → here ≡ e ∷ rest → IsSearchedTo known table here → seen ≡ string_bytes e.0 → is_among known seen ≡ false
    → least_unknown known table ≡ Some (string_bytes e.0)
stops known table here rest e seen at searched named unknown =
    let sorted = subst (λ (es : List Entry). IsStrictlySortedBy string_cmp (keys_of es)) at searched.sorted in
    let this : is_among known (string_bytes e.0) ≡ false = subst (λ (name : List ℕ). is_among known name ≡ false) named unknown in
    searched.same ∙ (ap (λ (es : List Entry). least_unknown known (members_view es)) at ∙ stops_unknown known e rest sorted this)
