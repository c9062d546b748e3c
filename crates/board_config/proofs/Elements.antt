-- The elements of an array, and what they are read as.
use Rattle.std.proofs.Common.{◌≡◌, ℕ, zero, suc, ◌+◌, ◌<◌, List, [], ◌∷◌, ◌++◌, map, take, length, get_or, Option, Some, None, refl, ap, sym, ◌∙◌, arith}
use Rattle.std.proofs.lemmas.List.{map-append, take_more}
use Rattle.toml.specs.View.{view, items_view}
use Rattle.toml.specs.declared.value.Value.{Value}
use Rattle.board_config.specs.Values.{listed, first_of, all_of}

pub listed_view : (vs : List Value) → listed (items_view vs) ≡ map view vs
listed_view [] = refl
listed_view (v ∷ vs) = ap (λ rest. view v ∷ rest) (listed_view vs)

-- the parts of a first element and the rest
pub record AreParts {A : Type 0} (first : Option A) (rest : Option (List A)) (ys : List A) : Type 0 where
  pub y : A
  pub zs : List A
  pub first_is : first ≡ Some y
  pub rest_is : rest ≡ Some zs
  pub list_is : ys ≡ y ∷ zs

pub parts_of : {A : Type 0} (first : Option A) (rest : Option (List A)) (ys : List A) → first_of first rest ≡ Some ys → AreParts first rest ys
parts_of None rest ys e = absurd (cc)
parts_of (Some y) None ys e = absurd (cc)
parts_of (Some y) (Some zs) ys e =
    record { y = y; zs = zs; first_is = refl; rest_is = refl; list_is = let same : y ∷ zs ≡ ys = cc in cc }

push_after : {D A : Type 0} (read : D → Option A) (xs : List D) (a x : D) (b y : A) (zs ys : List A)
    → read a ≡ Some b → all_of read (xs ++ x ∷ []) ≡ Some (zs ++ y ∷ []) → ys ≡ b ∷ zs
    → all_of read ((a ∷ xs) ++ x ∷ []) ≡ Some (ys ++ y ∷ [])
push_after read xs a x b y zs ys first more list = rw (first, more, list) refl

-- one more element at the end
all_push : {D A : Type 0} (read : D → Option A) (xs : List D) (x : D) (ys : List A) (y : A)
    → all_of read xs ≡ Some ys → read x ≡ Some y → all_of read (xs ++ x ∷ []) ≡ Some (ys ++ y ∷ [])
all_push read [] x ys y all one = let none : ys ≡ [] = cc in rw (one, none) refl
all_push read (a ∷ xs) x ys y all one =
    let parts = parts_of (read a) (all_of read xs) ys all in
    let more = all_push read xs x parts.zs y parts.rest_is one in
    push_after read xs a x parts.y y parts.zs ys parts.first_is more parts.list_is

no_rest : {A : Type 0} (first : Option A) → first_of first None ≡ None
no_rest None = refl
no_rest (Some y) = refl

-- an element that lacks the type
pub all_none : {D A : Type 0} (read : D → Option A) (xs : List D) (i : ℕ) (d : D)
    → i < length xs → read (get_or xs i d) ≡ None → all_of read xs ≡ None
all_none read [] i d below none = absurd (omega arith)
all_none read (x ∷ xs) zero d below none = rw none refl
all_none read (x ∷ xs) (suc i) d below none =
    rw (all_none read xs i d (omega arith) none) (no_rest (read x))

-- one more element of those that were read
pub all_more : {D A : Type 0} (read : D → Option A) (xs : List D) (i : ℕ) (d : D) (ys : List A) (y : A)
    → i < length xs → all_of read (take i xs) ≡ Some ys → read (get_or xs i d) ≡ Some y
    → all_of read (take (i + 1) xs) ≡ Some (ys ++ y ∷ [])
all_more read xs i d ys y below all one =
    rw (take_more xs i d below) (all_push read (take i xs) (get_or xs i d) ys y all one)

-- ---- elements that are seen as data

all_map : {X D A : Type 0} (see : X → D) (read : D → Option A) (xs : List X) → all_of read (map see xs) ≡ all_of (λ x. read (see x)) xs
all_map see read [] = refl
all_map see read (x ∷ xs) = ap (first_of (read (see x))) (all_map see read xs)

pub seen_none : {X D A : Type 0} (see : X → D) (read : D → Option A) (xs : List X) (i : ℕ) (x : X)
    → i < length xs → x ≡ get_or xs i x → read (see x) ≡ None → all_of read (map see xs) ≡ None
seen_none see read xs i x below is none =
    all_map see read xs ∙ all_none (λ v. read (see v)) xs i x below (sym (ap (λ v. read (see v)) is) ∙ none)

pub seen_more : {X D A : Type 0} (see : X → D) (read : D → Option A) (xs : List X) (i : ℕ) (x : X) (ys : List A) (y : A)
    → i < length xs → x ≡ get_or xs i x → all_of read (map see (take i xs)) ≡ Some ys → read (see x) ≡ Some y
    → all_of read (map see (take (i + 1) xs)) ≡ Some (ys ++ y ∷ [])
seen_more see read xs i x ys y below is all one =
    all_map see read (take (i + 1) xs)
    ∙ all_more (λ v. read (see v)) xs i x ys y below (sym (all_map see read (take i xs)) ∙ all) (sym (ap (λ v. read (see v)) is) ∙ one)

-- a pushed element, seen in its plain form
pub pushed_plain : {T A : Type 0} (plain : T → A) (old new : List T) (t : T) (a : A)
    → new ≡ old ++ t ∷ [] → plain t ≡ a → map plain old ++ a ∷ [] ≡ map plain new
pushed_plain plain old new t a e same = rw (e, map-append, same) refl
