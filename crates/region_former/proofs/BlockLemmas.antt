-- Blocks by the addresses at which they begin, and the functions that they lead into.
use Rattle.std.proofs.Common.{◌≡◌, ◌∙◌, ◌⊎◌, inl, inr, ℕ, zero, suc, ◌<◌, ◌==◌, Bool, true, false, not, ◌&&◌, ◌||◌, List, [], ◌∷◌, set, length, slice_index_or, Option, Some, Vec, Global, refl, sym, ap, subst, arith}
use Rattle.std.specs.List.{list_any}
use Rattle.std.specs.List.Sorted.{IsStrictlyIncreasing}
use Rattle.std.proofs.lemmas.Bool.{eqb-true, both_ways}
use Rattle.std.proofs.lemmas.Bool.Decides.{nat_tests}
use Rattle.std.proofs.lemmas.List.{length-map, get_or-map, get_or-set_same, get_or-set_other, length-set}
use Rattle.std.proofs.lemmas.List.Folds.{list_any_at}
use Rattle.list_checks.specs.Tests.{any_below}
use Rattle.list_checks.proofs.TestLemmas.{both, same_tests, any_at, any_found}
use Rattle.code_blocks.specs.Early.{has}
use Rattle.code_blocks.specs.Blocks.{start_of}
use Rattle.code_blocks.specs.Edges.{successors}
use Rattle.code_blocks.specs.Numbers.{starts_of, start_at, end_at}
use Rattle.code_blocks.specs.declared.parts.Code.{Code}
use Rattle.code_blocks.specs.Leads.{is_some_of, owner_at, is_of}
use Rattle.code_blocks.proofs.StartLemmas.{is_number}
use Rattle.region_former.specs.Flow.{block_count, leads_into}
use Rattle.region_former.specs.Reaching.{enters_at}
use Rattle.region_former.specs.Propagation.{row_of}
use Rattle.region_former.specs.Rows.{truth_at, begins_there, leads_there, AreRows}

-- ---- marks of blocks

here_marked : (o t n : Bool) → t ≡ true → n ≡ false → true ≡ (o || (t && not n))
here_marked true t n is disjoint = refl
here_marked false t n is disjoint = rw (is, disjoint) refl

not_marked : (o t n : Bool) → t && n ≡ false → o ≡ (o || (t && n))
not_marked true t n none = refl
not_marked false t n none = sym none

not_first : (t n : Bool) → t ≡ false → t && n ≡ false
not_first t n is = rw is refl

not_equal : (x y : ℕ) → (x ≡ y → ⊥) → (x == y) ≡ false
not_equal x y differs = grind (arith, nat_tests, differs)

is_equal : (x y : ℕ) → x ≡ y → (x == y) ≡ true
is_equal x y same = grind (arith, nat_tests, same)

pub entered_there : (old : List Bool) (k b ra rk rb : ℕ) (t : Bool) → k < length old → t ≡ (k == b) → (k ≡ b → rk ≡ rb) → (rk ≡ ra → ⊥) → truth_at (set old k true) b ≡ (truth_at old b || (t && not (ra == rb)))
entered_there old k b ra rk rb t below is same other =
    let place : (k ≡ b) ⊎ (k ≡ b → ⊥) = grind arith in
    elim place [
      | inl here ↦
          let marked : truth_at (set old k true) b ≡ true = rw (sym here) (get_or-set_same old k true false below) in
          let disjoint : (ra == rb) ≡ false = not_equal ra rb (λ e. other (same here ∙ sym e)) in
          marked ∙ here_marked (truth_at old b) t (ra == rb) (is ∙ is_equal k b here) disjoint
      | inr there ↦
          get_or-set_other old k b true false (λ e. there (sym e))
          ∙ not_marked (truth_at old b) t (not (ra == rb)) (not_first t (not (ra == rb)) (is ∙ not_equal k b there))
    ]

second_not : (t n : Bool) → (t ≡ true → n ≡ true) → t && not n ≡ false
second_not true n is = let e = is refl in rw e refl
second_not false n is = refl

pub entered_not : (old : List Bool) (k b ra rk rb : ℕ) (t : Bool) → t ≡ (k == b) → (k ≡ b → rk ≡ rb) → rk ≡ ra → truth_at old b ≡ (truth_at old b || (t && not (ra == rb)))
entered_not old k b ra rk rb t is same equal =
    not_marked (truth_at old b) t (not (ra == rb))
    (second_not t (ra == rb) (λ passes. is_equal ra rb (sym equal ∙ same (eqb-true k b (sym is ∙ passes)))))

-- ---- the functions of blocks that begin at an address

pub never_both : (d b : Bool) → b ≡ false → d && b ≡ false
never_both true b is = is
never_both false b is = refl

both_true : (a b : Bool) → a ≡ true → b ≡ true → a && b ≡ true
both_true a b first second = rw (first, second) refl

pub begun_at : (c : Code) (a k g : ℕ) → IsStrictlyIncreasing (starts_of c) → (k < block_count c) × (start_at c k ≡ a) → any_below (begins_there c g a) (block_count c) ≡ is_of c g k
begun_at c a k g ascending at =
    same_tests (any_below (begins_there c g a) (block_count c)) (is_of c g k)
    (λ found.
    let (b, below, passes) = any_found (begins_there c g a) (block_count c) found in
    let parts = both (is_of c g b) (a == start_at c b) passes in
    let same = eqb-true k b (sym (is_number c a k b ascending at below) ∙ parts.1) in
    subst (λ (x : ℕ). is_of c g x ≡ true) (sym same) parts.0)
    (λ is.
    any_at (begins_there c g a) (block_count c) k at.0
    (both_true (is_of c g k) (a == start_at c k) is (is_equal a (start_at c k) (sym at.1))))

pub none_begun : (c : Code) (a g : ℕ) → has (starts_of c) a ≡ false → any_below (begins_there c g a) (block_count c) ≡ false
none_begun c a g none =
    same_tests (any_below (begins_there c g a) (block_count c)) false
    (λ found.
    let (b, below, passes) = any_found (begins_there c g a) (block_count c) found in
    let parts = both (is_of c g b) (a == start_at c b) passes in
    let count = length-map c.blocks.items start_of in
    absurd (both_ways _ none (list_any_at (λ x. a == x) (starts_of c) b 0 (omega (arith, below, count)) parts.1)))
    (λ never. cc)

-- ---- what a block leads into, by the addresses behind it

any_never : (test : ℕ → Bool) (n : ℕ) → ((b : ℕ) → test b ≡ false) → any_below test n ≡ false
any_never test zero never = refl
any_never test (suc n) never = let earlier = any_never test n never in let here = never n in rw (earlier, here) refl

or_four : (a b c d : Bool) → (a || b) || (c || d) ≡ (a || c) || (b || d)
or_four a b c d = grind arith

and_or : (f x y : Bool) → f && (x || y) ≡ (f && x) || (f && y)
and_or true x y = refl
and_or false x y = refl

any_either : (f e r : ℕ → Bool) (n : ℕ) → any_below (λ b. f b && (e b || r b)) n ≡ (any_below (λ b. f b && e b) n || any_below (λ b. f b && r b) n)
any_either f e r zero = refl
any_either f e r (suc n) =
    (λ i. any_either f e r n i || and_or (f n) (e n) (r n) i)
    ∙ or_four (any_below (λ b. f b && e b) n) (any_below (λ b. f b && r b) n) (f n && e n) (f n && r n)

and_false : (f : Bool) → f && false ≡ false
and_false true = refl
and_false false = refl

swapped : (d : Bool) (f : ℕ → Bool) (e : ℕ → ℕ → Bool) (n : ℕ) (xs : List ℕ) → list_any (λ x. d && any_below (λ b. f b && e x b) n) xs ≡ (d && any_below (λ b. f b && list_any (λ x. e x b) xs) n)
swapped d f e n [] = sym (never_both d _ (any_never (λ b. f b && false) n (λ b. and_false (f b))))
swapped d f e n (x ∷ xs) =
    ap (λ (b : Bool). (d && any_below (λ b. f b && e x b) n) || b) (swapped d f e n xs)
    ∙ sym (and_or d (any_below (λ b. f b && e x b) n) (any_below (λ b. f b && list_any (λ x. e x b) xs) n))
    ∙ ap (λ (b : Bool). d && b) (sym (any_either f (e x) (λ b. list_any (λ x. e x b) xs) n))

pub leads_same : (c : Code) (driver : Option ℕ) (a g : ℕ) → list_any (leads_there c driver g) (successors (end_at c a)) ≡ leads_into c driver a g
leads_same c driver a g =
    swapped (not (is_some_of driver g)) (is_of c g) (λ x b. x == start_at c b) (block_count c) (successors (end_at c a))

-- ---- rows

pub row_at : (rows : List (Vec ℕ Global)) (f : ℕ) (d : Vec ℕ Global) → f < length rows → row_of rows f ≡ (slice_index_or rows f d).items
row_at rows f d below = get_or-map (λ (row : Vec ℕ Global). row.items) rows f d [] below

pub item_same : (v w : Vec ℕ Global) → v ≡ w → v.items ≡ w.items
item_same v w same = ap (λ (x : Vec ℕ Global). x.items) same

one_more : (h t l : Bool) (a : Bool) → h ≡ a → t ≡ true → (h || l) ≡ (a || (t && l))
one_more h t l a is mine = rw (is, mine) refl

no_more : (h t l : Bool) (a : Bool) → h ≡ a → t ≡ false → h ≡ (a || (t && l))
no_more h t l true is other = is
no_more h t l false is other = is ∙ sym (not_first t l other)

rows_and : (c : Code) (driver : Option ℕ) (a f : ℕ) (rows : List (Vec ℕ Global)) (old new : Vec ℕ Global) → AreRows c driver a rows → f < length rows → owner_at c a ≡ Some f
    → ((g : ℕ) → has new.items g ≡ (has (slice_index_or rows f old).items g || leads_into c driver a g)) → AreRows c driver (suc a) (set rows f new)
rows_and c driver a f rows old new are below owner added h g within =
    let inside : h < length rows = rw (sym (length-set rows f new)) within in
    let mine : is_of c h a ≡ (f == h) = ap (λ (o : Option ℕ). is_some_of o h) owner in
    let place : (f ≡ h) ⊎ (f ≡ h → ⊥) = grind arith in
    elim place [
      | inl here ↦
          let row : row_of (set rows f new) h ≡ new.items = row_at (set rows f new) h new within ∙ item_same (slice_index_or (set rows f new) h new) new (rw (sym here) (get_or-set_same rows f new new below)) in
          let before : row_of rows h ≡ (slice_index_or rows f old).items = rw (sym here) (row_at rows f old below) in
          ap (λ (xs : List ℕ). has xs g) row
          ∙ added g
          ∙ one_more (has (slice_index_or rows f old).items g) (is_of c h a) (leads_into c driver a g) (any_below (enters_at c driver h g) a)
          (ap (λ (xs : List ℕ). has xs g) (sym before) ∙ are h g inside) (mine ∙ is_equal f h here)
      | inr there ↦
          let row : row_of (set rows f new) h ≡ row_of rows h = row_at (set rows f new) h new within ∙ item_same (slice_index_or (set rows f new) h new) (slice_index_or rows h new) (get_or-set_other rows f h new new (λ e. there (sym e))) ∙ sym (row_at rows h new inside) in
          ap (λ (xs : List ℕ). has xs g) row
          ∙ no_more (has (row_of rows h) g) (is_of c h a) (leads_into c driver a g) (any_below (enters_at c driver h g) a) (are h g inside) (mine ∙ not_equal f h there)
    ]

pub rows_more : (c : Code) (driver : Option ℕ) (a f n : ℕ) (rows : List (Vec ℕ Global)) (old new : Vec ℕ Global) → n ≡ suc a → AreRows c driver a rows → f < length rows → owner_at c a ≡ Some f
    → ((g : ℕ) → has new.items g ≡ (has (slice_index_or rows f old).items g || leads_into c driver a g)) → AreRows c driver n (set rows f new)
rows_more c driver a f n rows old new more are below owner added =
    subst (λ (m : ℕ). AreRows c driver m (set rows f new)) (sym more) (rows_and c driver a f rows old new are below owner added)

or_and_more : (o a q e d x y m : Bool) → m ≡ (o || a) → x ≡ (m || (q && (e && d))) → y ≡ e → x ≡ (o || (a || (q && y && d)))
or_and_more true a q e d x y m marked new same = rw (new, marked) refl
or_and_more false true q e d x y m marked new same = rw (new, marked) refl
or_and_more false false true e d x y m marked new same = rw (new, marked, same) refl
or_and_more false false false e d x y m marked new same = rw (new, marked) refl

pub barred_more : (first now next a q e y d : Bool) → now ≡ (first || a) → next ≡ (now || (q && (e && d))) → e ≡ y → next ≡ (first || (a || (q && y && d)))
barred_more first now next a q e y d marked new same = or_and_more first a q e d next y now marked new (sym same)
