-- Whether a block may stand in the copy of a range, and how many words the copy takes.
use Rattle.std.proofs.Common.{◌≡◌, ◌∙◌, ◌⊎◌, inl, inr, ℕ, zero, suc, ◌+◌, ◌<◌, ◌≤◌, ◌==◌, nat_le, Bool, true, false, ◌&&◌, if◌then◌else◌, List, [], ◌∷◌, map, length, slice_index_or, Option, Some, None, refl, sym, ap, subst, arith}
use Rattle.std.specs.List.{Contains}
use Rattle.std.specs.List.Sorted.{IsStrictlyIncreasing}
use Rattle.std.proofs.lemmas.Bool.{both_ways, cases_order, eqb-true, eq-eqb}
use Rattle.std.proofs.lemmas.List.{length-map, get_or_default}
use Rattle.std.proofs.lemmas.List.Folds.{Any-from_list_any}
use Rattle.list_checks.specs.Tests.{any_below}
use Rattle.list_checks.proofs.TestLemmas.{both, same_tests, any_at, any_found}
use Rattle.code_blocks.specs.Early.{has}
use Rattle.code_blocks.specs.Blocks.{start_of}
use Rattle.code_blocks.specs.Edges.{successors}
use Rattle.code_blocks.specs.Numbers.{starts_of, start_at, ending_of, end_at}
use Rattle.code_blocks.specs.declared.parts.Block.{Block}
use Rattle.code_blocks.specs.declared.parts.Code.{Code}
use Rattle.code_blocks.specs.declared.ends.End.{End}
use Rattle.code_blocks.specs.declared.ends.End.TheVariants as end
use Rattle.object_graph.specs.declared.parts.Graph.{Graph}
use Rattle.block_splitter.specs.declared.block_range.BlockRange.{BlockRange}
use Rattle.block_splitter.specs.declared.block_form.Exit.{Exit}
use Rattle.block_splitter.specs.declared.block_form.BlockForm.{BlockForm}
use Rattle.block_splitter.specs.declared.measuring.Extent.{Extent}
use Rattle.block_splitter.specs.Forms.{holds_block, begins_in, body_at}
use Rattle.block_splitter.specs.Pieces.{HasTemporary, IsRange, IsCopyable, is_entry, onward, most_words}
use Rattle.block_splitter.specs.Facts.{block_count, last_leaving, target_of, next_of, full_size, IsExit, IsForm, IsExtent, is_within, extra_words, IsBarred, MayStand, size_in}
use Rattle.code_blocks.proofs.StartLemmas.{start_less, starts_ordered}
use Rattle.block_splitter.proofs.SizeLemmas.{leaving, splits}

-- ---- addresses and ranges

pub one_start : (c : Code) (i j : ℕ) → IsStrictlyIncreasing (starts_of c) → i < block_count c → j < block_count c → start_at c i ≡ start_at c j → i ≡ j
one_start c i j ascending first second same =
    elim (cases_order i j) [
      | inl here ↦ here
      | inr other ↦ elim other [
        | inl lower ↦ let less = start_less c i j ascending lower second in absurd (omega (arith, less, same))
        | inr higher ↦ let less = start_less c j i ascending higher first in absurd (omega (arith, less, same))
      ]
    ]

both_true : (a b : Bool) → a ≡ true → b ≡ true → a && b ≡ true
both_true a b first second = rw (first, second) refl

-- the range begins a block at the start of one just where it holds that one
pub begins_is : (c : Code) (range : BlockRange) (k : ℕ) → IsStrictlyIncreasing (starts_of c) → k < block_count c → begins_in (starts_of c) range (start_at c k) ≡ holds_block k range
begins_is c range k ascending below =
    let count = length-map c.blocks.items start_of in
    let test = λ (b : ℕ). holds_block b range && (slice_index_or (starts_of c) b 0 == start_at c k) in
    same_tests (any_below test (length (starts_of c))) (holds_block k range)
    (λ found.
    let (b, within, passes) = any_found test (length (starts_of c)) found in
    let parts = both (holds_block b range) (slice_index_or (starts_of c) b 0 == start_at c k) passes in
    let same = one_start c b k ascending (omega (arith, within, count)) below (eqb-true (start_at c b) (start_at c k) parts.1) in
    subst (λ (j : ℕ). holds_block j range ≡ true) same parts.0)
    (λ holds.
    any_at test (length (starts_of c)) k (omega (arith, below, count))
    (both_true (holds_block k range) (start_at c k == start_at c k) holds (eq-eqb (start_at c k) (start_at c k) refl)))

number_there : (c : Code) (k x a : ℕ) → k < length (starts_of c) → slice_index_or (starts_of c) k x ≡ x → a ≡ x → start_at c k ≡ a
number_there c k x a below here same = get_or_default (starts_of c) k 0 x below ∙ here ∙ sym same

-- the number of the block that begins at an address
pub numbered : (c : Code) (a : ℕ) → has (starts_of c) a ≡ true → (k : ℕ) × (k < block_count c) × (start_at c k ≡ a)
numbered c a found =
    let count = length-map c.blocks.items start_of in
    let (k, x, below, here, same) = Any-from_list_any (λ (y : ℕ). a == y) (starts_of c) found in
    (k, omega (arith, below, count), number_there c k x a below here (eqb-true a x same))

pub within_is : (c : Code) (range : BlockRange) (x : Extent) (a : ℕ) → IsStrictlyIncreasing (starts_of c) → IsRange c range → IsExtent c range x → has (starts_of c) a ≡ true → is_within x a ≡ begins_in (starts_of c) range a
within_is c range x a ascending is extent found =
    let (k, below, at) = numbered c a found in
    let ordered = is.ordered in
    let within = is.below in
    let low : nat_le x.from a ≡ nat_le range.first k = (λ i. nat_le (extent.from i) (sym at i)) ∙ (starts_ordered c range.first k ascending (omega (arith, ordered, within)) below).1 in
    let high : nat_le a x.to ≡ nat_le k range.last = (λ i. nat_le (sym at i) (extent.to i)) ∙ (starts_ordered c k range.last ascending below within).1 in
    (λ i. low i && high i) ∙ sym (begins_is c range k ascending below) ∙ ap (begins_in (starts_of c) range) at

-- ---- exits

one_of : (x a : ℕ) → Contains (x ∷ []) a → x ≡ a
one_of x a (zero, below, here) = here
one_of x a (suc k, below, here) = absurd (omega (arith, below))

two_of : (x y a : ℕ) → Contains (x ∷ y ∷ []) a → (x ≡ a) ⊎ (y ≡ a)
two_of x y a (zero, below, here) = inl here
two_of x y a (suc zero, below, here) = inr here
two_of x y a (suc (suc k), below, here) = absurd (omega (arith, below))

none_of : (a : ℕ) → Contains [] a → ⊥
none_of a (k, below, here) = absurd (omega (arith, below))

-- where a block goes on is where it branches, jumps or falls
goes_on : (e : End) (a : ℕ) → Contains (onward e) a → (target_of e ≡ Some a) ⊎ (next_of e ≡ Some a)
goes_on (end.Fall next) a found = inr (ap Some (one_of next a found))
goes_on (end.Branch target next) a found =
    elim (two_of target next a found) [ inl first ↦ inl (ap Some first) | inr second ↦ inr (ap Some second) ]
goes_on (end.Jump target) a found = inl (ap Some (one_of target a found))
goes_on (end.Call target back link) a found = absurd (none_of a found)
goes_on (end.Tail target) a found = absurd (none_of a found)
goes_on (end.Indirect back) a found = absurd (none_of a found)
goes_on end.Stop a found = absurd (none_of a found)

some_is : (x a : ℕ) → Some x ≡ Some a → x ≡ a
some_is x a same = cc

first_of : (x a : ℕ) (xs : List ℕ) → x ≡ a → Contains (x ∷ xs) a
first_of x a xs same = (0, omega arith, same)

second_of : (x y a : ℕ) → y ≡ a → Contains (x ∷ y ∷ []) a
second_of x y a same = (1, omega arith, same)

target_goes : (e : End) (a : ℕ) → target_of e ≡ Some a → Contains (onward e) a
target_goes (end.Fall next) a is = cc
target_goes (end.Branch target next) a is = first_of target a (next ∷ []) (some_is target a is)
target_goes (end.Jump target) a is = first_of target a [] (some_is target a is)
target_goes (end.Call target back link) a is = cc
target_goes (end.Tail target) a is = cc
target_goes (end.Indirect back) a is = cc
target_goes end.Stop a is = cc

next_goes : (e : End) (a : ℕ) → next_of e ≡ Some a → Contains (onward e) a
next_goes (end.Fall next) a is = first_of next a [] (some_is next a is)
next_goes (end.Branch target next) a is = second_of target next a (some_is next a is)
next_goes (end.Jump target) a is = cc
next_goes (end.Call target back link) a is = cc
next_goes (end.Tail target) a is = cc
next_goes (end.Indirect back) a is = cc
next_goes end.Stop a is = cc

-- where a block goes on begins a block, if it may be copied
leads_on : (e : End) (a : ℕ) → Contains (onward e) a → Contains (successors e) a
leads_on (end.Fall next) a found = found
leads_on (end.Branch target next) a found = found
leads_on (end.Jump target) a found = found
leads_on (end.Call target back link) a found = absurd (none_of a found)
leads_on (end.Tail target) a found = absurd (none_of a found)
leads_on (end.Indirect back) a found = absurd (none_of a found)
leads_on end.Stop a found = absurd (none_of a found)

begun : (c : Code) (b a : ℕ) → IsCopyable c b → Contains (onward (end_at c b)) a → has (starts_of c) a ≡ true
begun c b a copyable found =
    let led = leads_on (end_at c b) a found in
    subst (λ (x : ℕ). has (starts_of c) x ≡ true) led.2 (copyable.leads led.0 a led.1)

is_true : (b : Bool) → (b ≡ false → ⊥) → b ≡ true
is_true true isn't = refl
is_true false isn't = absurd (isn't refl)

no_some : (a : ℕ) → None ≡ Some a → ⊥
no_some a same = cc

free_exit : (c : Code) (words : ℕ) (at : Option ℕ) (o : Option Exit) (inside : ℕ → Bool) (a : ℕ) → IsExit c words at o → at ≡ Some a → inside a ≡ false → (IsBarred inside o → ⊥) → HasTemporary c a 0
free_exit c words at None inside a is here out free = let none = sym is ∙ here in absurd (no_some a none)
free_exit c words at (Some e) inside a is here out free =
    let same = some_is e.at a (sym is.0 ∙ here) in
    subst (λ (x : ℕ). HasTemporary c x 0) same
    (is.2.0 (is_true e.has_dead (λ dead. free (ap inside same ∙ out, dead))))

barred_exit : (c : Code) (words : ℕ) (at : Option ℕ) (o : Option Exit) (inside : ℕ → Bool) → IsExit c words at o → IsBarred inside o → (a : ℕ) × (at ≡ Some a) × (inside a ≡ false) × (HasTemporary c a 0 → ⊥)
barred_exit c words at None inside is barred = absurd barred
barred_exit c words at (Some e) inside is barred = (e.at, is.0, barred.0, λ has. both_ways _ barred.1 (is.2.1 has))

extra_is : (c : Code) (words : ℕ) (at : Option ℕ) (o : Option Exit) (within inside : ℕ → Bool) → IsExit c words at o → ((a : ℕ) → at ≡ Some a → within a ≡ inside a) → extra_words within o ≡ leaving inside at words
extra_is c words at None within inside is same = sym (ap (λ (o : Option ℕ). leaving inside o words) is)
extra_is c words at (Some e) within inside is same =
    (λ i. if same e.at is.0 i then 0 else is.1 i) ∙ sym (ap (λ (o : Option ℕ). leaving inside o words) is.0)

-- ---- a block in a range

leads_within : (c : Code) (range : BlockRange) (x : Extent) (b a : ℕ) → IsStrictlyIncreasing (starts_of c) → IsRange c range → IsExtent c range x → IsCopyable c b → Contains (onward (end_at c b)) a → is_within x a ≡ begins_in (starts_of c) range a
leads_within c range x b a ascending is extent copyable found =
    within_is c range x a ascending is extent (begun c b a copyable found)

pub stands : (c : Code) (g : Graph) (range : BlockRange) (x : Extent) (b : ℕ) (f : BlockForm) → IsStrictlyIncreasing (starts_of c) → IsRange c range → IsExtent c range x → IsForm c g b f → (is_entry c range b ≡ true → f.has_dead ≡ true) → (IsBarred (is_within x) f.target → ⊥) → (IsBarred (is_within x) f.next → ⊥) → MayStand c range b
stands c g range x b f ascending is extent form entry target next =
    record {
      copyable = form.copyable;
      entry = λ enters. form.dead.0 (entry enters);
      exits = λ a found out.
          let outside = leads_within c range x b a ascending is extent form.copyable found ∙ out in
          elim (goes_on (end_at c b) a found) [
            | inl first ↦ free_exit c _ (target_of (end_at c b)) f.target (is_within x) a form.target first outside target
            | inr second ↦ free_exit c _ (next_of (end_at c b)) f.next (is_within x) a form.next second outside next
          ];
    }

pub entry_bars : (c : Code) (g : Graph) (range : BlockRange) (b : ℕ) (f : BlockForm) → IsForm c g b f → is_entry c range b ≡ true → f.has_dead ≡ false → MayStand c range b → ⊥
entry_bars c g range b f form enters dead stand = both_ways _ dead (form.dead.1 (stand.entry enters))

pub target_bars : (c : Code) (g : Graph) (range : BlockRange) (x : Extent) (b : ℕ) (f : BlockForm) → IsStrictlyIncreasing (starts_of c) → IsRange c range → IsExtent c range x → IsForm c g b f → IsBarred (is_within x) f.target → MayStand c range b → ⊥
target_bars c g range x b f ascending is extent form barred stand =
    let (a, at, out, never) = barred_exit c _ (target_of (end_at c b)) f.target (is_within x) form.target barred in
    let found = target_goes (end_at c b) a at in
    never (stand.exits a found (sym (leads_within c range x b a ascending is extent form.copyable found) ∙ out))

pub next_bars : (c : Code) (g : Graph) (range : BlockRange) (x : Extent) (b : ℕ) (f : BlockForm) → IsStrictlyIncreasing (starts_of c) → IsRange c range → IsExtent c range x → IsForm c g b f → IsBarred (is_within x) f.next → MayStand c range b → ⊥
next_bars c g range x b f ascending is extent form barred stand =
    let (a, at, out, never) = barred_exit c _ (next_of (end_at c b)) f.next (is_within x) form.next barred in
    let found = next_goes (end_at c b) a at in
    never (stand.exits a found (sym (leads_within c range x b a ascending is extent form.copyable found) ∙ out))

ends_same : (blocks : List Block) (b : ℕ) → slice_index_or (map ending_of blocks) b end.Stop ≡ (body_at blocks b).end
ends_same [] zero = refl
ends_same [] (suc b) = refl
ends_same (block ∷ blocks) zero = refl
ends_same (block ∷ blocks) (suc b) = ends_same blocks b

-- the end of a block, by both ways to name it
end_same : (c : Code) (b : ℕ) → end_at c b ≡ (body_at c.blocks.items b).end
end_same c b = ends_same c.blocks.items b

pub size_is : (c : Code) (g : Graph) (range : BlockRange) (x : Extent) (b : ℕ) (f : BlockForm) → IsStrictlyIncreasing (starts_of c) → IsRange c range → IsExtent c range x → IsForm c g b f → f.words + extra_words (is_within x) f.target + extra_words (is_within x) f.next ≡ size_in c g range b
size_is c g range x b f ascending is extent form =
    let inside = begins_in (starts_of c) range in
    let whole = splits inside g (body_at c.blocks.items b) in
    let own = form.size in
    let ends = end_same c b in
    let first = extra_is c _ (target_of (end_at c b)) f.target (is_within x) inside form.target (λ a at. leads_within c range x b a ascending is extent form.copyable (target_goes (end_at c b) a at)) in
    let second = extra_is c _ (next_of (end_at c b)) f.next (is_within x) inside form.next (λ a at. leads_within c range x b a ascending is extent form.copyable (next_goes (end_at c b) a at)) in
    (λ i. own i + first i + second i) ∙ (λ i. full_size g (body_at c.blocks.items b) + leaving inside (target_of (ends i)) (last_leaving g (body_at c.blocks.items b) (length (body_at c.blocks.items b).units)) + leaving inside (next_of (ends i)) 2) ∙ sym whole

-- a block is at least as large as where all that it leads to is of the same copy
pub full_below : (c : Code) (g : Graph) (range : BlockRange) (b words : ℕ) → words + size_in c g range b ≤ most_words → full_size g (body_at c.blocks.items b) ≤ most_words
full_below c g range b words small =
    let whole = splits (begins_in (starts_of c) range) g (body_at c.blocks.items b) in
    omega (arith, small, whole)

pub in_range : (c : Code) (range : BlockRange) (b : ℕ) → IsRange c range → b ≤ range.last → b < block_count c
in_range c range b is le = let below = is.below in omega (arith, le, below)
