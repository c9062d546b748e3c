-- The objects, the sites and the words of data of a view on a board are one list each.
use Rattle.std.proofs.Common.{◌≡◌, ◌∙◌, inl, inr, ℕ, ◌+◌, ◌<◌, ◌≤◌, ◌==◌, Bool, true, not, ◌&&◌, List, slice_index_or, refl, sym, ap, subst, arith}
use Rattle.std.specs.Prelude.{All, AllPairs}
use Rattle.std.specs.List.{list_any}
use Rattle.std.proofs.lemmas.Bool.{both_ways, cases_order, eqb-true}
use Rattle.std.proofs.lemmas.List.Folds.{list_any_at}
use Rattle.list_checks.specs.Tests.{any_below}
use Rattle.list_checks.proofs.TestLemmas.{both, not_true, any_at}
use Rattle.elf_reader.specs.File.{PlainView}
use Rattle.board_config.specs.declared.board.Board.{Board}
use Rattle.loaded_file.specs.Ranges.{is_symbol_of}
use Rattle.object_graph.specs.Graphs.{is_first_of, is_writable, IsNamed, is_object_of, IsObjects, same_part, same_site, is_site_of_list, IsSites, same_word, is_word_of_list, IsWords}
use Rattle.object_graph.specs.declared.parts.Object.{Object}
use Rattle.object_graph.specs.declared.parts.SiteKind.{SiteKind}
use Rattle.object_graph.specs.declared.parts.SiteKind.TheVariants.{Hi, LowI, LowS}
use Rattle.object_graph.specs.declared.parts.Site.{Site}
use Rattle.object_graph.specs.declared.parts.DataWord.{DataWord}
use Rattle.object_graph.proofs.MovableLemmas.{movable_parts}
use Rattle.code_blocks.proofs.LeaderLemmas.{both_pass}
use Rattle.result_laws.proofs.HomeNumbers.{same_number}
use Rattle.result_laws.proofs.Sites.{itself}
use Rattle.result_laws.proofs.HomeStart.{word_itself}
use Rattle.result_laws.proofs.Orders.{Reports, same_lists}

-- ---- objects

-- an object with bytes, and with its name
record IsFull (v : PlainView) (o : Object) : Type 0 where
  named : IsNamed v o
  filled : 0 < o.size

abbrev same_range : Object → Object → Bool
same_range o p = is_object_of o.home o.size p

range_itself : (o : Object) → same_range o o ≡ true
range_itself o =
    both_pass (o.home == o.home) (o.size == o.size) (same_number o.home) (same_number o.size)

-- a first symbol has none before it that is one
no_earlier : (v : PlainView) (home n k j : ℕ) → is_first_of v home n k ≡ true → is_first_of v home n j ≡ true → k < j → ⊥
no_earlier v home n k j first second earlier =
    let of = both (is_symbol_of v home n k) (not (any_below (is_symbol_of v home n) k)) first in
    let alone = both (is_symbol_of v home n j) (not (any_below (is_symbol_of v home n) j)) second in
    both_ways (any_below (is_symbol_of v home n) j) (not_true (any_below (is_symbol_of v home n) j) alone.1)
    (any_at (is_symbol_of v home n) j k earlier of.0)

one_first : (v : PlainView) (home n k j : ℕ) → is_first_of v home n k ≡ true → is_first_of v home n j ≡ true → k ≡ j
one_first v home n k j first second =
    elim (cases_order k j) [
      | inl equal ↦ equal
      | inr order ↦ elim order [
        | inl earlier ↦ absurd (no_earlier v home n k j first second earlier)
        | inr later ↦ absurd (no_earlier v home n j k second first later)
      ]
    ]

-- two of one range have one name
one_object : (v : PlainView) (a b c : Object) → IsFull v b → IsFull v c → is_object_of a.home a.size b ≡ true → is_object_of a.home a.size c ≡ true → b ≡ c
one_object v a b c full full' first second =
    let one = both (b.home == a.home) (b.size == a.size) first in
    let other = both (c.home == a.home) (c.size == a.size) second in
    let home : b.home ≡ c.home = eqb-true b.home a.home one.0 ∙ sym (eqb-true c.home a.home other.0) in
    let size : b.size ≡ c.size = eqb-true b.size a.size one.1 ∙ sym (eqb-true c.size a.size other.1) in
    let moved : is_first_of v c.home c.size b.name ≡ true =
    subst (λ (n : ℕ). is_first_of v c.home n b.name ≡ true) size
    (subst (λ (h : ℕ). is_first_of v h b.size b.name ≡ true) home full.named.first) in
    let name : b.name ≡ c.name = one_first v c.home c.size b.name c.name moved full'.named.first in
    let writable : b.writable ≡ c.writable =
    full.named.writable ∙ ap (is_writable v) name ∙ sym full'.named.writable in
    λ i. record { name = name i; home = home i; size = size i; writable = writable i }

objects_full : (v : PlainView) (board : Board) (objects : List Object) → IsObjects v board objects → All (IsFull v) objects
objects_full v board objects is k d below =
    let o : Object = slice_index_or objects k d in
    let listed = list_any_at (is_object_of o.home o.size) objects k d below (range_itself o) in
    let of = (movable_parts v board o.home o.size (sym (is.exact o.home o.size) ∙ listed)).of in
    let filled = of.range.filled in
    let size = of.size in
    record { named = is.named k d below; filled = omega (arith, filled, size) }

objects_tell : (v : PlainView) → Reports (IsFull v) (λ a b. a.home + a.size ≤ b.home) same_range
objects_tell v =
    record {
      itself = range_itself;
      one = one_object v;
      strict = λ a b full before behind. let filled = full.filled in omega (arith, filled, before, behind);
    }

pub one_objects : (v : PlainView) (board : Board) (objects others : List Object) → IsObjects v board objects → IsObjects v board others → objects ≡ others
one_objects v board objects others first second =
    same_lists (IsFull v) (λ (a b : Object). a.home + a.size ≤ b.home) same_range (objects_tell v) objects others
    (record { pairs = first.disjoint; fit = objects_full v board objects first })
    (record { pairs = second.disjoint; fit = objects_full v board others second })
    (λ o. first.exact o.home o.size ∙ sym (second.exact o.home o.size))

-- ---- lists of what stands four bytes apart, of which a test tells each

disjoint_lists : {A : Type 0} (at : A → ℕ) (same : A → A → Bool) → ((a : A) → same a a ≡ true) → ((a b : A) → same a b ≡ true → a ≡ b) → (xs ys : List A) → AllPairs (λ (a b : A). at a + 4 ≤ at b) xs → AllPairs (λ (a b : A). at a + 4 ≤ at b) ys → ((a : A) → list_any (same a) xs ≡ list_any (same a) ys) → xs ≡ ys
disjoint_lists {A = A} at same itself one xs ys first second exact =
    same_lists (λ (a : A). Unit {0}) (λ (a b : A). at a + 4 ≤ at b) same
    (record {
      itself = itself;
      one = λ a b c _ _ here there. sym (one a b here) ∙ one a c there;
      strict = λ a b _ before behind. omega (arith, before, behind);
    })
    xs ys
    (record { pairs = first; fit = λ k d below. tt })
    (record { pairs = second; fit = λ k d below. tt })
    exact

-- ---- sites

one_part : (k l : SiteKind) → same_part k l ≡ true → k ≡ l
one_part Hi Hi same = refl
one_part LowI LowI same = refl
one_part LowS LowS same = refl
one_part Hi LowI same = absurd (cc)
one_part Hi LowS same = absurd (cc)
one_part LowI Hi same = absurd (cc)
one_part LowI LowS same = absurd (cc)
one_part LowS Hi same = absurd (cc)
one_part LowS LowI same = absurd (cc)

one_site : (s t : Site) → same_site s t ≡ true → s ≡ t
one_site s t same =
    let three = both ((s.at == t.at) && same_part s.kind t.kind && (s.object == t.object)) (s.offset == t.offset) same in
    let two = both ((s.at == t.at) && same_part s.kind t.kind) (s.object == t.object) three.0 in
    let one = both (s.at == t.at) (same_part s.kind t.kind) two.0 in
    let at = eqb-true s.at t.at one.0 in
    let kind = one_part s.kind t.kind one.1 in
    let object = eqb-true s.object t.object two.1 in
    let offset = eqb-true s.offset t.offset three.1 in
    λ i. record { at = at i; kind = kind i; object = object i; offset = offset i }

pub one_sites : (v : PlainView) (objects others : List Object) (sites more : List Site) → objects ≡ others → IsSites v objects sites → IsSites v others more → sites ≡ more
one_sites v objects others sites more same first second =
    disjoint_lists (λ (s : Site). s.at) same_site itself one_site sites more first.disjoint second.disjoint
    (λ s. first.exact s ∙ ap (λ (all : List Object). is_site_of_list v all s) same ∙ sym (second.exact s))

-- ---- words of data

one_word : (d e : DataWord) → same_word d e ≡ true → d ≡ e
one_word d e same =
    let two = both ((d.at == e.at) && (d.object == e.object)) (d.offset == e.offset) same in
    let one = both (d.at == e.at) (d.object == e.object) two.0 in
    let at = eqb-true d.at e.at one.0 in
    let object = eqb-true d.object e.object one.1 in
    let offset = eqb-true d.offset e.offset two.1 in
    λ i. record { at = at i; object = object i; offset = offset i }

pub one_words : (v : PlainView) (objects others : List Object) (words more : List DataWord) → objects ≡ others → IsWords v objects words → IsWords v others more → words ≡ more
one_words v objects others words more same first second =
    disjoint_lists (λ (d : DataWord). d.at) same_word word_itself one_word words more first.disjoint second.disjoint
    (λ d. first.exact d ∙ ap (λ (all : List Object). is_word_of_list v all d) same ∙ sym (second.exact d))
