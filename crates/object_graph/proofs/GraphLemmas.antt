-- The parts of a graph, from those of the ranges of its objects.
use Rattle.std.proofs.Common.{◌≡◌, ◌∙◌, ℕ, zero, suc, ◌+◌, ◌<◌, ◌≤◌, ◌==◌, nat_lt, nat_le, Bool, ◌&&◌, List, [], ◌∷◌, ◌++◌, map, take, length, get_or, refl, sym, ap, subst, arith}
use Rattle.std.specs.List.{All, AllPairs, list_any}
use Rattle.std.proofs.lemmas.List.{length-map, get_or-map, map-append, take_more}
use Rattle.std.proofs.lemmas.List.Elements.{All-push}
use Rattle.list_checks.specs.First.{unless}
use Rattle.list_checks.specs.Tests.{any_below}
use Rattle.elf_reader.specs.File.{PlainView}
use Rattle.board_config.specs.declared.board.Board.{Board}
use Rattle.loaded_file.specs.Records.{reloc_at}
use Rattle.loaded_file.specs.declared.byte_ranges.ByteRange.{ByteRange}
use Rattle.loaded_file.specs.ByteRanges.{is_byte_range, no_byte_range, byte_range_at}
use Rattle.loaded_file.proofs.ByteRangeLemmas.{any_map}
use Rattle.object_graph.specs.Rewritable.{displacement, is_rewritable_word}
use Rattle.object_graph.specs.Fixed.{leads_to}
use Rattle.object_graph.specs.declared.fault.GraphFault.{GraphFault}
use Rattle.object_graph.specs.declared.fault.GraphFault.TheVariants.{TooManyObjects}
use Rattle.object_graph.specs.declared.parts.Object.{Object}
use Rattle.object_graph.specs.declared.parts.Site.{Site}
use Rattle.object_graph.specs.declared.parts.DataWord.{DataWord}
use Rattle.object_graph.specs.LayoutFaults.{capped, objects_below, too_many_fault}
use Rattle.object_graph.specs.Graphs.{IsNamed, IsObjects, no_object, object_at, makes_part, gives_offset, same_site, is_site_of_list, IsSites, same_word, is_word_of_list, IsWords}
use Rattle.object_graph.specs.Gathered.{AreMovableOf, AreMovable, range_of, is_site_in, AreSites, is_word_in, AreWords}
use Rattle.object_graph.proofs.GivenLemmas.{any_gated}
use Rattle.object_graph.proofs.CountedLemmas.{objects_counted}

-- the objects that may move on this board are those of some board
abbrev pub on_some_board : (v : PlainView) (board : Board) (ranges : List ByteRange) → AreMovableOf v board ranges → AreMovable v ranges
on_some_board v board ranges m =
    record { board = board; disjoint = m.disjoint; exact = m.exact; filled = m.filled }

-- how many they are
pub too_many_is : (v : PlainView) (board : Board) (ranges : List ByteRange) → AreMovableOf v board ranges → unless (nat_le (length ranges) 4096) (TooManyObjects (capped (length ranges))) ≡ too_many_fault v board
too_many_is v board ranges m =
    ap (λ (n : ℕ). unless (nat_le n 4096) (TooManyObjects (capped n))) (sym (objects_counted v ranges (on_some_board v board ranges m)))

range_is : (objects : List Object) (k : ℕ) → byte_range_at (map range_of objects) k ≡ range_of (object_at objects k)
range_is [] k = refl
range_is (o ∷ os) zero = refl
range_is (o ∷ os) (suc k) = range_is os k

-- ---- objects

objects_are : (v : PlainView) (board : Board) (objects : List Object) → AreMovableOf v board (map range_of objects) → All (IsNamed v) objects → IsObjects v board objects
objects_are v board objects m named = record {
  disjoint = λ i j d before below.
      let long = length-map objects range_of in
      let here = get_or-map range_of objects i d (range_of d) (omega (arith, before, below)) in
      let there = get_or-map range_of objects j d (range_of d) below in
      let disjoint = m.disjoint i j (range_of d) before (omega (arith, long, below)) in
      subst (λ (e : ByteRange). (get_or objects i d).home + (get_or objects i d).size ≤ e.home) there
      (subst (λ (e : ByteRange). e.home + e.size ≤ (get_or (map range_of objects) j (range_of d)).home) here disjoint);
  exact = λ home n. sym (any_map range_of (is_byte_range home n) objects) ∙ m.exact home n;
  named = named;
}

pub objects_of : (v : PlainView) (board : Board) (ranges : List ByteRange) (objects : List Object) → map range_of objects ≡ ranges → AreMovableOf v board ranges → All (IsNamed v) objects → IsObjects v board objects
objects_of v board ranges objects same m named =
    objects_are v board objects (subst (λ (es : List ByteRange). AreMovableOf v board es) (sym same) m) named

-- ---- sites and words of data

-- what places of a table give to object k is what they give to its range, if there is such an object
any_of_object : (objects : List Object) (k : ℕ) (test : ByteRange → ℕ → Bool) (n : ℕ) → any_below (λ j. nat_lt k (length (map range_of objects)) && test (byte_range_at (map range_of objects) k) j) n ≡ nat_lt k (length objects) && any_below (test (range_of (object_at objects k))) n
any_of_object objects k test n =
    any_gated (nat_lt k (length (map range_of objects))) (test (byte_range_at (map range_of objects) k)) n
    ∙ ap (λ (m : ℕ). nat_lt k m && any_below (test (byte_range_at (map range_of objects) k)) n) (length-map objects range_of)
    ∙ ap (λ (e : ByteRange). nat_lt k (length objects) && any_below (test e) n) (range_is objects k)

sites_are : (v : PlainView) (objects : List Object) (sites : List Site) → AreSites v (map range_of objects) sites → IsSites v objects sites
sites_are v objects sites are = record {
  disjoint = are.disjoint;
  exact = λ s.
      let test = λ (e : ByteRange) (j : ℕ). ((reloc_at v j).at == s.at) && makes_part s.kind (reloc_at v j).kind && gives_offset v e.home e.size s.offset j in
      are.exact s ∙ any_of_object objects s.object test (length v.relocs);
}

pub sites_of : (v : PlainView) (ranges : List ByteRange) (objects : List Object) (sites : List Site) → map range_of objects ≡ ranges → AreSites v ranges sites → IsSites v objects sites
sites_of v ranges objects sites same are =
    sites_are v objects sites (subst (λ (es : List ByteRange). AreSites v es sites) (sym same) are)

words_are : (v : PlainView) (objects : List Object) (words : List DataWord) → AreWords v (map range_of objects) words → IsWords v objects words
words_are v objects words are = record {
  disjoint = are.disjoint;
  exact = λ d.
      let test = λ (e : ByteRange) (j : ℕ). ((reloc_at v j).at == d.at) && leads_to v e.home e.size j && is_rewritable_word v j (reloc_at v j) && (displacement v e.home (reloc_at v j) == d.offset) in
      are.exact d ∙ any_of_object objects d.object test (length v.relocs);
}

pub words_of : (v : PlainView) (ranges : List ByteRange) (objects : List Object) (words : List DataWord) → map range_of objects ≡ ranges → AreWords v ranges words → IsWords v objects words
words_of v ranges objects words same are =
    words_are v objects words (subst (λ (es : List ByteRange). AreWords v es words) (sym same) are)

-- one more object
pub object_more : (v : PlainView) (ranges : List ByteRange) (objects more : List Object) (o : Object) (k : ℕ) → more ≡ objects ++ o ∷ [] → map range_of objects ≡ take k ranges → range_of o ≡ byte_range_at ranges k → k < length ranges → map range_of more ≡ take (k + 1) ranges
object_more v ranges objects more o k grown so_far is below =
    ap (λ (os : List Object). map range_of os) grown
    ∙ map-append range_of objects (o ∷ [])
    ∙ ap (λ (es : List ByteRange). es ++ range_of o ∷ []) so_far
    ∙ ap (λ (x : ByteRange). take k ranges ++ x ∷ []) is
    ∙ sym (take_more ranges k no_byte_range below)

pub named_more : (v : PlainView) (objects more : List Object) (o : Object) → more ≡ objects ++ o ∷ [] → All (IsNamed v) objects → IsNamed v o → All (IsNamed v) more
named_more v objects more o grown all named =
    subst (λ (os : List Object). All (IsNamed v) os) (sym grown) (All-push (IsNamed v) objects o all named)
