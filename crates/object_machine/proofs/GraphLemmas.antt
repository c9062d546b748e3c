-- Where the objects and the words of data of a graph lie.
use Rattle.std.proofs.Common.{◌≡◌, inl, inr, ℕ, ◌+◌, ◌<◌, ◌≤◌, ◌==◌, nat_lt, Bool, true, false, not, ◌&&◌, ◌||◌, List, length, slice_index_or, sym, ◌∙◌, subst, arith}
use Rattle.std.specs.List.{list_any}
use Rattle.std.proofs.lemmas.Bool.{eqb-true, cases_lt, cases_order}
use Rattle.std.proofs.lemmas.Bool.Decides.{nat_tests}
use Rattle.std.proofs.Math.ListN.{get_or-eq_default}
use Rattle.std.proofs.lemmas.List.Folds.{list_any_at}
use Rattle.list_checks.specs.Tests.{any_below}
use Rattle.list_checks.proofs.TestLemmas.{both, any_found, any_at}
use Rattle.elf_reader.specs.File.{PlainView}
use Rattle.elf_reader.specs.Loaded.{section_at, is_loaded}
use Rattle.board_config.specs.declared.board.Board.{Board}
use Rattle.loaded_file.specs.Records.{symbol_at, reloc_at}
use Rattle.loaded_file.specs.Ranges.{has_range, inside}
use Rattle.loaded_file.proofs.RangeLemmas.{HasByteRange, byte_range_of}
use Rattle.object_graph.specs.Rewritable.{displacement, is_rewritable_word}
use Rattle.object_graph.specs.Fixed.{leads_to, is_movable}
use Rattle.object_graph.specs.declared.parts.Object.{Object}
use Rattle.object_graph.specs.declared.parts.DataWord.{DataWord}
use Rattle.object_graph.specs.declared.parts.Graph.{Graph}
use Rattle.object_graph.specs.Graphs.{is_object_of, has_object, object_at, same_word, gives_word, is_word_of_list, IsGraph}
use Rattle.object_graph.specs.Sites.{in_range, in_area, in_code_range, in_object, holds_changed_byte, is_fixed_memory}
use Rattle.object_graph.proofs.MovableLemmas.{movable_parts}
use Rattle.cell_values.specs.Objects.{absent_object, object_of}
use Rattle.object_graph.proofs.RewritableLemmas.{word_parts}
use Rattle.object_machine.specs.Layout.{EndBelow, HasDisjointObjects}

-- ---- objects

-- an object of the graph, or the absent one, which has no bytes
has_itself : (objects : List Object) (k : ℕ) (d : Object) → k < length objects → has_object objects (slice_index_or objects k d).home (slice_index_or objects k d).size ≡ true
has_itself objects k d below =
    let o : Object = slice_index_or objects k d in
    let same : is_object_of o.home o.size o ≡ true = grind (arith, nat_tests) in
    list_any_at (is_object_of o.home o.size) objects k d below same

movable_at : (v : PlainView) (board : Board) (g : Graph) (o : ℕ) → IsGraph v board g → o < length g.objects.items → is_movable v board (object_of g o).home (object_of g o).size ≡ true
movable_at v board g o is below =
    sym (is.objects.exact (object_of g o).home (object_of g o).size) ∙ has_itself g.objects.items o absent_object below

absent_at : (g : Graph) (o : ℕ) → length g.objects.items ≤ o → object_of g o ≡ absent_object
absent_at g o behind = get_or-eq_default g.objects.items absent_object behind

-- an object with a byte is one of the graph
pub has_place : (g : Graph) (o i : ℕ) → i < (object_of g o).size → o < length g.objects.items
has_place g o i inside =
    elim (cases_lt o (length g.objects.items)) [
      | inl below ↦ below
      | inr behind ↦
          let absent = absent_at g o behind in
          let none : i < 0 = subst (λ (x : Object). i < x.size) absent inside in absurd (omega (arith, none))
    ]

byte_range_at : (v : PlainView) (board : Board) (g : Graph) (o : ℕ) → IsGraph v board g → o < length g.objects.items → HasByteRange (object_of g o).home (object_of g o).size
byte_range_at v board g o is below =
    let object = object_of g o in
    let moves = movable_parts v board object.home object.size (movable_at v board g o is below) in
    byte_range_of v object.home object.size (symbol_at v moves.symbol) moves.of

pub ends_below : (v : PlainView) (board : Board) (g : Graph) → IsGraph v board g → EndBelow g
ends_below v board g is o =
    elim (cases_lt o (length g.objects.items)) [
      | inl below ↦ let ends = (byte_range_at v board g o is below).ends in omega (arith, ends)
      | inr behind ↦
          let absent = absent_at g o behind in
          subst (λ (x : Object). x.home + x.size < 4294967296) (sym absent) (omega arith)
    ]

-- the first of two objects ends where the second begins, or before
in_order : (v : PlainView) (board : Board) (g : Graph) (o q : ℕ) → IsGraph v board g → o < q → q < length g.objects.items → (object_of g o).home + (object_of g o).size ≤ (object_of g q).home
in_order v board g o q is lower below = is.objects.disjoint o q absent_object lower below

pub lie_disjoint : (v : PlainView) (board : Board) (g : Graph) → IsGraph v board g → HasDisjointObjects g
lie_disjoint v board g is o q i j inside_o inside_q same =
    let below_o = has_place g o i inside_o in
    let below_q = has_place g q j inside_q in
    elim (cases_order o q) [
      | inl equal ↦ equal
      | inr other ↦ elim other [
        | inl before ↦ let far = in_order v board g o q is before below_q in absurd (omega (arith, far, inside_o, inside_q, same))
        | inr behind ↦ let far = in_order v board g q o is behind below_o in absurd (omega (arith, far, inside_o, inside_q, same))
      ]
    ]

-- ---- fixed memory has no byte of an object

in_its_object : (v : PlainView) (board : Board) (home n a : ℕ) → is_movable v board home n ≡ true → inside home n a ≡ true → any_below (in_object v board a) (length v.symbols) ≡ true
in_its_object v board home n a movable within =
    let moves = movable_parts v board home n movable in
    let s = symbol_at v moves.symbol in
    let value = moves.of.value in
    let size = moves.of.size in
    let movable_here : is_movable v board s.value s.size ≡ true = subst (λ (m : ℕ). is_movable v board s.value m ≡ true) (sym size) (subst (λ (h : ℕ). is_movable v board h n ≡ true) (sym value) movable) in
    let inside_here : inside s.value s.size a ≡ true = subst (λ (m : ℕ). inside s.value m a ≡ true) (sym size) (subst (λ (h : ℕ). inside h n a ≡ true) (sym value) within) in
    any_at (in_object v board a) (length v.symbols) moves.symbol moves.below
    (all_three (has_range v s) (is_movable v board s.value s.size) (inside s.value s.size a) moves.of.test movable_here inside_here)
  where
    all_three : (b c d : Bool) → b ≡ true → c ≡ true → d ≡ true → b && c && d ≡ true
    all_three b c d p q r = rw (p, q, r)

not_fixed_there : (mapped spm patch code object changed : Bool) → object ≡ true → mapped && not spm && not patch && not code && not object && not changed ≡ false
not_fixed_there mapped spm patch code object changed is = grind (arith, nat_tests, is)

pub object_not_fixed : (v : PlainView) (board : Board) (g : Graph) (o i : ℕ) → IsGraph v board g → i < (object_of g o).size → is_fixed_memory v board ((object_of g o).home + i) ≡ false
object_not_fixed v board g o i is within =
    let object = object_of g o in
    let a : ℕ = object.home + i in
    let inside_it : inside object.home object.size a ≡ true = grind (arith, nat_tests, within) in
    let held = in_its_object v board object.home object.size a (movable_at v board g o is (has_place g o i within)) inside_it in
    not_fixed_there (in_range board.main a || any_below (in_area board a) (length board.areas.items)) (in_range board.spm a) (in_range board.patch a) (any_below (in_code_range v a) (length v.sections)) (any_below (in_object v board a) (length v.symbols)) (any_below (holds_changed_byte v a) (length v.segments)) held

-- ---- words of data

word_itself : (words : List DataWord) (k : ℕ) (d : DataWord) → k < length words → list_any (same_word (slice_index_or words k d)) words ≡ true
word_itself words k d below =
    let w : DataWord = slice_index_or words k d in
    let same : same_word w w ≡ true = grind (arith, nat_tests) in
    list_any_at (same_word w) words k d below same

pub word_given : (v : PlainView) (board : Board) (g : Graph) (k : ℕ) (d : DataWord) → IsGraph v board g → k < length g.data_words.items → is_word_of_list v g.objects.items (slice_index_or g.data_words.items k d) ≡ true
word_given v board g k d is below = sym (is.data_words.exact (slice_index_or g.data_words.items k d)) ∙ word_itself g.data_words.items k d below

pub word_named : (v : PlainView) (board : Board) (g : Graph) (k : ℕ) (d : DataWord) → IsGraph v board g → k < length g.data_words.items → (slice_index_or g.data_words.items k d).object < length g.objects.items
word_named v board g k d is below =
    let w : DataWord = slice_index_or g.data_words.items k d in
    let less = (both (nat_lt w.object (length g.objects.items)) (any_below (gives_word v g.objects.items w) (length v.relocs)) (word_given v board g k d is below)).0 in
    grind (arith, nat_tests, less)

pub record HeldIn (v : PlainView) (at k : ℕ) : Type 0 where
  pub loaded : is_loaded v k ≡ true
  pub to : at + 4 ≤ (section_at v k).addr + (section_at v k).size

pub word_held : (v : PlainView) (board : Board) (g : Graph) (k : ℕ) (d : DataWord) → IsGraph v board g → k < length g.data_words.items → (j : ℕ) × HeldIn v (slice_index_or g.data_words.items k d).at j
word_held v board g k d is below =
    let w : DataWord = slice_index_or g.data_words.items k d in
    let objects = g.objects.items in
    let given = (both (nat_lt w.object (length objects)) (any_below (gives_word v objects w) (length v.relocs)) (word_given v board g k d is below)).1 in
    let (j, less, gives) = any_found (gives_word v objects w) (length v.relocs) given in
    let r = reloc_at v j in
    let o = object_at objects w.object in
    let whole = both ((r.at == w.at) && leads_to v o.home o.size j && is_rewritable_word v j r) (displacement v o.home r == w.offset) gives in
    let front = both ((r.at == w.at) && leads_to v o.home o.size j) (is_rewritable_word v j r) whole.0 in
    let first = both (r.at == w.at) (leads_to v o.home o.size j) front.0 in
    let at = eqb-true r.at w.at first.0 in
    let (section, held) = (word_parts v j r front.1).holds in
    let lies = held.lies in
    (section, subst (λ (a : ℕ). HeldIn v a section) at (record { loaded = held.loaded; to = grind (arith, nat_tests, lies) }))
