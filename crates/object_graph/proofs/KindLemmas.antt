-- Lists of ranges and objects against the tests of a file's sections and symbols, and fixed memory in two parts.
use Rattle.std.proofs.Common.{◌≡◌, ◌∙◌, ℕ, zero, suc, ◌+◌, ◌<◌, ◌≤◌, ◌==◌, nat_le, nat_lt, Bool, true, false, not, ◌&&◌, ◌||◌, if◌then◌else◌, List, [], ◌∷◌, take, length, slice_index_or, refl, sym, ap, subst, arith, add-one}
use Rattle.std.specs.List.{list_any}
use Rattle.std.proofs.Math.Seq.{take-length}
use Rattle.std.proofs.lemmas.Bool.{eqb-true}
use Rattle.std.proofs.lemmas.Bool.Decides.{nat_tests}
use Rattle.std.proofs.lemmas.List.Folds.{Any-from_list_any, list_any_at, list_any-append, list_any_more}
use Rattle.list_checks.specs.Tests.{any_below}
use Rattle.list_checks.proofs.TestLemmas.{same_tests, both, any_at, any_found}
use Rattle.elf_reader.specs.File.{PlainSegment, PlainSection, PlainView}
use Rattle.elf_reader.specs.Image.{has_byte}
use Rattle.elf_reader.specs.Loaded.{section_at}
use Rattle.loaded_file.specs.Code.{is_code_range}
use Rattle.loaded_file.specs.Records.{symbol_at}
use Rattle.board_config.specs.declared.board.Board.{Board}
use Rattle.board_config.specs.declared.board.Range.{Range}
use Rattle.loaded_file.specs.Ranges.{has_range, inside, is_symbol_of, is_range}
use Rattle.object_graph.specs.Fixed.{is_movable, is_fixed}
use Rattle.object_graph.specs.CodeRanges.{section_range, code_ranges_below}
use Rattle.object_graph.specs.declared.parts.Object.{Object}
use Rattle.object_graph.specs.Graphs.{is_object_of, has_object, IsObjects}
use Rattle.object_graph.specs.Sites.{in_range, no_area, in_code_range, in_object, in_symbol_table, holds_changed_byte, is_fixed_memory}
use Rattle.object_graph.specs.declared.spans.Span.{Span}
use Rattle.object_graph.specs.Spans.{span_of, holds, any_holds, is_left}
use Rattle.object_graph.specs.Kinds.{is_mapped, is_changing, in_object_of_list, place_of, is_put_from, puts_table, puts_changed_byte}

-- a list by its places
listed_below : {A : Type 0} (test : A → Bool) (xs : List A) (d : A) (n : ℕ) → n ≤ length xs → list_any test (take n xs) ≡ any_below (λ k. test (slice_index_or xs k d)) n
listed_below test xs d zero within = refl
listed_below test xs d (suc n) within =
    rw (← add-one n)
    (list_any_more test xs n d (omega (arith, within))
    ∙ ap (λ b. b || test (slice_index_or xs n d)) (listed_below test xs d n (omega (arith, within))))

pub listed : {A : Type 0} (test : A → Bool) (xs : List A) (d : A) → list_any test xs ≡ any_below (λ k. test (slice_index_or xs k d)) (length xs)
listed test xs d = ap (list_any test) (sym (take-length xs)) ∙ listed_below test xs d (length xs) (omega arith)

-- ---- code

one_if : {A : Type 0} (test : A → Bool) (b : Bool) (x : A) → list_any test (if b then x ∷ [] else []) ≡ (b && test x)
one_if test true x = grind arith
one_if test false x = refl

pub code_held : (v : PlainView) (a n : ℕ) → list_any (λ r. in_range r a) (code_ranges_below v n) ≡ any_below (in_code_range v a) n
code_held v a zero = refl
code_held v a (suc n) =
    list_any-append (λ r. in_range r a) (code_ranges_below v n) (if is_code_range v n then section_range (section_at v n) ∷ [] else [])
    ∙ ap (λ b. b || list_any (λ r. in_range r a) (if is_code_range v n then section_range (section_at v n) ∷ [] else [])) (code_held v a n)
    ∙ ap (λ b. any_below (in_code_range v a) n || b) (one_if (λ r. in_range r a) (is_code_range v n) (section_range (section_at v n)))

-- ---- objects

both_made : (a b : Bool) → a ≡ true → b ≡ true → (a && b) ≡ true
both_made true true first second = refl
both_made true false first second = second
both_made false b first second = first

same_object : (home n : ℕ) → ((home == home) && (n == n)) ≡ true
same_object home n = grind (arith, nat_tests)

at_symbol : (v : PlainView) (board : Board) (a home n k : ℕ) → is_movable v board home n ≡ true → inside home n a ≡ true → is_symbol_of v home n k ≡ true → in_object v board a k ≡ true
at_symbol v board a home n k movable held of =
    let s = symbol_at v k in
    let parts = both (has_range v s && (s.value == home)) (s.size == n) of in
    let firsts = both (has_range v s) (s.value == home) parts.0 in
    let first : s.value ≡ home = eqb-true s.value home firsts.1 in
    let second : s.size ≡ n = eqb-true s.size n parts.1 in
    let moves = subst (λ (h : ℕ). is_movable v board h s.size ≡ true) (sym first) (subst (λ (m : ℕ). is_movable v board home m ≡ true) (sym second) movable) in
    let holds = subst (λ (h : ℕ). inside h s.size a ≡ true) (sym first) (subst (λ (m : ℕ). inside home m a ≡ true) (sym second) held) in
    both_made (has_range v s && is_movable v board s.value s.size) (inside s.value s.size a) (both_made (has_range v s) (is_movable v board s.value s.size) firsts.0 moves) holds

object_found : (v : PlainView) (board : Board) (objects : List Object) (a : ℕ) → IsObjects v board objects → list_any (in_object_of_list a) objects ≡ true → any_below (in_object v board a) (length v.symbols) ≡ true
object_found v board objects a are found =
    let (k, o, below, here, passes) = Any-from_list_any (in_object_of_list a) objects found in
    let has = list_any_at (is_object_of o.home o.size) objects k o below (ap (is_object_of o.home o.size) here ∙ same_object o.home o.size) in
    let movable : is_movable v board o.home o.size ≡ true = sym (are.exact o.home o.size) ∙ has in
    let ranged = (both (is_range v o.home o.size) (not (is_fixed v board o.home o.size)) movable).0 in
    let (j, within, of) = any_found (is_symbol_of v o.home o.size) (length v.symbols) ranged in
    any_at (in_object v board a) (length v.symbols) j within (at_symbol v board a o.home o.size j movable passes of)

symbol_found : (v : PlainView) (board : Board) (objects : List Object) (a : ℕ) → IsObjects v board objects → any_below (in_object v board a) (length v.symbols) ≡ true → list_any (in_object_of_list a) objects ≡ true
symbol_found v board objects a are found =
    let (j, within, of) = any_found (in_object v board a) (length v.symbols) found in
    let s = symbol_at v j in
    let parts = both (has_range v s && is_movable v board s.value s.size) (inside s.value s.size a) of in
    let movable = (both (has_range v s) (is_movable v board s.value s.size) parts.0).1 in
    let has : has_object objects s.value s.size ≡ true = are.exact s.value s.size ∙ movable in
    let (k, o, below, here, passes) = Any-from_list_any (is_object_of s.value s.size) objects has in
    let same = both (o.home == s.value) (o.size == s.size) passes in
    let first : o.home ≡ s.value = eqb-true o.home s.value same.0 in
    let second : o.size ≡ s.size = eqb-true o.size s.size same.1 in
    let holds = subst (λ (h : ℕ). inside h o.size a ≡ true) (sym first) (subst (λ (m : ℕ). inside s.value m a ≡ true) (sym second) parts.1) in
    list_any_at (in_object_of_list a) objects k o below (ap (in_object_of_list a) here ∙ holds)

pub objects_held : (v : PlainView) (board : Board) (objects : List Object) (a : ℕ) → IsObjects v board objects → list_any (in_object_of_list a) objects ≡ any_below (in_object v board a) (length v.symbols)
objects_held v board objects a are =
    same_tests (list_any (in_object_of_list a) objects) (any_below (in_object v board a) (length v.symbols)) (object_found v board objects a are) (symbol_found v board objects a are)

-- ---- spans that are added

or_more : (old now more here new : Bool) → now ≡ (old || more) → new ≡ (now || here) → new ≡ (old || (more || here))
or_more old now more here new first second = grind (arith, first, second)

-- one element of a list more
pub element_more : {A : Type 0} (test : A → Bool) (xs : List A) (k : ℕ) (d : A) (old now new here : Bool) → k < length xs → now ≡ (old || list_any test (take k xs)) → new ≡ (now || here) → here ≡ test (slice_index_or xs k d) → new ≡ (old || list_any test (take (k + 1) xs))
element_more test xs k d old now new here below first second same =
    or_more old now (list_any test (take k xs)) here new first second
    ∙ ap (λ b. old || (list_any test (take k xs) || b)) same
    ∙ ap (λ b. old || b) (sym (list_any_more test xs k d below))

regrouped : (old byte header table kind place : Bool) → ((old || (byte && (header || table))) || (kind && (byte && place))) ≡ (old || (byte && (header || (table || (kind && place)))))
regrouped old byte header table kind place = grind arith

-- one section more
pub table_more : (v : PlainView) (s : PlainSegment) (t : PlainSection) (a k : ℕ) (old now new : Bool) → section_at v k ≡ t → now ≡ (old || puts_changed_byte v s a k) → new ≡ (now || puts_table s t a) → new ≡ (old || puts_changed_byte v s a (k + 1))
table_more v s t a k old now new here first second =
    rw (add-one k)
    (second
    ∙ ap (λ b. b || puts_table s t a) first
    ∙ regrouped old (has_byte s a) (nat_lt (place_of s a) 52) (any_below (in_symbol_table v (place_of s a)) k) (t.kind == 2) (inside t.offset t.size (place_of s a))
    ∙ ap (λ (u : PlainSection). old || (has_byte s a && (nat_lt (place_of s a) 52 || (any_below (in_symbol_table v (place_of s a)) k || ((u.kind == 2) && inside u.offset u.size (place_of s a)))))) (sym here))

-- the ELF header, before the first section; and all sections
below_header : (p : ℕ) → nat_le 0 p && nat_lt p (0 + 52) ≡ nat_lt p 52 || false
below_header p = grind (arith, nat_tests)

pub header_first : (v : PlainView) (s : PlainSegment) (a : ℕ) (old new here : Bool) → here ≡ is_put_from s 0 52 a → new ≡ (old || here) → new ≡ (old || puts_changed_byte v s a 0)
header_first v s a old new here is pushed =
    pushed ∙ ap (λ (b : Bool). old || b) (is ∙ ap (λ (b : Bool). has_byte s a && b) (below_header (place_of s a)))

pub tables_all : (v : PlainView) (s : PlainSegment) (a k : ℕ) (old new : Bool) → k ≡ length v.sections → new ≡ (old || puts_changed_byte v s a k) → new ≡ (old || puts_changed_byte v s a (length v.sections))
tables_all v s a k old new all so_far = so_far ∙ ap (λ (n : ℕ). old || puts_changed_byte v s a n) all

-- main, and then the areas
pub mapped_held : (board : Board) (a : ℕ) (none : List Span) (s : Span) (areas : List Range) (one all : Bool) → none ≡ [] → one ≡ (any_holds none a || holds a s) → s ≡ span_of board.main → areas ≡ board.areas.items → all ≡ (one || list_any (λ r. in_range r a) areas) → all ≡ is_mapped board a
mapped_held board a none s areas one all empty first span same second =
    second
    ∙ ap (λ b. b || list_any (λ r. in_range r a) areas) (first ∙ ap (λ xs. any_holds xs a || holds a s) empty ∙ ap (holds a) span)
    ∙ ap (λ b. in_range board.main a || b) (ap (list_any (λ r. in_range r a)) same ∙ listed (λ r. in_range r a) board.areas.items no_area)

-- the scratchpad and the patch range
pub board_held : (board : Board) (a : ℕ) (none : List Span) (s p : Span) (one two : Bool) → none ≡ [] → one ≡ (any_holds none a || holds a s) → two ≡ (one || holds a p) → s ≡ span_of board.spm → p ≡ span_of board.patch → two ≡ (in_range board.spm a || in_range board.patch a)
board_held board a none s p one two empty first second spm patch =
    second
    ∙ ap (λ b. b || holds a p) (first ∙ ap (λ xs. any_holds xs a || holds a s) empty ∙ ap (holds a) spm)
    ∙ ap (λ b. in_range board.spm a || b) (ap (holds a) patch)

-- and then code, objects and bytes of the file
pub changing_held : (v : PlainView) (board : Board) (a : ℕ) (both code objects bytes listed_code listed_objects : Bool) → both ≡ (in_range board.spm a || in_range board.patch a) → listed_code ≡ any_below (in_code_range v a) (length v.sections) → listed_objects ≡ any_below (in_object v board a) (length v.symbols) → code ≡ (both || listed_code) → objects ≡ (code || listed_objects) → bytes ≡ (objects || any_below (holds_changed_byte v a) (length v.segments)) → bytes ≡ is_changing v board a
changing_held v board a both code objects bytes listed_code listed_objects first second third one two three =
    three
    ∙ ap (λ b. b || any_below (holds_changed_byte v a) (length v.segments)) (two ∙ ap (λ b. b || listed_objects) (one ∙ ap (λ b. b || listed_code) first))
    ∙ ap (λ b. in_range board.spm a || in_range board.patch a || b || listed_objects || any_below (holds_changed_byte v a) (length v.segments)) second
    ∙ ap (λ b. in_range board.spm a || in_range board.patch a || any_below (in_code_range v a) (length v.sections) || b || any_below (holds_changed_byte v a) (length v.segments)) third

-- ---- fixed memory

without : (m s p c o h : Bool) → (m && not (s || p || c || o || h)) ≡ (m && not s && not p && not c && not o && not h)
without m s p c o h = grind arith

pub fixed_parts : (v : PlainView) (board : Board) (a : ℕ) → (is_mapped board a && not (is_changing v board a)) ≡ is_fixed_memory v board a
fixed_parts v board a =
    without (is_mapped board a) (in_range board.spm a) (in_range board.patch a) (any_below (in_code_range v a) (length v.sections)) (any_below (in_object v board a) (length v.symbols)) (any_below (holds_changed_byte v a) (length v.segments))

-- what the two lists leave
pub left_fixed : (v : PlainView) (board : Board) (a : ℕ) (kept cut all_kept all_cut : List Span) → kept ≡ all_kept → cut ≡ all_cut → any_holds all_kept a ≡ is_mapped board a → any_holds all_cut a ≡ is_changing v board a → is_left kept cut a ≡ is_fixed_memory v board a
left_fixed v board a kept cut all_kept all_cut first second mapped changing =
    ap (λ xs. any_holds xs a && not (any_holds cut a)) first
    ∙ ap (λ xs. any_holds all_kept a && not (any_holds xs a)) second
    ∙ ap (λ b. b && not (any_holds all_cut a)) mapped
    ∙ ap (λ b. is_mapped board a && not b) changing
    ∙ fixed_parts v board a
