-- How the code tests whether a relocation is rewritable: by functions of two tests each.
use Rattle.std.proofs.Common.{◌≡◌, ◌∙◌, ℕ, ◌==◌, nat_le, Bool, true, false, not, ◌&&◌, ◌||◌, List, length, Option, None, refl, sym, ap, arith}
use Rattle.std.proofs.lemmas.Bool.{and_left, and_right, or_left}
use Rattle.list_checks.specs.Tests.{any_below}
use Rattle.list_checks.proofs.TestLemmas.{both}
use Rattle.elf_reader.specs.File.{PlainView}
use Rattle.elf_reader.specs.declared.view.Reloc.{Reloc}
use Rattle.loaded_file.specs.Code.{image_word}
use Rattle.loaded_file.specs.Records.{reloc_at, counts, target, is_hint}
use Rattle.loaded_file.specs.declared.byte_ranges.ByteRange.{ByteRange}
use Rattle.loaded_file.specs.ByteRanges.{byte_range_at}
use Rattle.object_graph.specs.Disjoint.{Finds}
use Rattle.object_graph.specs.Fixed.{is_unrewritable_by}
use Rattle.object_graph.specs.Lists.{is_changing}
use Rattle.object_graph.specs.Rewritable.{is_meant, displacement, holds_data, holds_target, cuts_range, changes_word, is_rewritable_word, is_rewritable_high, is_rewritable_low, is_rewritable_absolute, is_rewritable_kind}

-- ---- two tests in order, of which the first was told

pub or_taken : (a b told : Bool) → told ≡ a → told ≡ true → true ≡ a || b
or_taken a b told is so = sym (or_left a b (sym is ∙ so))

pub or_passed : (a b told rest : Bool) → told ≡ a → told ≡ false → rest ≡ b → rest ≡ a || b
or_passed a b told rest is otherwise last = last ∙ sym (ap (λ (x : Bool). x || b) (sym is ∙ otherwise))

-- ---- kinds

three_taken : (w h l : Bool) → w ≡ true → true ≡ w || h || l
three_taken w h l so = sym (ap (λ (x : Bool). x || h || l) so)

three_passed : (w h l rest : Bool) → w ≡ false → rest ≡ h || l → rest ≡ w || h || l
three_passed w h l rest otherwise last = last ∙ sym (ap (λ (x : Bool). x || h || l) otherwise)

pub absolute_by_word : (v : PlainView) (i : ℕ) (told : Bool) → told ≡ is_rewritable_word v i (reloc_at v i) → told ≡ true → true ≡ is_rewritable_absolute v i
absolute_by_word v i told is so =
    let r = reloc_at v i in
    three_taken (is_rewritable_word v i r) (is_rewritable_high v r) (is_rewritable_low v r) (sym is ∙ so)

pub absolute_by_half : (v : PlainView) (i : ℕ) (r : Reloc) (told half : Bool) → reloc_at v i ≡ r → told ≡ is_rewritable_word v i (reloc_at v i) → told ≡ false → half ≡ is_rewritable_high v r || is_rewritable_low v r → half ≡ is_rewritable_absolute v i
absolute_by_half v i r told half here is otherwise last =
    let q = reloc_at v i in
    three_passed (is_rewritable_word v i q) (is_rewritable_high v q) (is_rewritable_low v q) half (sym is ∙ otherwise)
    (last ∙ ap (λ (x : Reloc). is_rewritable_high v x || is_rewritable_low v x) (sym here))

-- ---- words of data

-- the tests of a word in another order
all_but_two : (x y : Bool) → x && y ≡ x && true && y
all_but_two true y = refl
all_but_two false y = refl

word_passed : (kind lies cut holds other rest : Bool) → kind && (lies && holds) ≡ true → rest ≡ not cut && not other → rest ≡ kind && lies && not cut && holds && not other
word_passed kind lies cut holds other rest held last =
    let first = both kind (lies && holds) held in
    let second = both lies holds first.1 in
    rw (first.0, second.0, second.1) (last ∙ all_but_two (not cut) (not other))

word_shut : (kind lies cut holds other : Bool) → kind && (lies && holds) ≡ false → false ≡ kind && lies && not cut && holds && not other
word_shut true true cut true other none = cc
word_shut true true true false other none = refl
word_shut true true false false other none = refl
word_shut true false cut holds other none = refl
word_shut false lies cut holds other none = refl

pub word_alone : (v : PlainView) (i : ℕ) (r : Reloc) (told rest : Bool) → reloc_at v i ≡ r → told ≡ (r.kind == 1) && holds_target v r → told ≡ true
    → rest ≡ not (any_below (cuts_range v (reloc_at v i).at) (length v.symbols)) && not (any_below (changes_word v i (reloc_at v i).at) (length v.relocs)) → rest ≡ is_rewritable_word v i (reloc_at v i)
word_alone v i r told rest here is so last =
    let q = reloc_at v i in
    word_passed (q.kind == 1) (any_below (holds_data v q.at) (length v.sections)) (any_below (cuts_range v q.at) (length v.symbols)) (image_word v q.at == target v q) (any_below (changes_word v i q.at) (length v.relocs)) rest
    (ap (λ (x : Reloc). (x.kind == 1) && holds_target v x) here ∙ sym is ∙ so) last

pub word_not_held : (v : PlainView) (i : ℕ) (r : Reloc) (told : Bool) → reloc_at v i ≡ r → told ≡ (r.kind == 1) && holds_target v r → told ≡ false → false ≡ is_rewritable_word v i (reloc_at v i)
word_not_held v i r told here is otherwise =
    let q = reloc_at v i in
    word_shut (q.kind == 1) (any_below (holds_data v q.at) (length v.sections)) (any_below (cuts_range v q.at) (length v.symbols)) (image_word v q.at == target v q) (any_below (changes_word v i q.at) (length v.relocs))
    (ap (λ (x : Reloc). (x.kind == 1) && holds_target v x) here ∙ sym is ∙ otherwise)

-- ---- relocations that mean a range and are not rewritable

gate_open : (c m h n w told : Bool) → c && not h ≡ true → told ≡ w → c && m && not (h || n && w) ≡ m && not (n && told)
gate_open true m false n w told opened same = ap (λ (x : Bool). m && not (n && x)) (sym same)
gate_open true m true n w told opened same = cc
gate_open false m h n w told opened same = cc

gate_shut : (c m h n w : Bool) → c && not h ≡ false → c && m && not (h || n && w) ≡ false
gate_shut true m true n w shut = and_right m false refl
gate_shut true m false n w shut = cc
gate_shut false m h n w shut = refl

changing : (v : PlainView) (i : ℕ) (r : Reloc) (gate told : Bool) → reloc_at v i ≡ r → gate ≡ is_changing v i → gate ≡ told → counts v r && not (is_hint r.kind) ≡ told
changing v i r gate told here is tested = ap (λ (x : Reloc). counts v x && not (is_hint x.kind)) (sym here) ∙ sym is ∙ tested

-- where the relocation changes something, and where it doesn't
pub misled_found : (v : PlainView) (i : ℕ) (r : Reloc) (ranges : List ByteRange) (answer : Option ℕ) (gate told : Bool) → reloc_at v i ≡ r → gate ≡ is_changing v i → gate ≡ true → told ≡ is_rewritable_kind v i
    → Finds (λ home n. is_meant v home n r && not (nat_le (displacement v home r) n && told)) ranges answer → Finds (λ home n. is_unrewritable_by v home n i) ranges answer
misled_found v i r ranges answer gate told here is so rewritable found k below =
    let e = byte_range_at ranges k in
    ap (λ (x : Reloc). counts v x && is_meant v e.home e.size x && not (is_hint x.kind || nat_le (displacement v e.home x) e.size && is_rewritable_kind v i)) here
    ∙ gate_open (counts v r) (is_meant v e.home e.size r) (is_hint r.kind) (nat_le (displacement v e.home r) e.size) (is_rewritable_kind v i) told (changing v i r gate true here is so) rewritable
    ∙ found k below

pub none_misled : (v : PlainView) (i : ℕ) (r : Reloc) (ranges : List ByteRange) (gate : Bool) → reloc_at v i ≡ r → gate ≡ is_changing v i → gate ≡ false → Finds (λ home n. is_unrewritable_by v home n i) ranges None
none_misled v i r ranges gate here is otherwise k below =
    let e = byte_range_at ranges k in
    ap (λ (x : Reloc). counts v x && is_meant v e.home e.size x && not (is_hint x.kind || nat_le (displacement v e.home x) e.size && is_rewritable_kind v i)) here
    ∙ gate_shut (counts v r) (is_meant v e.home e.size r) (is_hint r.kind) (nat_le (displacement v e.home r) e.size) (is_rewritable_kind v i) (changing v i r gate false here is otherwise)
