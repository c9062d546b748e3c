-- Data that lies in a loaded section without code has no byte of a code word.
use Rattle.std.proofs.Common.{◌≡◌, inl, inr, ℕ, ◌-◌, ◌<◌, ◌==◌, ◌%◌, true, false, ◌&&◌, length, subst}
use Rattle.std.proofs.lemmas.Bool.{eqb-true, cases_Bool, both_ways}
use Rattle.list_checks.specs.Tests.{any_below, lies_in, ranges_overlap}
use Rattle.list_checks.proofs.TestLemmas.{both, any_found}
use Rattle.elf_reader.specs.Sections.{bit_of}
use Rattle.elf_reader.specs.File.{PlainView, view_in}
use Rattle.elf_reader.specs.Loadable.{AreDisjoint}
use Rattle.elf_reader.specs.Loaded.{section_at, is_loaded}
use Rattle.loaded_file.specs.Code.{is_code_range, holds_code, is_code_word}
use Rattle.loaded_file.specs.Records.{symbol_at, reloc_at}
use Rattle.loaded_file.specs.Ranges.{is_executable}
use Rattle.object_graph.specs.Laws.{ObjectsOffCode, DataOffCode}
use Rattle.loaded_file.proofs.RangeLemmas.{IsOf}
use Rattle.loaded_file.proofs.DisjointSections.{shared_byte, one_section, file_disjoint}
use Rattle.object_graph.proofs.MovableLemmas.{movable_parts}
use Rattle.object_graph.proofs.RewritableLemmas.{rewritable_word}

-- a code word lies in a code range
pub record HasCode (v : PlainView) (a j : ℕ) : Type 0 where
  pub loaded : is_loaded v j ≡ true
  pub kind : (section_at v j).kind ≡ 1
  pub code : bit_of (section_at v j).flags 2 ≡ true
  pub lies : lies_in (section_at v j).addr (section_at v j).size a 4 ≡ true

code_found : (v : PlainView) (a : ℕ) → is_code_word v a ≡ true → (j : ℕ) × HasCode v a j
code_found v a passes =
    let (j, below, holds) = any_found (holds_code v a) (length v.sections) (both (a % 4 == 0) (any_below (holds_code v a) (length v.sections)) passes).1 in
    let s = section_at v j in
    let whole = both (is_code_range v j) (lies_in s.addr s.size a 4) holds in
    let range = both (is_loaded v j && (s.kind == 1)) (bit_of s.flags 2) whole.0 in
    let front = both (is_loaded v j) (s.kind == 1) range.0 in
    (j, record { loaded = front.0; kind = eqb-true s.kind 1 front.1; code = range.1; lies = whole.1 })

-- bytes of a loaded section without code are none of a code word
pub off_code : (v : PlainView) (k p m a : ℕ) → AreDisjoint v.segments → k < length v.sections → is_loaded v k ≡ true → is_executable (section_at v k) ≡ false → lies_in (section_at v k).addr (section_at v k).size p m ≡ true → is_code_word v a ≡ true → ranges_overlap p m a 4 ≡ false
off_code v k p m a disjoint below loaded no_code lies code =
    let (j, has) = code_found v a code in
    let s = section_at v k in
    let u = section_at v j in
    elim (cases_Bool (ranges_overlap p m a 4)) [
      | inl overlap ↦
          let same = one_section v k j disjoint below loaded has.loaded has.kind (shared_byte s.addr s.size u.addr u.size p m a 4 lies has.lies overlap) in
          let clear : bit_of u.flags 2 ≡ false = subst (λ (x : ℕ). bit_of (section_at v x).flags 2 ≡ false) same no_code in
          absurd (both_ways _ clear has.code)
      | inr disjoint_of ↦ disjoint_of
    ]

object_off : (v : PlainView) (home n a k : ℕ) → AreDisjoint v.segments → IsOf v home n (symbol_at v k) → is_code_word v a ≡ true → ranges_overlap home n a 4 ≡ false
object_off v home n a k disjoint of code =
    let s = symbol_at v k in
    let range = of.range in
    let off = off_code v s.section s.value s.size a disjoint range.owner range.loaded range.no_code range.lies code in
    subst (λ (x : ℕ). ranges_overlap x n a 4 ≡ false) of.value (subst (λ (x : ℕ). ranges_overlap s.value x a 4 ≡ false) of.size off)

pub objects_off_code : ObjectsOffCode
objects_off_code file board home n a none movable code =
    let v = view_in file in
    let moves = movable_parts v board home n movable in
    object_off v home n a moves.symbol (file_disjoint file none) moves.of code

pub data_off_code : DataOffCode
data_off_code file board home n i a none movable means code =
    let v = view_in file in
    let at = (reloc_at v i).at in
    let word = rewritable_word v board home n i movable means in
    let (k, held) = word.holds in
    off_code v k at 4 a (file_disjoint file none) held.below held.loaded held.no_code held.lies code
