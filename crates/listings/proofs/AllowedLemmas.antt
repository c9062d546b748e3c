-- What may be written, by what tests at run time found.
use Rattle.std.proofs.Common.{◌≡◌, ℕ, zero, suc, ◌+◌, ◌*◌, ◌<◌, ◌≤◌, ◌==◌, Bool, true, false, ◌&&◌, List, [], ◌∷◌, map, length, get_or, Some, None, refl, sym, subst, arith, length-append}
use Rattle.std.specs.List.{All, AllPairs}
use Rattle.std.proofs.lemmas.List.{get_or-map, length-map}
use Rattle.std.proofs.lemmas.Bool.{leb-true}
use Rattle.list_checks.specs.Tests.{lies_in, ranges_overlap}
use Rattle.list_checks.proofs.TestLemmas.{any_at}
use Rattle.list_checks.proofs.FirstLemmas.{both_none, holds}
use Rattle.elf_reader.specs.File.{IsFile, PlainView, plain_segment, plain_section, plain_view, view_in}
use Rattle.elf_reader.specs.HeaderChecks.{size_fault, header_fault}
use Rattle.elf_reader.specs.Faults.{first_fault}
use Rattle.elf_reader.specs.Loaded.{no_section, section_at, is_loaded}
use Rattle.elf_reader.specs.declared.view.ElfView.{ElfView}
use Rattle.elf_reader.specs.declared.view.Segment.{Segment}
use Rattle.elf_reader.specs.declared.view.Section.{Section}
use Rattle.elf_writer.specs.declared.parts.Patch.{Patch}
use Rattle.elf_writer.specs.declared.parts.SymbolMove.{SymbolMove}
use Rattle.elf_writer.specs.Changes.{changed}
use Rattle.elf_writer.specs.Parts.{NewSegment}
use Rattle.elf_writer.specs.Written.{all_changes, written}
use Rattle.elf_writer.specs.Conditions.{has_word, is_loaded_word, PatchesLoadedWord, ArePatchesDisjoint, HasSymbol, AreOfTwoSymbols, IsClearOf, IsAddable, IsWritable}
use Rattle.elf_writer.proofs.ChangeLemmas.{length-changed}
use Rattle.elf_writer.proofs.FitLemmas.{table_inside, number_within, length_written}
use Rattle.loaded_file.proofs.WordLemmas.{same_view}

all_three : (a b c : Bool) → a ≡ true → b ≡ true → c ≡ true → a && b && c ≡ true
all_three a b c x y z = rw (x, y, z) refl

pub word_found :
    (view : ElfView)
    (at k : ℕ)
    (d : Section)
    → k < length view.sections.items
    → is_loaded (plain_view view) k ≡ true
    → (get_or view.sections.items k d).kind ≡ 1
    → lies_in (get_or view.sections.items k d).offset (get_or view.sections.items k d).size at 4 ≡ true
    → is_loaded_word (plain_view view) at ≡ true
word_found view at k d below loaded kind lies =
    let v = plain_view view in
    let is : section_at v k ≡ plain_section (get_or view.sections.items k d) = get_or-map plain_section view.sections.items k d no_section below in
    let within : k < length v.sections = rw length-map below in
    let of_kind : ((section_at v k).kind == 1) ≡ true = rw (is, kind) refl in
    let inside : lies_in (section_at v k).offset (section_at v k).size at 4 ≡ true = rw is lies in
    any_at (has_word v at) (length v.sections) k within
    (all_three (is_loaded v k) ((section_at v k).kind == 1) (lies_in (section_at v k).offset (section_at v k).size at 4) loaded of_kind inside)

-- of one element there is no pair
pairs_of_one : {X : Type 0} (R : X → X → Type 0) (x : X) → AllPairs R (x ∷ [])
pairs_of_one R x i j d before below = absurd (omega (arith, before, below))

one : {X : Type 0} (P : X → Type 0) (x : X) → P x → All P (x ∷ [])
one P x is zero d below = is
one P x is (suc k) d below = absurd (omega (arith, below))

pub clear_map : (segments : List Segment) (s : NewSegment) → All (λ t. ranges_overlap t.vaddr t.memsz s.base (length s.content) ≡ false) segments → All (IsClearOf s) (map plain_segment segments)
clear_map segments s all k d below =
    let within : k < length segments = rw length-map at below in
    let e : Segment = record { index = 0; offset = 0; vaddr = 0; memsz = 0; flags = 0; bytes = record { ref_ptr = (0, 0); now = [] } } in
    rw (get_or-map plain_segment segments k e d within) (all k e within)

small_file : (file : List ℕ) → first_fault file ≡ None → length file ≤ 67108864
small_file file none =
    let header = (both_none (header_fault file) _ none).0 in
    let size = (both_none (size_fault file) _ header).0 in
    leb-true (length file) 67108864 (holds _ _ (both_none _ _ size).0)

written_small : (v : PlainView) (ps : List Patch) → length (written v ps None []) ≡ length v.bytes
written_small v ps =
    let size = length-changed (all_changes v ps None []) 0 v.bytes in
    let whole = length-append (changed (all_changes v ps None []) 0 v.bytes) [] in
    omega (arith, size, whole)

-- a patch alone
patch_allowed : (file : List ℕ) (p : Patch) → first_fault file ≡ None → is_loaded_word (view_in file) p.offset ≡ true → IsWritable (view_in file) (p ∷ []) None []
patch_allowed file p none word =
    let small = small_file file none in
    let size = written_small (view_in file) (p ∷ []) in
    record {
      patched = one (PatchesLoadedWord (view_in file)) p word;
      disjoint = pairs_of_one ArePatchesDisjoint p;
      symbols = λ k d below. absurd (omega (arith, below));
      distinct = λ i j d before below. absurd (omega (arith, below));
      allowed = tt;
      short = omega (arith, small, size);
    }

-- a patch, a segment and a moved symbol
added_allowed : (file : List ℕ) (p : Patch) (s : NewSegment) (m : SymbolMove) → first_fault file ≡ None → IsWritable (view_in file) (p ∷ []) None [] → m.symbol < length (view_in file).symbols → IsAddable (view_in file) s → length s.content ≤ 268435456 → IsWritable (view_in file) (p ∷ []) (Some s) (m ∷ [])
added_allowed file p s m none patch symbol addable short =
    let v = view_in file in
    let small = small_file file none in
    let number = number_within file s.base in
    let table = table_inside file none addable.from_one in
    let inside : v.ph_at + 32 * v.ph_count ≤ length file = omega (arith, table) in
    let size = length_written v (p ∷ []) s (m ∷ []) number inside in
    let count = addable.to_limit in
    record {
      patched = patch.patched;
      disjoint = patch.disjoint;
      symbols = one (HasSymbol (view_in file)) m symbol;
      distinct = pairs_of_one AreOfTwoSymbols m;
      allowed = addable;
      short = omega (arith, small, size, count, short);
    }

pub view_patch_allowed : (view : ElfView) (p : Patch) → IsFile view.bytes.now view → first_fault view.bytes.now ≡ None → is_loaded_word (plain_view view) p.offset ≡ true → IsWritable (plain_view view) (p ∷ []) None []
view_patch_allowed view p is none word =
    subst (λ (v : PlainView). is_loaded_word v p.offset ≡ true → IsWritable v (p ∷ []) None []) (sym (same_view view.bytes.now view is)) (patch_allowed view.bytes.now p none) word

pub view_added_allowed : (view : ElfView) (p : Patch) (s : NewSegment) (m : SymbolMove) → IsFile view.bytes.now view → first_fault view.bytes.now ≡ None → IsWritable (plain_view view) (p ∷ []) None [] → m.symbol < length view.symbols.items → IsAddable (plain_view view) s → length s.content ≤ 268435456 → IsWritable (plain_view view) (p ∷ []) (Some s) (m ∷ [])
view_added_allowed view p s m is none patch symbol addable short =
    let inside : m.symbol < length (plain_view view).symbols = rw length-map symbol in
    subst (λ (v : PlainView). IsWritable v (p ∷ []) None [] → m.symbol < length v.symbols → IsAddable v s → IsWritable v (p ∷ []) (Some s) (m ∷ [])) (sym (same_view view.bytes.now view is))
    (λ a b c. added_allowed view.bytes.now p s m none a b c short) patch inside addable
