-- A written file, read back.
use Rattle.std.proofs.Common.{◌≡◌, ◌∙◌, ℕ, List, Option, None, Result, Ok, Err, OnOk, IfOk, Vec, sym, ap, subst}
use Rattle.std.specs.declared.alloc.Global.{Global}
use Rattle.elf_reader.specs.File.{IsFile, PlainView, plain_view, view_in}
use Rattle.elf_reader.specs.Faults.{first_fault}
use Rattle.elf_reader.specs.declared.view.ElfView.{ElfView}
use Rattle.elf_writer.specs.declared.parts.Patch.{Patch}
use Rattle.elf_writer.specs.declared.parts.SymbolMove.{SymbolMove}
use Rattle.elf_writer.specs.Parts.{NewSegment}
use Rattle.elf_writer.specs.Written.{written}
use Rattle.elf_writer.specs.Conditions.{IsWritable, HasWords}
use Rattle.elf_writer.specs.View.{written_view}
use Rattle.elf_writer.specs.Laws.{WrittenReadsBack, WrittenIsFile}
use Rattle.loaded_file.proofs.WordLemmas.{same_view}
use Rattle.elf_writer.proofs.HeaderRead.{keeps_header, header_is}
use Rattle.elf_writer.proofs.SegmentsRead.{segments_read}
use Rattle.elf_writer.proofs.SectionsRead.{sections_read}
use Rattle.elf_writer.proofs.SymbolsRead.{symbols_read}
use Rattle.elf_writer.proofs.RelocationsRead.{relocations_read}

pub written_reads_back : WrittenReadsBack
written_reads_back file ps new ms none is words =
    let out = written (view_in file) ps new ms in
    let kept = keeps_header file ps new ms none is in
    let header = header_is file ps new ms none is words.entry in
    let segments = segments_read file ps new ms none is words.entry in
    let sections = sections_read file ps new ms none is in
    let symbols = symbols_read file ps new ms none is words.values in
    let relocs = relocations_read file ps new ms none is in
    λ i.
    record {
      bytes = out;
      entry = header.entry_is i;
      flags = kept.flags i;
      ph_at = header.at_is i;
      ph_count = header.count_is i;
      segments = segments i;
      sections = sections i;
      symbols = symbols i;
      relocs = relocs i;
    }

-- a view that says what a file says is one of it
is_file : (file : List ℕ) (view : ElfView) → plain_view view ≡ view_in file → IsFile file view
is_file file view same =
    record {
      bytes = ap (λ v. v.bytes) same;
      entry = ap (λ v. v.entry) same;
      flags = ap (λ v. v.flags) same;
      ph_at = ap (λ v. v.ph_at) same;
      ph_count = ap (λ v. v.ph_count) same;
      segments = ap (λ v. v.segments) same;
      sections = ap (λ v. v.sections) same;
      symbols = ap (λ v. v.symbols) same;
      relocs = ap (λ v. v.relocs) same;
    }

pub written_is_file : WrittenIsFile
written_is_file file ps new ms view none is words same =
    is_file (written (view_in file) ps new ms) view (same ∙ sym (written_reads_back file ps new ms none is words))

-- the same of what is written of a borrowed view
pub view_reads_back : (view : ElfView) (ps : List Patch) (new : Option NewSegment) (ms : List SymbolMove) → IsFile view.bytes.now view → first_fault view.bytes.now ≡ None → IsWritable (plain_view view) ps new ms → HasWords new ms → view_in (written (plain_view view) ps new ms) ≡ written_view (plain_view view) ps new ms
view_reads_back view ps new ms is none writable words =
    subst (λ (v : PlainView). IsWritable v ps new ms → view_in (written v ps new ms) ≡ written_view v ps new ms) (sym (same_view view.bytes.now view is))
    (λ allowed. written_reads_back view.bytes.now ps new ms none allowed words) writable

-- of a result with the bytes that are written
pub result_reads_back :
    {E : Type 0}
    (view : ElfView)
    (ps : List Patch)
    (new : Option NewSegment)
    (ms : List SymbolMove)
    (r : Result (Vec ℕ Global) E)
    → IsFile view.bytes.now view
    → first_fault view.bytes.now ≡ None
    → IsWritable (plain_view view) ps new ms
    → OnOk r (HasWords new ms)
    → IfOk r (λ out. out.items ≡ written (plain_view view) ps new ms)
    → IfOk r (λ out. view_in out.items ≡ written_view (plain_view view) ps new ms)
result_reads_back view ps new ms (Ok out) is none writable words bytes =
    ap view_in bytes ∙ view_reads_back view ps new ms is none writable words
result_reads_back view ps new ms (Err e) is none writable words bytes = tt
