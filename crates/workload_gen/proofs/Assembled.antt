-- What a reader finds in a file whose parts stand where they were put.
use Rattle.std.proofs.Common.{◌≡◌, ℕ, suc, ◌+◌, ◌*◌, ◌<◌, ◌≤◌, List, [], ◌∷◌, ◌++◌, length, map, Some, None, refl, ap, sym, subst, ◌∙◌, arith, append_assoc, length-append, append-nil}
use Rattle.std.specs.List.{All}
use Rattle.std.proofs.lemmas.List.{length-map}
use Rattle.std.proofs.lemmas.List.Elements.{All-nil, All-cons}
use Rattle.elf_reader.specs.Layout.{file_header, program_header_at, section_count, section_header_at, section_header, symbol_at}
use Rattle.elf_reader.specs.Sections.{section_content, section_names, symbol_names, symbol_table, symbol_table_below, symbol_count_of}
use Rattle.elf_reader.specs.File.{PlainSection, PlainSymbol, segments_below, load_segments, sections_below, all_sections, section_of, symbol_of, symbols_below, symbols_in, all_symbols, relocations_below, all_relocations}
use Rattle.elf_reader.specs.declared.view.Reloc.{Reloc}
use Rattle.workload_gen.specs.Plan.{SectionPlan, SymbolPlan}
use Rattle.elf_writer.specs.Pieces.{zero_bytes, padded, padding, ended_names}
use Rattle.workload_gen.specs.Built.{Planned, planned_name, symbol_name, asked, contents, program_headers, section_headers, symbols_bytes, relocation_sections}
use Rattle.workload_gen.specs.Readable.{IsSection, IsSymbol, null_section, null_symbol, segments_from, sections_from, symbols_from, relocations_from}
use Rattle.elf_writer.proofs.Standing.{Stands, stands_whole, stands_first, stands_behind}
use Rattle.workload_gen.proofs.Records.{section_header_there}
use Rattle.workload_gen.proofs.Layouts.{content_place, headers_place, IsLaidOut, length-contents}
use Rattle.workload_gen.proofs.SectionsRead.{IsPlanned, IsSectionAt, AreSections, section_is, sections_there, sections_are, sections_behind, sections_first}
use Rattle.workload_gen.proofs.SegmentsRead.{segments_are}
use Rattle.workload_gen.proofs.SymbolsRead.{null_symbol_is, symbols_are}
use Rattle.workload_gen.proofs.TableFound.{IsOther, no_table_below, table_found}
use Rattle.workload_gen.proofs.RelocationsRead.{no_relocations, relocations_are}
use Rattle.workload_gen.proofs.PlannedFit.{asked_other}

contents-append : (xs ys : List Planned) → contents (xs ++ ys) ≡ contents xs ++ contents ys
contents-append [] ys = refl
contents-append (x ∷ xs) ys = ap (λ (bytes : List ℕ). padded x.content ++ bytes) (contents-append xs ys) ∙ sym (append_assoc (padded x.content) (contents xs) (contents ys))

-- a section's content is no longer than all contents
pub content_within : (xs ys : List Planned) (s : Planned) → length s.content ≤ length (contents (xs ++ s ∷ ys))
content_within xs ys s =
    let all = length-contents xs (s ∷ ys) in
    let here = length-append (padded s.content) (contents ys) in
    let bytes = length-append s.content (zero_bytes (padding (length s.content))) in
    omega arith

-- ---- segments

pub segments_found : (file : List ℕ) (entry : ℕ) (plans : List SectionPlan) (planned more : List Planned) → IsLaidOut file entry plans planned → All IsSection plans
    → planned ≡ map asked plans ++ more → load_segments file ≡ segments_from 0 (content_place plans) plans
segments_found file entry plans planned more laid fit is_planned =
    let place = content_place plans in
    let front = contents (map asked plans) in
    let bytes_are : contents planned ≡ front ++ contents more = ap contents is_planned ∙ contents-append (map asked plans) more in
    let size : length (contents planned) ≡ length front + length (contents more) = ap length bytes_are ∙ length-append front (contents more) in
    let small : place + length (contents planned) < 16777216 = laid.size in
    let front_fits : place + length front < 16777216 = omega arith in
    let programs_at : (file_header file).e_phoff ≡ 52 = laid.header.programs_at_is in
    let headers_at : 52 ≡ program_header_at file 0 = omega arith in
    let headers = subst (λ (n : ℕ). Stands file n (program_headers place plans)) headers_at laid.programs in
    let bytes = stands_first file place front (contents more) (subst (Stands file place) bytes_are laid.content) in
    let from_zero : length plans ≡ 0 + length plans = omega arith in
    ap (segments_below file) (laid.header.programs_is ∙ from_zero) ∙ segments_are file 0 place plans fit front_fits headers bytes

-- ---- sections

-- the null section
abbrev pub null_planned : Planned
null_planned = record { name = []; kind = 0; flags = 0; addr = 0; size = 0; link = 0; info = 0; align = 0; entsize = 0; content = [] }

-- all sections are read back, with these names
pub record IsRead (file table : List ℕ) (plans : List SectionPlan) (planned : List Planned) : Type 0 where
  pub count : section_count file ≡ length planned + 1
  pub null : IsSectionAt file table 0 0 null_planned
  pub sections : AreSections file table 1 (content_place plans) planned
  pub names : section_names file ≡ table

null_there : (file table names : List ℕ) → table ≡ 0 ∷ names → Stands file (section_header_at file 0) (zero_bytes 40) → IsSectionAt file table 0 0 null_planned
null_there file table names begins bytes =
    let header =
    section_header_there file (section_header_at file 0) 0 0 null_planned (omega arith) (omega arith)
    (record { kind = omega arith; flags = omega arith; addr = omega arith; size = omega arith; link = omega arith; info = omega arith }) bytes
    in
    record {
      name_at = 0;
      header = header;
      name = rw begins refl;
      content = rw header.kind refl;
      bytes = record { after = file; there = refl };
    }

pub sections_read : (file table names : List ℕ) (entry : ℕ) (plans : List SectionPlan) (planned front : List Planned) (last : Planned) → IsLaidOut file entry plans planned
    → All IsPlanned planned → planned ≡ front ++ last ∷ [] → last.content ≡ table → table ≡ 0 ∷ names → names ≡ ended_names (map planned_name planned)
    → IsRead file table plans planned
sections_read file table names entry plans planned front last laid fit is_planned holds begins are_names =
    let place = content_place plans in
    let small : place + length (contents planned) < 16777216 = laid.size in
    let last_size : length last.content ≤ length (contents planned) = subst (λ (xs : List Planned). length last.content ≤ length (contents xs)) (sym is_planned) (content_within front [] last) in
    let table_size : length last.content ≡ suc (length names) = ap length (holds ∙ begins) in
    let names_fit : 1 + length names < 16777216 = omega arith in
    let headers_at : (file_header file).e_shoff ≡ headers_place plans planned = laid.header.sections_at_is in
    let null_at : headers_place plans planned ≡ section_header_at file 0 = omega arith in
    let first_at : headers_place plans planned + 40 ≡ section_header_at file 1 = omega arith in
    let null = null_there file table names begins (subst (λ (n : ℕ). Stands file n (zero_bytes 40)) null_at laid.null) in
    let table_names : Stands table 1 names = stands_behind table 0 1 (0 ∷ []) names refl (subst (Stands table 0) begins (stands_whole table)) in
    let sections =
    sections_there file table 1 place 1 planned fit small (subst (λ (xs : List ℕ). 1 + length xs < 16777216) are_names names_fit)
    (subst (λ (n : ℕ). Stands file n (section_headers place 1 planned)) first_at laid.headers) laid.content (subst (Stands table 1) are_names table_names)
    in
    let planned_size : length planned ≡ length front + 1 = ap length is_planned ∙ length-append front (last ∷ []) in
    let index : 1 + length front ≡ length planned = omega arith in
    let at_last = sections_behind file table 1 (length planned) place (place + length (contents front)) front (last ∷ []) index refl (subst (AreSections file table 1 place) is_planned sections) in
    record {
      count = laid.header.sections_is;
      null = null;
      sections = sections;
      names = ap (section_content file) laid.header.names_is ∙ (at_last.0.content ∙ holds);
    }

pub sections_found : (file table : List ℕ) (plans : List SectionPlan) (planned : List Planned) → IsRead file table plans planned
    → all_sections file ≡ null_section ∷ sections_from (content_place plans) planned
sections_found file table plans planned is_read =
    let null : section_of file 0 ≡ null_section = section_is file table 0 0 null_planned is_read.names is_read.null in
    let next : length planned + 1 ≡ 1 + length planned = omega arith in
    ap (sections_below file) (is_read.count ∙ next)
    ∙ (sections_are file table 1 (content_place plans) planned is_read.names is_read.sections ∙ ap (λ (x : PlainSection). x ∷ sections_from (content_place plans) planned) null)

-- ---- symbols

-- the symbol table and the table of its names stand behind the sections that were asked for
pub record HasSymbols (plans : List SectionPlan) (symbols : List SymbolPlan) (t n : Planned) : Type 0 where
  pub kind : t.kind ≡ 2
  pub link : t.link ≡ length plans + 1 + 1
  pub size : t.size ≡ 16 + 16 * length symbols
  pub bytes : t.content ≡ zero_bytes 16 ++ symbols_bytes 1 symbols
  pub names : n.content ≡ 0 ∷ ended_names (map symbol_name symbols)
  pub names_size : length n.content < 16777216

table_number : (file table : List ℕ) (plans : List SectionPlan) (planned rest : List Planned) (t : Planned) → IsRead file table plans planned
    → planned ≡ map asked plans ++ t ∷ rest → t.kind ≡ 2 → IsSectionAt file table (length plans + 1) (content_place plans + length (contents (map asked plans))) t
    → symbol_table file ≡ Some (length plans + 1)
table_number file table plans planned rest t is_read is_planned kind at =
    let place = content_place plans in
    let size : length planned ≡ length (map asked plans) + suc (length rest) = ap length is_planned ∙ length-append (map asked plans) (t ∷ rest) in
    let asked_size : length (map asked plans) ≡ length plans = length-map plans asked in
    let null : symbol_table_below file (0 + 1) ≡ None = no_table_below file table 0 0 (null_planned ∷ []) (All-cons (IsOther 2) null_planned [] refl (All-nil (IsOther 2))) (is_read.null, tt) refl in
    let sections = sections_first file table 1 place (map asked plans) (t ∷ rest) (subst (AreSections file table 1 place) is_planned is_read.sections) in
    let none = no_table_below file table 1 place (map asked plans) (asked_other 2 plans refl refl) sections null in
    let index : 1 + length (map asked plans) ≡ length plans + 1 = omega arith in
    let none_below : symbol_table_below file (length plans + 1) ≡ None = subst (λ (k : ℕ). symbol_table_below file k ≡ None) index none in
    let counted : section_count file ≡ length planned + 1 = is_read.count in
    let count : section_count file ≡ length plans + 1 + 1 + length rest = omega arith in
    table_found file table (length plans + 1) (length rest) (place + length (contents (map asked plans))) t kind at count none_below

pub symbols_found : (file table : List ℕ) (plans : List SectionPlan) (symbols : List SymbolPlan) (planned rest : List Planned) (t n : Planned) (place : ℕ) → IsRead file table plans planned
    → planned ≡ map asked plans ++ t ∷ n ∷ rest → place ≡ content_place plans + length (contents (map asked plans)) → HasSymbols plans symbols t n → All IsSymbol symbols
    → all_symbols file ≡ null_symbol place ∷ symbols_from (place + 16) symbols
symbols_found file table plans symbols planned rest t n place is_read is_planned is_place has fit =
    let number : ℕ = length plans + 1 in
    let asked_size : length (map asked plans) ≡ length plans = length-map plans asked in
    let index : 1 + length (map asked plans) ≡ number = omega arith in
    let sections = subst (AreSections file table 1 (content_place plans)) is_planned is_read.sections in
    let at = sections_behind file table 1 number (content_place plans) (content_place plans + length (contents (map asked plans))) (map asked plans) (t ∷ n ∷ rest) index refl sections in
    let found = table_number file table plans planned (n ∷ rest) t is_read is_planned has.kind at.0 in
    let table_size : (section_header file number).sh_size ≡ t.size = at.0.header.size in
    let planned_size : t.size ≡ 16 + 16 * length symbols = has.size in
    let count : symbol_count_of (section_header file number) ≡ 1 + length symbols = omega arith in
    let start : (section_header file number).sh_offset ≡ content_place plans + length (contents (map asked plans)) = at.0.header.offset in
    let null_at : symbol_at file number 0 ≡ place = omega arith in
    let first_at : symbol_at file number 1 ≡ place + 16 = omega arith in
    let names : symbol_names file number ≡ n.content = ap (section_content file) (at.0.header.link ∙ has.link) ∙ at.1.0.content in
    let names_length : length n.content ≡ suc (length (ended_names (map symbol_name symbols))) = ap length has.names in
    let short : length n.content < 16777216 = has.names_size in
    let names_fit : 1 + length (ended_names (map symbol_name symbols)) < 16777216 = omega arith in
    let bytes : Stands file place (zero_bytes 16 ++ symbols_bytes 1 symbols) = subst (λ (p : ℕ). Stands file p (zero_bytes 16 ++ symbols_bytes 1 symbols)) (sym is_place) (subst (Stands file _) has.bytes at.0.bytes) in
    let table_names : Stands n.content 1 (ended_names (map symbol_name symbols)) =
    stands_behind n.content 0 1 (0 ∷ []) (ended_names (map symbol_name symbols)) refl (subst (Stands n.content 0) has.names (stands_whole n.content))
    in
    let null : symbol_of file number 0 ≡ null_symbol place =
    null_symbol_is file n.content (ended_names (map symbol_name symbols)) number place names has.names null_at (stands_first file place (zero_bytes 16) (symbols_bytes 1 symbols) bytes)
    in
    let others =
    symbols_are file n.content number 1 (place + 16) 1 symbols names first_at fit names_fit
    (stands_behind file place (place + 16) (zero_bytes 16) (symbols_bytes 1 symbols) refl bytes) table_names
    in
    ap (symbols_in file) found ∙ (ap (symbols_below file number) count ∙ (others ∙ ap (λ (x : PlainSymbol). x ∷ symbols_from (place + 16) symbols) null))

-- ---- relocations

pub relocations_found : (file table : List ℕ) (plans : List SectionPlan) (planned : List Planned) (symbols : ℕ) (t n last : Planned) → IsRead file table plans planned
    → planned ≡ map asked plans ++ t ∷ n ∷ (relocation_sections symbols 1 plans ++ last ∷ []) → IsOther 4 t → IsOther 4 n → IsOther 4 last → All IsSection plans
    → all_relocations file ≡ relocations_from 1 plans
relocations_found file table plans planned symbols t n last is_read is_planned t_other n_other last_other fit =
    let place = content_place plans in
    let tables : List Planned = t ∷ n ∷ [] in
    let rs = relocation_sections symbols 1 plans in
    let first : ℕ = 1 + length (map asked plans) in
    let first_place : ℕ = place + length (contents (map asked plans)) in
    let second : ℕ = first + 2 in
    let second_place : ℕ = first_place + length (contents tables) in
    let third : ℕ = second + length rs in
    let third_place : ℕ = second_place + length (contents rs) in
    let all = subst (AreSections file table 1 place) is_planned is_read.sections in
    let asked_sections = sections_first file table 1 place (map asked plans) (tables ++ (rs ++ last ∷ [])) all in
    let behind_asked = sections_behind file table 1 first place first_place (map asked plans) (tables ++ (rs ++ last ∷ [])) refl refl all in
    let behind_tables = sections_behind file table first second first_place second_place tables (rs ++ last ∷ []) refl refl behind_asked in
    let behind_relocations = sections_behind file table second third second_place third_place rs (last ∷ []) refl refl behind_tables in
    let size : length planned ≡ length (map asked plans) + suc (suc (length rs + 1)) = ap length is_planned ∙ (length-append (map asked plans) (t ∷ n ∷ (rs ++ last ∷ [])) ∙ ap (λ (m : ℕ). length (map asked plans) + suc (suc m)) (length-append rs (last ∷ []))) in
    let asked_size : length (map asked plans) ≡ length plans = length-map plans asked in
    let counted : section_count file ≡ length planned + 1 = is_read.count in
    let count : section_count file ≡ third + 1 = omega arith in
    let within : 1 + length plans ≤ section_count file = omega arith in
    let none : relocations_below file 1 ≡ [] = no_relocations file table 0 0 (null_planned ∷ []) (All-cons (IsOther 4) null_planned [] refl (All-nil (IsOther 4))) (is_read.null, tt) in
    let none_asked = no_relocations file table 1 place (map asked plans) (asked_other 4 plans refl refl) asked_sections in
    let none_tables =
    no_relocations file table first first_place tables (All-cons (IsOther 4) t (n ∷ []) t_other (All-cons (IsOther 4) n [] n_other (All-nil (IsOther 4))))
    (sections_first file table first first_place tables (rs ++ last ∷ []) behind_asked)
    in
    let some = relocations_are file table symbols 1 place second second_place plans asked_sections (sections_first file table second second_place rs (last ∷ []) behind_tables) fit within in
    let none_last = no_relocations file table third third_place (last ∷ []) (All-cons (IsOther 4) last [] last_other (All-nil (IsOther 4))) behind_relocations in
    let before : relocations_below file second ≡ [] = none_tables ∙ (append-nil (relocations_below file first) ∙ (none_asked ∙ (append-nil (relocations_below file 1) ∙ none))) in
    ap (relocations_below file) count ∙ (none_last ∙ (append-nil (relocations_below file third) ∙ (some ∙ ap (λ (xs : List Reloc). xs ++ relocations_from 1 plans) before)))
