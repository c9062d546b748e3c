-- A built file says what was planned.
use Rattle.std.proofs.Common.{◌≡◌, ◌≢◌, ℕ, suc, ◌+◌, ◌<◌, ◌≤◌, List, [], ◌∷◌, ◌++◌, length, map, refl, ap, sym, subst, ◌∙◌, arith, codes, append_assoc, length-append}
use Rattle.std.specs.List.{All}
use Rattle.std.proofs.lemmas.List.{length-map, map-append}
use Rattle.std.proofs.lemmas.List.Elements.{All-from_recursion}
use Rattle.elf_reader.specs.File.{view_in}
use Rattle.workload_gen.specs.Plan.{SectionPlan, SymbolPlan, FilePlan}
use Rattle.elf_writer.specs.Pieces.{IsWord, padded, ended_names, string_table}
use Rattle.workload_gen.specs.Built.{Planned, planned_name, symbol_name, asked, contents, symbol_table_number, symbol_table_of, names_of, relocation_sections, named_sections, section_names_name, planned_sections, first_place, built}
use Rattle.workload_gen.specs.Readable.{IsSection, IsSymbol, null_section, null_symbol, segments_from, sections_from, symbols_from, relocations_from, sections_size, symbol_table_place, ReadsBack}
use Rattle.workload_gen.proofs.Layouts.{content_place, IsLaidOut, laid_out, few_relocation_sections}
use Rattle.workload_gen.proofs.SectionsRead.{IsPlanned}
use Rattle.workload_gen.proofs.SymbolsRead.{length-symbols}
use Rattle.workload_gen.proofs.TableFound.{IsOther}
use Rattle.workload_gen.proofs.PlannedFit.{symbol_table_fits, names_fit, all_relocations_fit, all_fit}
use Rattle.workload_gen.proofs.Assembled.{content_within, HasSymbols, segments_found, sections_read, sections_found, symbols_found, relocations_found}

length-asked : (ss : List SectionPlan) → length (contents (map asked ss)) ≡ sections_size ss
length-asked [] = refl
length-asked (s ∷ ss) = length-append (padded s.content) (contents (map asked ss)) ∙ ap (λ (n : ℕ). length (padded s.content) + n) (length-asked ss)

-- the sections of a plan: those asked for, the symbol table, the names of symbols, the relocations, and the
-- names of sections
record IsShape (plans : List SectionPlan) (planned : List Planned) (table : ℕ) (t n last : Planned) : Type 0 where
  list : planned ≡ map asked plans ++ t ∷ n ∷ relocation_sections table 1 plans ++ last ∷ []
  names : last.content ≡ string_table (map planned_name planned)
  t_other : IsOther 4 t
  n_other : IsOther 4 n
  last_other : IsOther 4 last
  t_fits : IsPlanned t
  n_fits : IsPlanned n
  last_fits : IsPlanned last

few_planned : (plans : List SectionPlan) (table : ℕ) (t n last : Planned) → length plans ≤ 60
    → length (map asked plans ++ t ∷ n ∷ relocation_sections table 1 plans ++ last ∷ []) ≤ 123
few_planned plans table t n last few =
    let rs = relocation_sections table 1 plans in
    let whole = length-append (map asked plans ++ t ∷ n ∷ rs) (last ∷ []) in
    let front = length-append (map asked plans) (t ∷ n ∷ rs) in
    let asked_size = length-map plans asked in
    let few_relocations = few_relocation_sections table 1 plans in
    omega arith

-- the table of symbols' names is no longer than all contents
names_within : (plans : List SectionPlan) (t n last : Planned) (rs : List Planned) → length n.content ≤ length (contents (map asked plans ++ t ∷ n ∷ rs ++ last ∷ []))
names_within plans t n last rs =
    let front : List Planned = map asked plans ++ t ∷ [] in
    let list_is : map asked plans ++ t ∷ n ∷ rs ++ last ∷ [] ≡ front ++ n ∷ (rs ++ last ∷ []) =
    append_assoc (map asked plans) (t ∷ n ∷ rs) (last ∷ []) ∙ sym (append_assoc (map asked plans) (t ∷ []) (n ∷ (rs ++ last ∷ [])))
    in
    subst (λ (xs : List Planned). length n.content ≤ length (contents xs)) (sym list_is) (content_within front (rs ++ last ∷ []) n)

-- what a file says where the parts stand as planned
view_is : (file : List ℕ) (entry : ℕ) (plans : List SectionPlan) (symbols : List SymbolPlan) (planned : List Planned) (table place : ℕ) (t n last : Planned)
    → IsLaidOut file entry plans planned → length plans ≤ 60 → IsWord table → All IsSection plans → All IsSymbol symbols → IsShape plans planned table t n last
    → HasSymbols plans symbols t n → place ≡ content_place plans + length (contents (map asked plans))
    → view_in file ≡ record {
      bytes = file;
      entry = entry;
      flags = 0;
      ph_at = 52;
      ph_count = length plans;
      segments = segments_from 0 (content_place plans) plans;
      sections = null_section ∷ sections_from (content_place plans) planned;
      symbols = null_symbol place ∷ symbols_from (place + 16) symbols;
      relocs = relocations_from 1 plans;
    }
view_is file entry plans symbols planned table place t n last laid few table_fits fit symbols_fit shape has is_place =
    let rs = relocation_sections table 1 plans in
    let front : List Planned = map asked plans ++ t ∷ n ∷ rs in
    let rest : List Planned = t ∷ n ∷ (rs ++ last ∷ []) in
    let list : planned ≡ map asked plans ++ rest = shape.list ∙ append_assoc (map asked plans) (t ∷ n ∷ rs) (last ∷ []) in
    let planned_fit = subst (All IsPlanned) (sym shape.list) (all_fit plans t n last rs fit shape.t_fits shape.n_fits (all_relocations_fit table 1 plans table_fits (omega arith) fit) shape.last_fits) in
    let is_read = sections_read file last.content (ended_names (map planned_name planned)) entry plans planned front last laid planned_fit shape.list refl shape.names refl in
    let segments = segments_found file entry plans planned rest laid fit list in
    let sections = sections_found file last.content plans planned is_read in
    let symbols_are = symbols_found file last.content plans symbols planned (rs ++ last ∷ []) t n place is_read list is_place has symbols_fit in
    let relocs = relocations_found file last.content plans planned table t n last is_read list shape.t_other shape.n_other shape.last_other fit in
    λ i.
    record {
      bytes = file;
      entry = laid.header.entry_is i;
      flags = laid.header.flags_is i;
      ph_at = laid.header.programs_at_is i;
      ph_count = laid.header.programs_is i;
      segments = segments i;
      sections = sections i;
      symbols = symbols_are i;
      relocs = relocs i;
    }

-- the sections of any tables have that shape
shape_is : (plans : List SectionPlan) (table : ℕ) (t n : Planned) → IsOther 4 t → IsOther 4 n → IsPlanned t → IsPlanned n
    → let named = map asked plans ++ t ∷ n ∷ relocation_sections table 1 plans in
    let last = names_of section_names_name (map planned_name named ++ section_names_name ∷ []) in
    IsShape plans (named ++ last ∷ []) table t n last
shape_is plans table t n t_other n_other t_fits n_fits =
    let named : List Planned = map asked plans ++ t ∷ n ∷ relocation_sections table 1 plans in
    let last : Planned = names_of section_names_name (map planned_name named ++ section_names_name ∷ []) in
    record {
      list = refl;
      names = ap string_table (sym (map-append planned_name named (last ∷ [])));
      t_other = t_other;
      n_other = n_other;
      last_other = refl;
      t_fits = t_fits;
      n_fits = n_fits;
      last_fits = names_fit section_names_name (map planned_name named ++ section_names_name ∷ []) (All-from_recursion (λ byte. byte ≢ 0) section_names_name (omega arith));
    }

has_symbols : (f : FilePlan) → length (ended_names (map symbol_name f.symbols)) + 1 < 16777216
    → HasSymbols f.sections f.symbols (symbol_table_of f) (names_of (codes ".strtab") (map symbol_name f.symbols))
has_symbols f small =
    let size = length-symbols 1 f.symbols in
    record { kind = refl; link = refl; size = omega arith; bytes = refl; names = refl; names_size = omega arith }

strings_small : (names place size : ℕ) → suc names ≤ size → place + size < 16777216 → names + 1 < 16777216
strings_small names place size within small = omega arith

number_fits : (sections : ℕ) → sections ≤ 60 → IsWord (sections + 1)
number_fits sections few = omega arith

pub says_what_was_planned : ReadsBack
says_what_was_planned f fits =
    let few : length f.sections ≤ 60 = fits.section_count in
    let t : Planned = symbol_table_of f in
    let n : Planned = names_of (codes ".strtab") (map symbol_name f.symbols) in
    let rs = relocation_sections (symbol_table_number f) 1 f.sections in
    let last : Planned = names_of section_names_name (map planned_name (named_sections f) ++ section_names_name ∷ []) in
    let strings_fit = names_fit (codes ".strtab") (map symbol_name f.symbols) (All-from_recursion (λ byte. byte ≢ 0) (codes ".strtab") (omega arith)) in
    let shape = shape_is f.sections (symbol_table_number f) t n refl refl (symbol_table_fits f few) strings_fit in
    let laid = laid_out f.entry f.sections (planned_sections f) (built f) fits.entry few (few_planned f.sections (symbol_table_number f) t n last few) refl fits.total in
    let within : length n.content ≤ length (contents (planned_sections f)) = names_within f.sections t n last rs in
    let names_small = strings_small (length (ended_names (map symbol_name f.symbols))) (content_place f.sections) (length (contents (planned_sections f))) within laid.size in
    let place : symbol_table_place f ≡ content_place f.sections + length (contents (map asked f.sections)) = ap (λ (m : ℕ). first_place f + m) (sym (length-asked f.sections)) in
    view_is (built f) f.entry f.sections f.symbols (planned_sections f) (symbol_table_number f) (symbol_table_place f) t n last laid few (number_fits (length f.sections) few) fits.sections fits.symbols shape
    (has_symbols f names_small) place
