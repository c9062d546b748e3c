-- The symbols of a built file, read back.
use Rattle.std.proofs.Common.{◌≡◌, ℕ, suc, ◌+◌, ◌*◌, ◌%◌, ◌<◌, List, [], ◌∷◌, ◌++◌, length, map, refl, ap, sym, subst, ◌∙◌, arith, length-append}
use Rattle.std.specs.List.{All}
use Rattle.std.proofs.lemmas.List.Elements.{All-head, All-tail}
use Rattle.elf_reader.specs.Layout.{symbol_at, symbol_record}
use Rattle.elf_reader.specs.Sections.{name_in, symbol_names}
use Rattle.elf_reader.specs.File.{PlainSymbol, symbol_of, symbols_below}
use Rattle.workload_gen.specs.Plan.{SymbolPlan}
use Rattle.elf_writer.specs.Pieces.{IsWord, zero_bytes, ended_names, name_size}
use Rattle.workload_gen.specs.Built.{symbol_bytes, symbols_bytes, symbol_name}
use Rattle.workload_gen.specs.Readable.{IsSymbol, null_symbol, symbols_from}
use Rattle.elf_writer.proofs.Standing.{Stands, stands_first, stands_behind, name_there, next_name_there}
use Rattle.workload_gen.proofs.Records.{IsRecord, symbol_there}
use Rattle.workload_gen.proofs.Steps.{grown_none, grown_more}

-- an entry whose name stands in the table of names
symbol_is : (file names : List ℕ) (table i place name_at value size info section kind : ℕ) (name : List ℕ) → symbol_names file table ≡ names → symbol_at file table i ≡ place
    → info % 16 ≡ kind → name_in names name_at ≡ name → IsRecord file (symbol_at file table i) name_at value size info section
    → symbol_of file table i ≡ record { name = name; value = value; size = size; kind = kind; section = section; at = place }
symbol_is file names table i place name_at value size info section kind name names_are is_place low name_is entry =
    let the_name : name_in (symbol_names file table) (symbol_record file table i).st_name ≡ name =
    ap (name_in (symbol_names file table)) entry.name_is ∙ (ap (λ (t : List ℕ). name_in t name_at) names_are ∙ name_is)
    in
    let the_kind : (symbol_record file table i).st_info % 16 ≡ kind = ap (λ (n : ℕ). n % 16) entry.info_is ∙ low in
    λ j.
    record {
      name = the_name j;
      value = entry.value_is j;
      size = entry.size_is j;
      kind = the_kind j;
      section = entry.section_is j;
      at = is_place j;
    }

abbrev pub symbol_from : ℕ → SymbolPlan → PlainSymbol
symbol_from place s = record { name = s.name; value = s.value; size = s.size; kind = s.kind; section = s.section; at = place }

symbol_read : (file names : List ℕ) (table i place name_at : ℕ) (s : SymbolPlan) (rest : List ℕ) → symbol_names file table ≡ names → symbol_at file table i ≡ place → IsSymbol s → IsWord name_at
    → Stands file (symbol_at file table i) (symbol_bytes name_at s) → Stands names name_at (s.name ++ 0 ∷ rest)
    → symbol_of file table i ≡ symbol_from place s
symbol_read file names table i place name_at s rest names_are is_place fits name_fits bytes name =
    let kind_fits : s.kind < 16 = fits.kind in
    let low : (16 + s.kind) % 256 % 16 ≡ s.kind = omega arith in
    symbol_is file names table i place name_at s.value s.size ((16 + s.kind) % 256) s.section s.kind s.name names_are is_place low
    (name_there names name_at s.name rest fits.name name)
    (symbol_there file (symbol_at file table i) name_at s.value s.size ((16 + s.kind) % 256) s.section name_fits fits.value fits.size fits.section bytes)

-- the null symbol
pub null_symbol_is : (file names rest : List ℕ) (table place : ℕ) → symbol_names file table ≡ names → names ≡ 0 ∷ rest → symbol_at file table 0 ≡ place
    → Stands file place (zero_bytes 16) → symbol_of file table 0 ≡ null_symbol place
null_symbol_is file names rest table place names_are begins is_place bytes =
    symbol_is file names table 0 place 0 0 0 0 0 0 [] names_are is_place refl (ap (λ (t : List ℕ). name_in t 0) begins)
    (symbol_there file (symbol_at file table 0) 0 0 0 0 0 (omega arith) (omega arith) (omega arith) (omega arith) (subst (λ (n : ℕ). Stands file n (zero_bytes 16)) (sym is_place) bytes))

pub symbols_are : (file names : List ℕ) (table i place name_at : ℕ) (ss : List SymbolPlan) → symbol_names file table ≡ names → symbol_at file table i ≡ place → All IsSymbol ss
    → name_at + length (ended_names (map symbol_name ss)) < 16777216
    → Stands file place (symbols_bytes name_at ss) → Stands names name_at (ended_names (map symbol_name ss))
    → symbols_below file table (i + length ss) ≡ symbols_below file table i ++ symbols_from place ss
symbols_are file names table i place name_at [] names_are is_place fit name_fits bytes names_there = grown_none (symbols_below file table) i
symbols_are file names table i place name_at (s ∷ ss) names_are is_place fit name_fits bytes names_there =
    let next_name : ℕ = name_at + name_size s.name in
    let here = symbol_bytes name_at s in
    let later = symbols_bytes next_name ss in
    let later_names = ended_names (map symbol_name ss) in
    let names_size : length (s.name ++ 0 ∷ later_names) ≡ length s.name + suc (length later_names) = length-append s.name (0 ∷ later_names) in
    let name_here : IsWord name_at = omega arith in
    let names_fit : next_name + length later_names < 16777216 = omega arith in
    let next_place : symbol_at file table (i + 1) ≡ place + 16 = omega arith in
    let first =
    symbol_read file names table i place name_at s later_names names_are is_place (All-head IsSymbol s ss fit) name_here
    (subst (λ (n : ℕ). Stands file n here) (sym is_place) (stands_first file place here later bytes)) names_there
    in
    grown_more (symbols_below file table) i (length ss) (symbol_from place s ∷ []) (symbols_from (place + 16) ss)
    (ap (λ (x : PlainSymbol). symbols_below file table i ++ x ∷ []) first)
    (symbols_are file names table (i + 1) (place + 16) next_name ss names_are next_place (All-tail IsSymbol s ss fit) names_fit
    (stands_behind file place (place + 16) here later refl bytes) (next_name_there names name_at s.name later_names names_there))

pub length-symbols : (name_at : ℕ) (ss : List SymbolPlan) → length (symbols_bytes name_at ss) ≡ 16 * length ss
length-symbols name_at [] = refl
length-symbols name_at (s ∷ ss) = let later = length-symbols (name_at + name_size s.name) ss in omega arith
