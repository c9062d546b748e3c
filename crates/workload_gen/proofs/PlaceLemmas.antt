-- Of a place in the file, and of a place in a string table, the low 32 bits decide what is written.
use Rattle.std.proofs.Common.{◌≡◌, ℕ, ◌+◌, ◌%◌, List, [], ◌∷◌, length, refl, arith}
use Rattle.workload_gen.specs.Plan.{SectionPlan, SymbolPlan}
use Rattle.elf_writer.specs.Pieces.{word_bytes, padded, name_size}
use Rattle.workload_gen.specs.Built.{Planned, symbols_bytes, program_headers, section_headers}
use Rattle.workload_gen.proofs.ByteLemmas.{same_word, low_word}

pub same_symbols :
    (a b : ℕ) (ss : List SymbolPlan) → a % 4294967296 ≡ b % 4294967296 → symbols_bytes a ss ≡ symbols_bytes b ss
same_symbols a b [] same = refl
same_symbols a b (s ∷ ss) same =
    let first : word_bytes a ≡ word_bytes b = same_word a b same in
    let next : (a + name_size s.name) % 4294967296 ≡ (b + name_size s.name) % 4294967296 = omega arith in
    let rest : symbols_bytes (a + name_size s.name) ss ≡ symbols_bytes (b + name_size s.name) ss =
    same_symbols (a + name_size s.name) (b + name_size s.name) ss next in
    cc

pub symbols_wrap : (n : ℕ) (ss : List SymbolPlan) → symbols_bytes (n % 18446744073709551616) ss ≡ symbols_bytes n ss
symbols_wrap n ss = same_symbols (n % 18446744073709551616) n ss (low_word n)

pub same_programs :
    (a b : ℕ) (ss : List SectionPlan) → a % 4294967296 ≡ b % 4294967296 → program_headers a ss ≡ program_headers b ss
same_programs a b [] same = refl
same_programs a b (s ∷ ss) same =
    let first : word_bytes a ≡ word_bytes b = same_word a b same in
    let size : ℕ = length (padded s.content) in
    let next : (a + size) % 4294967296 ≡ (b + size) % 4294967296 = omega arith in
    let rest : program_headers (a + size) ss ≡ program_headers (b + size) ss = same_programs (a + size) (b + size) ss next in
    cc

pub programs_wrap :
    (place : ℕ) (ss : List SectionPlan) → program_headers (place % 18446744073709551616) ss ≡ program_headers place ss
programs_wrap place ss = same_programs (place % 18446744073709551616) place ss (low_word place)

pub same_sections :
    (a b m n : ℕ) (ss : List Planned)
    → a % 4294967296 ≡ b % 4294967296
    → m % 4294967296 ≡ n % 4294967296
    → section_headers a m ss ≡ section_headers b n ss
same_sections a b m n [] same same_name = refl
same_sections a b m n (s ∷ ss) same same_name =
    let first : word_bytes a ≡ word_bytes b = same_word a b same in
    let second : word_bytes m ≡ word_bytes n = same_word m n same_name in
    let size : ℕ = length (padded s.content) in
    let next : (a + size) % 4294967296 ≡ (b + size) % 4294967296 = omega arith in
    let next_name : (m + name_size s.name) % 4294967296 ≡ (n + name_size s.name) % 4294967296 = omega arith in
    let rest : section_headers (a + size) (m + name_size s.name) ss ≡ section_headers (b + size) (n + name_size s.name) ss =
    same_sections (a + size) (b + size) (m + name_size s.name) (n + name_size s.name) ss next next_name in
    cc

pub sections_wrap :
    (place name_at : ℕ) (ss : List Planned)
    → section_headers (place % 18446744073709551616) (name_at % 18446744073709551616) ss ≡ section_headers place name_at ss
sections_wrap place name_at ss =
    same_sections
    (place % 18446744073709551616)
    place
    (name_at % 18446744073709551616)
    name_at
    ss
    (low_word place)
    (low_word name_at)
