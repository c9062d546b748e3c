-- The sections of a plan that can be built fit their headers.
use Rattle.std.proofs.Common.{◌≡◌, ◌≢◌, ℕ, ◌+◌, ◌<◌, ◌≤◌, ◌==◌, ltb, true, false, List, [], ◌∷◌, ◌++◌, length, map, get_or, ◌⊎◌, refl, arith, inl, inr, codes}
use Rattle.std.specs.List.{All}
use Rattle.std.proofs.lemmas.Bool.{cases_Bool, cond_both, ltb-true}
use Rattle.std.proofs.lemmas.List.Elements.{All-head, All-tail, All-nil, All-cons, All-append, All-map, All-from_recursion}
use Rattle.elf_reader.specs.Sections.{stands_in_file}
use Rattle.elf_writer.specs.Pieces.{IsWord, IsName}
use Rattle.workload_gen.specs.Plan.{SectionPlan, FilePlan}
use Rattle.workload_gen.specs.Built.{Planned, kind_of, memory_size, asked, symbol_table_of, names_of, relocations_of, has_relocations, relocation_sections}
use Rattle.workload_gen.specs.Readable.{IsSection}
use Rattle.workload_gen.proofs.SectionsRead.{IsPlanned}
use Rattle.workload_gen.proofs.TableFound.{IsOther}

-- a section that is asked for
asked_size : (s : SectionPlan) → IsSection s
    → ((stands_in_file (kind_of s) ≡ true) × (memory_size s ≡ length s.content)) ⊎ ((stands_in_file (kind_of s) ≡ false) × (s.content ≡ []) × IsWord (memory_size s))
asked_size s fits =
    elim (cases_Bool (ltb 0 s.empty)) [
      | inl some ↦
          let above : 0 < s.empty = ltb-true 0 s.empty some in
          let no_bytes : s.content ≡ [] = elim fits.bytes [ inl none ↦ absurd (omega arith) | inr empty ↦ empty ] in
          inr (rw some refl, no_bytes, rw some fits.empty)
      | inr none ↦ inl (rw none refl, rw none refl)
    ]

asked_fits : (s : SectionPlan) → IsSection s → IsPlanned (asked s)
asked_fits s fits =
    record {
      name = fits.name;
      kind = cond_both (ltb 0 s.empty) 8 1 IsWord (λ _. omega arith) (λ _. omega arith);
      flags = fits.flags;
      addr = fits.addr;
      link = omega arith;
      info = omega arith;
      size = asked_size s fits;
    }

pub all_asked_fit : (ss : List SectionPlan) → All IsSection ss → All IsPlanned (map asked ss)
all_asked_fit ss fit = All-map IsPlanned asked ss (λ k d within. asked_fits (get_or ss k d) (fit k d within))

-- neither symbols nor relocations stand in it
pub asked_other : (kind : ℕ) (ss : List SectionPlan) → (8 == kind) ≡ false → (1 == kind) ≡ false → All (IsOther kind) (map asked ss)
asked_other kind ss empty bytes =
    All-map (IsOther kind) asked ss (λ k d within. cond_both (ltb 0 (get_or ss k d).empty) 8 1 (λ n. (n == kind) ≡ false) (λ _. empty) (λ _. bytes))

-- a section that stands in the file
with_content : (s : Planned) → IsName s.name → IsWord s.kind → IsWord s.flags → IsWord s.addr → IsWord s.link → IsWord s.info → (stands_in_file s.kind ≡ true) × (s.size ≡ length s.content) → IsPlanned s
with_content s name kind flags addr link info size =
    record { name = name; kind = kind; flags = flags; addr = addr; link = link; info = info; size = inl size }

-- the symbol table, the tables of names, and the relocations
pub symbol_table_fits : (f : FilePlan) → length f.sections ≤ 60 → IsPlanned (symbol_table_of f)
symbol_table_fits f few =
    with_content (symbol_table_of f) (All-from_recursion (λ byte. byte ≢ 0) (codes ".symtab") (omega arith)) (omega arith) (omega arith) (omega arith) (omega arith) (omega arith) (refl, refl)

pub names_fit : (name : List ℕ) (names : List (List ℕ)) → IsName name → IsPlanned (names_of name names)
names_fit name names is_name =
    with_content (names_of name names) is_name (omega arith) (omega arith) (omega arith) (omega arith) (omega arith) (refl, refl)

relocations_fit : (table k : ℕ) (s : SectionPlan) → IsWord table → IsWord k → IsName s.name → IsPlanned (relocations_of table k s)
relocations_fit table k s table_fits section_fits name =
    with_content (relocations_of table k s)
    (All-append (λ byte. byte ≢ 0) (codes ".rela") s.name (All-from_recursion (λ byte. byte ≢ 0) (codes ".rela") (omega arith)) name)
    (omega arith) (omega arith) (omega arith) table_fits section_fits (refl, refl)

pub all_relocations_fit : (table k : ℕ) (ss : List SectionPlan) → IsWord table → k + length ss < 4294967296 → All IsSection ss → All IsPlanned (relocation_sections table k ss)
all_relocations_fit table k [] table_fits few fit = All-nil IsPlanned
all_relocations_fit table k (s ∷ ss) table_fits few fit =
    let this = relocations_of table k s in
    let rest = relocation_sections table (k + 1) ss in
    let later = all_relocations_fit table (k + 1) ss table_fits (omega arith) (All-tail IsSection s ss fit) in
    let name = (All-head IsSection s ss fit).name in
    cond_both (has_relocations s) (this ∷ rest) rest (All IsPlanned)
    (λ some. All-cons IsPlanned this rest (relocations_fit table k s table_fits (omega arith) name) later) (λ none. later)

-- all of them
pub all_fit : (plans : List SectionPlan) (t n last : Planned) (rs : List Planned) → All IsSection plans → IsPlanned t → IsPlanned n → All IsPlanned rs → IsPlanned last
    → All IsPlanned (map asked plans ++ t ∷ n ∷ rs ++ last ∷ [])
all_fit plans t n last rs fit t_fits n_fits rs_fit last_fits =
    All-append IsPlanned (map asked plans ++ t ∷ n ∷ rs) (last ∷ [])
    (All-append IsPlanned (map asked plans) (t ∷ n ∷ rs) (all_asked_fit plans fit) (All-cons IsPlanned t (n ∷ rs) t_fits (All-cons IsPlanned n rs n_fits rs_fit)))
    (All-cons IsPlanned last [] last_fits (All-nil IsPlanned))
