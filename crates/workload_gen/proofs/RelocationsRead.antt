-- The relocations of a built file, read back.
use Rattle.std.proofs.Common.{◌≡◌, ℕ, ◌+◌, ◌*◌, ◌/◌, ◌<◌, ◌≤◌, ◌==◌, ltb, false, not, ◌&&◌, if◌then◌else◌, List, [], ◌∷◌, ◌++◌, length, map, refl, ap, sym, subst, ◌∙◌, arith, inl, inr}
use Rattle.std.specs.List.{All}
use Rattle.std.proofs.lemmas.Bool.{cases_Bool, lt-ltb, ltb-false, cond-true, cond-false}
use Rattle.std.proofs.lemmas.List.{nil_from_length}
use Rattle.std.proofs.lemmas.List.Elements.{All-head, All-tail}
use Rattle.elf_reader.specs.Layout.{section_header, section_count, relocation_at}
use Rattle.elf_reader.specs.Sections.{bit_of, is_read, relocation_count_at}
use Rattle.elf_reader.specs.File.{relocation_of, relocations_within, relocations_below}
use Rattle.elf_reader.specs.declared.view.Reloc.{Reloc}
use Rattle.workload_gen.specs.Plan.{SectionPlan}
use Rattle.elf_writer.specs.Pieces.{padded}
use Rattle.workload_gen.specs.Built.{Planned, asked, relocation_bytes, relocations_bytes, relocations_of, has_relocations, relocation_sections}
use Rattle.workload_gen.specs.Readable.{IsRelocation, IsSection, relocation_in, relocations_from}
use Rattle.elf_writer.proofs.Standing.{Stands, stands_first, stands_behind}
use Rattle.workload_gen.proofs.Records.{IsEntry, relocation_there}
use Rattle.workload_gen.proofs.SectionsRead.{IsSectionAt, AreSections}
use Rattle.workload_gen.proofs.TableFound.{IsOther}
use Rattle.workload_gen.proofs.Steps.{grown_none, grown_more}

-- ---- the entries of one section

relocation_is : (file : List ℕ) (k i target : ℕ) (r : Reloc) → (section_header file k).sh_info ≡ target → IsEntry file (relocation_at file k i) r
    → relocation_of file k i ≡ relocation_in target r
relocation_is file k i target r info entry =
    λ j. record { at = entry.place j; kind = entry.kind j; symbol = entry.symbol j; addend = entry.addend j; section = info j }

entries_are : (file : List ℕ) (k i target place : ℕ) (rs : List Reloc) → (section_header file k).sh_info ≡ target → relocation_at file k i ≡ place → All IsRelocation rs
    → Stands file place (relocations_bytes rs) → relocations_within file k (i + length rs) ≡ relocations_within file k i ++ map (relocation_in target) rs
entries_are file k i target place [] info is_place fit bytes = grown_none (relocations_within file k) i
entries_are file k i target place (r ∷ rs) info is_place fit bytes =
    let here = relocation_bytes r in
    let later = relocations_bytes rs in
    let next_place : relocation_at file k (i + 1) ≡ place + 12 = omega arith in
    let entry = relocation_there file (relocation_at file k i) r (All-head IsRelocation r rs fit) (subst (λ (n : ℕ). Stands file n here) (sym is_place) (stands_first file place here later bytes)) in
    grown_more (relocations_within file k) i (length rs) (relocation_in target r ∷ []) (map (relocation_in target) rs)
    (ap (λ (x : Reloc). relocations_within file k i ++ x ∷ []) (relocation_is file k i target r info entry))
    (entries_are file k (i + 1) target (place + 12) rs info next_place (All-tail IsRelocation r rs fit) (stands_behind file place (place + 12) here later refl bytes))

length-relocations : (rs : List Reloc) → length (relocations_bytes rs) ≡ 12 * length rs
length-relocations [] = refl
length-relocations (r ∷ rs) = let later = length-relocations rs in omega arith

-- ---- whether they are read

-- the relocations of section `target`, if that one is allocated
abbrev pub relocations_for : ℕ → SectionPlan → List Reloc
relocations_for target s = if bit_of s.flags 1 then map (relocation_in target) s.relocs else []

read_if_allocated : (file table : List ℕ) (k place target symbols : ℕ) (s : SectionPlan) → IsSectionAt file table k place (relocations_of symbols target s)
    → target < section_count file → (section_header file target).sh_flags ≡ s.flags → is_read file k ≡ bit_of s.flags 1
read_if_allocated file table k place target symbols s at within flags =
    let found : is_read file k ≡ (ltb target (section_count file) && bit_of (section_header file target).sh_flags 1) =
    λ i.
    ((at.header.kind i == 4) && not (bit_of (at.header.flags i) 1))
    && (ltb (at.header.info i) (section_count file) && bit_of (section_header file (at.header.info i)).sh_flags 1)
    in
    let is_section = lt-ltb target (section_count file) within in
    found ∙ (λ i. is_section i && bit_of (flags i) 1)

relocations_read : (file table : List ℕ) (k place target symbols : ℕ) (s : SectionPlan) → IsSectionAt file table k place (relocations_of symbols target s) → All IsRelocation s.relocs
    → target < section_count file → (section_header file target).sh_flags ≡ s.flags
    → relocations_within file k (relocation_count_at file k) ≡ relocations_for target s
relocations_read file table k place target symbols s at fit within flags =
    let read = read_if_allocated file table k place target symbols s at within flags in
    let size = length-relocations s.relocs in
    let header_size : (section_header file k).sh_size ≡ length (relocations_bytes s.relocs) = at.header.size in
    let count : (section_header file k).sh_size / 12 ≡ length s.relocs = omega arith in
    let start : (section_header file k).sh_offset ≡ place = at.header.offset in
    let first_place : relocation_at file k 0 ≡ place = omega arith in
    elim (cases_Bool (bit_of s.flags 1)) [
      | inl allocated ↦
          let is_counted : relocation_count_at file k ≡ length s.relocs = cond-true (is_read file k) ((section_header file k).sh_size / 12) 0 (read ∙ allocated) ∙ count in
          let from_zero : length s.relocs ≡ 0 + length s.relocs = omega arith in
          ap (relocations_within file k) (is_counted ∙ from_zero)
          ∙ (entries_are file k 0 target place s.relocs at.header.info first_place fit at.bytes ∙ sym (cond-true (bit_of s.flags 1) (map (relocation_in target) s.relocs) [] allocated))
      | inr none ↦
          let is_counted : relocation_count_at file k ≡ 0 = cond-false (is_read file k) ((section_header file k).sh_size / 12) 0 (read ∙ none) in
          ap (relocations_within file k) is_counted ∙ sym (cond-false (bit_of s.flags 1) (map (relocation_in target) s.relocs) [] none)
    ]

-- ---- all sections

-- a section of another kind adds none
pub no_relocations : (file table : List ℕ) (k place : ℕ) (ss : List Planned) → All (IsOther 4) ss → AreSections file table k place ss
    → relocations_below file (k + length ss) ≡ relocations_below file k ++ []
no_relocations file table k place [] others h = grown_none (relocations_below file) k
no_relocations file table k place (s ∷ ss) others h =
    let other : ((section_header file k).sh_type == 4) ≡ false = ap (λ (n : ℕ). n == 4) h.0.header.kind ∙ All-head (IsOther 4) s ss others in
    let none : relocations_within file k (relocation_count_at file k) ≡ [] = rw other refl in
    grown_more (relocations_below file) k (length ss) [] [] (ap (λ (xs : List Reloc). relocations_below file k ++ xs) none)
    (no_relocations file table (k + 1) (place + length (padded s.content)) ss (All-tail (IsOther 4) s ss others) h.1)

none_planned : (target : ℕ) (s : SectionPlan) → has_relocations s ≡ false → relocations_for target s ≡ []
none_planned target s none =
    let few : length s.relocs ≤ 0 = ltb-false 0 (length s.relocs) none in
    let empty : s.relocs ≡ [] = nil_from_length s.relocs (omega arith) in
    elim (cases_Bool (bit_of s.flags 1)) [ inl allocated ↦ rw (allocated, empty) refl | inr other ↦ rw other refl ]

pub relocations_are : (file table : List ℕ) (symbols k p j place : ℕ) (ss : List SectionPlan) → AreSections file table k p (map asked ss)
    → AreSections file table j place (relocation_sections symbols k ss) → All IsSection ss → k + length ss ≤ section_count file
    → relocations_below file (j + length (relocation_sections symbols k ss)) ≡ relocations_below file j ++ relocations_from k ss
relocations_are file table symbols k p j place [] targets sections fit within = grown_none (relocations_below file) j
relocations_are file table symbols k p j place (s ∷ ss) targets sections fit within =
    let rest = relocation_sections symbols (k + 1) ss in
    let this = relocations_of symbols k s in
    let later_within : k + 1 + length ss ≤ section_count file = omega arith in
    let here_within : k < section_count file = omega arith in
    let next_p : ℕ = p + length (padded s.content) in
    let fit_rest = All-tail IsSection s ss fit in
    let here = relocations_for k s in
    let later = relocations_from (k + 1) ss in
    elim (cases_Bool (has_relocations s)) [
      | inl some ↦
          let list_is : relocation_sections symbols k (s ∷ ss) ≡ this ∷ rest = cond-true (has_relocations s) (this ∷ rest) rest some in
          let there = subst (AreSections file table j place) list_is sections in
          let next : ℕ = place + length (padded this.content) in
          let read = relocations_read file table j place k symbols s there.0 (All-head IsSection s ss fit).relocs here_within targets.0.header.flags in
          subst (λ (xs : List Planned). relocations_below file (j + length xs) ≡ relocations_below file j ++ (here ++ later)) (sym list_is)
          (grown_more (relocations_below file) j (length rest) here later
          (ap (λ (xs : List Reloc). relocations_below file j ++ xs) read)
          (relocations_are file table symbols (k + 1) next_p (j + 1) next ss targets.1 there.1 fit_rest later_within))
      | inr none ↦
          let list_is : relocation_sections symbols k (s ∷ ss) ≡ rest = cond-false (has_relocations s) (this ∷ rest) rest none in
          let there = subst (AreSections file table j place) list_is sections in
          let nothing : later ≡ here ++ later = ap (λ (xs : List Reloc). xs ++ later) (sym (none_planned k s none)) in
          subst (λ (xs : List Planned). relocations_below file (j + length xs) ≡ relocations_below file j ++ (here ++ later)) (sym list_is)
          (relocations_are file table symbols (k + 1) next_p j place ss targets.1 there fit_rest later_within ∙ ap (λ (xs : List Reloc). relocations_below file j ++ xs) nothing)
    ]
