-- Where the parts of a built file stand.
use Rattle.std.proofs.Common.{◌≡◌, ℕ, ◌+◌, ◌*◌, ◌<◌, ◌≤◌, List, [], ◌∷◌, ◌++◌, length, refl, ap, sym, subst, ◌∙◌, arith, inl, inr, length-append}
use Rattle.std.proofs.lemmas.Bool.{cases_Bool}
use Rattle.workload_gen.specs.Plan.{SectionPlan}
use Rattle.elf_writer.specs.Pieces.{IsWord, zero_bytes, padded}
use Rattle.workload_gen.specs.Built.{Planned, contents, file_header_bytes, program_headers, section_headers, has_relocations, relocation_sections}
use Rattle.elf_writer.proofs.Standing.{Stands, stands_whole, stands_first, stands_behind}
use Rattle.workload_gen.proofs.Records.{IsFileHeader, file_header_there}

-- where the first content and the section headers stand, with these sections asked for and these in the file
abbrev pub content_place : List SectionPlan → ℕ
content_place plans = 52 + 32 * length plans

abbrev pub headers_place : List SectionPlan → List Planned → ℕ
headers_place plans planned = content_place plans + length (contents planned)

pub record IsLaidOut (file : List ℕ) (entry : ℕ) (plans : List SectionPlan) (planned : List Planned) : Type 0 where
  pub header : IsFileHeader file entry (length plans) (headers_place plans planned) (length planned)
  pub programs : Stands file 52 (program_headers (content_place plans) plans)
  pub content : Stands file (content_place plans) (contents planned)
  pub null : Stands file (headers_place plans planned) (zero_bytes 40)
  pub headers : Stands file (headers_place plans planned + 40) (section_headers (content_place plans) 1 planned)
  pub size : headers_place plans planned < 16777216

pub length-contents : (xs ys : List Planned) → length (contents (xs ++ ys)) ≡ length (contents xs) + length (contents ys)
length-contents [] ys = omega arith
length-contents (x ∷ xs) ys =
    let later = length-contents xs ys in
    omega (arith, length-append (padded x.content) (contents (xs ++ ys)), length-append (padded x.content) (contents xs))

length-programs : (place : ℕ) (ss : List SectionPlan) → length (program_headers place ss) ≡ 32 * length ss
length-programs place [] = refl
length-programs place (s ∷ ss) = let later = length-programs (place + length (padded s.content)) ss in omega arith

pub few_relocation_sections : (table k : ℕ) (ss : List SectionPlan) → length (relocation_sections table k ss) ≤ length ss
few_relocation_sections table k [] = omega arith
few_relocation_sections table k (s ∷ ss) =
    let later = few_relocation_sections table (k + 1) ss in
    elim (cases_Bool (has_relocations s)) [ inl some ↦ rw some (omega arith) | inr none ↦ rw none (omega arith) ]

whole_size : (h p c z s : List ℕ) → length h ≡ 52 → length z ≡ 40 → length (h ++ p ++ c ++ z ++ s) ≡ 52 + length p + length c + 40 + length s
whole_size h p c z s first_size fourth_size = omega (arith, length-append {A = ℕ})

-- the five parts of a file
record Parts (file h p c z s : List ℕ) : Type 0 where
  first : Stands file 0 h
  second : Stands file 52 p
  third : Stands file (52 + length p) c
  fourth : Stands file (52 + length p + length c) z
  fifth : Stands file (52 + length p + length c + 40) s

parts : (file h p c z s : List ℕ) → length h ≡ 52 → length z ≡ 40 → Stands file 0 (h ++ p ++ c ++ z ++ s) → Parts file h p c z s
parts file h p c z s first_size fourth_size whole =
    let to_fourth = stands_first file 0 (h ++ p ++ c ++ z) s whole in
    let to_third = stands_first file 0 (h ++ p ++ c) z to_fourth in
    let to_second = stands_first file 0 (h ++ p) c to_third in
    record {
      first = stands_first file 0 h p to_second;
      second = stands_behind file 0 52 h p (omega arith) to_second;
      third = stands_behind file 0 (52 + length p) (h ++ p) c (omega (arith, length-append {A = ℕ})) to_third;
      fourth = stands_behind file 0 (52 + length p + length c) (h ++ p ++ c) z (omega (arith, length-append {A = ℕ})) to_fourth;
      fifth = stands_behind file 0 (52 + length p + length c + 40) (h ++ p ++ c ++ z) s (omega (arith, length-append {A = ℕ})) whole;
    }

pub laid_out : (entry : ℕ) (plans : List SectionPlan) (planned : List Planned) (file : List ℕ) → IsWord entry → length plans ≤ 60 → length planned ≤ 123
    → file_header_bytes entry (length plans) (headers_place plans planned) (length planned) ++ program_headers (content_place plans) plans ++ contents planned ++ zero_bytes 40 ++ section_headers (content_place plans) 1 planned ≡ file
    → length file < 16777216 → IsLaidOut file entry plans planned
laid_out entry plans planned file entry_fits few_plans few_planned is_file small =
    let h = file_header_bytes entry (length plans) (headers_place plans planned) (length planned) in
    let p = program_headers (content_place plans) plans in
    let c = contents planned in
    let s = section_headers (content_place plans) 1 planned in
    let programs_size : length p ≡ 32 * length plans = length-programs (content_place plans) plans in
    let all_size : length file ≡ 52 + length p + length c + 40 + length s = ap length (sym is_file) ∙ whole_size h p c (zero_bytes 40) s refl refl in
    let size : headers_place plans planned < 16777216 = omega arith in
    let cut = parts file h p c (zero_bytes 40) s refl refl (subst (Stands file 0) (sym is_file) (stands_whole file)) in
    record {
      header = file_header_there file entry (length plans) (headers_place plans planned) (length planned) entry_fits (omega arith) (omega arith) (omega arith) cut.first;
      programs = cut.second;
      content = subst (λ (n : ℕ). Stands file n c) (ap (λ (n : ℕ). 52 + n) programs_size) cut.third;
      null = subst (λ (n : ℕ). Stands file n (zero_bytes 40)) (ap (λ (n : ℕ). 52 + n + length c) programs_size) cut.fourth;
      headers = subst (λ (n : ℕ). Stands file n s) (ap (λ (n : ℕ). 52 + n + length c + 40) programs_size) cut.fifth;
      size = size;
    }
