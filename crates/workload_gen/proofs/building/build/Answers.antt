use Rattle.std.proofs.Common.{◌≡◌, ℕ, ◌+◌, ◌*◌, ◌%◌, List, [], ◌++◌, length, map, ap, refl, ◌∙◌, arith}
use Rattle.std.proofs.lemmas.List.{length-map}
use Rattle.workload_gen.specs.declared.planned.PlannedSection.{PlannedSection}
use Rattle.workload_gen.specs.declared.spec.SectionSpec.{SectionSpec}
use Rattle.workload_gen.specs.Plan.{FilePlan, file_plan, section_plan}
use Rattle.elf_writer.specs.Pieces.{word_bytes, zero_bytes}
use Rattle.workload_gen.specs.Built.{Planned, contents, program_headers, section_headers, first_place, file_header_bytes}
use Rattle.workload_gen.specs.Planned.{plain_planned}
use Rattle.workload_gen.proofs.ByteLemmas.{same_word}
use Rattle.workload_gen.proofs.PlaceLemmas.{same_programs, same_sections}
use Rattle.workload_gen.proofs.building.build.Goals as goal

-- the file of a plan, of which the sections are known
abbrev built_with : FilePlan → List Planned → List ℕ
built_with f sections =
    file_header_bytes f.entry (length f.sections) (first_place f + length (contents sections)) (length sections)
    ++ program_headers (first_place f) f.sections
    ++ contents sections
    ++ zero_bytes 40
    ++ section_headers (first_place f) 1 sections

built_of :
    (f : FilePlan)
    (sections : List Planned)
    (entry programs first headers count size : ℕ)
    (all o0 o1 o2 o3 o4 o5 : List ℕ)
    → all ≡ contents sections
    → entry ≡ f.entry
    → programs ≡ length f.sections
    → count ≡ length sections
    → size ≡ length all
    → first ≡ (52 + 32 * programs) % 18446744073709551616
    → headers ≡ (first + size) % 18446744073709551616
    → o0 ≡ []
    → o1 ≡ o0 ++ file_header_bytes entry programs headers count
    → o2 ≡ o1 ++ program_headers first f.sections
    → o3 ≡ o2 ++ all
    → o4 ≡ o3 ++ zero_bytes 40
    → o5 ≡ o4 ++ section_headers first 1 sections
    → o5 ≡ built_with f sections
built_of f sections entry programs first headers count size all o0 o1 o2 o3 o4 o5 ea ee ep ec es ef eh e0 e1 e2 e3 e4 e5 =
    let same_first : first % 4294967296 ≡ first_place f % 4294967296 = omega arith in
    let place : ℕ = first_place f + length (contents sections) in
    let same_headers : headers % 4294967296 ≡ place % 4294967296 = omega (arith, ap length ea) in
    let header : word_bytes headers ≡ word_bytes place = same_word headers place same_headers in
    let one : 1 % 4294967296 ≡ 1 % 4294967296 = λ i. 1 in
    let segments : program_headers first f.sections ≡ program_headers (first_place f) f.sections =
    same_programs first (first_place f) f.sections same_first in
    let records : section_headers first 1 sections ≡ section_headers (first_place f) 1 sections =
    same_sections first (first_place f) 1 1 sections same_first one in
    let front : o1 ≡ file_header_bytes f.entry (length f.sections) place (length sections) = cc in
    cc

pub returns : goal.returns
returns c =
    let f : FilePlan = file_plan c.args.spec.now in
    let plain : List PlannedSection → List Planned = map plain_planned in
    let sections : List Planned = plain c.in_ok-sections.sections.items in
    let programs : c.len-programs.result ≡ length f.sections = rw length-map (omega arith) in
    let count : c.len-2.result ≡ length sections = rw length-map (omega arith) in
    built_of
    f
    sections
    c.from.result
    c.len-programs.result
    c.first_content-first.result
    ((c.first_content-first.result + c.len.result) % 18446744073709551616)
    c.len-2.result
    c.len.result
    c.in_ok-contents.contents.items
    c.new-out.result.items
    c.push_file_header.new.out.items
    c.push_program_headers.new.out.items
    c.extend_from_slice.new.self.items
    c.push_zeros.new.out.items
    c.push_section_headers.new.out.items
    (c.in_ok-contents.ensures ∙ ap (λ (s : List PlannedSection). contents (plain s)) c.deref.ensures.value)
    c.from.ensures
    programs
    count
    (omega arith)
    c.first_content-first.ensures
    refl
    c.new-out.ensures.items
    c.in_ok-push_file_header.ensures
    (c.in_ok-push_program_headers.ensures
    ∙ ap
    (λ (s : List SectionSpec). c.push_file_header.new.out.items ++ program_headers c.first_content-first.result (map section_plan s))
    c.deref-2.ensures.value)
    (c.in_ok-extend_from_slice.ensures.items
    ∙ ap (λ (s : List ℕ). c.push_program_headers.new.out.items ++ s) c.deref-3.ensures.value)
    c.in_ok-push_zeros.ensures
    (c.in_ok-push_section_headers.ensures
    ∙ ap
    (λ (s : List PlannedSection). c.push_zeros.new.out.items ++ section_headers c.first_content-first.result 1 (plain s))
    c.deref-4.ensures.value)
    ∙ ap (built_with f) c.in_ok-sections.ensures
