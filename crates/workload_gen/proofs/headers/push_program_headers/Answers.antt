use Rattle.std.proofs.Common.{◌≡◌, ℕ, ◌+◌, ◌%◌, ◌<◌, List, ◌∷◌, ◌++◌, length, get_or, drop, map}
use Rattle.workload_gen.specs.declared.spec.SectionSpec.{SectionSpec}
use Rattle.workload_gen.specs.Plan.{section_plan}
use Rattle.elf_writer.specs.Pieces.{padded}
use Rattle.workload_gen.specs.Built.{program_header_bytes, program_headers}
use Rattle.workload_gen.proofs.ByteLemmas.{piece_step}
use Rattle.workload_gen.proofs.PlaceLemmas.{programs_wrap}
use Rattle.workload_gen.proofs.headers.push_program_headers.Goals as goal

section_step :
    (sections : List SectionSpec)
    (i : ℕ)
    (section : SectionSpec)
    (place size : ℕ)
    (out next whole : List ℕ)
    → i < length sections
    → section ≡ get_or sections i section
    → size ≡ length (padded section.bytes.items)
    → next ≡ out ++ program_header_bytes place (section_plan section)
    → out ++ program_headers place (map section_plan (drop i sections)) ≡ whole
    → next ++ program_headers ((place + size) % 18446744073709551616) (map section_plan (drop (i + 1) sections)) ≡ whole
section_step sections i section place size out next whole below is is_size pushed so_far =
    let rest : List ℕ = program_headers ((place + size) % 18446744073709551616) (map section_plan (drop (i + 1) sections)) in
    let split : program_headers place (map section_plan (section ∷ drop (i + 1) sections))
    ≡ program_header_bytes place (section_plan section) ++ rest =
    rw (programs_wrap (place + size) (map section_plan (drop (i + 1) sections)), is_size) in
    piece_step (λ (ss : List SectionSpec). program_headers place (map section_plan ss)) sections i section out next (program_header_bytes place (section_plan section)) rest whole below is split pushed so_far

pub loop-section-preserved : goal.loop-section-preserved
loop-section-preserved c =
    section_step c.args.sections.now c.loop-section.section-index c.section-item.result c.loop-section.place c.padded_size-place.result c.loop-section.out.items c.push_program_header.new.out.items _ c.loop-section-test.true c.section-item.is (cc) c.in_ok-push_program_header.ensures c.loop-section.invariant
