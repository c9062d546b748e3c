use Rattle.std.proofs.Common.{◌≡◌, ℕ, ◌+◌, ◌%◌, ◌<◌, List, ◌∷◌, ◌++◌, length, get_or, drop, map, string_bytes}
use Rattle.workload_gen.specs.declared.planned.PlannedSection.{PlannedSection}
use Rattle.elf_writer.specs.Pieces.{padded}
use Rattle.workload_gen.specs.Built.{section_header_bytes, section_headers}
use Rattle.workload_gen.specs.Planned.{plain_planned}
use Rattle.workload_gen.proofs.ByteLemmas.{piece_step}
use Rattle.workload_gen.proofs.PlaceLemmas.{sections_wrap}
use Rattle.workload_gen.proofs.headers.push_section_headers.Goals as goal

section_step :
    (sections : List PlannedSection)
    (i : ℕ)
    (section : PlannedSection)
    (place size name_at taken : ℕ)
    (out next whole : List ℕ)
    → i < length sections
    → section ≡ get_or sections i section
    → size ≡ length (padded section.content.items)
    → taken ≡ length (string_bytes section.name) + 1
    → next ≡ out ++ section_header_bytes place name_at (plain_planned section)
    → out ++ section_headers place name_at (map plain_planned (drop i sections)) ≡ whole
    → next
    ++ section_headers
    ((place + size) % 18446744073709551616)
    ((name_at + taken) % 18446744073709551616)
    (map plain_planned (drop (i + 1) sections))
    ≡ whole
section_step sections i section place size name_at taken out next whole below is is_size is_taken pushed so_far =
    let rest : List ℕ =
    section_headers
    ((place + size) % 18446744073709551616)
    ((name_at + taken) % 18446744073709551616)
    (map plain_planned (drop (i + 1) sections)) in
    let split : section_headers place name_at (map plain_planned (section ∷ drop (i + 1) sections))
    ≡ section_header_bytes place name_at (plain_planned section) ++ rest =
    rw (sections_wrap (place + size) (name_at + taken) (map plain_planned (drop (i + 1) sections)), is_size, is_taken) in
    piece_step (λ (ss : List PlannedSection). section_headers place name_at (map plain_planned ss)) sections i section out next (section_header_bytes place name_at (plain_planned section)) rest whole below is split pushed so_far

pub loop-section-preserved : goal.loop-section-preserved
loop-section-preserved c =
    section_step c.args.sections.now c.loop-section.section-index c.section-item.result c.loop-section.place c.padded_size-place.result c.loop-section.name_at c.name_size-name_at.result c.loop-section.out.items c.push_section_header.new.out.items _ c.loop-section-test.true c.section-item.is (cc) (cc) c.in_ok-push_section_header.ensures c.loop-section.invariant
