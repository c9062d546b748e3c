use Rattle.std.proofs.Common.{◌≡◌, ℕ, List, [], ◌∷◌, ◌++◌, map, ap, refl, ◌∙◌, arith}
use Rattle.workload_gen.specs.declared.planned.PlannedSection.{PlannedSection}
use Rattle.elf_writer.specs.Pieces.{ended_names, string_table}
use Rattle.workload_gen.specs.Built.{names_of, section_names_name, planned_name, names_section_of}
use Rattle.workload_gen.specs.Planned.{plain_planned}
use Rattle.workload_gen.proofs.ByteLemmas.{name_pushed, piece_end}
use Rattle.workload_gen.proofs.planned.section_names.Goals as goal

names_end :
    (names : List (List ℕ)) (name table next : List ℕ)
    → table ≡ string_table names
    → next ≡ table ++ (name ++ 0 ∷ [])
    → names_section_of name next ≡ names_of name (names ++ name ∷ [])
names_end names name table next is pushed =
    let all : next ≡ string_table (names ++ name ∷ []) = rw (pushed, is) (name_pushed names name) in
    ap (names_section_of name) all

pub returns : goal.returns
returns c =
    let names : List (List ℕ) = map planned_name (map plain_planned c.args.sections.now) in
    let table : c.loop-section.content.items ≡ string_table names =
    piece_end
    (λ (sections : List PlannedSection). ended_names (map planned_name (map plain_planned sections)))
    c.args.sections.now
    c.loop-section.section-index
    c.loop-section.content.items
    (string_table names)
    (omega arith)
    refl
    c.loop-section.invariant in
    c.in_ok-names.ensures
    ∙ names_end
    names
    section_names_name
    c.loop-section.content.items
    c.push_name-2.new.table.items
    table
    c.in_ok-push_name-2.ensures
