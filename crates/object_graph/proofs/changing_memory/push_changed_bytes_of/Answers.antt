use Rattle.std.proofs.Common.{◌≡◌, ◌∙◌, map, length, sym, ap, arith}
use Rattle.std.proofs.lemmas.List.{get_or-map, length-map}
use Rattle.elf_reader.specs.File.{plain_segment, plain_section, plain_view}
use Rattle.elf_reader.specs.Loaded.{no_section}
use Rattle.object_graph.proofs.KindLemmas.{header_first, table_more, tables_all}
use Rattle.object_graph.proofs.changing_memory.push_changed_bytes_of.Goals as goal

pub loop-k-init : goal.loop-k-init
loop-k-init c a =
    header_first (plain_view c.args.view.now) (plain_segment c.args.segment.now) a _ _ _ (c.span_in.ensures a) (c.in_ok-push_span.ensures.held a)

pub loop-k-preserved : goal.loop-k-preserved
loop-k-preserved c a =
    let section = c.index.result.now in
    let here = get_or-map plain_section c.args.view.now.sections.items c.loop-k.k section no_section (omega arith) ∙ ap plain_section (sym c.index.ensures) in
    table_more (plain_view c.args.view.now) (plain_segment c.args.segment.now) (plain_section section) a c.loop-k.k _ _ _ here (c.loop-k.invariant a) (c.in_ok-push_table.ensures a)

pub returns : goal.returns
returns c a =
    let sections = c.args.view.now.sections.items in
    let count : length (map plain_section sections) ≡ length sections = length-map sections plain_section in
    let all : c.loop-k.k ≡ length (map plain_section sections) = omega (arith, count) in
    tables_all (plain_view c.args.view.now) (plain_segment c.args.segment.now) a c.loop-k.k _ _ all (c.loop-k.invariant a)
