use Rattle.std.proofs.Common.{◌∙◌, ap, length}
use Rattle.std.specs.List.{list_any}
use Rattle.elf_reader.specs.File.{plain_view}
use Rattle.object_graph.specs.Sites.{in_range}
use Rattle.object_graph.specs.Kinds.{in_object_of_list}
use Rattle.object_graph.proofs.KindLemmas.{code_held, objects_held, board_held, changing_held}
use Rattle.object_graph.proofs.changing_memory.changing_spans.Goals as goal

pub returns : goal.returns
returns c a =
    let v = plain_view c.args.view.now in
    let board = c.args.board.now in
    let code = ap (list_any (λ r. in_range r a)) (c.deref.ensures.value ∙ c.requires.code) ∙ code_held v a (length v.sections) in
    let objects = ap (list_any (in_object_of_list a)) c.deref-2.ensures.value ∙ objects_held v board _ a c.requires.objects in
    let both = board_held board a c.new-spans.result.items c.span_of.result c.span_of-2.result _ _ c.new-spans.ensures.items (c.in_ok-push_span.ensures.held a) (c.in_ok-push_span-2.ensures.held a) c.span_of.ensures.span c.span_of-2.ensures.span in
    changing_held v board a _ _ _ _ _ _ both code objects (c.in_ok-push_ranges.ensures.held a) (c.in_ok-push_objects.ensures a) (c.in_ok-push_changed_bytes.ensures a)
