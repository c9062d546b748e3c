use Rattle.std.proofs.Common.{◌≡◌, ◌∙◌, Bool, List, length, ap, arith}
use Rattle.elf_reader.specs.File.{plain_view}
use Rattle.object_graph.specs.Disjoint.{mark_at}
use Rattle.object_graph.proofs.MarkLemmas.{written}
use Rattle.object_graph.proofs.AliasLemmas.{aliased_by}
use Rattle.object_graph.proofs.aliasing.aliased_sections.Goals as goal

pub returns : goal.returns
returns c s =
    let len : length c.mark_hits.new.aliased ≡ c.in_ok-aliased.aliased.len = omega arith in
    let whole = written c.in_ok-aliased.aliased.len c.mark_hits.new.aliased c.in_ok-aliased.aliased.items len in
    let at = λ (marks : List Bool). mark_at marks s in
    aliased_by (plain_view c.args.file.now.view.now) s _ _ (ap at whole ∙ c.mark_hits.ensures.adds s) (ap at c.deref_mut.ensures.value ∙ c.in_ok-aliased.ensures.none s)
