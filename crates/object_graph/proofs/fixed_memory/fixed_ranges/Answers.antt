use Rattle.std.proofs.Common.{◌∙◌}
use Rattle.elf_reader.specs.File.{plain_view}
use Rattle.object_graph.proofs.KindLemmas.{left_fixed}
use Rattle.object_graph.proofs.fixed_memory.fixed_ranges.Goals as goal

pub returns-in-Ok-clause-exact : goal.returns-in-Ok-clause-exact
returns-in-Ok-clause-exact c a below =
    c.in-Ok.ensures.exact a below
    ∙ left_fixed (plain_view c.args.view.now) c.args.board.now a _ _ _ _ c.deref.ensures.value c.deref-2.ensures.value (c.in_ok-kept.ensures.held a) (c.in_ok-cut.ensures a)
