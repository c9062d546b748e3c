use Rattle.std.proofs.Common.{◌≡◌, List, sym, subst}
use Rattle.elf_reader.specs.File.{plain_view}
use Rattle.loaded_file.specs.declared.byte_ranges.ByteRange.{ByteRange}
use Rattle.object_graph.specs.Gathered.{AreMovableOf}
use Rattle.object_graph.proofs.building.build.Goals as goal

pub gather_few-requires-clause-movable : goal.gather_few-requires-clause-movable
gather_few-requires-clause-movable c =
    let found = c.in_ok-ranges.ensures in
    let m : AreMovableOf (plain_view c.args.file.now.view.now) c.args.board.now c.in_ok-ranges.ranges.items = record { disjoint = found.disjoint; exact = found.exact; filled = found.filled } in
    subst (λ (es : List ByteRange). AreMovableOf (plain_view c.args.file.now.view.now) c.args.board.now es) (sym c.deref-3.ensures.value) m
