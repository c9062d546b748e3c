use Rattle.std.proofs.Common.{List, sym, subst}
use Rattle.loaded_file.specs.declared.byte_ranges.ByteRange.{ByteRange}
use Rattle.object_graph.specs.Disjoint.{IsDisjoint}
use Rattle.listings.proofs.file_tables.list_movable.Goals as goal

pub list_meanings-requires-clause-disjoint : goal.list_meanings-requires-clause-disjoint
list_meanings-requires-clause-disjoint c =
    subst (λ (ranges : List ByteRange). IsDisjoint ranges) (sym c.deref-2.ensures.value) c.in_ok-ranges.ensures.disjoint
