use Rattle.std.specs.Prelude.{◌≡◌}
use Rattle.block_splitter.specs.Copies.{address_of, place_of}
use Rattle.relink_core.specs.Copies.{copied_in}
use Rattle.relink_core.specs.UnitSets.{Gains, Upto, CopiedForm}
use Rattle.relink_core.proofs.unit_forms.push_copied.Given as goal

abbrev pub invariant-loop-k : goal.invariant-loop-k
invariant-loop-k l =
    Gains (Upto l.k (CopiedForm (copied_in l.source l.copy) l.region l.b)) l.fn.units.items l.units.items
    × (l.at ≡ address_of (copied_in l.source l.copy) (place_of (copied_in l.source l.copy) l.b l.k))
