use Rattle.std.proofs.Common.{List, sym, subst}
use Rattle.std.specs.Prelude.{◌↔◌, Contains}
use Rattle.std.specs.List.{AllPairs}
use Rattle.std.proofs.lemmas.List.Filters.{dedup_is}
use Rattle.std.proofs.lemmas.List.Sorted.{IsPermutation-sym, Contains-permutation}
use Rattle.relink_core.specs.declared.unit_forms.UnitAt.{UnitAt}
use Rattle.relink_core.specs.UnitMaps.{StandsBefore}
use Rattle.relink_core.proofs.UnitOrder.{same, arranged, kept_once}
use Rattle.relink_core.proofs.unit_forms.arrange.Goals as goal

pub returns-clause-ordered : goal.returns-clause-ordered
returns-clause-ordered c =
    let once = dedup_is same c.sort_unstable.new.self.items c.dedup.new.self.items c.dedup.ensures.filtered in
    subst (AllPairs StandsBefore) (sym once) (arranged c.sort_unstable.new.self.items c.sort_unstable.ensures.sorted)

pub returns-clause-same : goal.returns-clause-same
returns-clause-same c = λ x.
    let old = c.args.units.now.items in
    let sorted = c.sort_unstable.new.self.items in
    let moved = c.sort_unstable.ensures.permutation in
    let once = dedup_is same sorted c.dedup.new.self.items c.dedup.ensures.filtered in
    subst (λ (xs : List UnitAt). Contains xs x ↔ Contains old x) (sym once) (
      λ has. Contains-permutation sorted old x (IsPermutation-sym old sorted moved) ((kept_once sorted x).0 has),
      λ has. (kept_once sorted x).1 (Contains-permutation old sorted x moved has),
    )
