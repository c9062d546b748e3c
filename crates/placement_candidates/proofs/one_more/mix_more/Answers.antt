use Rattle.std.proofs.Common.{◌++◌, ◌∷◌, [], sym, subst}
use Rattle.placement_candidates.specs.FullViews.{plain_full}
use Rattle.placement_candidates.specs.Parts.{plain_part, IsSmallPart, IsMix}
use Rattle.placement_candidates.proofs.OneMoreLemmas.{last_of, base_fits, off_fits, on_fits, mix_more_is}
use Rattle.placement_candidates.proofs.one_more.mix_more.Goals as goal

pub more_full-requires-clause-small : goal.more_full-requires-clause-small
more_full-requires-clause-small c =
    let add = c.requires in
    last_of IsSmallPart add.parts (plain_part c.args.part.now) add.can.small

pub more_full-requires-clause-base : goal.more_full-requires-clause-base
more_full-requires-clause-base c =
    let add = c.requires in
    base_fits add.parts (plain_part c.args.part.now) (plain_full c.args.total.now) add.is add.can

pub more_full-requires-clause-off : goal.more_full-requires-clause-off
more_full-requires-clause-off c =
    let add = c.requires in
    off_fits add.parts (plain_part c.args.part.now) c.args.total.now add.some add.is add.can

pub more_full-requires-clause-on : goal.more_full-requires-clause-on
more_full-requires-clause-on c =
    let add = c.requires in
    on_fits add.parts (plain_part c.args.part.now) c.args.total.now add.some add.is add.can

pub returns-in-Ok : goal.returns-in-Ok
returns-in-Ok c = λ parts some is can.
    subst (IsMix (parts ++ plain_part c.args.part.now ∷ [])) (sym c.in-Ok.ensures)
    (mix_more_is parts (plain_part c.args.part.now) (plain_full c.args.total.now) some is can)
