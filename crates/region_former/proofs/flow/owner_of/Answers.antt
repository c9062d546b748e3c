use Rattle.std.proofs.Common.{◌∙◌, length, subst, sym, ap, None}
use Rattle.std.proofs.lemmas.List.{get_or-map}
use Rattle.region_former.specs.Flow.{IsPlace}
use Rattle.code_blocks.specs.Leads.{owner_of}
use Rattle.region_former.proofs.flow.owner_of.Goals as goal

pub returns-in-Some-clause-below : goal.returns-in-Some-clause-below
returns-in-Some-clause-below c =
    let code = c.args.code.now in
    let block = c.index.result.now in
    subst (IsPlace (length code.functions.items))
    (get_or-map owner_of code.blocks.items c.args.b block None c.requires.below ∙ ap owner_of (sym c.index.ensures) ∙ c.in-Some.is)
    (c.requires.orderly.owners c.args.b c.requires.below)
