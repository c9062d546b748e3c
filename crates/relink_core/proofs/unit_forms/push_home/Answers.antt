use Rattle.std.proofs.Common.{◌∙◌, sym}
use Rattle.relink_core.proofs.UnitSteps.{no_home, one_home}
use Rattle.relink_core.proofs.unit_forms.push_home.Goals as goal

pub returns-then-is_padded : goal.returns-then-is_padded
returns-then-is_padded c =
    no_home c.args.block.now.units.items c.args.padded c.args.k c.args.units.now.items (sym c.is_padded.ensures ∙ c.if-is_padded.true)

pub returns-in-Ok : goal.returns-in-Ok
returns-in-Ok c =
    one_home c.args.block.now.units.items c.args.padded c.args.k c.index.result.now c.args.units.now.items c.push_form.new.units.items
    (sym c.is_padded.ensures ∙ c.if-is_padded.false) c.requires c.index.ensures c.in-Ok.ensures
