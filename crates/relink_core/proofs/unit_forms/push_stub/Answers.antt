use Rattle.std.proofs.Common.{ap}
use Rattle.patch_code.specs.StubPlans.{body_of, serving_stub}
use Rattle.patch_code.specs.declared.stub_plan.Body.{Body}
use Rattle.relink_core.specs.UnitSets.{runs}
use Rattle.relink_core.proofs.UnitSteps.{one_stub}
use Rattle.relink_core.proofs.unit_forms.push_stub.Goals as goal

pub returns-in-Ok : goal.returns-in-Ok
returns-in-Ok c =
    one_stub (serving_stub c.args.stub.now) c.args.at c.args.units.now.items c.push_form.new.units.items (ap (λ (b : Body). runs (body_of b)) c.in-Words.is) c.in-Ok.ensures
