use Rattle.std.proofs.Common.{◌≡◌, List, [], ◌∷◌, ◌++◌, ◌∙◌, ap}
use Rattle.rv32im.specs.declared.instructions.Instr.{Instr}
use Rattle.patch_code.specs.Switching.{begins}
use Rattle.patch_code.specs.SwitchPlans.{plan_of}
use Rattle.patch_code.proofs.CodeLemmas.{whole_code}
use Rattle.patch_code.proofs.switch_code.routine_code.Goals as goal

pub returns : goal.returns
returns c =
    let first : c.extend_from_slice.new.self.items ≡ begins c.args.plan.now.base =
    c.in_ok-extend_from_slice.ensures.items
    ∙ (ap (λ (is : List Instr). is ++ (c.lui.result ∷ c.load_control.result ∷ [])) c.new-code.ensures.items
    ∙ (λ i. c.lui.ensures i ∷ c.load_control.ensures i ∷ [])) in
    whole_code (plan_of c.args.plan.now) c.extend_from_slice.new.self.items c.push_parts.new.code.items c.push_parts-2.new.code.items
    c.push_ends.new.code.items first c.in_ok-push_parts.ensures c.in_ok-push_parts-2.ensures c.in_ok-push_ends.ensures
