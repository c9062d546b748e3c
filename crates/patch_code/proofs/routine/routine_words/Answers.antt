use Rattle.std.proofs.Common.{List, IfOk, sym, ◌∙◌, subst}
use Rattle.std.specs.Prelude.{All}
use Rattle.rv32im.specs.declared.instructions.Instr.{Instr}
use Rattle.rv32im.specs.Table.{IsInRange}
use Rattle.rv32im.specs.Sequences.{MeanAll}
use Rattle.patch_code.specs.StubPlans.{overlay_plan}
use Rattle.patch_code.proofs.RegionCodes.{some_routine, is_routine, can_build, all_in_range}
use Rattle.patch_code.proofs.routine.routine_words.Goals as goal

pub routine_code-requires : goal.routine_code-requires
routine_code-requires c = can_build (overlay_plan c.args.plan.now) c.in_ok-routine.routine c.in_ok-routine.ensures c.requires.can

pub encode_all-requires : goal.encode_all-requires
encode_all-requires c =
    subst (λ (is : List Instr). All IsInRange is) (sym (c.deref.ensures.value ∙ c.in_ok-code.ensures))
    (all_in_range (overlay_plan c.args.plan.now) c.in_ok-routine.routine c.in_ok-routine.ensures c.requires.can)

pub returns : goal.returns
returns c =
    subst (λ (is : List Instr). IfOk c.encode_all.result (λ words. MeanAll words.items is))
    (c.deref.ensures.value
    ∙ (c.in_ok-code.ensures
    ∙ (is_routine (overlay_plan c.args.plan.now) c.in_ok-routine.routine c.in_ok-routine.ensures c.requires.can
    ∙ sym (some_routine (overlay_plan c.args.plan.now) c.if-plan-eq0.false)))) c.encode_all.ensures
