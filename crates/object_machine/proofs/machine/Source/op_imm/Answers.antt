-- What is written is the result of the operation.
use Rattle.std.proofs.Common.{◌≡◌, ◌∙◌, ℤ, rules, ap, w32, of_z, to_z}
use Rattle.std.specs.Prelude.{FitsSigned}
use Rattle.std.proofs.lemmas.Int.{to_z-of_z}
use Rattle.cell_values.specs.declared.values.Val.{Val}
use Rattle.object_machine.specs.State.{value, wrote}
use Rattle.object_machine.specs.Flow.{falls_on}
use Rattle.object_machine.specs.Step.{imm_result}
use Rattle.object_machine.specs.Units.{target_of}
use Rattle.object_machine.specs.Machine.{here, seen, seen_state}
use Rattle.object_machine.proofs.machine.Source.op_imm.Goals as goal

pub returns : goal.returns
returns c =
    let m = c.args.self.now in
    let s = seen_state m in
    let fits : FitsSigned w32 c.args.imm = search rules in
    let same : to_z w32 (of_z w32 c.args.imm) ≡ c.args.imm = to_z-of_z w32 c.args.imm fits in
    let is = c.imm_result-value.ensures.value ∙ ap (λ (n : ℤ). imm_result (seen m) c.args.kind (value s.regs c.args.rs1) n (target_of (here m).site)) same in
    (c.write.ensures.0, c.write.ensures.1 ∙ ap (λ (v : Val). falls_on (seen m) s (wrote s c.args.rd v)) is)
