use Rattle.std.proofs.Common.{◌≡◌, ℕ, ◌+◌, ◌%◌, refl, sym, ◌∙◌, ap, w32}
use Rattle.std.specs.Int.{cast_signed}
use Rattle.std.proofs.lemmas.Int.{of_z-to_z}
use Rattle.rv32im.specs.Words.{offset}
use Rattle.rv32im.specs.declared.instructions.Instr.TheVariants.{Jal}
use Rattle.code_blocks.specs.Early.{has}
use Rattle.object_machine.proofs.NamedLemmas.{linked}
use Rattle.object_machine.proofs.machine.Source.named_jal.Goals as goal

pub returns-in-Some : goal.returns-in-Some
returns-in-Some g c =
    let m = c.args.self.now in
    let off = c.args.off in
    let target : ℕ = offset m.pc (cast_signed w32 off) in
    let same : c.from.result ≡ target = c.from.ensures ∙ ap (λ (n : ℕ). (m.pc + n) % 4294967296) (sym (of_z-to_z w32 off c.ranges.off.fits)) in
    linked m c.set_register.new.self c.enter.new.self (Jal c.args.rd (cast_signed w32 off)) c.args.rd c.in-Some.place target _ c.requires.named c.set_register.ensures.state c.enter.ensures
    (c.in-Some.ensures.1.1 ∙ same) (ap (has m.tables.starts.items) (sym same) ∙ c.in-Some.ensures.0) refl refl
