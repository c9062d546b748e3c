use Rattle.std.proofs.Common.{◌≡◌, ◌∙◌, ap, w32, FitsSigned, rules}
use Rattle.std.specs.Prelude.{int_rem}
use Rattle.std.specs.Int.{cast_unsigned, cast_signed}
use Rattle.std.proofs.lemmas.Int.{to_z-of_z}
use Rattle.rv32im.proofs.Quotients.{remainder_of}
use Rattle.rv32im.proofs.operations.left_over.Goals as goal

pub returns-else-b-eq0 : goal.returns-else-b-eq0
returns-else-b-eq0 c =
    let a_fits : FitsSigned w32 c.cast_signed.result = search rules in
    let b_fits : FitsSigned w32 c.cast_signed-else-b-eq0.result = search rules in
    let rest_fits : FitsSigned w32 c.wrapping_rem.result = search rules in
    let rest : c.wrapping_rem.result ≡ int_rem c.cast_signed.result c.cast_signed-else-b-eq0.result =
    simp to_z-of_z at c.wrapping_rem.ensures in
    let word : c.cast_unsigned.result ≡ cast_unsigned w32 c.wrapping_rem.result =
    simp to_z-of_z at c.cast_unsigned.ensures in
    let same : c.wrapping_rem.result ≡ int_rem (cast_signed w32 c.args.a) (cast_signed w32 c.args.b) =
    rw (c.cast_signed.ensures, c.cast_signed-else-b-eq0.ensures) at rest in
    word ∙ (ap (cast_unsigned w32) same ∙ remainder_of c.args.a c.args.b c.if-b-eq0.false)
