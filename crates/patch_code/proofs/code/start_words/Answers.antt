use Rattle.std.proofs.Common.{List, sym, ◌∙◌, subst}
use Rattle.std.specs.Prelude.{All}
use Rattle.rv32im.specs.declared.instructions.Instr.{Instr}
use Rattle.rv32im.specs.Table.{IsInRange}
use Rattle.patch_code.specs.StubPlans.{start_of}
use Rattle.patch_code.proofs.WordLemmas.{stub_range}
use Rattle.patch_code.proofs.code.start_words.Goals as goal

pub encode_all-requires : goal.encode_all-requires
encode_all-requires c =
    subst (λ (is : List Instr). All IsInRange is) (sym (c.deref.ensures.value ∙ c.in_ok-code.ensures))
    (stub_range (start_of c.args.plan.now) c.requires)
