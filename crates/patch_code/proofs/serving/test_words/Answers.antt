use Rattle.std.proofs.Common.{List, sym, subst, arith}
use Rattle.std.specs.Prelude.{All}
use Rattle.rv32im.specs.declared.instructions.Instr.{Instr}
use Rattle.rv32im.specs.Table.{IsInRange}
use Rattle.patch_code.proofs.Ranges.{checking_in_range_so}
use Rattle.patch_code.proofs.Serves.{reached}
use Rattle.patch_code.proofs.serving.test_words.Goals as goal

pub encode_all-requires : goal.encode_all-requires
encode_all-requires c =
    let temp = c.requires.temp in
    subst (λ (is : List Instr). All IsInRange is) (sym c.checking_stub-code.ensures)
    (checking_in_range_so c.args.base c.args.stub.now.temp c.args.stub.now.region c.args.at c.args.switch (omega (arith, temp)) c.requires.few
    (reached c.args.at c.args.switch c.args.stub.now.region c.if-stub-eq0.false c.requires.reach))
