use Rattle.std.proofs.Common.{◌≡◌, ℕ, ◌+◌, ◌*◌, nat_lt, ◌∙◌, ap, arith}
use Rattle.rv32im.specs.Words.{plus, offset}
use Rattle.rv32im.specs.Fields.{rd_of, u_immediate, i_immediate}
use Rattle.elf_reader.specs.File.{plain_view}
use Rattle.code_blocks.proofs.PairLemmas.{pair_is_code}
use Rattle.object_machine.proofs.BlockLemmas.{pair_room, is_pair_unit, no_pair_of}
use Rattle.object_machine.proofs.preparing.pair_of.Goals as goal

pub returns-then-unit-eq1 : goal.returns-then-unit-eq1
returns-then-unit-eq1 c = no_pair_of (plain_view c.args.file.now.view.now) c.args.unit.now c.requires.unit c.if-unit-eq1.true

pub overflow_add-unit : goal.overflow_add-unit
overflow_add-unit c =
    let view = c.args.file.now.view.now in
    let below = pair_room view c.args.unit.now.at c.requires.read (is_pair_unit (plain_view view) c.args.unit.now c.requires.unit c.if-unit-eq1.false) in
    omega (arith, below)

pub word_of_code-second-requires-clause-code : goal.word_of_code-second-requires-clause-code
word_of_code-second-requires-clause-code c =
    let v = plain_view c.args.file.now.view.now in
    (pair_is_code v c.args.unit.now.at (is_pair_unit v c.args.unit.now c.requires.unit c.if-unit-eq1.false)).1

pub returns : goal.returns
returns c =
    let v = plain_view c.args.file.now.view.now in
    let a = c.args.unit.now.at in
    let raw = c.requires.unit.raw in
    let second = c.word_of_code-second.ensures in
    record {
      is = is_pair_unit v c.args.unit.now c.requires.unit c.if-unit-eq1.false;
      call = (
        c.pair_target.ensures ∙ (λ z. offset (plus a (4096 * u_immediate (raw z))) (i_immediate (second z))),
        c.rd.ensures ∙ ap rd_of raw,
        c.links.ensures ∙ ap (λ (w : ℕ). nat_lt 0 (rd_of w)) second,
      );
    }
