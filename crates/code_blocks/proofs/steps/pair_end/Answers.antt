use Rattle.std.proofs.Common.{◌+◌, arith}
use Rattle.elf_reader.specs.File.{plain_view}
use Rattle.code_blocks.proofs.PairLemmas.{pair_is_code}
use Rattle.code_blocks.proofs.RangeLemmas.{code_fits}
use Rattle.code_blocks.proofs.steps.pair_end.Goals as goal

pub overflow_add-address : goal.overflow_add-address
overflow_add-address c =
    let fits = code_fits c.args.file.now.view.now c.args.address c.requires.read (pair_is_code (plain_view c.args.file.now.view.now) c.args.address c.requires.pair).0 in
    omega (arith, fits)

pub word_of_code-second-requires-clause-code : goal.word_of_code-second-requires-clause-code
word_of_code-second-requires-clause-code c = (pair_is_code (plain_view c.args.file.now.view.now) c.args.address c.requires.pair).1

pub overflow_add-address-2 : goal.overflow_add-address-2
overflow_add-address-2 c =
    let fits = code_fits c.args.file.now.view.now (c.args.address + 4) c.requires.read (pair_is_code (plain_view c.args.file.now.view.now) c.args.address c.requires.pair).1 in
    omega (arith, fits)
