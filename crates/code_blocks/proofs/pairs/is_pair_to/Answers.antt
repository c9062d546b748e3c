use Rattle.std.proofs.Common.{◌∙◌}
use Rattle.elf_reader.specs.File.{plain_view}
use Rattle.code_blocks.proofs.PairLemmas.{pair_to, no_pair_fits, no_pair_there}
use Rattle.code_blocks.proofs.pairs.is_pair_to.Goals as goal

pub returns-then-fits_pair : goal.returns-then-fits_pair
returns-then-fits_pair c =
    pair_to (plain_view c.args.file.now.view.now) c.args.at c.args.to c.in-Some.first c.in-Some.second c.pair_target.result _ _ c.in-Some.ensures.words.0 c.in-Some.ensures.words.1 c.in-Some.ensures.words.2
    c.fits_pair.ensures c.if-fits_pair.true c.pair_target.ensures c.goes_unbarred.ensures

pub returns-else-fits_pair : goal.returns-else-fits_pair
returns-else-fits_pair c =
    c.if-fits_pair.false ∙ no_pair_fits (plain_view c.args.file.now.view.now) c.args.at c.args.to c.in-Some.first c.in-Some.second _ c.in-Some.ensures.words.1 c.in-Some.ensures.words.2 c.fits_pair.ensures c.if-fits_pair.false

pub returns-in-None : goal.returns-in-None
returns-in-None c = no_pair_there (plain_view c.args.file.now.view.now) c.args.at c.args.to c.in-None.ensures.words
