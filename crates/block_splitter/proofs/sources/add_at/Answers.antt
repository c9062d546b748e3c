use Rattle.std.proofs.Common.{◌∙◌, min, max, ap}
use Rattle.block_splitter.specs.Facts.{sources_at}
use Rattle.code_blocks.proofs.StartLemmas.{is_number}
use Rattle.block_splitter.proofs.SourceLemmas.{least_there, greatest_there}
use Rattle.block_splitter.proofs.sources.add_at.Goals as goal

pub returns-in-Some-clause-least : goal.returns-in-Some-clause-least
returns-in-Some-clause-least c = λ b first below.
    least_there c.args.sources.now c.in-Some.block c.args.a b first _ _ (rw c.requires.each c.in-Some.ensures.0)
    (is_number c.args.code.now c.args.address c.in-Some.block b c.requires.ascending c.in-Some.ensures below)
    (c.min.ensures ∙ ap (min (sources_at c.args.sources.now c.in-Some.block).least) c.number_of-source.ensures)

pub returns-in-Some-clause-greatest : goal.returns-in-Some-clause-greatest
returns-in-Some-clause-greatest c = λ b last below.
    greatest_there c.args.sources.now c.in-Some.block c.args.a b last _ _ (rw c.requires.each c.in-Some.ensures.0)
    (is_number c.args.code.now c.args.address c.in-Some.block b c.requires.ascending c.in-Some.ensures below)
    (c.max.ensures ∙ ap (max (sources_at c.args.sources.now c.in-Some.block).greatest) c.number_of-source.ensures)
