use Rattle.std.proofs.lemmas.Result.{on_ok_weaker}
use Rattle.elf_reader.specs.File.{plain_view}
use Rattle.code_blocks.proofs.PairLemmas.{return_added, no_return, no_words}
use Rattle.code_blocks.proofs.strata.add_pair_return.Goals as goal

pub returns-in-Some : goal.returns-in-Some
returns-in-Some c =
    let v = plain_view c.args.file.now.view.now in
    on_ok_weaker c.add_leader.result
    (λ added a. return_added v a c.args.pair c.in-Some.second _ _ _ c.in-Some.ensures.words.0 c.in-Some.ensures.words.2 c.links.ensures c.if-links.true (added a))
    c.add_leader.ensures

pub returns-in_default : goal.returns-in_default
returns-in_default c a =
    no_return (plain_view c.args.file.now.view.now) a c.args.pair c.in-Some.second _ _ c.in-Some.ensures.words.2 c.links.ensures c.if-links.false

pub returns-in_default-2 : goal.returns-in_default-2
returns-in_default-2 c a =
    no_words (plain_view c.args.file.now.view.now) a c.args.pair _ (rw c.in_default.is at c.pair_words.ensures).words
