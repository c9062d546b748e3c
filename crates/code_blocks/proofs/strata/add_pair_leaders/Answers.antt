use Rattle.std.proofs.Common.{◌≡◌, length, arith}
use Rattle.elf_reader.specs.File.{plain_view}
use Rattle.loaded_file.specs.Code.{is_code_word}
use Rattle.code_blocks.specs.Early.{has}
use Rattle.code_blocks.specs.PairLeaders.{pair_leads}
use Rattle.code_blocks.proofs.EarlyLemmas.{none_more}
use Rattle.code_blocks.proofs.PairLemmas.{listed_more, listed_all}
use Rattle.code_blocks.proofs.strata.add_pair_leaders.Goals as goal

pub loop-pair-init : goal.loop-pair-init
loop-pair-init c a = none_more (has c.args.leaders.now.items a) (is_code_word (plain_view c.args.file.now.view.now) a)

pub loop-pair-preserved : goal.loop-pair-preserved
loop-pair-preserved c a =
    let v = plain_view c.args.file.now.view.now in
    listed_more _ _ _ (is_code_word v a) (pair_leads c.args.rule v a) c.args.pairs.now c.loop-pair.pair-index (omega arith) (c.loop-pair.invariant a) (c.in_ok-add_pair_leader.ensures a)

pub returns : goal.returns
returns c a =
    let v = plain_view c.args.file.now.view.now in
    let all : c.loop-pair.pair-index ≡ length c.args.pairs.now = omega arith in
    listed_all _ _ (is_code_word v a) (pair_leads c.args.rule v a) c.args.pairs.now c.loop-pair.pair-index all (c.loop-pair.invariant a)
