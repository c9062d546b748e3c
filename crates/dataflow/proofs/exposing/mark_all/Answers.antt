use Rattle.std.proofs.Common.{length}
use Rattle.dataflow.specs.Transfers.{IsInWords, MakesInBlocks, IsFound}
use Rattle.dataflow.proofs.MarkingLemmas.{adds_both}
use Rattle.dataflow.proofs.exposing.mark_all.Goals as goal

pub returns : goal.returns
returns c =
    let code = c.args.code.now in
    let g = c.args.graph.now in
    adds_both (IsInWords g (length g.data_words.items)) (MakesInBlocks code g.sites.items c.args.behind.now (length code.blocks.items))
    (IsFound code g c.args.behind.now) c.args.marks.now c.mark_words.new.marks
    c.mark_made.new.marks c.mark_words.ensures c.mark_made.ensures (λ o. (λ found. found, λ found. found))
