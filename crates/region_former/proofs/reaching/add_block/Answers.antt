use Rattle.std.proofs.Common.{◌<◌, length, sym, add-one}
use Rattle.std.proofs.lemmas.Result.{on_ok_weaker}
use Rattle.region_former.proofs.BlockLemmas.{rows_more}
use Rattle.region_former.proofs.reaching.add_block.Goals as goal

pub returns-in-Some-clause-rows : goal.returns-in-Some-clause-rows
returns-in-Some-clause-rows c =
    let below : c.in-Some.f < length c.args.rows.now = rw c.requires.one_each c.in-Some.ensures.below in
    on_ok_weaker c.add_edges.result
    (λ added. rows_more c.args.code.now c.args.driver c.args.a c.in-Some.f _ c.args.rows.now c.index-rows-f.result c.add_edges.new.row (add-one c.args.a) c.requires.rows below (sym c.in-Some.ensures.owner) added)
    c.add_edges.ensures
