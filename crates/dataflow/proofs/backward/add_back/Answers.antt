use Rattle.std.proofs.Common.{◌∙◌}
use Rattle.std.proofs.lemmas.List.{length-map}
use Rattle.reach_graph.specs.Reaching.{row_items, plain_rows}
use Rattle.dataflow.proofs.TableLemmas.{whole_back}
use Rattle.dataflow.proofs.backward.add_back.Goals as goal

pub returns : goal.returns
returns c =
    let rows = c.args.rows.now in
    whole_back c.args.code.now c.args.hub (plain_rows rows) (plain_rows c.add_blocks_back.new.rows) (plain_rows c.add_arrivals.new.rows)
    (length-map rows row_items ∙ c.requires.nodes) c.requires.bare c.in_ok-add_blocks_back.ensures c.in_ok-add_arrivals.ensures
