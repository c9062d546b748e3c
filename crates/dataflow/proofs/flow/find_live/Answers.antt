use Rattle.std.proofs.Common.{◌≡◌, ◌∙◌, ◌+◌, ℕ, length, ap, subst, arith}
use Rattle.std.proofs.lemmas.List.{length-map, length-replicate}
use Rattle.reach_graph.specs.Reaching.{row_items, plain_rows, AreInside}
use Rattle.dataflow.proofs.PathLemmas.{words_are_live}
use Rattle.dataflow.proofs.TableLemmas.{program_edges}
use Rattle.dataflow.proofs.flow.find_live.Goals as goal

pub propagate-requires : goal.propagate-requires
propagate-requires c =
    let rows = c.add_arrivals.new.rows in
    let edges = program_edges c.args.code.now c.args.hub (plain_rows c.args.rows.now) (plain_rows c.add_blocks.new.rows) (plain_rows rows) c.requires.bare
    c.in_ok-add_blocks.ensures.edges c.in_ok-add_arrivals.ensures in
    let size : length c.args.words.now ≡ c.args.hub + 1 = ap length c.requires.words ∙ length-replicate {A = ℕ} (c.args.hub + 1) 0 in
    let each : length rows ≡ length c.add_blocks.new.words = omega (arith, size, c.requires.nodes, c.add_arrivals.auto.rows, c.add_blocks.auto.rows, c.add_blocks.auto.words) in
    let same : length (plain_rows rows) ≡ length c.add_blocks.new.words = length-map rows row_items ∙ each in
    record { one_each = each; inside = subst (λ (n : ℕ). AreInside (plain_rows rows) n) same edges.inside }

pub returns : goal.returns
returns c =
    let rows = c.add_arrivals.new.rows in
    let edges = program_edges c.args.code.now c.args.hub (plain_rows c.args.rows.now) (plain_rows c.add_blocks.new.rows) (plain_rows rows) c.requires.bare
    c.in_ok-add_blocks.ensures.edges c.in_ok-add_arrivals.ensures in
    words_are_live c.args.code.now c.args.hub (plain_rows rows) c.add_blocks.new.words c.requires.hub edges c.in_ok-add_blocks.ensures.marks c.propagate.new.marks
    c.in_ok-propagate.ensures
