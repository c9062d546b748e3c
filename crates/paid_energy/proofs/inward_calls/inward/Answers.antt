use Rattle.std.proofs.Common.{◌≡◌, ◌∙◌, ◌<◌, length, slice_index_or, ap, arith}
use Rattle.std.proofs.lemmas.List.Sums.{sum_by_more, sum_by_more_le}
use Rattle.placement_programme.specs.Views.{plain_programme, plain_choice}
use Rattle.energy_model.specs.Scenes.{scene_of}
use Rattle.placement_candidates.specs.Whole.{taken_of as names_taken}
use Rattle.paid_energy.specs.Inward.{inward_count}
use Rattle.paid_energy.proofs.InwardLemmas.{few_inward, edge_within}
use Rattle.paid_energy.proofs.Listed.{are_pieces, same_table}
use Rattle.paid_energy.proofs.inward_calls.inward.Goals as goal

pub inward_count-total-requires-clause-analysis : goal.inward_count-total-requires-clause-analysis
inward_count-total-requires-clause-analysis c = (c.requires.analysis.0, (c.args.board.now, c.requires.analysis.1))

pub inward_count-total-requires-clause-table : goal.inward_count-total-requires-clause-table
inward_count-total-requires-clause-table c =
    let a = c.args.a.now in
    let p = plain_programme c.args.p.now in
    let choice = plain_choice c.args.c.now in
    let names = (names_taken p choice).names in (
      names,
      (
        same_table c.len.result (length a.code.blocks.items) names c.in_ok-table.table.items c.deref.result.now c.in_ok-table.ensures (omega (arith, c.len.ensures, a.code.blocks.ok.0)) c.deref.ensures.value,
        are_pieces c.args.board.now a.graph a.code a.regions a.pieces.items p choice c.requires.choice,
      ),
    )

pub inward_count-total-requires-clause-from : goal.inward_count-total-requires-clause-from
inward_count-total-requires-clause-from c =
    (edge_within c.args.a.now.code c.args.profile.now.edges.items c.loop-j.j c.index.result.now c.requires.same.1.run.profile.edges.within
    (omega (arith, c.loop-j-test.true, c.len-j-end.ensures, c.args.profile.now.edges.ok.0)) c.index.ensures).0

pub inward_count-total-requires-clause-to : goal.inward_count-total-requires-clause-to
inward_count-total-requires-clause-to c =
    (edge_within c.args.a.now.code c.args.profile.now.edges.items c.loop-j.j c.index.result.now c.requires.same.1.run.profile.edges.within
    (omega (arith, c.loop-j-test.true, c.len-j-end.ensures, c.args.profile.now.edges.ok.0)) c.index.ensures).1

pub overflow_add-total : goal.overflow_add-total
overflow_add-total c =
    let a = c.args.a.now in
    let q = c.args.profile.now in
    let board = c.args.board.now in
    let taken = names_taken (plain_programme c.args.p.now) (plain_choice c.args.c.now) in
    let count = inward_count (scene_of a.graph a.code a.regions board) a.code taken in
    let below : c.loop-j.j < length q.edges.items = omega (arith, c.loop-j-test.true, c.len-j-end.ensures, q.edges.ok.0) in
    let (transitions, same) = c.requires.same in
    let few = few_inward c.one_instruction.ensures a.view board a.graph a.code a.regions q transitions taken same in
    let more = sum_by_more_le count q.edges.items c.loop-j.j c.index.result.now below in
    let table = same_table c.len.result (length a.code.blocks.items) taken.names c.in_ok-table.table.items c.deref.result.now c.in_ok-table.ensures (omega (arith, c.len.ensures, a.code.blocks.ok.0)) c.deref.ensures.value in
    let here : c.inward_count-total.result ≡ count (slice_index_or q.edges.items c.loop-j.j c.index.result.now) =
    c.inward_count-total.ensures board taken.names table ∙ ap count c.index.ensures in
    omega (arith, few, more, here, c.loop-j.invariant)

pub loop-j-preserved : goal.loop-j-preserved
loop-j-preserved c =
    let a = c.args.a.now in
    let q = c.args.profile.now in
    let board = c.args.board.now in
    let taken = names_taken (plain_programme c.args.p.now) (plain_choice c.args.c.now) in
    let count = inward_count (scene_of a.graph a.code a.regions board) a.code taken in
    let below : c.loop-j.j < length q.edges.items = omega (arith, c.loop-j-test.true, c.len-j-end.ensures, q.edges.ok.0) in
    let more = sum_by_more count q.edges.items c.loop-j.j c.index.result.now below in
    let table = same_table c.len.result (length a.code.blocks.items) taken.names c.in_ok-table.table.items c.deref.result.now c.in_ok-table.ensures (omega (arith, c.len.ensures, a.code.blocks.ok.0)) c.deref.ensures.value in
    let here : c.inward_count-total.result ≡ count (slice_index_or q.edges.items c.loop-j.j c.index.result.now) =
    c.inward_count-total.ensures board taken.names table ∙ ap count c.index.ensures in
    omega (arith, more, here, c.loop-j.invariant)
