use Rattle.std.proofs.Common.{suc, option_map, subst, arith}
use Rattle.std.specs.List.{count_by}
use Rattle.certificate_checker.specs.Fixings.{is_free}
use Rattle.placement_programme.specs.Views.{plain_side, plain_programme}
use Rattle.certificate_checker.specs.Views.{plain_tree}
use Rattle.branch_bound.specs.SideStands.{number_itself, IsOpenedBy, FindsBy}
use Rattle.branch_bound.specs.Trails.{steps_on, nodes_on}
use Rattle.branch_bound.specs.Guided.{stand, Searches}
use Rattle.branch_bound.proofs.SideFindLemmas.{beside, can_go_on, whole_side, shown_levels, some_same}
use Rattle.branch_bound.proofs.TrailLemmas.{begins}
use Rattle.branch_bound.proofs.side_searching.search.Goals as goal

pub advance-requires-clause-stand : goal.advance-requires-clause-stand
advance-requires-clause-stand g c =
    can_go_on g.G.Guide.answers (plain_programme c.args.task.now.programme.now) c.args.task.now.on (plain_side c.args.task.now.side.now) c.args.marks.now (c.args.guide.now, c.args.best.now) c.loop-guide.trail c.loop-guide.marks (c.loop-guide.guide, c.loop-guide.best) c.loop-guide.at c.loop-guide.invariant.stands

pub loop-guide-init : goal.loop-guide-init
loop-guide-init g c =
    let answers = g.G.Guide.answers in
    let p = plain_programme c.args.task.now.programme.now in
    let s = plain_side c.args.task.now.side.now in
    let on = c.args.task.now.on in
    let root = c.args.marks.now in
    let start = beside c.args.guide.now c.args.best.now in
    let trail = c.first_trail-trail.result in
    record {
      stands = begins number_itself (IsOpenedBy answers p on s) (FindsBy answers p on s) root start (steps_on trail) (nodes_on trail) c.first_trail-trail.ensures.steps c.first_trail-trail.ensures.closed;
      ready = c.requires.ready;
    }

pub loop-guide-preserved : goal.loop-guide-preserved
loop-guide-preserved g c =
    record {
      stands = c.in_ok-at.ensures.stands c.args.marks.now (beside c.args.guide.now c.args.best.now) c.loop-guide.invariant.stands;
      ready = c.in_ok-at.ensures.ready;
    }

pub ended_tree-requires-clause-whole : goal.ended_tree-requires-clause-whole
ended_tree-requires-clause-whole g c =
    whole_side g.G.Guide.answers (plain_programme c.args.task.now.programme.now) c.args.task.now.on (plain_side c.args.task.now.side.now) c.args.marks.now (beside c.args.guide.now c.args.best.now) c.loop-guide.trail c.loop-guide.marks (beside c.loop-guide.guide c.loop-guide.best) c.loop-guide.at c.loop-guide.invariant.stands

pub returns-clause-kept : goal.returns-clause-kept
returns-clause-kept g c =
    c.ended_tree.ensures.kept (plain_programme c.args.task.now.programme.now) c.args.task.now.on (plain_side c.args.task.now.side.now) c.args.marks.now (beside c.args.guide.now c.args.best.now) c.loop-guide.marks (beside c.loop-guide.guide c.loop-guide.best) c.loop-guide.invariant.stands

pub returns-clause-shown : goal.returns-clause-shown
returns-clause-shown g c =
    let s = plain_side c.args.task.now.side.now in
    let root = c.args.marks.now in
    let finds = c.ended_tree.ensures.finds (plain_programme c.args.task.now.programme.now) c.args.task.now.on s root (beside c.args.guide.now c.args.best.now) c.loop-guide.marks (beside c.loop-guide.guide c.loop-guide.best) c.loop-guide.invariant.stands in
    let deep = c.requires.deep in
    shown_levels s c.loop-guide.best.gain root (suc (count_by is_free root)) c.args.levels (option_map plain_tree c.ended_tree.result) (omega (arith, deep)) finds.shown

pub returns-clause-searches : goal.returns-clause-searches
returns-clause-searches g c =
    let p = plain_programme c.args.task.now.programme.now in
    let s = plain_side c.args.task.now.side.now in
    let on = c.args.task.now.on in
    let finds = c.ended_tree.ensures.finds p on s c.args.marks.now (beside c.args.guide.now c.args.best.now) c.loop-guide.marks (beside c.loop-guide.guide c.loop-guide.best) c.loop-guide.invariant.stands in
    subst (λ b. Searches g.G.Guide.answers p on s c.args.marks.now (stand c.args.guide.now c.args.best.now) b (stand c.loop-guide.guide c.loop-guide.best)) (some_same plain_tree c.ended_tree.result) finds.searches
