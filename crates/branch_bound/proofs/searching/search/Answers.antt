use Rattle.placement_programme.specs.Views.{plain_side}
use Rattle.branch_bound.specs.Ranking.{number_at}
use Rattle.branch_bound.specs.Searching.{IsOpened, Finds}
use Rattle.branch_bound.specs.Trails.{steps_on, nodes_on}
use Rattle.branch_bound.proofs.FindLemmas.{can_advance, whole_nodes}
use Rattle.branch_bound.proofs.TrailLemmas.{begins}
use Rattle.branch_bound.proofs.searching.search.Goals as goal

pub advance-requires-clause-stand : goal.advance-requires-clause-stand
advance-requires-clause-stand g c =
    let s = plain_side c.args.task.now.side.now in
    can_advance c.args.task.now.on s c.args.task.now.ranking.now c.args.node.now.marks.items c.args.run.now c.loop-node.trail c.loop-node.node.marks.items c.loop-node.run c.loop-node.stand c.loop-node.invariant.stands

pub loop-node-init : goal.loop-node-init
loop-node-init g c =
    let s = plain_side c.args.task.now.side.now in
    let on = c.args.task.now.on in
    let ranking = c.args.task.now.ranking.now in
    let root = c.args.node.now.marks.items in
    let start = c.args.run.now in
    record {
      stands = record {
        way = begins (number_at ranking) (IsOpened on s ranking) (Finds on s) root start (steps_on c.first_trail-trail.result) (nodes_on c.first_trail-trail.result) c.first_trail-trail.ensures.steps c.first_trail-trail.ensures.closed;
        visit = record { passed = c.requires.passed; known = c.requires.known };
      };
      tallies = c.requires.tallies;
      small = c.requires.small;
    }

pub loop-node-preserved : goal.loop-node-preserved
loop-node-preserved g c =
    record {
      stands = c.in_ok-stand.ensures.stands c.args.node.now.marks.items c.args.run.now c.loop-node.invariant.stands;
      tallies = c.advance.ensures.tallies;
      small = c.advance.ensures.small;
    }

pub ended_tree-requires-clause-whole : goal.ended_tree-requires-clause-whole
ended_tree-requires-clause-whole g c =
    let s = plain_side c.args.task.now.side.now in
    whole_nodes c.args.task.now.on s c.args.task.now.ranking.now c.args.node.now.marks.items c.args.run.now c.loop-node.trail c.loop-node.node.marks.items c.loop-node.run c.loop-node.stand c.loop-node.invariant.stands

pub returns-clause-kept : goal.returns-clause-kept
returns-clause-kept g c =
    c.ended_tree.ensures.kept c.args.task.now.on (plain_side c.args.task.now.side.now) c.args.task.now.ranking.now c.args.node.now.marks.items c.args.run.now c.loop-node.node.marks.items c.loop-node.run c.loop-node.invariant.stands

pub returns-clause-levels : goal.returns-clause-levels
returns-clause-levels g c =
    (c.ended_tree.ensures.finds c.args.task.now.on (plain_side c.args.task.now.side.now) c.args.task.now.ranking.now c.args.node.now.marks.items c.args.run.now c.loop-node.node.marks.items c.loop-node.run c.loop-node.invariant.stands).levels

pub returns-clause-tells : goal.returns-clause-tells
returns-clause-tells g c =
    (c.ended_tree.ensures.finds c.args.task.now.on (plain_side c.args.task.now.side.now) c.args.task.now.ranking.now c.args.node.now.marks.items c.args.run.now c.loop-node.node.marks.items c.loop-node.run c.loop-node.invariant.stands).tells
