use Rattle.std.proofs.Common.{◌≡◌, ℕ, ◌*◌, ap, subst, arith}
use Rattle.reach_graph.specs.Reaching.{word_at}
use Rattle.points_to.specs.Tables.{AreKept}
use Rattle.points_to.proofs.reached.Reached.of.Goals as goal

pub returns : goal.returns
returns c =
    let marks = c.args.marks.now in
    let all : c.loop-node.node ≡ 32 * c.args.nodes.blocks = omega arith in
    let kept = subst (λ (m : ℕ). AreKept (word_at marks) m c.loop-node.reached.items c.loop-node.words.items) all c.loop-node.invariant in record {
      entries = kept.exact;
      in_memory = ap (word_at marks) c.memory.ensures;
    }
