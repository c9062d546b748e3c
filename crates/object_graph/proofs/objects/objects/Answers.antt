use Rattle.std.proofs.Common.{◌≡◌, ◌∙◌, length, take, ap, arith}
use Rattle.std.proofs.Math.Seq.{take-length}
use Rattle.elf_reader.specs.File.{plain_view}
use Rattle.object_graph.proofs.GraphLemmas.{object_more, named_more}
use Rattle.object_graph.proofs.RangeLemmas.{range_at}
use Rattle.object_graph.proofs.objects.objects.Goals as goal

pub object_of-requires-clause-range : goal.object_of-requires-clause-range
object_of-requires-clause-range c =
    range_at (plain_view c.args.file.now.view.now) c.args.ranges.now c.requires.movable c.loop-k.k (omega arith)

pub loop-k-preserved : goal.loop-k-preserved
loop-k-preserved c =
    let v = plain_view c.args.file.now.view.now in
    let grown = c.in_ok-push.ensures.items in
    let held = c.loop-k.invariant in
    record {
      ranges = object_more v c.args.ranges.now _ _ c.object_of.result c.loop-k.k grown held.ranges c.object_of.ensures.range (omega arith);
      named = named_more v _ _ c.object_of.result grown held.named c.object_of.ensures.named;
    }

pub returns-clause-ranges : goal.returns-clause-ranges
returns-clause-ranges c =
    let all : c.loop-k.k ≡ length c.args.ranges.now = omega arith in
    c.loop-k.invariant.ranges ∙ ap (λ n. take n c.args.ranges.now) all ∙ take-length c.args.ranges.now
