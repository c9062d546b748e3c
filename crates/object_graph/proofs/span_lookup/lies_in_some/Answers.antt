use Rattle.std.proofs.Common.{◌≤◌, ◌-◌, ◌∙◌, sym, slice_index_or, arith}
use Rattle.object_graph.specs.Sites.{no_area}
use Rattle.object_graph.proofs.SpanLookupLemmas.{last_tells, none_begins, distance_tells}
use Rattle.object_graph.proofs.span_lookup.lies_in_some.Goals as goal

pub returns-then-begun-eq0 : goal.returns-then-begun-eq0
returns-then-begun-eq0 c =
    sym (none_begins c.args.ranges.now c.args.address (λ k below. c.count_begun-begun.ensures.later k (omega arith) below))

pub returns : goal.returns
returns c =
    let begun = c.count_begun-begun.result in
    let last = slice_index_or c.args.ranges.now (begun - 1) no_area in
    let begins : last.base ≤ c.args.address = c.count_begun-begun.ensures.begun (begun - 1) (omega arith) in
    distance_tells last.base last.size c.args.address begins
    ∙ last_tells c.args.ranges.now c.args.address begun (begun - 1) record {
      disjoint = c.requires;
      bound = c.count_begun-begun.ensures.bound;
      begins = c.count_begun-begun.ensures.begun;
      later = c.count_begun-begun.ensures.later;
      is = omega arith;
    }
