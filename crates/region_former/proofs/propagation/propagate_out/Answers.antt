use Rattle.std.proofs.Common.{ℕ, List, refl, sym, subst}
use Rattle.region_former.specs.Propagation.{PropagatesSoFar}
use Rattle.region_former.proofs.PropagationLemmas.{so_far_more, so_far_all, push_right, none_left}
use Rattle.region_former.proofs.propagation.propagate_out.Goals as goal

pub propagate_from-requires : goal.propagate_from-requires
propagate_from-requires c =
    let q = subst (λ (ws : List ℕ). PropagatesSoFar c.args.marks.now c.args.rows.now ws c.loop-f.marks) c.in-Some.ensures.items c.loop-f.invariant in
    let below = q.below c.in-Some.f (push_right c.pop.new.self.items c.in-Some.f c.in-Some.f refl) in
    record {
      function = rw q.same_length below;
      row = rw c.requires.one_each below;
      below = rw q.same_length c.requires.below;
    }

pub loop-f-preserved : goal.loop-f-preserved
loop-f-preserved c =
    let q = subst (λ (ws : List ℕ). PropagatesSoFar c.args.marks.now c.args.rows.now ws c.loop-f.marks) c.in-Some.ensures.items c.loop-f.invariant in
    so_far_more c.args.marks.now c.args.rows.now c.pop.new.self.items c.in-Some.f c.loop-f.marks c.propagate_from.new.marks c.propagate_from.new.waiting.items c.requires.below q c.in_ok-propagate_from.ensures

pub returns : goal.returns
returns c =
    so_far_all c.args.marks.now c.args.rows.now c.loop-f.waiting.items c.loop-f.marks
    (none_left c.pop.result _ _ c.loop-f.waiting.items c.pop.ensures.cases c.in_default.not-Some (sym c.loop-f.waiting.ok.0))
    c.loop-f.invariant
