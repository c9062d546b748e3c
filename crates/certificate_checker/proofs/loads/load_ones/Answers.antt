use Rattle.std.proofs.Common.{◌+◌, ◌^◌, slice_index, ap, arith}
use Rattle.placement_programme.specs.Programme.{weight_in, weight_at}
use Rattle.placement_programme.specs.Views.{plain_side}
use Rattle.placement_programme.proofs.WeightLemmas.{weight_small}
use Rattle.certificate_checker.proofs.TallyLemmas.{sum_one, sum_other}
use Rattle.certificate_checker.proofs.loads.load_ones.Goals as goal
use Rattle.certificate_checker.proofs.loads.load_ones.Goals.{then-is_one, else-is_one}

pub loop-number-preserved : goal.loop-number-preserved
loop-number-preserved c =
    let s = plain_side c.args.side.now in
    let n = c.loop-number.number in
    elim c.if-is_one.branch [
      | then-is_one w ↦
          record {
            values = λ row.
                let is = ap (λ l. slice_index l row) w.loads-is in
                let added = w.add_weights.ensures.values row in
                let weight = ap (λ ws. weight_in ws row) w.weights_of_var.ensures.value in
                sum_one (weight_at s.vars row) c.args.marks.now n (n + 1) (slice_index c.loop-number.loads row) (slice_index c.if-is_one.loads row) (omega arith) (c.is_one.ensures.0 w.if-is_one.true) (c.loop-number.invariant.values row) (omega (arith, is, added, weight));
            small = λ row.
                let is = ap (λ l. slice_index l row) w.loads-is in
                let added = w.add_weights.ensures.values row in
                let few = weight_small (2 ^ 32) w.weights_of_var.result.now row (omega arith) w.weights_of_var.ensures.rows.small in
                let so_far = c.loop-number.invariant.small row in
                omega (arith, is, added, few, so_far);
          }
      | else-is_one w ↦
          record {
            values = λ row.
                let is = ap (λ l. slice_index l row) w.loads-is in
                sum_other (weight_at s.vars row) c.args.marks.now n (n + 1) (slice_index c.loop-number.loads row) (slice_index c.if-is_one.loads row) (omega arith) (λ one. let found = c.is_one.ensures.1 one in let missed = w.if-is_one.false in cc) (c.loop-number.invariant.values row) is;
            small = λ row.
                let is = ap (λ l. slice_index l row) w.loads-is in
                let so_far = c.loop-number.invariant.small row in
                omega (arith, is, so_far);
          }
    ]
