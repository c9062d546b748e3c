use Rattle.std.proofs.Common.{◌≡◌, ◌∙◌, ℕ, ◌<◌, ◌==◌, ◌&&◌, ◌||◌, sym, ap, subst, add-one, arith}
use Rattle.list_checks.specs.Tests.{any_below}
use Rattle.region_former.specs.Flow.{block_count}
use Rattle.region_former.specs.Borders.{bars, region_in, is_border, is_barred}
use Rattle.region_former.specs.Rows.{truth_at}
use Rattle.region_former.proofs.BlockLemmas.{barred_more}
use Rattle.region_former.proofs.borders.mark_barred.Goals as goal

pub loop-b-preserved : goal.loop-b-preserved
loop-b-preserved c =
    let code = c.args.code.now in
    let b = c.loop-b.b in
    let regions = c.args.regions.now in
    let dead = c.args.has_dead.now in
    let below : b < block_count code = omega (arith, c.loop-b-test.true, c.requires.borders) in
    record {
      len = c.bar.ensures.len ∙ c.loop-b.invariant.len;
      marked = λ r.
          subst (λ (n : ℕ). truth_at c.bar.new.barred r ≡ (truth_at c.args.barred.now r || any_below (bars code dead regions r) n)) (sym (add-one b))
          (barred_more (truth_at c.args.barred.now r) (truth_at c.loop-b.barred r) (truth_at c.bar.new.barred r) (any_below (bars code dead regions r) b)
          (region_in regions b == r) (truth_at c.args.border.now b) (is_border code regions b) (is_barred code dead b)
          (c.loop-b.invariant.marked r)
          (c.bar.ensures.barred r ∙ ap (λ x. truth_at c.loop-b.barred r || ((region_in regions b == r) && x)) c.bars-bars.ensures)
          (c.requires.border b below));
    }
