use Rattle.std.proofs.Common.{◌≡◌, ◌<◌, ℕ, length, subst, arith}
use Rattle.std.specs.Prelude.{◌↔◌}
use Rattle.std.proofs.lemmas.List.{get_or_default}
use Rattle.reach_graph.specs.Reaching.{HasMark}
use Rattle.code_blocks.specs.Leads.{no_unit}
use Rattle.dataflow.specs.Summaries.{NoneDefines}
use Rattle.dataflow.proofs.UnitLemmas.{used_none, kept_all, used_more, kept_more}
use Rattle.dataflow.proofs.summaries.over_units.Goals as goal

pub loop-unit-init : goal.loop-unit-init
loop-unit-init c = record { used = λ x low. used_none c.args.units.now x; kept = λ x low. kept_all c.args.units.now x low }

pub loop-unit-preserved : goal.loop-unit-preserved
loop-unit-preserved c =
    let us = c.args.units.now in
    let i = c.loop-unit.unit-index in
    let below : i < length us = omega arith in
    record {
      used = λ x low. used_more us i x c.loop-unit.all.used c.loop-unit.all.kept c.then-all.result.used _ (get_or_default us i _ no_unit below) (c.loop-unit.invariant.used x low)
          (c.loop-unit.invariant.kept x low) (c.then-all.ensures.used x low);
      kept = λ x low. kept_more us i x c.loop-unit.all.kept c.then-all.result.kept _ (get_or_default us i _ no_unit below) (c.loop-unit.invariant.kept x low)
          (c.then-all.ensures.kept x low);
    }

pub returns-clause-kept : goal.returns-clause-kept
returns-clause-kept c x low =
    let all : c.loop-unit.unit-index ≡ length c.args.units.now = omega arith in
    subst (λ (n : ℕ). HasMark c.loop-unit.all.kept x ↔ NoneDefines c.args.units.now n x) all (c.loop-unit.invariant.kept x low)
