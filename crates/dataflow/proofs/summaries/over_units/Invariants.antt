use Rattle.std.proofs.Common.{ℕ, ◌<◌}
use Rattle.std.specs.Prelude.{◌↔◌}
use Rattle.reach_graph.specs.Reaching.{HasMark}
use Rattle.dataflow.specs.Summaries.{UsedFirst, NoneDefines}
use Rattle.dataflow.proofs.summaries.over_units.Given as goal

abbrev pub invariant-loop-unit : goal.invariant-loop-unit
invariant-loop-unit l =
    record {
      used : (x : ℕ) → x < 32 → HasMark l.all.used x ↔ UsedFirst l.units l.unit-index x;
      kept : (x : ℕ) → x < 32 → HasMark l.all.kept x ↔ NoneDefines l.units l.unit-index x;
    }
