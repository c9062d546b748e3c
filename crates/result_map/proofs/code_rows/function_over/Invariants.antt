use Rattle.std.proofs.Common.{◌≡◌}
use Rattle.result_map.specs.MapText.{function_over}
use Rattle.result_map.proofs.code_rows.function_over.Given as goal

abbrev pub invariant-loop-k : goal.invariant-loop-k
invariant-loop-k l = l.found ≡ function_over l.functions l.address l.k
