use Rattle.std.proofs.Common.{◌≡◌, ◌++◌, take}
use Rattle.std.specs.List.{flat_map}
use Rattle.certificate_checker.specs.Digits.{number_of}
use Rattle.certificate_checker.proofs.writing.push_vars.Given as goal

abbrev pub invariant-loop-var : goal.invariant-loop-var
invariant-loop-var l = l.out.items ≡ l.fn.out.items ++ flat_map number_of (take l.var-index l.vars)
