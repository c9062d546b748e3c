use Rattle.std.proofs.Common.{◌≡◌, ◌≤◌, ◌*◌, take, sum}
use Rattle.printed_lines.proofs.profiles.total.Given as goal

abbrev pub invariant-loop-count : goal.invariant-loop-count
invariant-loop-count l = record {
  sum : l.total ≡ sum (take l.count-index l.counts);
  few : l.total ≤ l.count-index * 18446744073709551615;
}
