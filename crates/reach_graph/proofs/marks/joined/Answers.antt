use Rattle.std.proofs.lemmas.Nat.{or_lt}
use Rattle.reach_graph.proofs.MarkLemmas.{marks_joined}
use Rattle.reach_graph.proofs.marks.joined.Goals as goal

pub returns-clause-marks : goal.returns-clause-marks
returns-clause-marks c k = marks_joined c.args.first c.args.second k

pub returns-clause-fits : goal.returns-clause-fits
returns-clause-fits c = or_lt 64 c.args.first c.args.second c.ranges.first.fits c.ranges.second.fits
