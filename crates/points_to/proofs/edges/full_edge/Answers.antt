use Rattle.std.proofs.Common.{refl}
use Rattle.points_to.specs.Nodes.{all_marks}
use Rattle.points_to.proofs.edges.full_edge.Goals as goal

pub returns : goal.returns
unfolding all_marks
returns c = refl
