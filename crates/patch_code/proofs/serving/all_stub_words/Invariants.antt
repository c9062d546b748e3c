use Rattle.std.proofs.Common.{drop}
use Rattle.patch_code.proofs.WholePlans.{IsSoFar}
use Rattle.patch_code.proofs.serving.all_stub_words.Given as goal

abbrev pub invariant-loop-stub : goal.invariant-loop-stub
invariant-loop-stub l = IsSoFar l.fn.base l.fn.switch l.fn.first l.ordered l.at (drop l.stub-index l.ordered) l.words.items
