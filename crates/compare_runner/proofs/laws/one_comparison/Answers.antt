use Rattle.compare_runner.proofs.JudgeLemmas as judge
use Rattle.compare_runner.proofs.laws.one_comparison.Goals as goal

pub returns : goal.returns
returns c = judge.one_comparison c.one_instruction.ensures
