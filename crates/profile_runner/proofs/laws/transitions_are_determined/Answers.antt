use Rattle.profile_runner.proofs.RunLemmas.{transitions_same}
use Rattle.profile_runner.proofs.laws.transitions_are_determined.Goals as goal

pub returns : goal.returns
returns c p n s t u transitions others run other =
    transitions_same c.one_instruction.ensures p n s t u transitions others run other
