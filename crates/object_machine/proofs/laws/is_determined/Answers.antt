use Rattle.object_machine.proofs.RunLemmas.{one_event, one_state, one_run}
use Rattle.object_machine.proofs.laws.is_determined.Goals as goal

pub returns : goal.returns
returns c =
    let one = c.one_instruction.ensures in
    record { event = one_event one; state = one_state one; steps = one_run one }
