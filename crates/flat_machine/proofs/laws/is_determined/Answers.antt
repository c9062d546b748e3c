use Rattle.flat_machine.proofs.Runs.{one_event, one_state, one_list, one_run}
use Rattle.flat_machine.proofs.laws.is_determined.Goals as goal

pub returns : goal.returns
returns c =
    let one = c.one_instruction.ensures in
    record { event = one_event one; state = one_state one; events = one_list one; steps = one_run one }
