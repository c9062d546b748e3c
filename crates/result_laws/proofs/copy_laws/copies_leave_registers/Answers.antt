use Rattle.result_laws.proofs.SameRegisters.{copies_leave_registers}
use Rattle.result_laws.proofs.copy_laws.copies_leave_registers.Goals as goal

pub returns : goal.returns
returns c = copies_leave_registers
