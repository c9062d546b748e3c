use Rattle.std.proofs.Common.{OnOk, subst}
use Rattle.cell_values.specs.declared.values.Val.{Val}
use Rattle.object_machine.specs.Calls.{reads}
use Rattle.object_machine.specs.Machine.{seen, seen_state, Becomes}
use Rattle.object_machine.proofs.machine.Source.read_in.Goals as goal

pub returns-in-Int-clause-ok : goal.returns-in-Int-clause-ok
returns-in-Int-clause-ok c =
    let m = c.args.self.now in
    subst (λ (x : Val). OnOk c.read_bytes.result (Becomes m c.read_bytes.new.self (reads (seen m) (seen_state m) x))) c.in-Int.ensures.value
    (rw c.input_count.ensures.count at c.read_bytes.ensures.ok)
