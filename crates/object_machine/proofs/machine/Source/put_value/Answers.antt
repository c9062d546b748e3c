use Rattle.object_machine.proofs.machine.Source.put_value.Goals as goal

pub put_value_fixed-requires-clause-spans : goal.put_value_fixed-requires-clause-spans
put_value_fixed-requires-clause-spans c = rw c.store_bytes.ensures.value (rw c.in-Fixed.is at c.requires.spans)

pub put_value_inside-requires-clause-spans : goal.put_value_inside-requires-clause-spans
put_value_inside-requires-clause-spans c =
    rw c.store_bytes-in-Object.ensures.value (rw c.in-Object.is at c.requires.spans)

pub returns-in-Fixed-clause-state : goal.returns-in-Fixed-clause-state
returns-in-Fixed-clause-state c =
    rw c.in-Fixed.is (rw c.store_bytes.ensures.value at c.put_value_fixed.ensures.state)

pub returns-in-Object-clause-state : goal.returns-in-Object-clause-state
returns-in-Object-clause-state c =
    rw c.in-Object.is (rw c.store_bytes-in-Object.ensures.value at c.put_value_inside.ensures.state)
