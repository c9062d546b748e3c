use Rattle.object_machine.proofs.machine.Source.append_bytes.Goals as goal

pub returns-in-Ok-Some-clause-ok : goal.returns-in-Ok-Some-clause-ok
returns-in-Ok-Some-clause-ok c =
    let found = rw c.in-Ok-Some.field-0-is at c.in-Ok-Some.ensures in
    rw found (rw c.deref.ensures.value at c.append.ensures.ok)
