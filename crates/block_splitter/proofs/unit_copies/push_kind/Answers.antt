use Rattle.block_splitter.proofs.unit_copies.push_kind.Goals as goal

pub returns-in-Call : goal.returns-in-Call
returns-in-Call c = rw c.in-Call.is c.push_call.ensures
