use Rattle.cell_values.proofs.store.CellStore.make_place.Goals as goal

pub returns-in-Byte-clause-place : goal.returns-in-Byte-clause-place
returns-in-Byte-clause-place c = rw c.in-Byte.is c.make_byte_place.ensures.place
