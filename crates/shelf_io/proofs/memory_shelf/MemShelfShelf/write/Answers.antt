use Rattle.std.proofs.Common.{refl}
use Rattle.shelf_io.proofs.Views.{wanted_memory}
use Rattle.shelf_io.proofs.memory_shelf.MemShelfShelf.write.Goals as goal

pub returns-in-Err-Memory-clause-leaves : goal.returns-in-Err-Memory-clause-leaves
returns-in-Err-Memory-clause-leaves c =
    let same = rw c.in-Err-Memory.field-0-is at c.in-Err-Memory.ensures.leaves in
    wanted_memory _ _ _ same refl refl c.count_want.ensures.calls c.count_want.ensures.wants
