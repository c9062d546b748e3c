-- Each arm is that of its instruction.
use Rattle.std.proofs.Common.{rules, w32}
use Rattle.std.specs.Prelude.{FitsSigned}
use Rattle.std.proofs.lemmas.Int.{to_z-of_z}
use Rattle.flat_machine.proofs.machine.Flat.access_of.Goals as goal

pub returns-in-Load : goal.returns-in-Load
returns-in-Load g c =
    let fits : FitsSigned w32 c.in-Load.imm = search rules in rw c.in-Load.is (simp to_z-of_z at (c.load_access.ensures c.in-Load.rd))

pub returns-in-Store : goal.returns-in-Store
returns-in-Store g c =
    let fits : FitsSigned w32 c.in-Store.imm = search rules in rw c.in-Store.is (simp to_z-of_z at (c.store_access.ensures c.in-Store.rs2))
