use Rattle.std.proofs.Common.{ℕ, refl, ap, sym, subst}
use Rattle.cell_values.specs.Objects.{IsOfGraph}
use Rattle.object_machine.specs.State.{Values}
use Rattle.object_machine.specs.Registers.{registers_of}
use Rattle.object_machine.specs.Machine.{seen_state}
use Rattle.object_machine.proofs.RegisterLemmas.{write_of_graph}
use Rattle.object_machine.proofs.machine.Source.set_register.Goals as goal

pub invariant_of-self-clause-values : goal.invariant_of-self-clause-values
invariant_of-self-clause-values c =
    let m = c.args.self.now in
    let g = m.tables.graph in
    λ k. subst (λ (regs : Values). IsOfGraph g (regs k)) (sym c.set.ensures)
    (write_of_graph g (registers_of m.regs) c.args.rd c.args.v c.requires.of m.values k)

pub returns-clause-state : goal.returns-clause-state
returns-clause-state c =
    let m = c.args.self.now in
    (refl, ap (λ (regs : Values). record (seen_state m) { regs = regs }) c.set.ensures)
