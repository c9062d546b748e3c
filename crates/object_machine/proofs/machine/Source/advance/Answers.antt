use Rattle.std.proofs.Common.{◌≡◌, ℕ, ◌+◌, length, ◌∙◌, ap, arith}
use Rattle.object_machine.specs.Units.{unit_in}
use Rattle.object_machine.proofs.StartLemmas.{fit_below}
use Rattle.object_machine.proofs.machine.Source.advance.Goals as goal

-- the next unit is of the block
pub invariant_of-self : goal.invariant_of-self
invariant_of-self c =
    let m = c.args.self.now in
    let t = m.tables in
    let next = c.requires.next in
    let at : (unit_in t.units.items (m.place + 1)).at ≡ m.pc + 4 = next.1 ∙ ap (λ (a : ℕ). a + 4) m.at in
    let below = fit_below (length t.graph.objects.items) (unit_in t.units.items (m.place + 1)) (t.fit (m.place + 1) next.0) in
    record {
      inside = next.0;
      at = at;
      below = omega (arith, below, at);
      values = m.values;
      cells = m.cells;
      consumed_of_input = m.consumed_of_input;
    }
