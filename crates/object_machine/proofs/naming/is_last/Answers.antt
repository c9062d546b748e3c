use Rattle.std.proofs.Common.{◌≡◌, ℕ, ◌+◌, refl, sym, ◌∙◌, ap}
use Rattle.code_blocks.specs.Early.{has}
use Rattle.object_machine.specs.declared.units.Prepared.{Prepared}
use Rattle.object_machine.specs.Units.{unit_in}
use Rattle.object_machine.proofs.naming.is_last.Goals as goal

pub returns-in-Some : goal.returns-in-Some
returns-in-Some c is starts landed =
    let at : c.from.result ≡ (unit_in c.args.units.now.items c.args.k).at = c.from.ensures ∙ ap (λ (u : Prepared). u.at) c.unit_at.ensures in
    record {
      straight = c.if-not-is_straight.ensures refl starts landed;
      behind = ap (λ (a : ℕ). has starts (a + 4)) (sym at) ∙ c.in-Some.ensures.begins starts landed;
    }
