use Rattle.std.proofs.Common.{◌≡◌, ℕ, true, sym, subst}
use Rattle.code_blocks.specs.Early.{has}
use Rattle.object_machine.proofs.landings.add_start.Goals as goal

pub returns-then-is_unit_at : goal.returns-then-is_unit_at
returns-then-is_unit_at c starts begins are =
    let at = c.is_unit_at.ensures c.if-is_unit_at.true in
    c.add_landing.ensures c.args.units.now.items starts (subst (λ (a : ℕ). has starts a ≡ true) (sym at.1) begins) are
