use Rattle.placement_candidates.proofs.border_registers.registers_at.Goals as goal

pub returns-then-border : goal.returns-then-border
returns-then-border c code table x low =
    let told = c.live_registers.ensures code table x low in
    (λ has. (c.if-border.true, told.0 has), λ parts. told.1 parts.1)
