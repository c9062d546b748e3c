use Rattle.std.proofs.Common.{◌∙◌, sym, refl}
use Rattle.paid_energy.proofs.inward_calls.is_within.Goals as goal

pub is_entry-requires-clause-are : goal.is_entry-requires-clause-are
is_entry-requires-clause-are c =
    let (code, (g, (are, below))) = c.requires.are in (code, (g, (are, (below, sym c.holds.ensures ∙ c.if-holds.true))))

pub returns-then-holds : goal.returns-then-holds
returns-then-holds c code g are below =
    let held = sym c.holds.ensures ∙ c.if-holds.true in
    let entry = c.is_entry.ensures code g are below held in
    rw (c.in-Some.is, held, entry) refl
