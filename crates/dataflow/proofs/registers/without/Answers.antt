use Rattle.std.proofs.Common.{◌<◌, ◌-◌, ◌^◌, ℕ, bit_and, subst}
use Rattle.std.specs.Prelude.{◌↔◌}
use Rattle.reach_graph.specs.Reaching.{HasMark}
use Rattle.dataflow.proofs.MarkLemmas.{marks_without}
use Rattle.dataflow.proofs.registers.without.Goals as goal

pub returns : goal.returns
returns c x low =
    let fits : c.from.result < 2 ^ 64 = c.from.type_inv in
    subst (λ (n : ℕ). HasMark (bit_and c.args.word (18446744073709551615 - c.from.result)) x ↔ (HasMark c.args.word x × (HasMark n x → ⊥))) c.from.ensures
    (marks_without c.args.word c.from.result x fits low)
