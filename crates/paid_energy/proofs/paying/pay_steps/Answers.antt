use Rattle.std.proofs.Common.{◌≡◌, ◌+◌, subst, sym, ap, ◌∙◌, arith}
use Rattle.flat_machine.specs.Machine.{state_of}
use Rattle.paid_energy.specs.Costs.{fetch_cost, told_cost}
use Rattle.paid_energy.proofs.RunLemmas.{PaidSoFar, nothing_paid, paid_more}
use Rattle.paid_energy.proofs.paying.pay_steps.Goals as goal

pub loop-preserved : goal.loop-preserved
loop-preserved g c =
    let board = c.args.board.now in
    let start = state_of g.S.ByteStore.byte_at c.args.flat.now in
    let here = state_of g.S.ByteStore.byte_at c.loop.flat in
    let next = state_of g.S.ByteStore.byte_at c.step_telling.new.self in
    let access = c.in_ok-access.access in
    let cost : c.from-energy.result ≡ fetch_cost board here.hart.pc + told_cost board access =
    c.from-energy.ensures ∙ (c.step_cost.ensures.is ∙ ap (λ at. fetch_cost board at + told_cost board access) c.at-at.ensures) in
    record {
      paid = subst (λ n. PaidSoFar board start next (c.loop.counter + 1) (c.loop.steps + 1) (c.loop.energy + n)) (sym cost)
          (paid_more c.one_instruction.ensures board start here next c.loop.counter c.loop.steps c.loop.energy access
          c.loop.invariant.paid c.if-has_ended.ensures c.in_ok-access.ensures.step (omega (arith, cost, c.from-energy.ensures, c.step_cost.ensures.small)));
      known = c.in_ok-access.ensures.known;
    }

pub loop-init : goal.loop-init
loop-init g c =
    record { paid = nothing_paid c.args.board.now (state_of g.S.ByteStore.byte_at c.args.flat.now); known = c.requires.known }
