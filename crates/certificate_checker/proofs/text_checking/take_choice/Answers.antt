use Rattle.std.proofs.Common.{arith}
use Rattle.placement_programme.specs.Views.{plain_programme}
use Rattle.certificate_checker.proofs.RoomLemmas.{choice_read, far_not_accepted, best_of}
use Rattle.certificate_checker.proofs.text_checking.take_choice.Goals as goal

pub returns-then-row_end-limit-clause-chooses : goal.returns-then-row_end-limit-clause-chooses
returns-then-row_end-limit-clause-chooses c =
    let takes = c.in_ok-row_end.ensures.takes in
    let far = c.if-row_end-limit.true in (
      record { on = c.in_ok-on.on; take = takes.0 },
      (
        choice_read c.args.total c.args.bytes.now c.in_ok-on.on c.in_ok-on.rest.now c.in_ok-count.count c.in_ok-count.rest.now takes.0 c.in_ok-row_end.rest.now c.in_ok-on.ensures c.in_ok-count.ensures takes.1.0,
        far_not_accepted (plain_programme c.args.p.now) c.in_ok-on.on c.side_vars-limit.result c.in_ok-row_end.row_end c.take_vars.new.take.items takes.0 takes.1.1 c.side_vars-limit.ensures (omega (arith, far)),
      ),
    )

pub returns-clause-chooses : goal.returns-clause-chooses
returns-clause-chooses c =
    let takes = c.in_ok-row_end.ensures.takes in
    let near = c.if-row_end-limit.false in (
      record { on = c.in_ok-on.on; take = takes.0 },
      (
        choice_read c.args.total c.args.bytes.now c.in_ok-on.on c.in_ok-on.rest.now c.in_ok-count.count c.in_ok-count.rest.now takes.0 c.in_ok-row_end.rest.now c.in_ok-on.ensures c.in_ok-count.ensures takes.1.0,
        best_of (plain_programme c.args.p.now) c.in_ok-on.on c.take_vars.new.take.items takes.0 c.accepted.result (takes.1.1.all (omega (arith, near))) c.accepted.ensures.accepted c.accepted.ensures.small,
      ),
    )
