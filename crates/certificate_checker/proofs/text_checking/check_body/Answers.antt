use Rattle.std.proofs.Common.{◌≡◌, length, rules, sym, subst}
use Rattle.placement_programme.specs.Views.{plain_programme, plain_choice}
use Rattle.certificate_checker.specs.Nodes.{PlainCertificate}
use Rattle.certificate_checker.specs.Shows.{Answers}
use Rattle.certificate_checker.specs.Rooms.{KeepsChoice}
use Rattle.certificate_checker.specs.Views.{plain_verdict}
use Rattle.certificate_checker.proofs.RoomLemmas.{trees_claimed, verdict_right, body_read}
use Rattle.certificate_checker.proofs.text_checking.check_body.Goals as goal

pub returns-then-is_empty-clause-answers : goal.returns-then-is_empty-clause-answers
returns-then-is_empty-clause-answers c =
    let p = plain_programme c.args.p.now in
    let chosen = c.in_ok-best.ensures.chooses in
    let read = c.in_ok-trees.ensures.read in
    let trees = c.in_ok-trees.trees in
    let kept = plain_choice c.take_choice.new.choice in
    let made : PlainCertificate = record { choice = chosen.0; off = read.0.0; on = read.0.1 } in
    let claimed = trees_claimed c.args.total c.in_ok-optimal.optimal c.in_ok-best.rest.now (read.0, c.in_ok-trees.rest.now) read.1.0 in
    let right = verdict_right p made kept c.in_ok-best.best c.in_ok-optimal.optimal trees.off trees.on chosen.1.1 claimed.0 claimed.1 read.1.1 read.1.2 in
    let none : length c.in_ok-trees.rest.now ≡ 0 = search rules in (
      made,
      (
        body_read c.args.total c.args.bytes.now c.in_ok-optimal.optimal c.in_ok-optimal.rest.now chosen.0 c.in_ok-best.rest.now read.0 c.in_ok-trees.rest.now c.in_ok-optimal.ensures chosen.1.0 read.1.0 none,
        subst (λ v. Answers p made v) (sym c.verdict_of.ensures) right.0,
        subst (λ choice. KeepsChoice chosen.0 (plain_choice choice) (plain_verdict c.verdict_of.result)) (sym c.in_ok-trees.ensures.kept.choice)
            (subst (λ v. KeepsChoice chosen.0 kept v) (sym c.verdict_of.ensures) right.1),
      ),
    )
