use Rattle.std.proofs.Common.{rules, arith}
use Rattle.std.proofs.lemmas.Result.{on_ok_weaker}
use Rattle.certificate_checker.proofs.DigitLemmas.{digits_small, pushed_more}
use Rattle.certificate_checker.proofs.writing.+push_digits.Goals as goal

pub push_digits-requires : goal.push_digits-requires
push_digits-requires t c =
    (search rules, digits_small c.args.more c.args.number (omega arith) c.requires)

pub returns : goal.returns
returns t c =
    on_ok_weaker c.push_digits.result
    (λ is. pushed_more c.args.more c.args.number c.args.out.now.items c.push-2.new.self.items c.push_digits.new.out.items (omega arith) (omega arith) c.in_ok-push-2.ensures.items is)
    c.push_digits.ensures
