use Rattle.std.proofs.Common.{◌≡◌, ◌≤◌, ◌+◌, ◌-◌, ◌^◌, ◌*◌, get_or, take, ap, arith, ◌∙◌}
use Rattle.std.proofs.Math.Nat.{pow-succ', pow-le-pow_right}
use Rattle.std.proofs.lemmas.List.{take_more}
use Rattle.std.proofs.Common.{add-one}
use Rattle.command_language.specs.Command.{value_of}
use Rattle.command_language.proofs.DigitLemmas.{value_more}
use Rattle.command_language.proofs.numbers.digits_value.Goals as goal

pub overflow_mul-value : goal.overflow_mul-value
overflow_mul-value c =
    let below : c.loop-digit.digit-index ≤ 10 = omega (arith, c.loop-digit-test.true, c.requires.few) in
    let most : 10 ^ c.loop-digit.digit-index ≤ 10 ^ 10 = pow-le-pow_right (omega arith) below in
    omega (arith, most, c.loop-digit.invariant.small)

pub loop-digit-preserved : goal.loop-digit-preserved
loop-digit-preserved c =
    let digits = c.args.digits.now in
    let i = c.loop-digit.digit-index in
    let digit = get_or digits i 0 in
    let is_digit = c.requires.digits i 0 c.loop-digit-test.true in
    let more : value_of (take (i + 1) digits) ≡ 10 * value_of (take i digits) + (digit - 48) =
    ap value_of (take_more digits i 0 c.loop-digit-test.true) ∙ value_more 0 (take i digits) digit in
    let is : c.from.result ≡ digit - 48 = c.from.ensures in
    let tenfold : 10 ^ (i + 1) ≡ 10 * 10 ^ i = rw (add-one i) (pow-succ' 10 i) in
    record {
      value = omega (arith, more, is, c.loop-digit.invariant.value);
      small = omega (arith, is, is_digit.0, is_digit.1, tenfold, c.loop-digit.invariant.small);
    }
