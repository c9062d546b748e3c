use Rattle.std.proofs.Common.{◌≡◌, ◌<◌, ◌^◌, take}
use Rattle.command_language.specs.Command.{value_of}
use Rattle.command_language.proofs.numbers.digits_value.Given as goal

abbrev pub invariant-loop-digit : goal.invariant-loop-digit
invariant-loop-digit l = record {
  value : l.value ≡ value_of (take l.digit-index l.digits);
  small : l.value < 10 ^ l.digit-index;
}
