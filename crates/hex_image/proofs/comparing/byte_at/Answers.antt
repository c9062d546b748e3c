use Rattle.std.proofs.Common.{sym, arith}
use Rattle.std.proofs.lemmas.Grind.{common_steps}
use Rattle.std.proofs.lemmas.Option.{gets}
use Rattle.hex_image.proofs.GivenLemmas.{byte_from_below}
use Rattle.hex_image.proofs.OffLemmas.{byte_from_get}
use Rattle.hex_image.proofs.comparing.byte_at.Goals as goal

pub returns-then-address-start : goal.returns-then-address-start
returns-then-address-start c = sym (byte_from_below c.args.start c.args.bytes.now c.args.address (omega arith))

pub returns : goal.returns
returns c = rw (byte_from_get c.args.start c.args.bytes.now c.args.address (omega arith)) (grind (arith, common_steps, gets))
