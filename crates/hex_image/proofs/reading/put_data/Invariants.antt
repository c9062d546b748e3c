use Rattle.hex_image.specs.Reading.{given_by}
use Rattle.hex_image.proofs.GivenLemmas.{Puts}
use Rattle.hex_image.proofs.reading.put_data.Given as goal

-- no address had a byte before, and each has its byte now
abbrev pub invariant-loop-offset : goal.invariant-loop-offset
invariant-loop-offset l = Puts (given_by l.fn.map) (given_by l.map) l.start l.bytes l.offset
