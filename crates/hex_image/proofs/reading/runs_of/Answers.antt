use Rattle.std.proofs.Common.{arith}
use Rattle.std.proofs.lemmas.Map.Iter.{rest_more, rest_all}
use Rattle.std.specs.Map.Iter.{deref_pair}
use Rattle.hex_image.specs.Runs.{map_runs}
use Rattle.hex_image.specs.Reading.{given_by}
use Rattle.hex_image.proofs.EntryLemmas.{goes_first, goes_on, gone}
use Rattle.hex_image.proofs.RunLemmas.{maximal_from_below}
use Rattle.hex_image.proofs.reading.runs_of.Goals as goal

pub loop-address-init : goal.loop-address-init
loop-address-init c =
    let gives = c.into_iter-address-iterator.ensures.into_iter_gives in
    rw c.new-runs.ensures.items (goes_first c.args.map.now c.into_iter-address-iterator.result gives.0 gives.5)

pub loop-address-preserved : goal.loop-address-preserved
loop-address-preserved c =
    let is = rest_more deref_pair c.loop-address.address-iterator c.next.new.self c.next.result (c.in-Some.address, c.in-Some.byte) c.in-Some.is c.next.ensures.steps in
    rw c.in_ok-push_byte.ensures (goes_on (map_runs c.loop-address.runs.items) c.in-Some.address.now c.in-Some.byte.now c.next.new.self c.loop-address.address-iterator (given_by c.args.map.now) (omega arith) is c.loop-address.invariant)

pub returns-clause-maximal : goal.returns-clause-maximal
returns-clause-maximal c = maximal_from_below c.loop-address.invariant.reached (map_runs c.loop-address.runs.items) c.loop-address.invariant.fits c.loop-address.invariant.below

pub returns-clause-bytes : goal.returns-clause-bytes
returns-clause-bytes c =
    let is = rest_all deref_pair c.loop-address.address-iterator c.next.new.self c.next.result c.in-None.is c.next.ensures.steps in
    gone (map_runs c.loop-address.runs.items) c.loop-address.address-iterator (given_by c.args.map.now) is c.loop-address.invariant
