use Rattle.std.proofs.Common.{◌≡◌, ◌+◌, inr, is_some, sym, ap, ◌∙◌, true, false, arith, refl}
use Rattle.std.proofs.lemmas.Grind.{common_steps}
use Rattle.hex_image.specs.Reading.{given_by}
use Rattle.hex_image.proofs.GivenLemmas.{put_twice, put_more}
use Rattle.hex_image.proofs.reading.put_data.Goals as goal

pub returns-then-is_some-clause-fault : goal.returns-then-is_some-clause-fault
returns-then-is_some-clause-fault c =
    let some : is_some (given_by c.loop-offset.map (c.args.start + c.loop-offset.offset)) ≡ true = ap (λ o. is_some o) (sym c.in_ok-insert.ensures.old) ∙ sym c.is_some.ensures ∙ c.if-is_some.true in
    let twice = put_twice (given_by c.args.map.now) (given_by c.loop-offset.map) c.args.start c.args.bytes.now c.loop-offset.offset c.loop-offset-test.true c.loop-offset.invariant some in
    inr (rw twice refl)

pub loop-offset-preserved : goal.loop-offset-preserved
loop-offset-preserved c =
    let free : is_some (given_by c.loop-offset.map (c.args.start + c.loop-offset.offset)) ≡ false = ap (λ o. is_some o) (sym c.in_ok-insert.ensures.old) ∙ sym c.is_some.ensures ∙ c.if-is_some.false in
    put_more (given_by c.args.map.now) (given_by c.loop-offset.map) (given_by c.insert.new.self) c.args.start c.args.bytes.now c.loop-offset.offset c.loop-offset-test.true c.loop-offset.invariant free
    (λ address. grind (arith, common_steps))
