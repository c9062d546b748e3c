use Rattle.std.proofs.Common.{◌≡◌, ◌+◌, ◌-◌, ◌<◌, suc, arith}
use Rattle.profile_runner.proofs.TakingLemmas.{stands_as, begun_as, room_to_access, room_to_lead, unit_counted, unit_inside, next_begun, unit_goes, unit_led, unit_ended, units_short}
use Rattle.profile_runner.proofs.running.take_units.Goals as goal

pub take_unit-requires-clause-going : goal.take_unit-requires-clause-going
take_unit-requires-clause-going c p =
    let (course, (i, may)) = c.requires in
    c.loop-left.invariant.going course i may

pub take_unit-requires-clause-room : goal.take_unit-requires-clause-room
take_unit-requires-clause-room c =
    let (course, (i, may)) = c.requires in
    let l = c.loop-left in
    let few = may.few in
    let left = l.invariant.few in
    room_to_access course (i + (c.args.most - l.left)) (suc (c.args.most - l.left)) l.source l.tally may.course (l.invariant.going course i may) (omega arith) (l.invariant.begun course i may)

pub returns-then-not-stays : goal.returns-then-not-stays
returns-then-not-stays c course i may =
    let l = c.loop-left in
    let few = may.few in
    let left = l.invariant.few in
    let k = c.args.most - l.left in
    let more = c.args.most - (l.left - 1) in
    let one : suc k ≡ more = omega arith in
    let begun = l.invariant.begun course i may in
    let going = l.invariant.going course i may in
    let taken = c.in_ok-next.ensures course.program course.starts begun.far.is may.course.ascending may.course.knows.blocks in
    let short = units_short course (i + k) (suc k) l.source l.tally going begun in
    record {
      some = omega arith;
      short = omega (arith, short, one);
      led = λ next is. unit_led course l.source c.take_unit.new.source l.tally c.take_unit.new.tally c.in_ok-next.next c.in_ok-next.stays next going taken is;
      ended = λ none some. unit_ended course l.source c.take_unit.new.source l.tally c.take_unit.new.tally c.in_ok-next.next c.in_ok-next.stays going taken c.if-not-stays.true none;
      room = room_to_lead course (i + k) (suc k) l.source l.tally c.take_unit.new.tally taken.event.access c.in_ok-next.next may.course going (omega arith) begun taken.accessed;
      closed = λ z led.
          stands_as course (suc (i + k)) (i + more) (suc k) more c.take_unit.new.source z c.in_ok-next.next (omega (arith, one)) (omega (arith, one))
          (unit_counted course (i + k) (suc k) l.source c.take_unit.new.source l.tally c.take_unit.new.tally z c.in_ok-next.next c.in_ok-next.stays may.course begun going taken led);
    }

pub loop-left-preserved : goal.loop-left-preserved
loop-left-preserved c =
    let l = c.loop-left in
    let left = l.invariant.few in
    let k = c.args.most - l.left in
    let more = c.args.most - (l.left - 1) in
    let one : suc k ≡ more = omega arith in
    let stay = c.if-not-stays.false in
    record {
      few = omega arith;
      begun = λ course i may.
          let begun = l.invariant.begun course i may in
          let going = l.invariant.going course i may in
          let taken = c.in_ok-next.ensures course.program course.starts begun.far.is may.course.ascending may.course.knows.blocks in
          begun_as course (suc (i + k)) (i + more) (suc (suc k)) (suc more) c.take_unit.new.source c.take_unit.new.tally (omega (arith, one)) (omega (arith, one))
          (next_begun course (i + k) (suc k) l.source c.take_unit.new.source l.tally c.take_unit.new.tally c.in_ok-next.next c.in_ok-next.stays may.course begun going taken stay);
      going = λ course i may.
          let begun = l.invariant.begun course i may in
          let taken = c.in_ok-next.ensures course.program course.starts begun.far.is may.course.ascending may.course.knows.blocks in
          unit_goes course l.source c.take_unit.new.source l.tally c.take_unit.new.tally c.in_ok-next.next c.in_ok-next.stays (l.invariant.going course i may) taken stay;
      closed = λ course i may less z led.
          let begun = l.invariant.begun course i may in
          let going = l.invariant.going course i may in
          let taken = c.in_ok-next.ensures course.program course.starts begun.far.is may.course.ascending may.course.knows.blocks in
          stands_as course (suc (i + k)) (i + more) (suc k) more c.take_unit.new.source z _ (omega (arith, one)) (omega (arith, one))
          (unit_inside course (i + k) (suc k) l.source c.take_unit.new.source l.tally c.take_unit.new.tally z c.in_ok-next.next c.in_ok-next.stays may.course begun going taken stay led);
    }

pub returns : goal.returns
returns c course i may =
    let l = c.loop-left in
    let k = c.args.most - l.left in
    let begun = l.invariant.begun course i may in
    let going = l.invariant.going course i may in
    let short = units_short course (i + k) (suc k) l.source l.tally going begun in
    let some = may.some in
    let less : l.left < c.args.most = omega arith in
    record {
      some = less;
      short = omega (arith, short);
      led = λ next is. cc;
      ended = λ none some. absurd (omega arith);
      room = tt;
      closed = λ z led. l.invariant.closed course i may less z led;
    }
