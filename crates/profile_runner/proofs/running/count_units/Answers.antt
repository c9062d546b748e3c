use Rattle.std.proofs.Common.{ℕ, List, subst, arith}
use Rattle.profile_runner.specs.Tally.{HasRoomForBlock}
use Rattle.profile_runner.proofs.TakingLemmas.{room_to_begin, may_take}
use Rattle.profile_runner.proofs.running.count_units.Goals as goal

pub begin-requires : goal.begin-requires
begin-requires c =
    let (course, (i, (u, may))) = c.requires in
    let some = may.some in
    let few = may.few in
    subst (λ (rs : List ℕ). HasRoomForBlock rs c.args.block c.args.tally.now) may.regions_are
    (room_to_begin course i u c.args.source.now c.args.tally.now c.args.block may.course may.going (omega (arith, some, few)) may.far)

pub take_units-requires : goal.take_units-requires
take_units-requires c =
    let (course, (i, (u, may))) = c.requires in
    (course, (i, may_take course c.args.regions.now.of_block.items i u c.args.most c.args.source.now c.args.tally.now c.begin.new.self c.args.block may c.begin.ensures))

pub lead-requires : goal.lead-requires
lead-requires c =
    let (course, (i, (u, may))) = c.requires in
    let take = may_take course c.args.regions.now.of_block.items i u c.args.most c.args.source.now c.args.tally.now c.begin.new.self c.args.block may c.begin.ensures in
    (c.in_ok-left.ensures course i take).room

pub returns-in-Ok : goal.returns-in-Ok
returns-in-Ok c course i u may =
    let take = may_take course c.args.regions.now.of_block.items i u c.args.most c.args.source.now c.args.tally.now c.begin.new.self c.args.block may c.begin.ensures in
    let taken = c.in_ok-left.ensures course i take in
    record { some = taken.some; short = taken.short; led = taken.led; ended = taken.ended; far = taken.closed c.lead.new.self c.in-Ok.ensures }
