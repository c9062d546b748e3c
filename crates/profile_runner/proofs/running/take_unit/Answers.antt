use Rattle.std.proofs.Common.{◌∙◌, None, refl, sym, subst}
use Rattle.object_machine.specs.Machine.{state_of, seen}
use Rattle.profile_runner.specs.Tallies.{IsNext}
use Rattle.profile_runner.proofs.TakingLemmas.{none_of, some_of}
use Rattle.profile_runner.proofs.running.take_unit.Goals as goal

pub returns-then-not-is_going : goal.returns-then-not-is_going
returns-then-not-is_going c p starts is ascending same =
    let step = c.in_ok-event.ensures.step p is in
    let ended = sym c.is_going.ensures ∙ c.if-not-is_going.true in
    record {
      is = step.0;
      event = c.in_ok-event.event;
      step = step.1;
      accessed = c.access.ensures;
      next_is = subst (λ goes. IsNext starts goes (state_of p c.step_going.new.self).pc None) (sym ended) refl;
      inside = λ stay. cc;
      ended = λ off none. ended;
    }

pub returns : goal.returns
returns c p starts is ascending same =
    let step = c.in_ok-event.ensures.step p is in
    let going = sym c.is_going.ensures ∙ c.if-not-is_going.false in
    record {
      is = step.0;
      event = c.in_ok-event.event;
      step = step.1;
      accessed = c.access-2.ensures;
      next_is = c.next_block-next.ensures p starts step.0 ascending same;
      inside = λ stay. (none_of c.next_block-next.result c.is_none.result c.is_none.ensures stay, going);
      ended = λ off none. absurd (some_of c.next_block-next.result c.is_none.result c.is_none.ensures off none);
    }

pub step_going-requires : goal.step_going-requires
step_going-requires c = record { going = c.requires.going (seen c.args.source.now) }
