use Rattle.std.proofs.Common.{sym, subst}
use Rattle.object_machine.specs.declared.events.Outcome.{Outcome}
use Rattle.object_machine.specs.Machine.{state_of}
use Rattle.profile_runner.specs.Transition.{is_going}
use Rattle.profile_runner.specs.Tallies.{IsNext}
use Rattle.profile_runner.proofs.FindLemmas.{number_block}
use Rattle.profile_runner.proofs.finding.next_block.Goals as goal

pub returns-in-GoesOn : goal.returns-in-GoesOn
returns-in-GoesOn c p starts is ascending same =
    subst (λ (o : Outcome). IsNext starts (is_going o) (state_of p c.args.source.now).pc c.block.result) (sym c.in-GoesOn.is)
    (number_block starts (state_of p c.args.source.now).pc c.block.result ascending (c.block.ensures p starts is ascending same))
