use Rattle.std.proofs.Common.{◌≡◌, [], length, subst}
use Rattle.placement_programme.specs.Programme.{gain_at}
use Rattle.placement_programme.specs.Sums.{sum_below}
use Rattle.placement_programme.specs.Views.{plain_side}
use Rattle.certificate_checker.specs.Fixings.{fixing_of}
use Rattle.certificate_checker.specs.Rules.{if_one, kept_at}
use Rattle.certificate_checker.specs.Tallies.{AreLoads, free_of}
use Rattle.certificate_checker.proofs.assignments.Assignment.of.Goals as goal

pub returns-clause-tallies : goal.returns-clause-tallies
returns-clause-tallies c =
    let s = plain_side c.args.side.now in
    record {
      marked = c.requires;
      room = c.in_ok-loads.ensures.room;
      loads = subst (λ ms. AreLoads s ms c.in_ok-loads.loads.items) c.deref.ensures.value c.in_ok-loads.ensures.values;
      gains = subst (λ ms. c.ones_gain-gains.result ≡ sum_below (length s.vars) (λ j. if_one (fixing_of ms j) (gain_at s.vars j))) c.deref-2.ensures.value c.ones_gain-gains.ensures;
      bound = subst (λ ms. c.open_gains-bound.result ≡ sum_below (length s.vars) (kept_at s ms 1 [])) c.deref-3.ensures.value c.open_gains-bound.ensures;
      free_count = subst (λ ms. c.count_free-free_count.result ≡ free_of s ms) c.deref-4.ensures.value c.count_free-free_count.ensures;
    }
