use Rattle.std.proofs.Common.{◌∙◌, ap, slice_set, sym, subst, arith}
use Rattle.std.proofs.lemmas.Bool.Decides.{nat_tests}
use Rattle.placement_programme.specs.Programme.{Fits}
use Rattle.placement_programme.specs.Views.{plain_side}
use Rattle.certificate_checker.specs.declared.fixings.Fixing.TheVariants.{One}
use Rattle.branch_bound.specs.Assignments.{taken}
use Rattle.branch_bound.proofs.OnesLemmas.{single_taken}
use Rattle.branch_bound.proofs.ExceedLemmas.{tally_gains}
use Rattle.branch_bound.proofs.greedy.grow_from.Goals as goal

pub grow-requires-clause-fits : goal.grow-requires-clause-fits
grow-requires-clause-fits c =
    let s = plain_side c.args.side.now in
    let marks = c.fix_one.ensures.marks ∙ ap (λ ms. slice_set ms c.args.first One) c.requires.free in
    let single = ap (λ ms. taken s ms) marks ∙ single_taken s c.args.first c.requires.first.inside in
    subst (λ take. Fits s take) (sym single) c.requires.first.holds

pub returns-clause-gains : goal.returns-clause-gains
returns-clause-gains c =
    let is = tally_gains (plain_side c.args.side.now) c.grow.new.node c.grow.ensures.tallies in (
      λ holds. grind (arith, nat_tests, holds, is),
      λ less. grind (arith, nat_tests, less, is),
    )
