use Rattle.std.proofs.Common.{◌≡◌, length, arith}
use Rattle.std.proofs.lemmas.Bool.Decides.{nat_tests}
use Rattle.placement_programme.specs.Views.{plain_side}
use Rattle.certificate_checker.specs.Tallies.{free_of}
use Rattle.certificate_checker.proofs.TallyLemmas.{none_free, all_fixed}
use Rattle.certificate_checker.proofs.tallied_rules.tallied_leaf.Goals as goal

pub returns-then-assignment-gt0 : goal.returns-then-assignment-gt0
returns-then-assignment-gt0 c =
    let s = plain_side c.args.side.now in
    let count = c.requires.tallies.free_count in
    let some = c.if-assignment-gt0.true in (
      λ holds. absurd (cc),
      λ leaf. let none = all_fixed c.args.assignment.now.marks.items (length s.vars) leaf.full in absurd (omega (arith, count, some, none)),
    )

pub returns : goal.returns
returns c =
    let s = plain_side c.args.side.now in
    let count = c.requires.tallies.free_count in
    let gains = c.requires.tallies.gains in
    let few = c.if-assignment-gt0.false in
    let none : free_of s c.args.assignment.now.marks.items ≡ 0 = omega (arith, count, few) in (
      λ holds. record { full = none_free c.args.assignment.now.marks.items (length s.vars) none; gains = grind (arith, nat_tests, holds, gains) },
      λ leaf. let less = leaf.gains in grind (arith, nat_tests, less, gains),
    )
