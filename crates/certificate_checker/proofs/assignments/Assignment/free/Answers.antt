use Rattle.std.proofs.Common.{◌∙◌, slice_set, ap, refl, arith}
use Rattle.placement_programme.specs.Views.{plain_side}
use Rattle.certificate_checker.specs.declared.fixings.Fixing.TheVariants.{Zero, Free}
use Rattle.certificate_checker.proofs.Failures.{set_twice}
use Rattle.certificate_checker.proofs.TallyLemmas.{tallies_set, zero_there, bound_small, gain_bounded, free_few}
use Rattle.certificate_checker.proofs.assignments.Assignment.free.Goals as goal

pub overflow_add-self : goal.overflow_add-self
overflow_add-self c =
    let s = plain_side c.args.side.now in
    let so_far = bound_small s c.fix_zero.new.self c.args.side.now.bounds c.fix_zero.ensures.tallies in
    let more = gain_bounded s c.args.number c.requires.number c.args.side.now.bounds in
    let gain = c.gain_of_var.ensures in
    omega (arith, so_far, more, gain)

pub overflow_add-self-2 : goal.overflow_add-self-2
overflow_add-self-2 c =
    let few = free_few (plain_side c.args.side.now) c.fix_zero.new.self c.args.side.now.bounds c.fix_zero.ensures.tallies in
    omega (arith, few)

pub returns : goal.returns
returns c =
    let s = plain_side c.args.side.now in
    let before = c.args.self.now.marks.items in
    let gain = c.gain_of_var.ensures in
    record {
      tallies =
          tallies_set s c.fix_zero.new.self _ c.args.number Zero Free c.requires.number c.fix_zero.ensures.tallies
          (zero_there s before c.fix_zero.new.self.marks.items c.args.number c.requires.number c.requires.tallies.marked c.fix_zero.ensures.marks)
          refl refl (λ row. refl) refl (omega (arith, gain)) (omega arith);
      marks = ap (λ ms. slice_set ms c.args.number Free) c.fix_zero.ensures.marks ∙ set_twice before c.args.number Zero Free;
    }
