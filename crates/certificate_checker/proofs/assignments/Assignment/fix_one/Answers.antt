use Rattle.std.proofs.Common.{◌∙◌, length, slice_index, slice_set, sym, ap, refl, arith}
use Rattle.std.proofs.lemmas.List.{with_items_is}
use Rattle.placement_programme.specs.Views.{plain_side}
use Rattle.certificate_checker.specs.declared.fixings.Fixing.TheVariants.{Zero, One}
use Rattle.certificate_checker.proofs.Failures.{set_twice}
use Rattle.certificate_checker.proofs.TallyLemmas.{tallies_set, zero_there, load_apart, load_bounded, gains_bounded, bound_small, gain_bounded}
use Rattle.certificate_checker.proofs.assignments.Assignment.fix_one.Goals as goal

pub add_weights-requires-clause-small : goal.add_weights-requires-clause-small
add_weights-requires-clause-small c =
    λ row.
    let load = load_bounded (plain_side c.args.side.now) c.fix_zero.new.self row c.args.side.now.bounds c.fix_zero.ensures.tallies in
    let same = ap (λ l. slice_index l row) c.deref_mut.ensures.value in
    omega (arith, load, same)

pub overflow_add-self : goal.overflow_add-self
overflow_add-self c =
    let s = plain_side c.args.side.now in
    let so_far = gains_bounded s c.fix_zero.new.self c.args.side.now.bounds c.fix_zero.ensures.tallies in
    let more = gain_bounded s c.args.number c.requires.number c.args.side.now.bounds in
    let gain = c.gain_of_var-gain.ensures in
    omega (arith, so_far, more, gain)

pub overflow_add-self-2 : goal.overflow_add-self-2
overflow_add-self-2 c =
    let s = plain_side c.args.side.now in
    let so_far = bound_small s c.fix_zero.new.self c.args.side.now.bounds c.fix_zero.ensures.tallies in
    let more = gain_bounded s c.args.number c.requires.number c.args.side.now.bounds in
    let gain = c.gain_of_var-gain.ensures in
    omega (arith, so_far, more, gain)

pub returns : goal.returns
returns c =
    let s = plain_side c.args.side.now in
    let before = c.args.self.now.marks.items in
    let gain = c.gain_of_var-gain.ensures in
    let room = c.add_weights.ensures.room in
    let len = c.deref_mut.ensures.len in
    let whole = with_items_is c.fix_zero.new.self.loads c.add_weights.new.loads (omega (arith, room, len)) in
    let loads = load_apart s c.args.number _ _ _ _ _ c.deref_mut.ensures.value (sym whole) c.weights_of_var.ensures.value c.add_weights.ensures.values in
    record {
      tallies =
          tallies_set s c.fix_zero.new.self _ c.args.number Zero One c.requires.number c.fix_zero.ensures.tallies
          (zero_there s before c.fix_zero.new.self.marks.items c.args.number c.requires.number c.requires.tallies.marked c.fix_zero.ensures.marks)
          refl
          (let long = ap length whole in let same = ap length c.deref_mut.ensures.value in omega (arith, room, same, long))
          (λ row. let load = loads row in omega (arith, load))
          (omega (arith, gain))
          (omega (arith, gain))
          refl;
      marks = ap (λ ms. slice_set ms c.args.number One) c.fix_zero.ensures.marks ∙ set_twice before c.args.number Zero One;
    }
