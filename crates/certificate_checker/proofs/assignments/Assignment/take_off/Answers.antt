use Rattle.std.proofs.Common.{length, slice_index, sym, ap, refl, arith}
use Rattle.std.proofs.lemmas.List.{with_items_is}
use Rattle.placement_programme.specs.Programme.{weight_in}
use Rattle.placement_programme.specs.Views.{plain_side}
use Rattle.certificate_checker.specs.declared.fixings.Fixing.TheVariants.{Zero, One}
use Rattle.certificate_checker.proofs.TallyLemmas.{tallies_set, load_apart, load_term, gain_term, bound_term}
use Rattle.certificate_checker.proofs.assignments.Assignment.take_off.Goals as goal

pub subtract_weights-requires-clause-enough : goal.subtract_weights-requires-clause-enough
subtract_weights-requires-clause-enough c =
    λ row.
    let term = load_term (plain_side c.args.side.now) c.args.self.now c.args.number row c.requires.number c.requires.tallies c.requires.one in
    let weight = ap (λ ws. weight_in ws row) c.weights_of_var.ensures.value in
    let same = ap (λ l. slice_index l row) c.deref_mut.ensures.value in
    omega (arith, term, weight, same)

pub overflow_sub-self : goal.overflow_sub-self
overflow_sub-self c =
    let term = gain_term (plain_side c.args.side.now) c.args.self.now c.args.number c.requires.number c.requires.tallies c.requires.one in
    let gain = c.gain_of_var-gain.ensures in
    omega (arith, term, gain)

pub overflow_sub-self-2 : goal.overflow_sub-self-2
overflow_sub-self-2 c =
    let term = bound_term (plain_side c.args.side.now) c.args.self.now c.args.number One c.requires.number c.requires.tallies c.requires.one in
    let gain = c.gain_of_var-gain.ensures in
    omega (arith, term, gain)

pub returns : goal.returns
returns c =
    let s = plain_side c.args.side.now in
    let gain = c.gain_of_var-gain.ensures in
    let of_gains = gain_term s c.args.self.now c.args.number c.requires.number c.requires.tallies c.requires.one in
    let of_bound = bound_term s c.args.self.now c.args.number One c.requires.number c.requires.tallies c.requires.one in
    let room = c.subtract_weights.ensures.room in
    let len = c.deref_mut.ensures.len in
    let whole = with_items_is c.args.self.now.loads c.subtract_weights.new.loads (omega (arith, room, len)) in
    let loads = load_apart s c.args.number _ _ _ _ _ (sym whole) c.deref_mut.ensures.value c.weights_of_var.ensures.value (λ row. sym (c.subtract_weights.ensures.values row)) in
    record {
      tallies =
          tallies_set s c.args.self.now _ c.args.number One Zero c.requires.number c.requires.tallies c.requires.one refl
          (let long = ap length whole in let same = ap length c.deref_mut.ensures.value in omega (arith, room, same, long))
          (λ row. let load = loads row in omega (arith, load))
          (omega (arith, gain, of_gains))
          (omega (arith, gain, of_bound))
          refl;
      marks = refl;
    }
