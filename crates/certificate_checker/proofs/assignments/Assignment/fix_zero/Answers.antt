use Rattle.std.proofs.Common.{◌∙◌, sym, ap, refl, arith}
use Rattle.placement_programme.specs.Views.{plain_side}
use Rattle.certificate_checker.specs.Fixings.{fixing_of}
use Rattle.certificate_checker.specs.declared.fixings.Fixing.TheVariants.{Zero, Free}
use Rattle.certificate_checker.proofs.TallyLemmas.{tallies_set, bound_term, free_term}
use Rattle.certificate_checker.proofs.assignments.Assignment.fix_zero.Goals as goal

pub overflow_sub-self : goal.overflow_sub-self
overflow_sub-self c =
    let term = bound_term (plain_side c.args.side.now) c.args.self.now c.args.number Free c.requires.number c.requires.tallies (ap (λ ms. fixing_of ms c.args.number) (sym c.deref.ensures.value) ∙ (sym c.fixing_of.ensures ∙ c.in-Free.is)) in
    let gain = c.gain_of_var.ensures in
    omega (arith, term, gain)

pub overflow_sub-self-in-Free : goal.overflow_sub-self-in-Free
overflow_sub-self-in-Free c =
    let some = free_term (plain_side c.args.side.now) c.args.self.now c.args.number c.requires.number c.requires.tallies (ap (λ ms. fixing_of ms c.args.number) (sym c.deref.ensures.value) ∙ (sym c.fixing_of.ensures ∙ c.in-Free.is)) in
    omega (arith, some)

pub returns-in-Zero : goal.returns-in-Zero
returns-in-Zero c =
    let is = ap (λ ms. fixing_of ms c.args.number) (sym c.deref.ensures.value) ∙ (sym c.fixing_of.ensures ∙ c.in-Zero.is) in
    record {
      tallies = tallies_set (plain_side c.args.side.now) c.args.self.now _ c.args.number Zero Zero c.requires.number c.requires.tallies is refl refl (λ row. refl) refl refl refl;
      marks = refl;
    }

pub returns-in-Free : goal.returns-in-Free
returns-in-Free c =
    let is = ap (λ ms. fixing_of ms c.args.number) (sym c.deref.ensures.value) ∙ (sym c.fixing_of.ensures ∙ c.in-Free.is) in
    let term = bound_term (plain_side c.args.side.now) c.args.self.now c.args.number Free c.requires.number c.requires.tallies is in
    let some = free_term (plain_side c.args.side.now) c.args.self.now c.args.number c.requires.number c.requires.tallies is in
    let gain = c.gain_of_var.ensures in
    record {
      tallies = tallies_set (plain_side c.args.side.now) c.args.self.now _ c.args.number Free Zero c.requires.number c.requires.tallies is refl refl (λ row. refl) refl (omega (arith, term, gain)) (omega (arith, some));
      marks = refl;
    }
