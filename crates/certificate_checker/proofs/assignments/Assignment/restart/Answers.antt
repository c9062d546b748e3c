use Rattle.std.proofs.Common.{◌≡◌, ◌∙◌, ℕ, ◌<◌, [], length, slice_index, sym, ap, subst, replicate, arith}
use Rattle.std.specs.Vec.{with_items}
use Rattle.std.proofs.lemmas.List.{with_items_is, length-replicate}
use Rattle.placement_programme.specs.Programme.{gain_at, weight_at}
use Rattle.placement_programme.specs.Sums.{sum_below}
use Rattle.placement_programme.specs.Views.{plain_side}
use Rattle.certificate_checker.specs.Fixings.{fixing_of}
use Rattle.certificate_checker.specs.Rules.{kept_at}
use Rattle.certificate_checker.specs.Shows.{all_free}
use Rattle.certificate_checker.specs.Tallies.{free_of}
use Rattle.certificate_checker.specs.declared.fixings.Fixing.{Fixing}
use Rattle.certificate_checker.specs.declared.fixings.Fixing.TheVariants.{Free}
use Rattle.certificate_checker.proofs.Least.{free_at}
use Rattle.certificate_checker.proofs.TallyLemmas.{nothing_fixed}
use Rattle.certificate_checker.proofs.assignments.Assignment.restart.Goals as goal

pub returns-clause-exact : goal.returns-clause-exact
returns-clause-exact c =
    let s = plain_side c.args.side.now in
    let marks = (with_items c.args.self.now.marks c.free_all.new.marks).items in
    let loads = (with_items c.args.self.now.loads c.unload.new.loads).items in
    let of_marks = ap length c.deref_mut.ensures.value ∙ c.requires.marks in
    let of_loads = ap length c.deref_mut-2.ensures.value ∙ c.requires.loads in
    let filled = c.free_all.ensures ∙ ap (λ n. replicate n Free) of_marks in
    let marks_len = c.deref_mut.ensures.len in
    let marks_room = c.free_all.auto.marks in
    let loads_len = c.deref_mut-2.ensures.len in
    let loads_room = c.unload.ensures.room in
    let marks_are : marks ≡ all_free s = with_items_is c.args.self.now.marks c.free_all.new.marks (omega (arith, marks_len, marks_room)) ∙ filled in
    let loads_are = with_items_is c.args.self.now.loads c.unload.new.loads (omega (arith, loads_len, loads_room)) in
    let long = ap length marks_are ∙ length-replicate {A = Fixing} (length s.vars) Free in
    let free : (k : ℕ) → k < length s.vars → fixing_of marks k ≡ Free = λ k below. ap (λ ms. fixing_of ms k) marks_are ∙ free_at s k below in
    record {
      tallies = record {
        marked = omega (arith, long);
        room = ap length loads_are ∙ (loads_room ∙ of_loads);
        loads = λ row. ap (λ l. slice_index l row) loads_are ∙ (c.unload.ensures.values row ∙ sym (nothing_fixed (weight_at s.vars row) (length s.vars) marks free));
        gains = sym (nothing_fixed (gain_at s.vars) (length s.vars) marks free);
        bound = subst (λ ms. c.open_gains-self.result ≡ sum_below (length s.vars) (kept_at s ms 1 [])) c.deref.ensures.value c.open_gains-self.ensures;
        free_count = subst (λ ms. c.count_free-self.result ≡ free_of s ms) c.deref-2.ensures.value c.count_free-self.ensures;
      };
      long = long;
    }
