-- What a certificate shows holds of every feasible choice.
use Rattle.std.proofs.Common.{◌≡◌, ℕ, ◌+◌, ◌<◌, ◌≤◌, pos, ◌≤ℤ◌, Bool, true, false, List, [], ◌∷◌, length, Option, Some, None, sym, subst, arith}
use Rattle.std.specs.List.{sum_by}
use Rattle.std.proofs.lemmas.Int.{ints}
use Rattle.std.proofs.lemmas.List.{get_or-replicate}
use Rattle.placement_programme.specs.Plain.{PlainSide, PlainProgramme}
use Rattle.placement_programme.specs.Programme.{gain_at, weight_at, Fits, IsFeasible, net_gain, gain_on, gain_for, gain}
use Rattle.placement_programme.specs.Sums.{takes}
use Rattle.placement_programme.proofs.TakeLemmas.{take_sum}
use Rattle.certificate_checker.specs.Nodes.{PlainTree}
use Rattle.certificate_checker.specs.Rules.{Holds}
use Rattle.certificate_checker.specs.Shows.{all_free, ShownBy}
use Rattle.certificate_checker.specs.Laws.{ShownIsLeast}
use Rattle.certificate_checker.specs.Fixings.{fixing_of}
use Rattle.certificate_checker.specs.declared.fixings.Fixing.TheVariants.{Zero, Free}
use Rattle.certificate_checker.proofs.Duality.{AgreesAt, Agrees, FitsRows}
use Rattle.certificate_checker.proofs.TreeBounds.{tree_bounds}

pub free_at : (s : PlainSide) (j : ℕ) → j < length s.vars → fixing_of (all_free s) j ≡ Free
free_at s j inside = get_or-replicate (length s.vars) j Free Zero inside

pub free_agrees : (s : PlainSide) (x : ℕ → Bool) → Agrees s (all_free s) x
free_agrees s x j inside = subst (λ m. AgreesAt m (x j)) (sym (free_at s j inside)) tt

pub side_bounds : (s : PlainSide) (best : ℕ) (t : PlainTree) (take : List ℕ) → Holds s best (all_free s) t → Fits s take → sum_by (gain_at s.vars) take ≤ best + s.fixed
side_bounds s best t take holds fits =
    let fits_rows : FitsRows s (takes take) =
    λ row inside.
    let loads = take_sum (weight_at s.vars row) 0 (length s.vars) take fits.numbers in
    let held = fits.rows row inside in
    omega (arith, loads, held) in
    let bounded = tree_bounds s best (all_free s) t (takes take) holds fits_rows (free_agrees s (takes take)) in
    let gains = take_sum (gain_at s.vars) 0 (length s.vars) take fits.numbers in
    omega (arith, bounded, gains)

pub net_bounds : (s : PlainSide) (best : ℕ) (shown : Option PlainTree) (take : List ℕ) → ShownBy (Some s) best shown → Fits s take → net_gain s take ≤ℤ pos best
net_bounds s best None take shown fits = absurd shown
net_bounds s best (Some t) take shown fits =
    let most = side_bounds s best t take shown fits in
    omega (arith, ints, most)

pub on_bounds : (side : Option PlainSide) (best : ℕ) (shown : Option PlainTree) (base : ℕ) (off : PlainSide) (take : List ℕ) → ShownBy side best shown → IsFeasible record { base = base; off = off; on = side } record { on = true; take = take } → gain_on side take ≤ℤ pos best
on_bounds None best shown base off take given feasible = absurd feasible
on_bounds (Some s) best shown base off take given feasible = net_bounds s best shown take given feasible

pub off_bounds : (p : PlainProgramme) (best : ℕ) (shown : Option PlainTree) (take : List ℕ) → ShownBy (Some p.off) best shown → Fits p.off take → gain_for p false take ≤ℤ pos best
off_bounds p best shown [] given fits = omega (arith, ints)
off_bounds p best shown (k ∷ ks) given fits = net_bounds p.off best shown (k ∷ ks) given fits

pub gain_bounds : (p : PlainProgramme) (best : ℕ) (off on : Option PlainTree) (side : Bool) (take : List ℕ) → ShownBy (Some p.off) best off → ShownBy p.on best on → IsFeasible p record { on = side; take = take } → gain_for p side take ≤ℤ pos best
gain_bounds p best off on false take by_off by_on feasible = off_bounds p best off take by_off feasible
gain_bounds p best off on true take by_off by_on feasible = on_bounds p.on best on p.base p.off take by_on feasible

pub shown_is_least : ShownIsLeast
shown_is_least p c other shown feasible =
    let most = gain_bounds p shown.0 c.off c.on other.on other.take shown.1.off shown.1.on feasible in
    let best = shown.1.accepted.gains in
    let gains : gain p other ≤ℤ gain p c.choice = subst (λ z. gain p other ≤ℤ z) (sym best) most in
    (gains, omega (arith, ints, gains))
