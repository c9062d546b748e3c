use Rattle.std.proofs.Common.{◌≡◌, ◌+◌, ◌<◌, not, ◌&&◌, true, ℕ, Bool, List, length, sym, subst, arith}
use Rattle.std.specs.Prelude.{◌↔◌}
use Rattle.dataflow.specs.Exposed.{mark_at}
use Rattle.placement_candidates.specs.Found.{IsFree, AreFree}
use Rattle.placement_candidates.proofs.FoundLemmas.{free_more, is_free}
use Rattle.placement_candidates.proofs.finding.free_objects.Goals as goal

pub loop-object-preserved : goal.loop-object-preserved
loop-object-preserved c code g regions asked sited exposed =
    let object = c.loop-object.object in
    let sites = c.args.sited.now in
    let exposes = c.args.exposed.now in
    let inside : object < length sites = omega (arith, c.loop-object-test.true) in
    let size = sited.size in
    let below : object < length g.objects.items = omega (arith, inside, size) in
    let is : c.is_free.result ≡ (mark_at sites object && not (mark_at exposes object)) = c.is_free.ensures in
    let told = is_free code g regions asked object (mark_at sites object) (mark_at exposes object) (sited.each object below) (exposed.exact object below) in
    subst (λ (marks : List Bool). AreFree code g regions asked (object + 1) marks) (sym {A = List Bool} c.in_ok-push.ensures.items)
    (free_more code g regions asked object c.loop-object.free.items c.is_free.result (subst (λ (b : Bool). (b ≡ true) ↔ IsFree code g regions asked object) (sym is) told)
    (c.loop-object.invariant code g regions asked sited exposed))

pub returns : goal.returns
returns c code g regions asked sited exposed =
    let all : c.loop-object.object ≡ length c.args.sited.now = omega (arith, c.loop-object-test.false, c.loop-object.auto.object-end) in
    subst (λ (n : ℕ). AreFree code g regions asked n c.loop-object.free.items) all (c.loop-object.invariant code g regions asked sited exposed)
