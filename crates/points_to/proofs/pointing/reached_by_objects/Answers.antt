use Rattle.std.proofs.Common.{◌≡◌, ◌∙◌, ◌++◌, ◌∷◌, [], ℕ, ◌-◌, ◌*◌, ◌+◌, min, List, map, sym, ap, subst, arith}
use Rattle.std.proofs.lemmas.List.{map-append}
use Rattle.reach_graph.specs.Reaching.{plain_rows}
use Rattle.points_to.specs.Tables.{Kept, IsReached, AreGroups, plain}
use Rattle.points_to.proofs.KeptLemmas.{groups_more}
use Rattle.points_to.proofs.pointing.reached_by_objects.Goals as goal

pub loop-j-preserved : goal.loop-j-preserved
loop-j-preserved c =
    let rows = plain_rows c.args.rows.now in
    let n = c.args.nodes.blocks in
    let objects = c.args.nodes.objects in
    let j = c.loop-j.j in
    let groups = c.loop-j.groups.items in
    let r = c.in_ok-reached.reached in
    let count : c.min-count.result ≡ min 64 (objects - 64 * j) = omega (arith, c.min-count.ensures) in
    let whole : map plain c.push.new.self.items ≡ map plain groups ++ plain r ∷ [] = ap (map plain) c.in_ok-push.ensures.items ∙ map-append plain groups (r ∷ []) in
    let one = subst (λ (m : ℕ). IsReached rows n c.object.result m (plain r)) count c.in_ok-reached.ensures in
    let two = subst (λ (m : ℕ). IsReached rows n m (min 64 (objects - 64 * j)) (plain r)) c.object.ensures one in
    subst (λ (ks : List Kept). AreGroups rows n objects (j + 1) ks) (sym {A = List Kept} whole) (groups_more rows n objects j (map plain groups) (plain r) two c.loop-j.invariant)
