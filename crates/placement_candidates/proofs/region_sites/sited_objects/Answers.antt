use Rattle.std.proofs.Common.{◌≡◌, Bool, List, drop, length, sym, ap, subst, arith}
use Rattle.reach_graph.proofs.ListLemmas.{taken_whole}
use Rattle.placement_candidates.specs.Found.{AreSited}
use Rattle.placement_candidates.proofs.SitedLemmas.{are_sited}
use Rattle.placement_candidates.proofs.region_sites.sited_objects.Goals as goal

pub returns : goal.returns
returns c =
    let code = c.args.code.now in
    let graph = c.args.graph.now in
    let regions = c.args.regions.now.of_block.items in
    let old = c.in_ok-marks.marks in
    let marks = c.mark_sited.new.marks in
    let value = ap (λ (ms : List Bool). length ms) c.deref_mut.ensures.value in
    let whole : length marks ≡ old.len = omega (arith, c.mark_sited.auto.marks, value, old.ok.0) in
    let size : length marks ≡ length graph.objects.items = omega (arith, c.mark_sited.auto.marks, value, c.in_ok-marks.ensures.len, c.len.ensures) in
    let told = rw (c.deref.ensures.value, c.deref-2.ensures.value) at c.mark_sited.ensures.marks in
    subst (λ (ms : List Bool). AreSited code graph regions ms) (sym {A = List Bool} (taken_whole old.len marks (drop (length marks) old.items) whole))
    (are_sited code graph regions c.in_ok-addresses.addresses.items c.in_ok-addresses.ensures.exact marks size (λ o below. told o (omega (arith, below, size, c.mark_sited.auto.marks))))
