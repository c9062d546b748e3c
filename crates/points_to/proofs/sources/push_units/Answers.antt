use Rattle.std.proofs.Common.{◌≡◌, ◌∙◌, ℕ, ◌+◌, ◌-◌, ◌<◌, List, [], ◌∷◌, length, drop, slice_index_or, sym, ap, subst, arith}
use Rattle.std.proofs.lemmas.List.{drop_more}
use Rattle.std.proofs.Math.Seq.{drop-length}
use Rattle.code_blocks.specs.declared.parts.Unit.{Unit}
use Rattle.code_blocks.specs.Leads.{no_unit}
use Rattle.reach_graph.specs.Reaching.{plain_rows}
use Rattle.points_to.specs.Rows.{AreRows}
use Rattle.points_to.specs.Nodes.{Adds, SourceEdges, UnitEdges}
use Rattle.points_to.proofs.EdgeLemmas.{adds_none, adds_both}
use Rattle.points_to.proofs.SourceLemmas.{units_more}
use Rattle.dataflow.proofs.SiteLemmas.{site_found}
use Rattle.points_to.proofs.sources.push_units.Goals as goal

pub loop-k-init : goal.loop-k-init
loop-k-init c =
    let n = c.args.nodes.blocks in
    let b = c.args.block in
    let sites = c.args.graph.now.sites.items in
    let a = plain_rows c.args.graph_edges.now in
    subst (λ (xs : List Unit). AreRows sites xs c.begin.new.rows × Adds (UnitEdges n b sites xs) a a) (sym (drop-length c.args.units.now))
    (c.begin.ensures sites, adds_none (UnitEdges n b sites []) a (λ f t edge. edge))

pub loop-k-preserved : goal.loop-k-preserved
loop-k-preserved c =
    let n = c.args.nodes.blocks in
    let b = c.args.block in
    let g = c.args.graph.now in
    let sites = g.sites.items in
    let units = c.args.units.now in
    let k = c.loop-k.k in
    let u = slice_index_or units (k - 1) no_unit in
    let us = drop k units in
    let inside : k - 1 < length units = omega arith in
    let same : k - 1 + 1 ≡ k = omega arith in
    let next : drop (k - 1) units ≡ u ∷ us = drop_more units (k - 1) no_unit inside ∙ ap (λ (m : ℕ). u ∷ drop m units) same in
    let (rows, edges) = c.loop-k.invariant in
    let found = site_found g u.at c.site_at-site.result c.requires.graph c.site_at-site.ensures in
    let old = plain_rows c.args.graph_edges.now in
    let now = plain_rows c.loop-k.graph_edges in
    let new = plain_rows c.push_sources.new.graph_edges in
    subst (λ (xs : List Unit). AreRows sites xs c.go_back.new.rows × Adds (UnitEdges n b sites xs) old new) (sym next) (
      c.go_back.ensures sites us found rows,
      adds_both (UnitEdges n b sites us) (SourceEdges n b sites u us) (UnitEdges n b sites (u ∷ us)) old now new edges
          (c.in_ok-push_sources.ensures sites us found rows) (units_more n b sites u us),
    )

pub returns-clause-edges : goal.returns-clause-edges
returns-clause-edges c =
    let first : c.loop-k.k ≡ 0 = omega arith in
    subst (λ (m : ℕ). Adds (UnitEdges c.args.nodes.blocks c.args.block c.args.graph.now.sites.items (drop m c.args.units.now)) (plain_rows c.args.graph_edges.now) (plain_rows c.loop-k.graph_edges)) first c.loop-k.invariant.1
