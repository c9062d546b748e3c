use Rattle.std.proofs.Common.{refl}
use Rattle.object_machine.proofs.SiteLemmas.{site_found, site_named}
use Rattle.object_machine.proofs.preparing.prepared.Goals as goal

pub returns : goal.returns
returns c =
    let g = c.args.graph.now in
    let a = c.args.unit.now.at in
    record {
      at = refl;
      instr = refl;
      pair = c.pair_of.ensures;
      site = site_found g a c.site_at.result c.requires.graph c.site_at.ensures;
      fits = site_named g a c.site_at.result c.requires.graph c.site_at.ensures;
      goes_on = refl;
    }
