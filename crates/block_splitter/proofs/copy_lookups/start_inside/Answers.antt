use Rattle.block_splitter.proofs.LookupLemmas.{start_stands}
use Rattle.block_splitter.proofs.copy_lookups.start_inside.Goals as goal

pub bounds-starts-block : goal.bounds-starts-block
bounds-starts-block c =
    (start_stands c.args.plan.now c.args.starts.now c.in-Some.block c.requires.plan c.requires.starts c.in-Some.ensures.inside).below

pub returns-in-Some : goal.returns-in-Some
returns-in-Some c =
    record {
      block = c.in-Some.block;
      is_block = c.in-Some.ensures;
      there = (start_stands c.args.plan.now c.args.starts.now c.in-Some.block c.requires.plan c.requires.starts c.in-Some.ensures.inside).is 0;
    }
