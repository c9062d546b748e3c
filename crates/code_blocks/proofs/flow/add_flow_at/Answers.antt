use Rattle.loaded_file.proofs.WordLemmas.{word_fits}
use Rattle.code_blocks.proofs.flow.add_flow_at.Goals as goal

pub add_flow_of-requires-clause-fits : goal.add_flow_of-requires-clause-fits
add_flow_of-requires-clause-fits c = word_fits c.args.file.now.view.now c.args.k c.args.address c.requires.read c.requires.holds

pub add_link_return-requires-clause-fits : goal.add_link_return-requires-clause-fits
add_link_return-requires-clause-fits c = word_fits c.args.file.now.view.now c.args.k c.args.address c.requires.read c.requires.holds
