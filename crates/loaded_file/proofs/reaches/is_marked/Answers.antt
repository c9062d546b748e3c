use Rattle.loaded_file.proofs.LoadedSections.{marks_length, mark_is}
use Rattle.loaded_file.proofs.reaches.is_marked.Goals as goal

pub bounds-loaded-k : goal.bounds-loaded-k
bounds-loaded-k c = marks_length c.args.view.now c.args.loaded.now c.args.k c.requires.marks c.requires.below

pub returns : goal.returns
returns c = mark_is c.args.view.now c.args.loaded.now c.args.k c.requires.marks c.requires.below
